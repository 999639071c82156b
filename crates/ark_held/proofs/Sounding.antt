-- Rings of cards that stay sound.
use Rattle.std.proofs.Common.{◌≡◌, inl, inr, ℕ, Bool, List, [], ◌∷◌, ◌++◌, length, refl, sym, ◌∙◌, ap, subst}
use Rattle.std.specs.Prelude.{Option, Some, None, is_some, IfSome, slice_get, drop, Result, Ok, Err, IsOk, OnOk}
use Rattle.std.proofs.lemmas.Bool.{cases_eq, false≢true}
use Rattle.ark_objects.specs.Held.{at, Changes}
use Rattle.ark_vic.specs.Queue.{Queue}
use Rattle.ark_vic.specs.declared.descriptor.Descriptor.{Descriptor}
use Rattle.ark_vsic.specs.Moves.{CanMove}
use Rattle.ark_held.specs.Rings.{IsSoundRing, AreSound, no_ring}
use Rattle.ark_held.specs.declared.card.StorageCard.{StorageCard}
use Rattle.ark_held.proofs.Lists.{not_some, some_same}
use Rattle.ark_held.proofs.Members.{In, contains_in, in_contains, none_has}

-- an empty ring
pub none_posted : (taken : List Bool) (q : Queue) (size : ℕ) → q ≡ no_ring size → IsSoundRing taken q
none_posted taken q size is = subst (λ (z : Queue). IsSoundRing taken z) (sym is) (record { oldest = tt; each = λ d has. absurd (none_has d [] refl has); none = λ e. refl })

-- a key has another card, whose ring is sound
pub sound_set : (frames : ℕ) (before after : List (Option StorageCard)) (key : ℕ) (one : StorageCard) → Changes before after key (Some one)
    → ((taken : List Bool) → length taken ≡ frames → IsSoundRing taken one.vsic.ring) → AreSound frames before → AreSound frames after
sound_set frames before after key one changes its all taken long k c there = elim (cases_eq k key) [
  | inl e ↦ subst (λ (z : StorageCard). IsSoundRing taken z.vsic.ring) (some_same (at after key) one c changes.changed (ap (λ (i : ℕ). at after i) (sym e) ∙ there)) (its taken long)
  | inr other ↦ all taken long k c (sym (changes.others k other) ∙ there)
]

-- a key has no card any more
pub sound_less : (frames : ℕ) (before after : List (Option StorageCard)) (key : ℕ) → Changes before after key None → AreSound frames before → AreSound frames after
sound_less frames before after key changes all taken long k c there = elim (cases_eq k key) [
  | inl e ↦ absurd (false≢true (ap is_some (sym changes.changed ∙ ap (λ (i : ℕ). at after i) (sym e) ∙ there)))
  | inr other ↦ all taken long k c (sym (changes.others k other) ∙ there)
]

-- a ring in which one more is posted, which can be moved
module _ (taken : List Bool) (q : Queue) (d : Descriptor) (can : CanMove taken 0 d) (s : IsSoundRing taken q) where
  oldest_then : (ds : List Descriptor) → ds ≡ q.posted → IfSome (slice_get (ds ++ d ∷ []) 0) (λ z. CanMove taken q.moved z)
  oldest_then [] is = subst (λ (k : ℕ). CanMove taken k d) (sym (s.none (sym is))) can
  oldest_then (e ∷ es) is = subst (λ (ds : List Descriptor). IfSome (slice_get ds 0) (λ z. CanMove taken q.moved z)) (sym is) s.oldest

  each_then : (ds : List Descriptor) → ((z : Descriptor) → In ds z → CanMove taken 0 z) → (z : Descriptor) → In (ds ++ d ∷ []) z → CanMove taken 0 z
  each_then [] all z (inl e) = subst (λ (x : Descriptor). CanMove taken 0 x) e can
  each_then [] all z (inr none) = absurd none
  each_then (e ∷ es) all z (inl same) = all z (inl same)
  each_then (e ∷ es) all z (inr more) = each_then es (λ x i. all x (inr i)) z more

  none_then : (ds : List Descriptor) → ds ++ d ∷ [] ≡ [] → q.moved ≡ 0
  none_then [] is = absurd (cc (is))
  none_then (e ∷ es) is = absurd (cc (is))

  pub sound_posted : IsSoundRing taken (record q { posted = q.posted ++ d ∷ [] })
  sound_posted = record {
    oldest = oldest_then q.posted refl;
    each = λ z has. each_then q.posted (λ x i. s.each x (in_contains q.posted x i)) z (contains_in (q.posted ++ d ∷ []) z has);
    none = λ e. none_then q.posted e;
  }

-- the rings of all cards, where one card has another ring
pub sound_turned : (frames : ℕ) (before after : List (Option StorageCard)) (key : ℕ) (one now : StorageCard) → at before key ≡ Some one → Changes before after key (Some now)
    → ((taken : List Bool) → length taken ≡ frames → IsSoundRing taken one.vsic.ring → IsSoundRing taken now.vsic.ring) → AreSound frames before → AreSound frames after
sound_turned frames before after key one now there changes step all = sound_set frames before after key now changes (λ taken long. step taken long (all taken long key one there)) all

-- a ring that is one with one more, or one of which a completion was taken
pub sound_more : (taken : List Bool) (q now : Queue) (d : Descriptor) → now ≡ record q { posted = q.posted ++ d ∷ [] } → CanMove taken 0 d → IsSoundRing taken q → IsSoundRing taken now
sound_more taken q now d is can s = subst (λ (z : Queue). IsSoundRing taken z) (sym is) (sound_posted taken q d can s)

pub sound_reaped : (taken : List Bool) (q now : Queue) → now ≡ record q { unreaped = drop 1 q.unreaped } → IsSoundRing taken q → IsSoundRing taken now
sound_reaped taken q now is s = subst (λ (z : Queue). IsSoundRing taken z) (sym is) (record { oldest = s.oldest; each = s.each; none = s.none })

-- what a call that succeeded left
pub ok_of : {A E : Type 0} (r : Result A E) (P : Type 0) → IsOk r → OnOk r P → P
ok_of (Ok a) P ok left = left
ok_of (Err e) P ok left = absurd (false≢true ok)

-- where there is no card
pub none_sound : (frames : ℕ) (cards : List (Option StorageCard)) → ((key : ℕ) → at cards key ≡ None) → AreSound frames cards
none_sound frames cards none taken long key c there = absurd (not_some (at cards key) c (none key) there)
