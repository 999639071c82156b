-- A ring that is sound stays so when its oldest descriptor moves a block or ends.
use Rattle.std.proofs.Common.{◌≡◌, inl, inr, ℕ, ◌+◌, ◌*◌, ◌<◌, ◌≤◌, Bool, true, false, nat_le, List, [], ◌∷◌, length, drop, set, refl, sym, ◌∙◌, ap, subst, arith, Contains}
use Rattle.std.specs.Prelude.{Option, Some, None, IfSome, MatchOption, slice_get}
use Rattle.std.proofs.lemmas.Bool.Decides.{nat_tests}
use Rattle.ark_base.specs.declared.kind.Outcome.{Outcome}
use Rattle.ark_vic.specs.Queue.{Queue, finished}
use Rattle.ark_vic.specs.declared.descriptor.Descriptor.{Descriptor}
use Rattle.ark_vic.specs.declared.descriptor.Job.{Job}
use Rattle.ark_vic.specs.declared.descriptor.Job.TheVariants as vic
use Rattle.ark_vsic.specs.Card.{Card, head_of}
use Rattle.ark_vsic.specs.Moves.{CanMove, IsSoundBy, answer_of, answer_for, count_of, is_last, ring_after}
use Rattle.ark_vsic.specs.declared.due.Due.{Due}
use Rattle.ark_vsic.specs.declared.due.Due.TheVariants as due
use Rattle.ark_vsic.specs.declared.due.Moved.{Moved}
use Rattle.ark_vsic.specs.declared.due.Moved.TheVariants as moved
use Rattle.std.proofs.Math.Logic.{∥∥₁_elim}
use Rattle.std.proofs.Math.Bridge.{le_prop}
use Rattle.ark_objects.specs.Held.{at}
use Rattle.ark_region.specs.Frames.{Piece, LiesInRegion}
use Rattle.ark_held.specs.Rings.{IsSoundRing, AreSound}
use Rattle.ark_held.specs.declared.card.StorageCard.{StorageCard}
use Rattle.ark_held.proofs.Keyed.{changes_set}
use Rattle.ark_held.proofs.Sounding.{sound_set}
use Rattle.ark_held.proofs.Members.{In, contains_in, in_contains}

-- a descriptor that can move its block k, and has one more, can move that
next_one : (taken : List Bool) (k : ℕ) (d : Descriptor) (j : Job) → k + 1 < d.count → IsSoundBy j taken d k → IsSoundBy j taken d (k + 1)
next_one taken k d vic.Read lt s = (lt, s.1)
next_one taken k d vic.Write lt s = (lt, s.1)
next_one taken k d vic.Zero lt s = lt
next_one taken k d vic.Sync lt s = tt
next_one taken k d vic.Receive lt s = absurd s
next_one taken k d vic.Send lt s = absurd s

-- an answer that a block has moved comes before the last one alone
not_last : (x : Due) (last ok : Bool) → answer_for x last ok ≡ moved.Block → last ≡ false
not_last due.Nothing last ok is = cc
not_last due.Waits last ok is = cc
not_last (due.Ends o) last ok is = cc
not_last due.Sync last ok is = cc
not_last (due.Block n) false ok is = refl
not_last (due.Block n) true true is = cc
not_last (due.Block n) true false is = cc

module _ (taken : List Bool) (v : Card) (x : Due) (ok : Bool) (s : IsSoundRing taken v.ring) where
  module _ (ds : List Descriptor) (posted : v.ring.posted ≡ ds) where
    sound_rest : (d : Descriptor) (es : List Descriptor) → ds ≡ d ∷ es → (o : Outcome) → IsSoundRing taken (finished v.ring d o 0)
    sound_rest d es is o =
        let rest : drop 1 v.ring.posted ≡ es = ap (λ (zs : List Descriptor). drop 1 zs) (posted ∙ is) in
        let all : (z : Descriptor) → In es z → CanMove taken 0 z = λ z inn. s.each z (in_contains v.ring.posted z (subst (λ (zs : List Descriptor). In zs z) (sym (posted ∙ is)) (inr inn))) in record {
          oldest = subst (λ (zs : List Descriptor). IfSome (slice_get zs 0) (λ z. CanMove taken 0 z)) (sym rest) (first es all);
          each = λ z has. all z (contains_in es z (subst (λ (zs : List Descriptor). Contains zs z) rest has));
          none = λ e. refl;
        }
      where
        first : (es : List Descriptor) → ((z : Descriptor) → In es z → CanMove taken 0 z) → IfSome (slice_get es 0) (λ z. CanMove taken 0 z)
        first [] all = tt
        first (e ∷ es) all = all e (inl refl)

  by_posted : (ds : List Descriptor) → v.ring.posted ≡ ds → (a : Moved) → a ≡ answer_of v x ok → IsSoundRing taken (ring_after v.ring a)
  by_posted ds posted moved.Idle is = s
  by_posted ds posted moved.Held is = s
  by_posted [] posted moved.Block is =
      let last = not_last x (is_last v.ring) ok (sym is) in
      let zero_count : is_last v.ring ≡ true = ap (λ (zs : List Descriptor). nat_le (count_of (slice_get zs 0)) (v.ring.moved + 1)) posted ∙ (let z : nat_le 0 (v.ring.moved + 1) ≡ true = grind (arith, nat_tests) in z) in
      cc (last, zero_count)
  by_posted (d ∷ es) posted moved.Block is =
      let last = not_last x (is_last v.ring) ok (sym is) in
      let head : head_of v.ring ≡ Some d = ap (λ (zs : List Descriptor). slice_get zs 0) posted in
      let more : nat_le d.count (v.ring.moved + 1) ≡ false = sym (ap (λ (o : Option Descriptor). nat_le (count_of o) (v.ring.moved + 1)) head) ∙ last in
      let lt : v.ring.moved + 1 < d.count = grind (arith, nat_tests, more) in
      let can : CanMove taken v.ring.moved d = subst (λ (o : Option Descriptor). IfSome o (λ z. CanMove taken v.ring.moved z)) head s.oldest in record {
        oldest = subst (λ (o : Option Descriptor). IfSome o (λ z. CanMove taken (v.ring.moved + 1) z)) (sym head) (next_one taken v.ring.moved d d.job lt can);
        each = s.each;
        none = λ e. cc (posted, e);
      }
  by_posted [] posted (moved.Done o) is = subst (λ (q : Queue). IsSoundRing taken q) (sym (no_head o)) s
    where
      no_head : (o : Outcome) → ring_after v.ring (moved.Done o) ≡ v.ring
      no_head o = rw posted refl
  by_posted (d ∷ es) posted (moved.Done o) is = subst (λ (q : Queue). IsSoundRing taken q) (sym (its_head o)) (sound_rest (d ∷ es) posted d es refl o)
    where
      its_head : (o : Outcome) → ring_after v.ring (moved.Done o) ≡ finished v.ring d o 0
      its_head o = rw posted refl

  pub sound_moved : (a : Moved) → a ≡ answer_of v x ok → IsSoundRing taken (ring_after v.ring a)
  sound_moved a is = by_posted v.ring.posted refl a is

-- What can move is a plain fact.

pub both_plain : {A B : Type 0} → IsProp A → IsProp B → IsProp (A × B)
both_plain p q x y = λ i. (p x.0 y.0 i, q x.1 y.1 i)

room_plain : (taken : List Bool) (size : ℕ) (b : Option Piece) → IsProp (MatchOption b ⊥ (λ p. LiesInRegion taken p × (size ≤ p.len)))
room_plain taken size None = λ x y. absurd x
room_plain taken size (Some p) = both_plain le_prop le_prop

sound_plain : (taken : List Bool) (k : ℕ) (d : Descriptor) (j : Job) → IsProp (IsSoundBy j taken d k)
sound_plain taken k d vic.Read = both_plain le_prop (room_plain taken (d.from + 512 * d.count) d.buf)
sound_plain taken k d vic.Write = both_plain le_prop (room_plain taken (d.from + 512 * d.count) d.buf)
sound_plain taken k d vic.Zero = le_prop
sound_plain taken k d vic.Sync = λ x y. refl
sound_plain taken k d vic.Receive = λ x y. absurd x
sound_plain taken k d vic.Send = λ x y. absurd x

oldest_plain : (taken : List Bool) (k : ℕ) (o : Option Descriptor) → IsProp (IfSome o (λ d. CanMove taken k d))
oldest_plain taken k None = λ x y. refl
oldest_plain taken k (Some d) = sound_plain taken k d d.job

-- The cards of an application.

-- the oldest descriptor of a card can be moved
pub oldest_can : (frames : ℕ) (cards : List (Option StorageCard)) (key : ℕ) (one : StorageCard) (taken : List Bool) → ∥ AreSound frames cards ∥₁ → at cards key ≡ Some one → frames ≡ length taken
    → IfSome (head_of one.vsic.ring) (λ d. CanMove taken one.vsic.ring.moved d)
oldest_can frames cards key one taken sound there size = ∥∥₁_elim sound (oldest_plain taken one.vsic.ring.moved (head_of one.vsic.ring)) (λ all. (all taken (sym size) key one there).oldest)

-- all cards stay sound when one of them moves
pub sound_after : (frames : ℕ) (before : List (Option StorageCard)) (key : ℕ) (one now : StorageCard) (x : Due) (ok : Bool) (a : Moved) → at before key ≡ Some one → now.vsic.ring ≡ ring_after one.vsic.ring a → a ≡ answer_of one.vsic x ok
    → AreSound frames before → AreSound frames (set before key (Some now))
sound_after frames before key one now x ok a there ring answer all =
    sound_set frames before (set before key (Some now)) key now (changes_set before key one now there)
    (λ taken long. subst (λ (q : Queue). IsSoundRing taken q) (sym ring) (sound_moved taken one.vsic x ok (all taken long key one there) a answer)) all
