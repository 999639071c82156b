-- What is due, and where it lies: a block that is due has a place in an area that is bound and held, and may pass.
use Rattle.std.proofs.Common.{◌≡◌, ℕ, suc, ◌+◌, ◌≤◌, ◌<◌, true, nat_lt, nat_le, List, [], ◌∷◌, ◌++◌, length, Option, Some, None, slice_get, refl, sym, ap, subst, ◌∙◌, arith}
use Rattle.std.specs.Prelude.{Contains, is_some, option_map, unwrap_or, ◌==◌}
use Rattle.std.specs.List.{find}
use Rattle.std.proofs.lemmas.Bool.{cond_both, eqb-true, false≢true}
use Rattle.std.proofs.lemmas.Bool.Decides.{nat_tests}
use Rattle.ark_vic.specs.Pace.{Pace, Pass, WithinRate, IsPaceOf, fill_at, with_fill}
use Rattle.ark_vic.proofs.PaceLemmas.{may_law, passed_law}
use Rattle.ark_vic.specs.declared.descriptor.Descriptor.{Descriptor}
use Rattle.ark_vic.specs.declared.descriptor.Job.{Job}
use Rattle.ark_vic.specs.declared.descriptor.Job.TheVariants as job
use Rattle.ark_vsic.specs.declared.due.Due.{Due}
use Rattle.ark_vsic.specs.declared.due.Due.TheVariants as due
use Rattle.ark_vsic.specs.Card.{Card, Areas, is_bound, head_of}
use Rattle.ark_vsic.specs.Places.{place_of}
use Rattle.ark_vsic.specs.Moves.{due_paced, due_at, due_in, due_by, due_for, due_of, area_of}
use Rattle.ark_vsic.specs.Own.{IsItsOwn}
use Rattle.ark_vsic.proofs.Stepping.{stepwise}

-- A predicate on what is due, by what a block and a wait mean. All else has it.
abbrev Means : (ℕ → Type 0) → Type 0 → Due → Type 0
Means IsBlock Waiting (due.Block n) = IsBlock n
Means IsBlock Waiting due.Waits = Waiting
Means IsBlock Waiting _ = Unit {0}

weaker : (A B : ℕ → Type 0) (W : Type 0) → ((n : ℕ) → A n → B n) → (x : Due) → Means A W x → Means B W x
weaker A B W f (due.Block n) h = f n h
weaker A B W f due.Waits h = h
weaker A B W f due.Nothing h = tt
weaker A B W f (due.Ends o) h = tt
weaker A B W f due.Sync h = tt

means_by : (A : ℕ → Type 0) (W : Type 0) (j : Job) (x : Due) → Means A W x → Means A W (due_by j x)
means_by A W job.Sync x means = tt
means_by A W job.Read x means = means
means_by A W job.Write x means = means
means_by A W job.Zero x means = means
means_by A W job.Receive x means = means
means_by A W job.Send x means = means

-- Where an area is found.

contains_later : (a : ℕ × List ℕ) (held : Areas) (x : ℕ × List ℕ) → Contains held x → Contains (a ∷ held) x
contains_later a held x h = (suc h.0, (let lt = h.1 in omega (arith, lt)), h.2)

not_some : (o : Option (List ℕ)) (blocks : List ℕ) → o ≡ None → o ≡ Some blocks → ⊥
not_some o blocks none some = false≢true (ap is_some (sym none ∙ some))

found_in : (grant : ℕ) (held : Areas) (blocks : List ℕ) → option_map (λ a. a.1) (find (λ a. a.0 == grant) held) ≡ Some blocks → Contains held (grant, blocks)
found_in grant [] blocks is = absurd (not_some None blocks refl is)
found_in grant (a ∷ held) blocks is =
    cond_both (a.0 == grant) (Some a) (find (λ x. x.0 == grant) held) (λ found. option_map (λ x. x.1) found ≡ Some blocks → Contains (a ∷ held) (grant, blocks))
    (λ here e. let g = eqb-true a.0 grant here in let b : a.1 ≡ blocks = ap (λ o. unwrap_or o a.1) e in (0, (let z : 0 < suc (length held) = omega arith in z), (λ i. (g i, b i))))
    (λ other e. contains_later a held (grant, blocks) (found_in grant held blocks e)) is

area_in : (grant : ℕ) (bound : List ℕ) (held : Areas) (blocks : List ℕ) → area_of grant bound held ≡ Some blocks → (is_bound grant bound ≡ true) × Contains held (grant, blocks)
area_in grant bound held blocks is =
    cond_both (is_bound grant bound) _ _ (λ o. o ≡ Some blocks → (is_bound grant bound ≡ true) × Contains held (grant, blocks)) (λ yes e. (yes, found_in grant held blocks e)) (λ no e. absurd (not_some None blocks refl e)) is

-- What is due, by its pace and its place.
module _ (now : ℕ) where
  abbrev May : Option Pace → Type 0
  May None = Unit {0}
  May (Some r) = fill_at r now + 512 ≤ r.burst

  abbrev MayNot : Option Pace → Type 0
  MayNot None = ⊥
  MayNot (Some r) = r.burst < fill_at r now + 512

  paced_means : (pace : Option Pace) (n : ℕ) → Means (λ m. (n ≡ m) × May pace) (MayNot pace) (due_paced pace now n)
  paced_means None n = (refl, tt)
  paced_means (Some r) n =
      cond_both (nat_lt r.burst 512) _ _ (Means (λ m. (n ≡ m) × May (Some r)) (MayNot (Some r))) (λ over. tt)
      (λ within. cond_both (nat_le (fill_at r now + 512) r.burst) _ _ (Means (λ m. (n ≡ m) × May (Some r)) (MayNot (Some r)))
      (λ may. (refl, grind (arith, nat_tests, may))) (λ waits. grind (arith, nat_tests, waits)))

  at_means : (place : Option ℕ) (pace : Option Pace) → Means (λ m. (place ≡ Some m) × May pace) (MayNot pace) (due_at place pace now)
  at_means None pace = tt
  at_means (Some n) pace = weaker _ (λ m. (Some n ≡ Some m) × May pace) _ (λ m h. (ap (λ (k : ℕ). Some k) h.0, h.1)) (due_paced pace now n) (paced_means pace n)

  abbrev At : Option (List ℕ) → Descriptor → ℕ → ℕ → Type 0
  At area d k m = (blocks : List ℕ) × (area ≡ Some blocks) × (slice_get blocks (place_of (length blocks) d.wrap d.first k) ≡ Some m)

  in_means : (area : Option (List ℕ)) (d : Descriptor) (k : ℕ) (pace : Option Pace) → Means (λ m. At area d k m × May pace) (MayNot pace) (due_in area d k pace now)
  in_means None d k pace = tt
  in_means (Some blocks) d k pace =
      weaker _ (λ m. At (Some blocks) d k m × May pace) _ (λ m h. ((blocks, refl, h.0), h.1)) (due_at (slice_get blocks (place_of (length blocks) d.wrap d.first k)) pace now)
      (at_means (slice_get blocks (place_of (length blocks) d.wrap d.first k)) pace)

  its_own : (card : Card) (held : Areas) (d : Descriptor) (n : ℕ) → head_of card.ring ≡ Some d → At (area_of d.grant card.bound held) d card.ring.moved n → IsItsOwn card held n
  its_own card held d n oldest h =
      let area = area_in d.grant card.bound held h.0 h.1 in record {
        head = d;
        oldest = oldest;
        bound = area.0;
        blocks = h.0;
        area = area.1;
        place = ap (λ p. slice_get h.0 p) (sym (stepwise (length h.0) d.wrap d.first card.ring.moved)) ∙ h.2;
      }

  for_means : (head : Option Descriptor) (card : Card) (held : Areas) → head_of card.ring ≡ head → Means (λ n. IsItsOwn card held n × May card.pace) (MayNot card.pace) (due_for head card held now)
  for_means None card held is = tt
  for_means (Some d) card held is =
      means_by _ _ d.job (due_in (area_of d.grant card.bound held) d card.ring.moved card.pace now)
      (weaker _ (λ n. IsItsOwn card held n × May card.pace) _ (λ n h. (its_own card held d n is h.0, h.1)) (due_in (area_of d.grant card.bound held) d card.ring.moved card.pace now)
      (in_means (area_of d.grant card.bound held) d card.ring.moved card.pace))

  means : (card : Card) (held : Areas) → Means (λ n. IsItsOwn card held n × May card.pace) (MayNot card.pace) (due_of card held now)
  means card held = for_means (head_of card.ring) card held refl

module _ (card : Card) (held : Areas) (now : ℕ) where
  block_means : (n : ℕ) → due_of card held now ≡ due.Block n → IsItsOwn card held n × May now card.pace
  block_means n is = subst (λ x. Means (λ m. IsItsOwn card held m × May now card.pace) (MayNot now card.pace) x) is (means now card held)

  pub own : (n : ℕ) → due_of card held now ≡ due.Block n → IsItsOwn card held n
  own n is = (block_means n is).0

  module _ (r : Pace) (p : List Pass) (paced : card.pace ≡ Some r) (stand : IsPaceOf r p) (later : r.tick ≤ now) where
    may : (n : ℕ) → due_of card held now ≡ due.Block n → fill_at r now + 512 ≤ r.burst
    may n is = subst (λ o. May now o) paced (block_means n is).1

    pub keeps : (n : ℕ) → due_of card held now ≡ due.Block n → WithinRate r.per_tick r.burst (p ++ (now, 512) ∷ [])
    keeps n is = (may_law r p 512 now stand later).0 (may n is)

    pub stands : (n : ℕ) → due_of card held now ≡ due.Block n → IsPaceOf (with_fill r 512 now) (p ++ (now, 512) ∷ [])
    stands n is = passed_law r p 512 now stand later (may n is)

    pub waits : due_of card held now ≡ due.Waits → ¬ WithinRate r.per_tick r.burst (p ++ (now, 512) ∷ [])
    waits is kept =
        let over : r.burst < fill_at r now + 512 = subst (λ o. MayNot now o) paced (subst (λ x. Means (λ m. IsItsOwn card held m × May now card.pace) (MayNot now card.pace) x) is (means now card held)) in
        let within = (may_law r p 512 now stand later).1 kept in omega (arith, over, within)
