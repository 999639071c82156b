-- Objects by their numbers, which grants have.
use Rattle.std.proofs.Common.{◌≡◌, inl, inr, ⊎_elim, ℕ, true, cond, List, [], ◌∷◌, refl, sym, ◌∙◌, ap, subst, bytes_eq}
use Rattle.std.specs.Prelude.{Some, None, is_some, find, slice_get, ◌==◌}
use Rattle.std.proofs.lemmas.Bool.{false≢true, eqb-true, eq-eqb}
use Rattle.ark_caps.specs.Labels.{value_at}
use Rattle.ark_caps.specs.declared.capability.Capability.{Capability}
use Rattle.ark_machine.specs.Machine.{Held, at, at_serial}
use Rattle.ark_held.specs.Words.{Labels}
use Rattle.ark_held.specs.Around.{Around}
use Rattle.ark_held.specs.Held.{Matches, AllMatch, AreDistinctLabels, Holds}
use Rattle.ark_held.proofs.Lists.{by_test, same_name, name_same, not_some, some_same, value_first, value_behind}
use Rattle.ark_held.proofs.Members.{In}
use Rattle.ark_held.proofs.Covering.{found_in}
use Rattle.ark_held.proofs.Finding.{matches_at, stands_at}

-- what has a number in a list is one of it
with_number : (n : ℕ) (hs : List Held) (h : Held) → find (λ z. z.serial == n) hs ≡ Some h → In hs h × (h.serial ≡ n)
with_number n [] h is = absurd (not_some None h refl is)
with_number n (z ∷ zs) h is = by_test (λ t. (z.serial == n) ≡ t → In (z ∷ zs) h × (h.serial ≡ n)) (z.serial == n)
    (λ yes q.
    let e : z ≡ h = some_same (Some z) z h refl (sym (ap (λ b. cond b (Some z) (find (λ g. g.serial == n) zs)) q) ∙ is) in
    (inl e, sym (ap (λ (g : Held). g.serial) e) ∙ eqb-true z.serial n q))
    (λ no q. let r = with_number n zs h (sym (ap (λ b. cond b (Some z) (find (λ g. g.serial == n) zs)) q) ∙ is) in (inr r.0, r.1)) refl

has_number : (n : ℕ) (hs : List Held) (h : Held) → In hs h → h.serial ≡ n → is_some (find (λ z. z.serial == n) hs) ≡ true
has_number n [] h inn is = absurd inn
has_number n (z ∷ zs) h inn is = by_test (λ t. (z.serial == n) ≡ t → is_some (cond t (Some z) (find (λ g. g.serial == n) zs)) ≡ true) (z.serial == n)
    (λ yes q. refl)
    (λ no q. ⊎_elim (λ e. absurd (false≢true (sym q ∙ ap (λ (g : Held). g.serial == n) e ∙ eq-eqb h.serial n is))) (λ i. has_number n zs h i is) inn) refl

-- a member of the machine's list matches its label
labelled : (x : Around) (ps : Labels) (hs : List Held) (h : Held) → AreDistinctLabels ps → AllMatch x ps hs → In hs h
    → (cap : Capability) × (value_at ps h.label ≡ Some cap) × Matches x (h.label, cap) h × (find (λ z. bytes_eq h.label z.label) hs ≡ Some h)
labelled x [] [] h apart all inn = absurd inn
labelled x (p ∷ ps) (g ∷ gs) h apart all (inl e) =
    let name : p.0 ≡ h.label = sym all.0.label ∙ ap (λ (z : Held). z.label) e in (
      p.1,
      subst (λ (l : List ℕ). value_at (p ∷ ps) l ≡ Some p.1) name (value_first p ps),
      matches_at x p h h.label name (subst (λ (z : Held). Matches x p z) e all.0),
      ap (λ b. cond b (Some g) (find (λ z. bytes_eq h.label z.label) gs)) (name_same h.label g.label (sym (ap (λ (z : Held). z.label) e))) ∙ ap (λ (z : Held). Some z) e,
    )
labelled x (p ∷ ps) (g ∷ gs) h apart all (inr inn) =
    let r = labelled x ps gs h apart.1 all.1 inn in (
      r.0,
      value_behind p ps h.label r.0 apart r.1,
      r.2,
      by_test (λ t. bytes_eq h.label g.label ≡ t → cond t (Some g) (find (λ z. bytes_eq h.label z.label) gs) ≡ Some h) (bytes_eq h.label g.label)
          (λ yes q. absurd (not_some (value_at ps p.0) r.0 apart.0 (ap (λ l. value_at ps l) (sym (same_name h.label g.label q ∙ all.0.label)) ∙ r.1)))
          (λ no q. r.3) refl,
    )
labelled x [] (g ∷ gs) h apart all inn = absurd all
labelled x (p ∷ ps) [] h apart all inn = absurd all

-- the object of a number, whose grant is g
pub record IsNumbered (x : Around) (n g : ℕ) (h : Held) : Type 0 where
  pub cap : Capability
  pub label : value_at x.labels h.label ≡ Some cap
  pub grant : cap.grant ≡ g
  pub there : at x.machine h.label ≡ Some h
  pub matches : Matches x (h.label, cap) h

module _ (x : Around) (holds : Holds x) (n g : ℕ) (its : slice_get x.numbers n ≡ Some g) where
  pub numbered : (h : Held) → at_serial x.machine n ≡ Some h → IsNumbered x n g h
  numbered h is =
      let one = with_number n x.machine.held h is in
      let r = labelled x x.labels x.machine.held h holds.apart holds.held one.0 in record {
        cap = r.0;
        label = r.1;
        grant = some_same (slice_get x.numbers n) r.0.grant g (ap (λ (i : ℕ). slice_get x.numbers i) (sym one.1) ∙ r.2.serial) its;
        there = r.3;
        matches = r.2;
      }

  -- a label of this grant is that of the object of the number
  pub of_grant : (l : List ℕ) (c : Capability) → value_at x.labels l ≡ Some c → c.grant ≡ g → is_some (at_serial x.machine n) ≡ true
  of_grant l c is same =
      let s = stands_at x l c holds is in
      has_number n x.machine.held s.held (found_in l x.machine.held s.held s.there).0
      (holds.one s.held.serial n g (s.matches.serial ∙ ap (λ (k : ℕ). Some k) same) its)
