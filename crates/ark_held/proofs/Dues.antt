-- What a kept card does next is what its application's machine does next.
use Rattle.std.proofs.Common.{◌≡◌, ℕ, ◌+◌, ◌-◌, ◌*◌, Bool, true, false, not, cond, List, [], ◌∷◌, nat_eq, nat_le, nat_lt, refl, sym, ◌∙◌, ap, arith}
use Rattle.std.specs.Prelude.{if◌then◌else◌, Option, Some, None, option_map, find, slice_get, ◌==◌}
use Rattle.std.specs.Map.{lookup}
use Rattle.std.specs.List.{list_any}
use Rattle.std.proofs.lemmas.Bool.{false≢true}
use Rattle.std.proofs.lemmas.Bool.Decides.{nat_tests}
use Rattle.ark_base.specs.declared.kind.Outcome.TheVariants as outcome
use Rattle.ark_vic.specs.Pace.{fill_at, fill_of}
use Rattle.ark_vic.proofs.PaceLemmas.{later_law}
use Rattle.ark_vsic.specs.Moves.{due_paced}
use Rattle.ark_vsic.specs.declared.due.Due.{Due}
use Rattle.ark_vsic.specs.declared.due.Due.TheVariants as due
use Rattle.ark_machine.specs.Objects.{Paced}
use Rattle.ark_machine.specs.Rates.{is_over_burst, may_pass}
use Rattle.ark_held.specs.Words.{AreaList}
use Rattle.ark_held.specs.Kept.{PaceKept}
use Rattle.ark_held.specs.Around.{Around, Each, Both}
use Rattle.ark_held.specs.Cards.{IsPaced}
use Rattle.ark_held.specs.Moving.{blocks_held}
use Rattle.ark_held.specs.declared.areas.Area.{Area}
use Rattle.ark_held.proofs.Lists.{by_test}

-- Bindings.

module _ (x : Around) (one : (i j g : ℕ) → slice_get x.numbers i ≡ Some g → slice_get x.numbers j ≡ Some g → i ≡ j) (n g : ℕ) (its : slice_get x.numbers n ≡ Some g) where
  pub same_test : (b s : ℕ) → slice_get x.numbers s ≡ Some b → (b == g) ≡ (s == n)
  same_test b s is = by_test (λ t. (s == n) ≡ t → (b == g) ≡ t) (s == n)
      (λ yes q.
      let same : s ≡ n = grind (arith, nat_tests, q) in
      let e : Some b ≡ Some g = sym is ∙ ap (λ (i : ℕ). slice_get x.numbers i) same ∙ its in
      let f : b ≡ g = cc in grind (arith, nat_tests, f))
      (λ no q.
      let other : b ≡ g → ⊥ = λ e. false≢true (sym q ∙ (let same : s ≡ n = one s n g (is ∙ ap (λ (k : ℕ). Some k) e) its in let z : (s == n) ≡ true = grind (arith, nat_tests, same) in z)) in
      grind (arith, nat_tests, other)) refl

  -- the grant is bound to a kept card where the machine's card has the number
  pub bound_same : (gs ns : List ℕ) → Each (λ b s. slice_get x.numbers s ≡ Some b) gs ns → list_any (λ b. b == g) gs ≡ list_any (λ s. s == n) ns
  bound_same [] [] each = refl
  bound_same (b ∷ bs) (s ∷ ss) each = let first = same_test b s each.0 in let rest = bound_same bs ss each.1 in rw (first, rest) refl
  bound_same [] (s ∷ ss) each = absurd each
  bound_same (b ∷ bs) [] each = absurd each

-- Areas.

swapped : (a b : ℕ) → (a == b) ≡ nat_eq b a
swapped a b = by_test (λ t. nat_eq b a ≡ t → (a == b) ≡ t) (nat_eq b a) (λ yes q. grind (arith, nat_tests, q)) (λ no q. grind (arith, nat_tests, q)) refl

mapped : (t : Bool) (a : ℕ × Area) (o : Option (ℕ × List ℕ)) (u : Option Area) → option_map (λ z. z.1) o ≡ option_map (λ z. z.spans) u
    → option_map (λ z. z.1) (cond t (Some (a.0, a.1.spans)) o) ≡ option_map (λ z. z.spans) (cond t (Some a.1) u)
mapped true a o u same = refl
mapped false a o u same = same

pub blocks_found : (g : ℕ) (areas : AreaList) → option_map (λ z. z.1) (find (λ a. a.0 == g) (blocks_held areas)) ≡ option_map (λ a. a.spans) (lookup (nat_eq g) areas)
blocks_found g [] = refl
blocks_found g (a ∷ areas) =
    ap (λ t. option_map (λ z. z.1) (cond t (Some (a.0, a.1.spans)) (find (λ z. z.0 == g) (blocks_held areas)))) (swapped a.0 g)
    ∙ mapped (nat_eq g a.0) a (find (λ z. z.0 == g) (blocks_held areas)) (lookup (nat_eq g) areas) (blocks_found g areas)

-- Rates.

-- what is due of a block whose place is there, by the three tests of a machine
abbrev pub due_by_tests : Bool → Bool → Bool → ℕ → Due
due_by_tests is_bound is_over may n =
    if not is_bound then due.Ends outcome.NoGrant
    else if is_over then due.Ends outcome.OverBurst
    else if not may then due.Waits
    else due.Block n

turned_test : {A : Type 0} (b : Bool) (a c : A) → cond b a c ≡ cond (not b) c a
turned_test true a c = refl
turned_test false a c = refl

-- the number that is kept of a pace is what its passes take of the burst
pub fill_same : (x : Around) (k : PaceKept) (p : Paced) → IsPaced x k p → fill_at k.pace x.now ≡ fill_of p.q p.passes x.now
fill_same x k p is =
    ap (λ f. f - k.pace.per_tick * (x.now - k.pace.tick)) is.passes.fill_is
    ∙ sym (later_law k.pace.per_tick k.pace.tick x.now p.passes is.passes.past is.past)
    ∙ ap (λ q. fill_of q p.passes x.now) is.per_tick

pub paced_same : (x : Around) (k : Option PaceKept) (p : Option Paced) (n : ℕ) → Both (IsPaced x) k p → due_paced (option_map (λ z. z.pace) k) x.now n ≡ due_by_tests true (is_over_burst p 512) (may_pass p x.now 512) n
paced_same x None None n both = refl
paced_same x (Some k) (Some p) n both =
    ap (λ b. if nat_lt b 512 then due.Ends outcome.OverBurst else if nat_le (fill_at k.pace x.now + 512) b then due.Block n else due.Waits) both.burst
    ∙ ap (λ f. if nat_lt p.burst 512 then due.Ends outcome.OverBurst else if nat_le (f + 512) p.burst then due.Block n else due.Waits) (fill_same x k p both)
    ∙ ap (λ (z : Due). if nat_lt p.burst 512 then due.Ends outcome.OverBurst else z) (turned_test (nat_le (fill_of p.q p.passes x.now + 512) p.burst) (due.Block n) due.Waits)
paced_same x None (Some p) n both = absurd both
paced_same x (Some k) None n both = absurd both
