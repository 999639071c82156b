-- What may pass of a rate, and what it then stands for.
use Rattle.std.proofs.Common.{◌≡◌, ℕ, ◌+◌, ◌≤◌, ◌<◌, true, false, List, [], ◌∷◌, ◌++◌, Option, Some, None, sym, subst, arith}
use Rattle.std.proofs.lemmas.Bool.{false≢true}
use Rattle.std.proofs.lemmas.Bool.Decides.{nat_tests}
use Rattle.ark_vic.specs.Pace.{Pace, Pass, WithinRate, IsPaceOf, fill_at, with_fill}
use Rattle.ark_vic.proofs.PaceLemmas.{may_law, passed_law}
use Rattle.ark_vnic.specs.Card.{IsPacedFor, may_pass}

module _ (len now : ℕ) where
  abbrev pub May : Option Pace → Type 0
  May None = Unit {0}
  May (Some r) = fill_at r now + len ≤ r.burst

  abbrev pub MayNot : Option Pace → Type 0
  MayNot None = ⊥
  MayNot (Some r) = r.burst < fill_at r now + len

  pub may_by : (pace : Option Pace) → may_pass pace len now ≡ true → May pace
  may_by None is = tt
  may_by (Some r) is = grind (arith, nat_tests, is)

  pub may_not_by : (pace : Option Pace) → may_pass pace len now ≡ false → MayNot pace
  may_not_by None is = absurd (false≢true (sym is))
  may_not_by (Some r) is = grind (arith, nat_tests, is)

  module _ (pace : Option Pace) (r : Pace) (p : List Pass) (is : IsPacedFor pace r p now) where
    may : May pace → fill_at r now + len ≤ r.burst
    may m = subst May is.rate m

    pub keeps : May pace → WithinRate r.per_tick r.burst (p ++ (now, len) ∷ [])
    keeps m = (may_law r p len now is.stands is.later).0 (may m)

    pub stands : May pace → IsPaceOf (with_fill r len now) (p ++ (now, len) ∷ [])
    stands m = passed_law r p len now is.stands is.later (may m)

    pub breaks : MayNot pace → ¬ WithinRate r.per_tick r.burst (p ++ (now, len) ∷ [])
    breaks m kept =
        let over : r.burst < fill_at r now + len = subst MayNot is.rate m in
        let within = (may_law r p len now is.stands is.later).1 kept in omega (arith, over, within)
