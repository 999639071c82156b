-- What becomes of a frame that arrives, by its buffer and its rate.
use Rattle.std.proofs.Common.{◌≡◌, ℕ, ◌≤◌, nat_lt, List, [], ◌∷◌, ◌++◌, Option, Some, None, subst, arith}
use Rattle.std.specs.Prelude.{IfSome}
use Rattle.std.proofs.lemmas.Bool.{cond_both}
use Rattle.std.proofs.lemmas.Bool.Decides.{nat_tests}
use Rattle.ark_vic.specs.Pace.{Pace, Pass, WithinRate, IsPaceOf, with_fill}
use Rattle.ark_vic.specs.declared.descriptor.Descriptor.{Descriptor}
use Rattle.ark_vnic.specs.Card.{NetCard, IsPacedFor, head_of, may_pass}
use Rattle.ark_vnic.specs.Arrivals.{room_of, arrived_for, arrived_of}
use Rattle.ark_vnic.specs.declared.arrived.Arrived.{Arrived}
use Rattle.ark_vnic.specs.declared.arrived.Arrived.TheVariants as arrived
use Rattle.ark_vnic.proofs.Passing as passing

-- A predicate on what becomes of a frame, by what a delivery and a refusal by the rate mean. All else has it.
abbrev Means : Type 0 → Type 0 → Arrived → Type 0
Means In Out arrived.Into = In
Means In Out arrived.Throttled = Out
Means In Out arrived.NoBuffer = Unit {0}
Means In Out arrived.TooLong = Unit {0}

module _ (len now : ℕ) where
  abbrev Fits : Option Descriptor → Type 0
  Fits head = IfSome head (λ d. len ≤ room_of d)

  for_means : (head : Option Descriptor) (pace : Option Pace) → Means (Fits head × passing.May len now pace) (passing.MayNot len now pace) (arrived_for head pace len now)
  for_means None pace = tt
  for_means (Some d) pace =
      cond_both (nat_lt (room_of d) len) _ _ (Means (Fits (Some d) × passing.May len now pace) (passing.MayNot len now pace)) (λ over. tt)
      (λ fits. cond_both (may_pass pace len now) _ _ (Means (Fits (Some d) × passing.May len now pace) (passing.MayNot len now pace))
      (λ may. (grind (arith, nat_tests, fits), passing.may_by len now pace may)) (λ not. passing.may_not_by len now pace not))

  module _ (card : NetCard) where
    means : (x : Arrived) → arrived_of card len now ≡ x → Means (Fits (head_of card.rx) × passing.May len now card.rx_pace) (passing.MayNot len now card.rx_pace) x
    means x is = subst (Means (Fits (head_of card.rx) × passing.May len now card.rx_pace) (passing.MayNot len now card.rx_pace)) is (for_means (head_of card.rx) card.rx_pace)

    pub fits : arrived_of card len now ≡ arrived.Into → IfSome (head_of card.rx) (λ d. len ≤ room_of d)
    fits is = (means arrived.Into is).0

    module _ (r : Pace) (p : List Pass) (paced : IsPacedFor card.rx_pace r p now) where
      pub keeps : arrived_of card len now ≡ arrived.Into → WithinRate r.per_tick r.burst (p ++ (now, len) ∷ [])
      keeps is = passing.keeps len now card.rx_pace r p paced (means arrived.Into is).1

      pub stands : arrived_of card len now ≡ arrived.Into → IsPaceOf (with_fill r len now) (p ++ (now, len) ∷ [])
      stands is = passing.stands len now card.rx_pace r p paced (means arrived.Into is).1

      pub throttled : arrived_of card len now ≡ arrived.Throttled → ¬ WithinRate r.per_tick r.burst (p ++ (now, len) ∷ [])
      throttled is = passing.breaks len now card.rx_pace r p paced (means arrived.Throttled is)
