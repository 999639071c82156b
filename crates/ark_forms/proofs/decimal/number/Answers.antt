use Rattle.std.proofs.Common.{arith, ◌≡◌, sym, ◌∙◌}
use Rattle.std.proofs.lemmas.Fmt.{decimal_injective}
use Rattle.ark_forms.proofs.Numbers.{number_gives, number_none}
use Rattle.ark_forms.proofs.decimal.number.Goals as goal
use Rattle.ark_forms.proofs.decimal.number.Goals.{then-n-low-via-then-n-low, then-n-low-via-else-n-low+then-high-n}

pub returns-in_err-n : goal.returns-in_err-n
returns-in_err-n c = rw c.from_residual.ensures (number_none _ _ _ (λ n h. c.in_err-n.ensures.none n (omega arith) h.0))

pub returns-then-n-low : goal.returns-then-n-low
returns-then-n-low c =
    number_none _ _ _ (λ n h.
    let same : c.in_ok-n.n ≡ n = decimal_injective _ _ (omega arith) (omega arith) (sym c.in_ok-n.ensures.value ∙ h.0) in
    elim c.then-n-low.branch [ then-n-low-via-then-n-low w ↦ omega arith | then-n-low-via-else-n-low+then-high-n w ↦ omega arith ])

pub returns : goal.returns
returns c = number_gives _ _ _ _ (omega arith) (c.in_ok-n.ensures.value, omega arith, omega arith)
