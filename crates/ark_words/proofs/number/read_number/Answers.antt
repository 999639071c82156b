use Rattle.std.proofs.Common.{arith, ◌≡◌, ◌<◌, ◌^◌, sym, ◌∙◌}
use Rattle.std.proofs.lemmas.Fmt.{decimal_injective}
use Rattle.ark_words.proofs.number.read_number.Goals as goal
use Rattle.ark_words.proofs.number.read_number.Goals.{then-number-least-via-then-number-least, then-number-least-via-else-number-least+then-number-most}

pub returns-then-number-least-clause-none : goal.returns-then-number-least-clause-none
returns-then-number-least-clause-none c n low high is =
    let small : n < 2 ^ 64 = omega arith in
    let same : c.in_ok-number.number ≡ n = decimal_injective _ _ (omega arith) small (sym c.in_ok-number.ensures.number ∙ is) in
    elim c.then-number-least.branch [
      | then-number-least-via-then-number-least w ↦ omega arith
      | then-number-least-via-else-number-least+then-number-most w ↦ omega arith
    ]
