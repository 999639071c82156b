use Rattle.std.proofs.Common.{◌≡◌, is_ok, rules}
use Rattle.ark_memory.specs.Turns.{counted}
use Rattle.ark_memory.proofs.Moving.{has_cause}
use Rattle.ark_memory.proofs.world.outside.MemoryWorldOutside.fetch.Goals as goal

pub returns-in_err-answer-clause-cause : goal.returns-in_err-answer-clause-cause
returns-in_err-answer-clause-cause c =
    let w = c.args.self.now in
    let counts : c.answer.new.faults ≡ counted (is_ok c.from_residual.result) w.source_faults = search rules in
    has_cause c.from_residual.result w.source_faults c.answer.new.faults c.answer.ensures.later counts
