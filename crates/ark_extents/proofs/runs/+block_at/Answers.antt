use Rattle.std.proofs.Common.{◌∙◌}
use Rattle.ark_extents.proofs.RunLemmas.{at_first, past_first}
use Rattle.ark_extents.proofs.runs.+block_at.Goals as goal

pub returns-then-off-run : goal.returns-then-off-run
returns-then-off-run t c = at_first _ c.in_ok-run.run'.now c.in_ok-run.others.now _ c.in_ok-run.ensures.cases.0 c.if-off-run.true

pub returns-else-off-run : goal.returns-else-off-run
returns-else-off-run t c = c.block_at.ensures ∙ past_first _ c.in_ok-run.run'.now c.in_ok-run.others.now _ c.in_ok-run.ensures.cases.0 c.if-off-run.false
