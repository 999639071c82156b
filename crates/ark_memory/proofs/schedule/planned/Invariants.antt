use Rattle.std.proofs.Common.{◌≡◌, drop}
use Rattle.ark_memory.specs.Plan.{planned_for}
use Rattle.ark_memory.proofs.schedule.planned.Given as goal

abbrev pub invariant-loop-fail : goal.invariant-loop-fail
invariant-loop-fail l = planned_for (drop l.fail-index l.fails) l.call ≡ planned_for l.fails l.call
