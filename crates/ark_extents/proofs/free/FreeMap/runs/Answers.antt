use Rattle.std.proofs.Common.{◌∙◌, ap, sym, length}
use Rattle.ark_extents.proofs.FreeBlocks.{count_runs}
use Rattle.ark_extents.proofs.free.FreeMap.runs.Goals as goal

pub returns-clause-runs : goal.returns-clause-runs
returns-clause-runs c = ap length c.as_slice.ensures.value ∙ sym (count_runs c.self.inside.runs.items c.args.self.now c.self.view_is c.self.invariant.0)
