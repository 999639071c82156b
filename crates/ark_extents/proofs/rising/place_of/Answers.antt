use Rattle.std.proofs.Common.{arith}
use Rattle.ark_extents.specs.Runs.{no_run}
use Rattle.ark_extents.proofs.RisingRuns.{end_by_more}
use Rattle.ark_extents.proofs.rising.place_of.Goals as goal

pub loop-i-preserved : goal.loop-i-preserved
loop-i-preserved c = record { before = end_by_more c.args.n c.args.runs.now c.loop-i.i no_run c.loop-i-test.true c.loop-i.invariant.before (omega (arith, c.end.ensures, c.from.ensures, c.if-from-end.false)) }
