use Rattle.std.proofs.Common.{arith}
use Rattle.ark_extents.specs.Runs.{no_run}
use Rattle.ark_extents.proofs.Front.{length-more}
use Rattle.ark_extents.proofs.lowest.front_of.Goals as goal

pub loop-i-preserved : goal.loop-i-preserved
loop-i-preserved c = let more = length-more c.args.runs.now c.loop-i.i no_run c.loop-i-test.true in record { some = omega arith; total = omega (arith, c.loop-i.invariant.total, more) }
