use Rattle.std.proofs.Common.{◌≡◌, ℕ, List, length, ap, arith}
use Rattle.ark_extents.specs.Runs.{no_run}
use Rattle.ark_table.proofs.Laying.{run_laid}
use Rattle.ark_table.proofs.slot.put_runs.Goals as goal

pub loop-run-preserved : goal.loop-run-preserved
loop-run-preserved c =
    let eight : length c.run_field.result ≡ 8 = ap (λ (l : List ℕ). length l) c.run_field.ensures in
    record {
      place = omega (arith, c.put-place.ensures.end, eight, c.loop-run.invariant.place);
      laid = run_laid c.args.block.now c.loop-run.block c.put-place.new.block c.run_field.result c.args.runs.now c.args.at c.loop-run.run-index c.loop-run.place no_run
          c.loop-run-test.true c.requires c.loop-run.invariant.laid c.loop-run.invariant.place c.run_field.ensures c.put-place.ensures.written;
    }
