use Rattle.std.proofs.Common.{◌≤◌, length, drop, slice_index, arith}
use Rattle.std.proofs.lemmas.List.{length-set}
use Rattle.ark_table.specs.Area.{runs_in}
use Rattle.ark_table.proofs.Decoding.{length-runs_in, few_runs, run_read}
use Rattle.ark_table.proofs.reading.spans_in.Goals as goal

pub returns-then-count-gt16-clause-found : goal.returns-then-count-gt16-clause-found
returns-then-count-gt16-clause-found c =
    let runs = runs_in (slice_index c.args.block.now 5) (drop 38 c.args.block.now) in (
      λ no. absurd (cc (no)),
      λ spans.
          let few : length runs ≤ 16 = few_runs runs spans in
          absurd (omega (arith, few, length-runs_in (slice_index c.args.block.now 5) (drop 38 c.args.block.now), c.from-count.ensures, c.if-count-gt16.true)),
    )

pub loop-i-preserved : goal.loop-i-preserved
loop-i-preserved c = record {
  long = omega (arith, c.loop-i.invariant.long, length-set c.loop-i.runs c.loop-i.i c.run_at.result);
  read = run_read c.loop-i.runs c.args.block.now c.loop-i.i c.run_at.result (omega (arith, c.loop-i.invariant.long, c.loop-i-test.true, c.if-count-gt16.false)) c.loop-i.invariant.read c.run_at.ensures.start c.run_at.ensures.len;
}
