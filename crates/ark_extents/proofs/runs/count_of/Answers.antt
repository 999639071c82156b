use Rattle.std.proofs.Common.{arith}
use Rattle.ark_extents.proofs.RunLemmas.{length-rest, length-none_left}
use Rattle.ark_extents.specs.Runs.{no_run}
use Rattle.ark_extents.proofs.runs.count_of.Goals as goal

pub loop-run-init : goal.loop-run-init
loop-run-init c = record { size = omega arith }

pub overflow_add-count : goal.overflow_add-count
overflow_add-count c =
    let rest = length-rest c.args.runs.now c.loop-run.run-index no_run c.loop-run-test.true in
    omega (arith, c.loop-run.invariant.size, rest)

pub loop-run-preserved : goal.loop-run-preserved
loop-run-preserved c =
    let rest = length-rest c.args.runs.now c.loop-run.run-index no_run c.loop-run-test.true in
    record { size = omega (arith, c.loop-run.invariant.size, rest) }

pub returns : goal.returns
returns c =
    let none = length-none_left c.args.runs.now c.loop-run.run-index (omega (arith, c.loop-run-test.false)) in
    omega (arith, c.loop-run.invariant.size, none)
