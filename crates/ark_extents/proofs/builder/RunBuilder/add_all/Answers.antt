use Rattle.std.proofs.Common.{◌∙◌, ◌++◌, sym, ap, take, get_or, append_assoc, arith}
use Rattle.std.specs.List.{range_with_len}
use Rattle.ark_extents.specs.Blocks.{blocks_of}
use Rattle.ark_extents.specs.Runs.{no_run}
use Rattle.ark_extents.proofs.RunLemmas.{blocks_of-more}
use Rattle.ark_extents.proofs.builder.RunBuilder.add_all.Goals as goal

pub loop-run-preserved : goal.loop-run-preserved
loop-run-preserved c =
    let i = c.loop-run.run-index in
    let runs = c.args.runs.now in
    let run = get_or runs i no_run in
    record {
      blocks = c.add.ensures.blocks ∙ ap (λ t. t ++ range_with_len run.start run.len) c.loop-run.invariant.blocks
          ∙ append_assoc c.args.self.now (blocks_of (take i runs)) (range_with_len run.start run.len) ∙ ap (λ t. c.args.self.now ++ t) (sym (blocks_of-more runs i no_run c.loop-run-test.true));
      room = omega (arith, c.add.ensures.room, c.loop-run.invariant.room);
    }
