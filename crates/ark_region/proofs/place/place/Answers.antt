use Rattle.std.proofs.Common.{length, sym, ◌∙◌, true≢false}
use borrow.Author.Count.{below_more}
use Rattle.ark_region.specs.Frames.{IsTaken, IsFreeRun}
use Rattle.ark_region.proofs.Placing.{none_below}
use Rattle.ark_region.proofs.place.place.Goals as goal

pub loop-start-preserved : goal.loop-start-preserved
loop-start-preserved c =
    below_more (λ j. ¬ IsFreeRun (IsTaken c.args.taken.now) (length c.args.taken.now) c.args.count j) c.loop-start.start c.loop-start.invariant
    (λ f. true≢false (sym (c.is_free.ensures.1 f) ∙ c.if-is_free.false))

pub returns-clause-none : goal.returns-clause-none
returns-clause-none c = none_below c.args.taken.now c.args.count c.loop-start.start c.requires c.loop-start-test.false c.loop-start.invariant
