use Rattle.std.proofs.Common.{◌∙◌, List, ap, sym, subst, refl, arith}
use Rattle.ark_base.specs.declared.block.Span.{Span}
use Rattle.ark_extents.specs.Blocks.{blocks_of}
use Rattle.ark_extents.specs.Free.{AreRising, IsFront}
use Rattle.ark_extents.proofs.Front.{drop_blocks, left_rising, run_within, next_is, after_first}
use Rattle.ark_extents.proofs.lowest.drop_lowest.Goals as goal

pub overflow_add-left : goal.overflow_add-left
overflow_add-left c =
    let rs = c.args.runs.now.items in
    let whole = c.front_of-whole.result.0 in
    let rest = c.front_of-whole.result.1 in
    let front = subst (λ (l : List Span). IsFront l c.args.n whole rest) c.deref.ensures.value c.front_of-whole.ensures.front in
    let is = next_is rs c.drop_front.new.runs.items c.remove-run.new.self.items _ whole rest c.remove-run.result c.drop_front.ensures.items c.remove-run.ensures.value c.remove-run.ensures.by_index.2 refl front.inside in
    omega (arith, ap (λ (r : Span). r.start) is, front.fits, run_within rs c.args.n whole rest c.requires.rising front)

pub returns-clause-blocks : goal.returns-clause-blocks
returns-clause-blocks c =
    let rs = c.args.runs.now.items in
    let whole = c.front_of-whole.result.0 in
    let rest = c.front_of-whole.result.1 in
    let front = subst (λ (l : List Span). IsFront l c.args.n whole rest) c.deref.ensures.value c.front_of-whole.ensures.front in
    let items = after_first rs c.drop_front.new.runs.items c.remove-run.new.self.items c.put.new.runs.items whole rest c.remove-run.result c.drop_front.ensures.items c.remove-run.ensures.value c.remove-run.ensures.by_index.2
    c.put.ensures.items front.inside in
    ap blocks_of items ∙ sym (drop_blocks rs c.args.n whole rest c.requires.rising front)

pub returns-clause-rising : goal.returns-clause-rising
returns-clause-rising c =
    let rs = c.args.runs.now.items in
    let whole = c.front_of-whole.result.0 in
    let rest = c.front_of-whole.result.1 in
    let front = subst (λ (l : List Span). IsFront l c.args.n whole rest) c.deref.ensures.value c.front_of-whole.ensures.front in
    let items = after_first rs c.drop_front.new.runs.items c.remove-run.new.self.items c.put.new.runs.items whole rest c.remove-run.result c.drop_front.ensures.items c.remove-run.ensures.value c.remove-run.ensures.by_index.2
    c.put.ensures.items front.inside in
    subst (AreRising 0) (sym items) (left_rising rs c.args.n whole rest c.requires.rising front)
