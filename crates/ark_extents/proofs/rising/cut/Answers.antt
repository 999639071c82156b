use Rattle.std.proofs.Common.{◌+◌, ◌↔◌, List, ap, sym, subst, take, drop, length, arith}
use Rattle.ark_base.specs.declared.block.Span.{Span}
use Rattle.ark_extents.specs.Free.{AreRising, IsRunPlace, HasBlock, AnyHas}
use Rattle.ark_extents.proofs.RisingRuns.{cut_inside, run_fits, cut_begins, cut_ends, left_rising, left_loses, put_twice, length-front}
use Rattle.ark_extents.proofs.rising.cut.Goals as goal

pub remove-run-requires : goal.remove-run-requires
remove-run-requires c =
    let place = subst (λ (l : List Span). IsRunPlace l c.args.piece.start c.place_of-i.result) c.deref.ensures.value c.place_of-i.ensures.place in
    omega (arith, cut_inside c.args.runs.now.items c.place_of-i.result c.args.piece c.requires.rising place c.requires.some c.requires.had, ap length c.deref.ensures.value, c.deref.ensures.len)

pub overflow_add-after : goal.overflow_add-after
overflow_add-after c =
    let place = subst (λ (l : List Span). IsRunPlace l c.args.piece.start c.place_of-i.result) c.deref.ensures.value c.place_of-i.ensures.place in
    omega (arith, cut_ends c.args.runs.now.items c.place_of-i.result c.args.piece c.requires.rising place c.requires.some c.requires.had c.remove-run.result c.remove-run.ensures.value, run_fits c.args.runs.now.items c.place_of-i.result c.args.piece c.requires.rising place c.requires.some c.requires.had c.remove-run.result c.remove-run.ensures.value)

pub overflow_add-behind : goal.overflow_add-behind
overflow_add-behind c =
    let place = subst (λ (l : List Span). IsRunPlace l c.args.piece.start c.place_of-i.result) c.deref.ensures.value c.place_of-i.ensures.place in
    omega (arith, run_fits c.args.runs.now.items c.place_of-i.result c.args.piece c.requires.rising place c.requires.some c.requires.had c.remove-run.result c.remove-run.ensures.value)

pub overflow_sub-behind : goal.overflow_sub-behind
overflow_sub-behind c =
    let place = subst (λ (l : List Span). IsRunPlace l c.args.piece.start c.place_of-i.result) c.deref.ensures.value c.place_of-i.ensures.place in
    cut_ends c.args.runs.now.items c.place_of-i.result c.args.piece c.requires.rising place c.requires.some c.requires.had c.remove-run.result c.remove-run.ensures.value

pub overflow_sub-before : goal.overflow_sub-before
overflow_sub-before c =
    let place = subst (λ (l : List Span). IsRunPlace l c.args.piece.start c.place_of-i.result) c.deref.ensures.value c.place_of-i.ensures.place in
    cut_begins c.args.runs.now.items c.place_of-i.result c.args.piece c.requires.rising place c.requires.some c.requires.had c.remove-run.result c.remove-run.ensures.value

pub returns-clause-rising : goal.returns-clause-rising
returns-clause-rising c =
    let place = subst (λ (l : List Span). IsRunPlace l c.args.piece.start c.place_of-i.result) c.deref.ensures.value c.place_of-i.ensures.place in
    let inside = cut_inside c.args.runs.now.items c.place_of-i.result c.args.piece c.requires.rising place c.requires.some c.requires.had in
    let items = put_twice (take c.place_of-i.result c.args.runs.now.items) (drop (c.place_of-i.result + 1) c.args.runs.now.items) c.remove-run.new.self.items c.put.new.runs.items c.put-2.new.runs.items
    c.place_of-i.result _ _ (length-front c.args.runs.now.items c.place_of-i.result (omega (arith, inside))) c.remove-run.ensures.by_index.2 c.put.ensures.items c.put-2.ensures.items in
    subst (AreRising 0) (sym items) (left_rising c.args.runs.now.items c.place_of-i.result c.args.piece c.requires.rising place c.requires.some c.requires.had c.remove-run.result c.remove-run.ensures.value)

pub returns-clause-lost : goal.returns-clause-lost
returns-clause-lost c n =
    let place = subst (λ (l : List Span). IsRunPlace l c.args.piece.start c.place_of-i.result) c.deref.ensures.value c.place_of-i.ensures.place in
    let inside = cut_inside c.args.runs.now.items c.place_of-i.result c.args.piece c.requires.rising place c.requires.some c.requires.had in
    let items = put_twice (take c.place_of-i.result c.args.runs.now.items) (drop (c.place_of-i.result + 1) c.args.runs.now.items) c.remove-run.new.self.items c.put.new.runs.items c.put-2.new.runs.items
    c.place_of-i.result _ _ (length-front c.args.runs.now.items c.place_of-i.result (omega (arith, inside))) c.remove-run.ensures.by_index.2 c.put.ensures.items c.put-2.ensures.items in
    subst (λ (l : List Span). AnyHas l n ↔ (AnyHas c.args.runs.now.items n × (HasBlock c.args.piece n → ⊥))) (sym items) (left_loses c.args.runs.now.items c.place_of-i.result c.args.piece c.requires.rising place c.requires.some c.requires.had c.remove-run.result c.remove-run.ensures.value n)
