use Rattle.std.proofs.Common.{◌≡◌, ◌≤◌, ◌∙◌, ◌++◌, List, ℕ, true, take, get_or, length, ap, sym, subst, arith, true≢false, IfSome}
use Rattle.std.specs.List.{range_with_len}
use Rattle.ark_base.specs.declared.block.Span.{Span}
use Rattle.ark_extents.specs.Blocks.{blocks_of, runs_of}
use Rattle.ark_extents.specs.Runs.{no_run, are_spans}
use Rattle.ark_extents.proofs.RunLemmas.{blocks_of-runs_of}
use Rattle.ark_extents.proofs.Counting.{spans_few}
use Rattle.ark_extents.proofs.Ascending.{rising_fits}
use Rattle.ark_extents.proofs.Front.{take_parts, front_rising, count_lowest, spans_lowest, run_within}
use Rattle.ark_extents.proofs.lowest.lowest.Goals as goal

pub returns-then-whole-ge16-clause-found : goal.returns-then-whole-ge16-clause-found
returns-then-whole-ge16-clause-found c =
    let count = count_lowest c.args.runs.now c.args.n c.front_of-whole.result.0 c.front_of-whole.result.1 c.requires.rising c.front_of-whole.ensures.front in
    (λ t. absurd (true≢false (sym t)), λ few. absurd (omega (arith, count, few, c.if-whole-ge16.true)))

pub add_all-requires-clause-fit : goal.add_all-requires-clause-fit
add_all-requires-clause-fit c =
    rising_fits 0 (take c.front_of-whole.result.0 c.args.runs.now) (front_rising c.args.runs.now c.args.n c.front_of-whole.result.0 c.front_of-whole.result.1 c.requires.rising c.front_of-whole.ensures.front)

pub add-requires-clause-within : goal.add-requires-clause-within
add-requires-clause-within c =
    omega (arith, run_within c.args.runs.now c.args.n c.front_of-whole.result.0 c.front_of-whole.result.1 c.requires.rising c.front_of-whole.ensures.front, c.front_of-whole.ensures.front.fits)

-- the blocks that were put together
all_blocks : (c : goal.After-of) → c.add.new.self ≡ take c.args.n (blocks_of c.args.runs.now)
all_blocks c =
    let whole = c.front_of-whole.result.0 in
    let rest = range_with_len (get_or c.args.runs.now whole no_run).start c.front_of-whole.result.1 in
    c.add.ensures.blocks ∙ ap (λ t. t ++ rest) (c.add_all.ensures.blocks ∙ ap (λ t. t ++ blocks_of (take whole c.args.runs.now)) c.new-taken.ensures.empty)
    ∙ sym (take_parts c.args.runs.now c.args.n whole c.front_of-whole.result.1 c.requires.rising c.front_of-whole.ensures.front)

pub returns-clause-blocks : goal.returns-clause-blocks
returns-clause-blocks c =
    subst (λ (bs : List ℕ). IfSome c.of.result (λ s. s ≡ bs)) (ap blocks_of c.runs.ensures.runs ∙ blocks_of-runs_of c.add.new.self ∙ all_blocks c) c.of.ensures.blocks

pub returns-clause-found : goal.returns-clause-found
returns-clause-found c =
    let same : c.runs.result.now ≡ runs_of (take c.args.n (blocks_of c.args.runs.now)) = c.runs.ensures.runs ∙ ap runs_of (all_blocks c) in (
      λ some. subst (λ (rs : List Span). length rs ≤ 16) same (spans_few c.runs.result.now (c.of.ensures.found.0 some)),
      λ few. c.of.ensures.found.1 (subst (λ (rs : List Span). are_spans rs ≡ true) (sym same)
          (spans_lowest c.args.runs.now c.args.n c.front_of-whole.result.0 c.front_of-whole.result.1 c.requires.rising c.front_of-whole.ensures.front c.requires.some few)),
    )
