use Rattle.std.proofs.Common.{◌≡◌, ◌≤◌, ◌∙◌, ◌++◌, List, ℕ, true, sym, ap, subst, length, take, IfSome}
use Rattle.ark_base.specs.declared.block.Span.{Span}
use Rattle.ark_extents.specs.Blocks.{blocks_of, runs_of, AreDistinct, ShareNoBlock}
use Rattle.ark_extents.specs.Runs.{are_spans}
use Rattle.ark_extents.proofs.RunLemmas.{blocks_of-runs_of}
use Rattle.ark_extents.proofs.Counting.{joined_spans, spans_few, distinct_blocks, distinct_apart}
use Rattle.ark_extents.proofs.spans.Spans.join.Goals as goal

-- the blocks that were put together
all_blocks : (c : goal.After-of) → c.add_all-2.new.self ≡ c.args.self.now ++ c.args.more.now
all_blocks c =
    let first : c.add_all.new.self ≡ c.args.self.now = c.add_all.ensures.blocks ∙ ap (λ t. t ++ blocks_of (take c.self.inside.count c.self.inside.runs)) c.new-joined.ensures.empty ∙ c.self.view_is in
    c.add_all-2.ensures.blocks ∙ ap (λ t. t ++ blocks_of (take c.more.inside.count c.more.inside.runs)) first ∙ ap (λ t. c.args.self.now ++ t) c.more.view_is

pub returns-clause-blocks : goal.returns-clause-blocks
returns-clause-blocks c =
    subst (λ (bs : List ℕ). IfSome c.of.result (λ s. s ≡ bs)) (ap blocks_of c.runs.ensures.runs ∙ blocks_of-runs_of c.add_all-2.new.self ∙ all_blocks c) c.of.ensures.blocks

pub returns-clause-found : goal.returns-clause-found
returns-clause-found c =
    let xs = take c.self.inside.count c.self.inside.runs in
    let ys = take c.more.inside.count c.more.inside.runs in
    let same : c.runs.result.now ≡ runs_of (c.args.self.now ++ c.args.more.now) = c.runs.ensures.runs ∙ ap runs_of (all_blocks c) in
    let seen : blocks_of xs ++ blocks_of ys ≡ c.args.self.now ++ c.args.more.now = ap (λ t. t ++ blocks_of ys) c.self.view_is ∙ ap (λ t. c.args.self.now ++ t) c.more.view_is in
    let all : blocks_of c.runs.result.now ≡ c.args.self.now ++ c.args.more.now = ap blocks_of c.runs.ensures.runs ∙ blocks_of-runs_of c.add_all-2.new.self ∙ all_blocks c in (
      λ some.
          let are = c.of.ensures.found.0 some in (
            distinct_apart c.args.self.now c.args.more.now (subst (λ (bs : List ℕ). AreDistinct bs) all (distinct_blocks c.runs.result.now are)),
            subst (λ (rs : List Span). length rs ≤ 16) same (spans_few c.runs.result.now are),
          ),
      λ both.
          let apart : ShareNoBlock (blocks_of xs) (blocks_of ys) = subst (λ (bs : List ℕ). ShareNoBlock bs (blocks_of ys)) (sym c.self.view_is) (subst (λ (bs : List ℕ). ShareNoBlock c.args.self.now bs) (sym c.more.view_is) both.0) in
          c.of.ensures.found.1 (subst (λ (rs : List Span). are_spans rs ≡ true) (ap runs_of seen ∙ sym same)
          (joined_spans xs ys c.self.invariant.2 c.more.invariant.2 apart (subst (λ (bs : List ℕ). length (runs_of bs) ≤ 16) (sym seen) both.1))),
    )
