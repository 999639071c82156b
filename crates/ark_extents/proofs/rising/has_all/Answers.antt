use Rattle.std.proofs.Common.{◌∙◌, ⊎_elim, sym, true≢false}
use Rattle.ark_extents.specs.Runs.{no_run}
use Rattle.ark_extents.proofs.Pieces.{any_at, any_more}
use Rattle.ark_extents.proofs.rising.has_all.Goals as goal

pub returns-then-not-has_piece : goal.returns-then-not-has_piece
returns-then-not-has_piece c = record {
  had = (
    λ t. absurd (true≢false (sym t)),
    λ all. sym c.if-not-has_piece.true ∙ c.has_piece.ensures.had.1 (λ n h. all n (any_at c.args.pieces.now c.loop-piece.piece-index no_run n c.loop-piece-test.true h)),
  );
}

pub loop-piece-preserved : goal.loop-piece-preserved
loop-piece-preserved c = record {
  had = λ n a. ⊎_elim (λ x. c.loop-piece.invariant.had n x) (λ h. c.has_piece.ensures.had.0 c.if-not-has_piece.false n h) ((any_more c.args.pieces.now c.loop-piece.piece-index no_run n c.loop-piece-test.true).0 a);
}
