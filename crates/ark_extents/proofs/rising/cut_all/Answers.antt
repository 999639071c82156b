use Rattle.std.proofs.Common.{inl, inr, ⊎_elim, arith}
use Rattle.ark_extents.specs.Runs.{no_run}
use Rattle.ark_extents.proofs.Counting.{spans_parts}
use Rattle.ark_extents.proofs.Pieces.{any_at, any_more, none_before}
use Rattle.ark_extents.proofs.rising.cut_all.Goals as goal

pub cut-requires-clause-had : goal.cut-requires-clause-had
cut-requires-clause-had c n h =
    let ps = c.args.pieces.now in
    let i = c.loop-piece.piece-index in
    (c.loop-piece.invariant.lost n).1 (c.requires.had n (any_at ps i no_run n c.loop-piece-test.true h), λ a. none_before ps i no_run n (spans_parts ps c.requires.spans).shared c.loop-piece-test.true a h)

pub loop-piece-preserved : goal.loop-piece-preserved
loop-piece-preserved c = record {
  rising = c.cut.ensures.rising;
  lost = λ n.
      let more = any_more c.args.pieces.now c.loop-piece.piece-index no_run n c.loop-piece-test.true in
      let before = c.loop-piece.invariant.lost n in
      let now = c.cut.ensures.lost n in (
        λ a. let x = now.0 a in let y = before.0 x.0 in (y.0, λ p. ⊎_elim (λ q. y.1 q) (λ q. x.1 q) (more.0 p)),
        λ a. now.1 (before.1 (a.0, λ p. a.1 (more.1 (inl p))), λ p. a.1 (more.1 (inr p))),
      );
  len = omega (arith, c.cut.ensures.len, c.loop-piece.invariant.len);
  capacity = omega (arith, c.cut.ensures.capacity, c.loop-piece.invariant.capacity);
}
