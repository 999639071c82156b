use Rattle.std.proofs.Common.{inl, inr, ⊎_elim, arith}
use Rattle.ark_extents.specs.Runs.{no_run}
use Rattle.ark_extents.proofs.Counting.{spans_parts}
use Rattle.ark_extents.proofs.Pieces.{any_at, any_more, none_before}
use Rattle.ark_extents.proofs.rising.add_all.Goals as goal

pub add-requires-clause-apart : goal.add-requires-clause-apart
add-requires-clause-apart c n h a =
    let ps = c.args.pieces.now in
    let i = c.loop-piece.piece-index in
    ⊎_elim (λ old. c.requires.apart n (any_at ps i no_run n c.loop-piece-test.true h) old) (λ b. none_before ps i no_run n (spans_parts ps c.requires.spans).shared c.loop-piece-test.true b h)
    ((c.loop-piece.invariant.gained n).0 a)

pub loop-piece-preserved : goal.loop-piece-preserved
loop-piece-preserved c = record {
  rising = c.add.ensures.rising;
  gained = λ n.
      let more = any_more c.args.pieces.now c.loop-piece.piece-index no_run n c.loop-piece-test.true in
      let before = c.loop-piece.invariant.gained n in
      let now = c.add.ensures.gained n in (
        λ a. ⊎_elim (λ x. ⊎_elim (λ old. inl old) (λ p. inr (more.1 (inl p))) (before.0 x)) (λ h. inr (more.1 (inr h))) (now.0 a),
        λ a. now.1 (⊎_elim (λ old. inl (before.1 (inl old))) (λ p. ⊎_elim (λ q. inl (before.1 (inr q))) (λ h. inr h) (more.0 p)) a),
      );
  len = omega (arith, c.add.ensures.len, c.loop-piece.invariant.len);
  capacity = omega (arith, c.add.ensures.capacity, c.loop-piece.invariant.capacity);
}
