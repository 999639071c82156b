use Rattle.std.proofs.Common.{◌≡◌, ◌<◌, ◌*◌, ℕ, List, true, false, length, sym, subst, arith, rules}
use Rattle.ark_media.specs.Blocks.{whole_blocks}
use Rattle.ark_media.specs.Stops.{MayHold, Whole}
use Rattle.ark_memory.specs.Leaving.{front_of}
use Rattle.ark_memory.proofs.Leaving.{size_left, all_left, one_left, part_at}
use Rattle.ark_memory.proofs.recorded.Recorded.may_leave.Goals as goal

pub returns-then-image-blocks : goal.returns-then-image-blocks
returns-then-image-blocks c = record {
  leaves = (λ bad. absurd (cc (bad)), λ leaves. absurd (omega (arith, size_left c.args.self.now c.args.front c.args.image.now leaves, c.if-image-blocks.true, c.blocks-2.ensures)));
}

pub returns-then-not-may_hold : goal.returns-then-not-may_hold
returns-then-not-may_hold c =
    let r = c.args.self.now in
    let bytes = c.args.image.now in
    let n = c.loop-n.n in
    let size : length bytes ≡ 512 * length r.base = omega (arith, c.if-image-blocks.false, c.blocks-2.ensures) in
    let inside : n < length r.base = omega (arith, c.loop-n-test.true, c.blocks-n-end.ensures) in
    let refused : c.may_hold.result ≡ false = search rules in
    record {
      leaves = (
        λ bad. absurd (cc (bad)),
        λ leaves. absurd (cc (refused, c.may_hold.ensures.1 (subst (λ (content : List ℕ). MayHold Whole r.base (front_of r c.args.front) n content) (sym (part_at bytes (length r.base) n size inside)) (leaves.blocks.each n inside)))),
      );
    }

pub loop-n-preserved : goal.loop-n-preserved
loop-n-preserved c =
    let r = c.args.self.now in
    let bytes = c.args.image.now in
    let n = c.loop-n.n in
    let size : length bytes ≡ 512 * length r.base = omega (arith, c.if-image-blocks.false, c.blocks-2.ensures) in
    let inside : n < length r.base = omega (arith, c.loop-n-test.true, c.blocks-n-end.ensures) in
    let allowed : c.may_hold.result ≡ true = search rules in
    one_left r.base (front_of r c.args.front) (whole_blocks bytes) n c.loop-n.invariant
    (subst (λ (content : List ℕ). MayHold Whole r.base (front_of r c.args.front) n content) (part_at bytes (length r.base) n size inside) (c.may_hold.ensures.0 allowed))

pub returns : goal.returns
returns c =
    let r = c.args.self.now in
    let size : length c.args.image.now ≡ 512 * length r.base = omega (arith, c.if-image-blocks.false, c.blocks-2.ensures) in
    record {
      leaves = (
        λ all. all_left r c.args.front c.args.image.now size (λ n inside. c.loop-n.invariant n (omega (arith, inside, c.loop-n-test.false, c.blocks-n-end.ensures))),
        λ leaves. λ i. true,
      );
    }
