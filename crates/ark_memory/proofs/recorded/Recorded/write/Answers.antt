use Rattle.std.proofs.Common.{◌≡◌, ◌≤◌, ◌+◌, ◌*◌, ◌++◌, List, ℕ, length, take, drop, ap, subst, arith, rules}
use Rattle.ark_memory.specs.Reels.{Taped}
use Rattle.ark_media.specs.Blocks.{whole_blocks}
use Rattle.ark_memory.proofs.Recording.{missed_image, image_size, write_image, written_back, is_inside}
use Rattle.ark_memory.proofs.recorded.Recorded.write.Goals as goal

pub put_block-requires-clause-inside : goal.put_block-requires-clause-inside
put_block-requires-clause-inside c =
    let r = c.self.inside in
    let size : 512 * c.args.n + 512 ≤ length r.image.items = image_size r.image.items (whole_blocks r.base.items) r.tape.events c.args.n c.self.invariant.0 (is_inside c.args.n _ _ c.self.view_is c.requires.inside) in
    search rules

pub invariant_of-self-then-took : goal.invariant_of-self-then-took
invariant_of-self-then-took c =
    let r = c.self.inside in
    let size : length c.put_block.new.image ≡ r.image.len = omega (arith, c.put_block.auto.image, c.deref_mut.ensures.len) in
    let back : take r.image.len (c.put_block.new.image ++ drop (length c.put_block.new.image) r.image.items) ≡ c.put_block.new.image = written_back r.image.len c.put_block.new.image (drop (length c.put_block.new.image) r.image.items) size in
    let done : c.put_block.new.image ≡ take (512 * c.args.n) r.image.items ++ (c.args.block.now ++ drop (512 * c.args.n + 512) r.image.items) = subst (λ (x : List ℕ). c.put_block.new.image ≡ take (512 * c.args.n) x ++ (c.args.block.now ++ drop (512 * c.args.n + 512) x)) c.deref_mut.ensures.value c.put_block.ensures in
    rw back (
      write_image r.image.items c.put_block.new.image (whole_blocks r.base.items) r.tape.events c.write.new.self.events c.args.n c.args.block.now c.takes-took.result c.works.result
          (ap (λ (t : Taped). t.events) c.write.ensures) c.if-took.true (is_inside c.args.n _ _ c.self.view_is c.requires.inside) c.requires.whole done c.self.invariant.0,
      c.self.invariant.1,
      c.self.invariant.2,
    )

pub invariant_of-self-else-took : goal.invariant_of-self-else-took
invariant_of-self-else-took c =
    let r = c.self.inside in (
      missed_image r.image.items (whole_blocks r.base.items) r.tape.events c.write.new.self.events c.args.n c.args.block.now c.takes-took.result c.works.result (ap (λ (t : Taped). t.events) c.write.ensures) c.if-took.false c.self.invariant.0,
      c.self.invariant.1,
      c.self.invariant.2,
    )
