use Rattle.std.proofs.Common.{◌≡◌, ◌+◌, ◌-◌, ◌*◌, ◌∙◌, length, refl, ap, arith}
use borrow.Rule.Slice.PartMut.{mid_len}
use Rattle.ark_media.specs.Journal.{block, current}
use Rattle.ark_chain.proofs.Payloads.{block_added}
use Rattle.ark_chain.proofs.single.read_block.Goals as goal

pub returns-clause-block : goal.returns-clause-block
returns-clause-block g c h is =
    let k = c.args.k in
    let whole : length c.read.new.out ≡ 512 = c.read.auto.out ∙ mid_len (512 * k) (512 * k + 512) c.args.out.now c.requires.room ∙ omega arith in
    block_added c.args.from.now.room c.args.from.now.start k (512 * k + 512 - 512 * k) c.args.out.now _ c.read.new.out (current h.base h.journal) (omega (arith, c.requires.room)) (omega arith) whole refl
    (c.in_ok-read.ensures.honest.told h is ∙ ap (block (current h.base h.journal)) c.place.ensures.place)
