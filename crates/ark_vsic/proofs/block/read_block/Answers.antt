use Rattle.std.proofs.Common.{◌≡◌, ◌+◌, ◌*◌, ◌-◌, length, ◌∙◌, arith}
use Rattle.ark_vsic.proofs.Reading.{left_by_read}
use Rattle.ark_vsic.proofs.block.read_block.Goals as goal

pub returns-clause-region : goal.returns-clause-region
returns-clause-region g c =
    let at = c.args.head.now.from + 512 * c.args.k in
    let e : (at + 512) - at ≡ 512 = omega arith in
    let lent = c.part_mut-part.ensures.len ∙ e in
    let long : length c.read.new.out ≡ 512 = omega (arith, c.read.auto.out, lent) in
    left_by_read c.args.region.now c.args.head.now c.args.k c.args.n _ c.in-Some.buf c.part_mut-part.result.now c.read.new.out c.read.result c.is_ok.result
    c.requires.reads c.in-Some.is c.requires.sound c.is_ok.ensures.value c.part_mut-part.ensures.value lent long
    (c.part_mut-part.ensures.part c.read.new.out (let m : length c.read.new.out ≡ (at + 512) - at = omega (arith, long) in m)) c.read.ensures.honest c.read.ensures.unread
