use Rattle.std.proofs.Common.{◌≡◌, ◌≤◌, ◌-◌, ◌+◌, ◌*◌, length, sym, ◌∙◌, subst, arith}
use Rattle.std.proofs.lemmas.List.{take_all}
use Rattle.ark_region.specs.Frames.{Wrote, written}
use Rattle.ark_udp.proofs.send.write_frame.Goals as goal

pub returns-clause-wrote : goal.returns-clause-wrote
returns-clause-wrote c =
    let out = c.write_udp.new.out in
    let same = c.write_udp.auto.out in
    let lent = c.part_mut-room.ensures.len in
    let len = c.len.ensures in
    let end = c.write_udp.ensures.end in
    let whole = c.requires.whole in
    let long : length out ≡ c.len.result - 0 = omega (arith, same, lent) in
    let all : length out ≤ c.write_udp.result = omega (arith, same, lent, len, end, whole) in
    let is = sym (take_all c.write_udp.result out all) ∙ c.write_udp.ensures.written in
    subst (λ xs. Wrote c.args.region.now (record { taken = c.args.region.now.taken; bytes = written c.args.region.now.bytes (512 * c.args.buf.now.start + 0) out }) c.args.buf.now 0 xs) is
    (c.part_mut-room.ensures.part out long)
