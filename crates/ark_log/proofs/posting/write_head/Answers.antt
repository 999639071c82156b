use Rattle.std.proofs.Common.{◌≡◌, ◌+◌, ◌-◌, ◌*◌, length, subst, arith}
use Rattle.ark_region.specs.Frames.{Wrote, written}
use Rattle.ark_log.proofs.posting.write_head.Goals as goal

pub returns : goal.returns
returns c =
    let region = c.args.region.now in
    let out = c.write_header.new.out in
    let long : length out ≡ c.len.result - 0 = omega (arith, c.write_header.auto.out, c.part_mut-bytes.ensures.len) in
    subst (λ xs. Wrote region (record { taken = region.taken; bytes = written region.bytes (512 * c.args.buf.now.start + 0) out }) c.args.buf.now 0 xs) c.write_header.ensures (c.part_mut-bytes.ensures.part out long)
