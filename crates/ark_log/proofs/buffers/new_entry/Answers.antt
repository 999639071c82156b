use Rattle.std.proofs.Common.{◌≡◌, ℕ, ◌+◌, ◌-◌, ◌*◌, length, subst, arith}
use Rattle.std.proofs.lemmas.List.{length-replicate}
use Rattle.ark_region.specs.Frames.{written}
use Rattle.ark_log.specs.Buffers.{HasNoPlace, IsNewBuffer}
use Rattle.ark_log.proofs.NewBuffers.{written_whole}
use Rattle.ark_log.proofs.buffers.new_entry.Goals as goal

pub returns-clause-made : goal.returns-clause-made
returns-clause-made c =
    let b = c.in-Some.buf in
    let region = c.args.region.now in
    let mid = c.new_buffer.new.region in
    let out = c.write_entry.new.out in
    let long : length out ≡ c.len.result - 0 = omega (arith, c.write_entry.auto.out, c.part_mut-bytes.ensures.len) in
    let size : length out ≡ 512 * c.entry_blocks.result = omega (arith, long, c.len.ensures, c.in-Some.ensures.len) in
    let zeros = length-replicate {A = ℕ} (512 * c.entry_blocks.result) 0 in
    subst (λ xs. IsNewBuffer region (record { taken = mid.taken; bytes = written mid.bytes (512 * b.start + 0) out }) xs b) c.write_entry.ensures
    (written_whole region mid _ b _ out c.in-Some.ensures.made (omega (arith, zeros, size)) (c.part_mut-bytes.ensures.part out long))

pub returns-in_default-clause-none : goal.returns-in_default-clause-none
returns-in_default-clause-none c = subst (λ n. HasNoPlace c.args.region.now.taken (512 * n)) c.entry_blocks.ensures c.in_default.ensures.none
