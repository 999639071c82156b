use Rattle.std.proofs.Common.{◌+◌, ◌*◌, List, ℕ, sym, subst, arith}
use Rattle.ark_region.specs.Frames.{Wrote, written}
use Rattle.ark_script.specs.Line.{spelled}
use Rattle.ark_own.proofs.OfBytes.{spelled_room, half_digits}
use Rattle.ark_own.proofs.bytes.spell_part.Goals as goal

pub returns : goal.returns
returns c =
    let digits = c.args.hex.now.digits.now in
    let room = c.part_mut.ensures.len in
    let half = half_digits digits c.args.hex.now.even in
    let is = spelled_room digits c.part_mut.result.now c.spell.new.room (omega (arith, room)) c.spell.ensures.spells in
    record {
      wrote = subst (λ (z : List ℕ). Wrote c.args.region.now (record c.args.region.now { bytes = written c.args.region.now.bytes (512 * c.args.buf.now.start + c.args.at) z }) c.args.buf.now c.args.at (spelled digits)) (sym is)
          (c.part_mut.ensures.part (spelled digits) (omega (arith, half)));
    }
