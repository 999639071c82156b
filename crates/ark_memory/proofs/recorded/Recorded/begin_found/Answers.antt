use Rattle.std.proofs.Common.{◌≡◌, length, ap, arith, rules}
use Rattle.ark_memory.specs.Reels.{Taped}
use Rattle.ark_memory.proofs.Recording.{found_image}
use Rattle.ark_memory.proofs.recorded.Recorded.begin_found.Goals as goal

pub invariant_of-self-2 : goal.invariant_of-self-2
invariant_of-self-2 c =
    let r = c.self.inside in
    let base : c.extend_from_slice.new.self.items ≡ c.args.device.now = search rules in
    let image : c.extend_from_slice-2.new.self.items ≡ c.args.device.now = search rules in (
      found_image c.extend_from_slice-2.new.self.items c.extend_from_slice.new.self.items c.clear.new.self.events c.args.device.now c.requires.whole image base (ap (λ (t : Taped). t.events) c.clear.ensures),
      omega (arith, ap length base, c.if-device.false),
      (omega (arith, c.extend_from_slice.ensures.capacity), omega (arith, c.extend_from_slice-2.ensures.capacity)),
    )
