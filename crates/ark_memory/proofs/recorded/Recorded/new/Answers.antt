use Rattle.std.proofs.Common.{◌≡◌, [], length, ap, arith}
use Rattle.ark_memory.specs.Reels.{Taped}
use Rattle.ark_memory.proofs.Recording.{no_image, first_reel}
use Rattle.ark_memory.proofs.recorded.Recorded.new.Goals as goal

pub invariant_of-result : goal.invariant_of-result
invariant_of-result c =
    let base : c.in_ok-with_capacity.field-0.items ≡ [] = c.in_ok-with_capacity.ensures.items in
    let image : c.in_ok-with_capacity-2.field-0.items ≡ [] = c.in_ok-with_capacity-2.ensures.items in (
      no_image c.in_ok-with_capacity-2.field-0.items c.in_ok-with_capacity.field-0.items c.in_ok-new.field-0.events image base (ap (λ (t : Taped). t.events) c.in_ok-new.ensures),
      omega (arith, ap length base),
      (c.in_ok-with_capacity.ensures.capacity, c.in_ok-with_capacity-2.ensures.capacity),
    )

pub returns : goal.returns
returns c = first_reel c.in_ok-with_capacity.field-0.items c.in_ok-new.field-0 c.args.limit c.args.events c.args.text c.in_ok-with_capacity.ensures.items c.in_ok-new.ensures
