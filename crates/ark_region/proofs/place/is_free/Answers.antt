use Rattle.std.proofs.Common.{arith}
use Rattle.ark_region.proofs.Placing.{fits_test}
use Rattle.ark_region.proofs.place.is_free.Goals as goal

pub returns-then-count-taken : goal.returns-then-count-taken
returns-then-count-taken c = rw c.are_free.ensures (fits_test c.args.taken.now c.args.start c.args.count (omega arith))
