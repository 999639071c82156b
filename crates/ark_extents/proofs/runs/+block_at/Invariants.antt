use Rattle.std.proofs.Common.{length}
use Rattle.ark_extents.proofs.runs.+block_at.Given as goal

abbrev pub decreases-block_at : goal.decreases-block_at
decreases-block_at l = length l.runs.now
