use Rattle.std.proofs.Common.{length}
use Rattle.ark_extents.proofs.runs.+share_none.Given as goal

abbrev pub decreases-share_none : goal.decreases-share_none
decreases-share_none l = length l.runs.now
