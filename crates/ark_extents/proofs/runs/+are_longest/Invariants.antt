use Rattle.std.proofs.Common.{length}
use Rattle.ark_extents.proofs.runs.+are_longest.Given as goal

abbrev pub decreases-are_longest : goal.decreases-are_longest
decreases-are_longest l = length l.runs.now
