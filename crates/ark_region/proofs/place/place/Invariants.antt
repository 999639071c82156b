use Rattle.std.proofs.Common.{◌<◌, ℕ, length}
use Rattle.ark_region.specs.Frames.{IsTaken, IsFreeRun}
use Rattle.ark_region.proofs.place.place.Given as goal

abbrev pub invariant-loop-start : goal.invariant-loop-start
invariant-loop-start l = (j : ℕ) → j < l.start → ¬ IsFreeRun (IsTaken l.taken) (length l.taken) l.count j
