use Rattle.std.proofs.Common.{◌≡◌, ◌+◌, length, drop}
use Rattle.ark_extents.specs.Blocks.{blocks_of}
use Rattle.ark_extents.proofs.runs.count_of.Given as goal

abbrev pub invariant-loop-run : goal.invariant-loop-run
invariant-loop-run l = record { size : l.count + length (blocks_of (drop l.run-index l.runs)) ≡ length (blocks_of l.runs) }
