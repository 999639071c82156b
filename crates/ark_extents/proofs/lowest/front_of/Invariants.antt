use Rattle.std.proofs.Common.{◌≡◌, ◌≤◌, ◌+◌, length, take}
use Rattle.ark_extents.specs.Blocks.{blocks_of}
use Rattle.ark_extents.proofs.lowest.front_of.Given as goal

abbrev pub invariant-loop-i : goal.invariant-loop-i
invariant-loop-i l = record { some : 1 ≤ l.left; total : l.n ≡ length (blocks_of (take l.i l.runs)) + l.left }
