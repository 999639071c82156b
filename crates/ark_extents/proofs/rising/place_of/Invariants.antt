use Rattle.std.proofs.Common.{take}
use Rattle.ark_extents.specs.Free.{EndBy}
use Rattle.ark_extents.proofs.rising.place_of.Given as goal

abbrev pub invariant-loop-i : goal.invariant-loop-i
invariant-loop-i l = record { before : EndBy (take l.i l.runs) l.n }
