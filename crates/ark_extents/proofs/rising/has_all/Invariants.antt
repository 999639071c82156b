use Rattle.std.proofs.Common.{ℕ, take}
use Rattle.ark_extents.specs.Free.{AnyHas}
use Rattle.ark_extents.proofs.rising.has_all.Given as goal

abbrev pub invariant-loop-piece : goal.invariant-loop-piece
invariant-loop-piece l = record { had : (n : ℕ) → AnyHas (take l.piece-index l.pieces) n → AnyHas l.runs n }
