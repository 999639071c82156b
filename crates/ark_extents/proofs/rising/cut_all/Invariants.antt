use Rattle.std.proofs.Common.{◌≤◌, ◌+◌, ◌↔◌, ℕ, take, length, vec_capacity}
use Rattle.ark_extents.specs.Free.{AreRising, AnyHas}
use Rattle.ark_extents.proofs.rising.cut_all.Given as goal

abbrev pub invariant-loop-piece : goal.invariant-loop-piece
invariant-loop-piece l = record {
  rising : AreRising 0 l.runs.items;
  lost : (n : ℕ) → AnyHas l.runs.items n ↔ (AnyHas l.initial.runs.items n × (AnyHas (take l.piece-index l.pieces) n → ⊥));
  len : length l.runs.items ≤ length l.initial.runs.items + l.piece-index;
  capacity : vec_capacity l.initial.runs ≤ vec_capacity l.runs;
}
