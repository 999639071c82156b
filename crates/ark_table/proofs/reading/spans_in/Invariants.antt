use Rattle.std.proofs.Common.{◌≡◌, length, take, drop}
use Rattle.ark_table.specs.Area.{runs_in}
use Rattle.ark_table.proofs.reading.spans_in.Given as goal

abbrev pub invariant-loop-i : goal.invariant-loop-i
invariant-loop-i l = record { long : length l.runs ≡ 16; read : take l.i l.runs ≡ runs_in l.i (drop 38 l.block) }
