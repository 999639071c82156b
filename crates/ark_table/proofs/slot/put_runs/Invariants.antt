use Rattle.std.proofs.Common.{◌≡◌, ◌+◌, ◌*◌, ◌++◌, take, drop, flat_map}
use Rattle.ark_table.specs.Area.{run_bytes}
use Rattle.ark_table.proofs.slot.put_runs.Given as goal

abbrev pub invariant-loop-run : goal.invariant-loop-run
invariant-loop-run l = record {
  place : l.place ≡ l.at + 8 * l.run-index;
  laid : l.block ≡ take l.at l.initial.block ++ (flat_map run_bytes (take l.run-index l.runs) ++ drop (l.at + 8 * l.run-index) l.initial.block);
}
