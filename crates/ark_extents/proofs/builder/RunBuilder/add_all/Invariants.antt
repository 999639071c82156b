use Rattle.std.proofs.Common.{◌≡◌, ◌≤◌, ◌+◌, ◌++◌, length, take}
use Rattle.ark_extents.specs.Blocks.{blocks_of, runs_of}
use Rattle.ark_extents.proofs.builder.RunBuilder.add_all.Given as goal

abbrev pub invariant-loop-run : goal.invariant-loop-run
invariant-loop-run l = record {
  blocks : l.self ≡ l.initial.self ++ blocks_of (take l.run-index l.runs);
  room : length (runs_of l.self) ≤ length (runs_of l.initial.self) + l.run-index;
}
