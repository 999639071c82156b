use Rattle.std.proofs.Common.{◌≡◌, ◌+◌, drop, vec_len, vec_capacity}
use Rattle.ark_extents.proofs.lowest.drop_front.Given as goal

abbrev pub invariant-loop : goal.invariant-loop
invariant-loop l = record {
  items : l.runs.items ≡ drop l.counter l.initial.runs.items;
  len : vec_len l.runs + l.counter ≡ vec_len l.initial.runs;
  capacity : vec_capacity l.runs ≡ vec_capacity l.initial.runs;
}
