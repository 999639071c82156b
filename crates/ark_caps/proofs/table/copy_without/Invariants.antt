use Rattle.std.proofs.Common.{◌≡◌, ◌≤◌, ◌+◌, take, length, filter, not}
use Rattle.std.specs.Str.{bytes_eq}
use Rattle.indexmap.specs.IndexMap.{spare}
use Rattle.ark_caps.proofs.table.copy_without.Given as goal

abbrev pub invariant-loop-i : goal.invariant-loop-i
invariant-loop-i l = record {
  entries : l.to.entries ≡ filter (λ e. not (bytes_eq l.label e.0)) (take l.i l.from.entries);
  within : length l.to.entries ≤ l.i;
  room : 64 ≤ length l.to.entries + spare l.to;
}
