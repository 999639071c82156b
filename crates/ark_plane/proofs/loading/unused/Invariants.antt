use Rattle.std.proofs.Common.{take}
use Rattle.ark_plane.specs.Loading.{IsUnused, AreApartOn}
use Rattle.ark_plane.proofs.loading.unused.Given as goal

abbrev pub invariant-loop-place : goal.invariant-loop-place
invariant-loop-place l = record {
  free : IsUnused l.blocks (take l.place l.table) l.free;
  apart : AreApartOn l.blocks (take l.place l.table);
}
