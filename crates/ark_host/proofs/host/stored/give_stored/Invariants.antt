use Rattle.std.proofs.Common.{◌≡◌, ℕ, take}
use Rattle.ark_held.specs.Inside.{AreasInside}
use Rattle.ark_host.specs.Given.{HasGiven}
use Rattle.ark_plane.specs.Shared.{TableInside}
use Rattle.ark_host.proofs.host.stored.give_stored.Given as goal

abbrev pub invariant-loop-place : goal.invariant-loop-place
invariant-loop-place l = record {
  name : l.app.name ≡ l.initial.app.name;
  region : l.app.store.region ≡ l.initial.app.store.region;
  given : HasGiven l.initial.app.name (take l.place l.table) l.app;
  inside : (size : ℕ) → TableInside size l.table → AreasInside size l.app.areas;
}
