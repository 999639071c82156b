use Rattle.std.proofs.Common.{◌≡◌, false, take}
use Rattle.ark_held.specs.Seen.{paces_any}
use Rattle.ark_held.proofs.app.App.paces.Given as goal

-- the rate paces none of those before
abbrev pub invariant-loop-place : goal.invariant-loop-place
invariant-loop-place l = paces_any l.self.devices.cards l.self.devices.nets.cards l.rate (take l.place l.self.labels) ≡ false
