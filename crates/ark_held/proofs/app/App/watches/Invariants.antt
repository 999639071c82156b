use Rattle.std.proofs.Common.{◌≡◌, false, take}
use Rattle.ark_held.specs.Seen.{sees_any}
use Rattle.ark_held.proofs.app.App.watches.Given as goal

-- none of those before watches
abbrev pub invariant-loop-place : goal.invariant-loop-place
invariant-loop-place l = sees_any l.self.devices.cards l.self.devices.nets.cards l.door (take l.place l.self.labels) ≡ false
