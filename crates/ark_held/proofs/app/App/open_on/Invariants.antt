use Rattle.std.proofs.Common.{◌≡◌, take}
use Rattle.std.specs.Prelude.{None}
use Rattle.ark_held.specs.OpenLogs.{opened_on}
use Rattle.ark_held.proofs.app.App.open_on.Given as goal

-- it is open on none of those before
abbrev pub invariant-loop-place : goal.invariant-loop-place
invariant-loop-place l = opened_on l.self.devices.cards l.grant (take l.place l.self.labels) ≡ None
