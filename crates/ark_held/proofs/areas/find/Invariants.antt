use Rattle.std.proofs.Common.{◌≡◌, drop, nat_eq}
use Rattle.std.specs.Map.{lookup}
use Rattle.ark_held.proofs.areas.find.Given as goal

-- the area is among those that were not looked at yet
abbrev pub invariant-loop-area : goal.invariant-loop-area
invariant-loop-area l = lookup (nat_eq l.grant) (drop l.area-index l.areas) ≡ lookup (nat_eq l.grant) l.areas
