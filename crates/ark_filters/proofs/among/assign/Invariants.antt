use Rattle.std.proofs.Common.{◌≡◌, ◌++◌, map, take, drop}
use Rattle.ark_filters.specs.Rules as spec
use Rattle.ark_filters.proofs.among.assign.Given as goal

abbrev pub invariant-loop-live : goal.invariant-loop-live
invariant-loop-live l = l.live-items ≡ map (spec.assigned l.grant l.vnic) (take l.live-index l.fn.rules) ++ drop l.live-index l.fn.rules
