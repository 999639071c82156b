use Rattle.std.proofs.Common.{◌≡◌, ◌==◌, drop, option_map}
use Rattle.std.specs.List.{find}
use Rattle.ark_vsic.proofs.place.spans_of.Given as goal

-- the area is among those that were not looked at yet
abbrev pub invariant-loop-area : goal.invariant-loop-area
invariant-loop-area l = option_map (λ a. a.1) (find (λ a. a.0 == l.grant) (drop l.area-index l.held)) ≡ option_map (λ a. a.1) (find (λ a. a.0 == l.grant) l.held)
