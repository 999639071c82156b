use Rattle.std.proofs.Common.{◌≡◌, ℕ, List, ◌<◌}
use Rattle.std.specs.Prelude.{Some, slice_get}
use Rattle.ark_caps.specs.declared.capability.CapKind.TheVariants as cap_kind
use Rattle.ark_caps.specs.declared.capability.Capability.{Capability}
use Rattle.ark_own.proofs.keys.net_of.Given as goal

abbrev pub invariant-loop-i : goal.invariant-loop-i
invariant-loop-i l = (k : ℕ) (label : List ℕ) (c : Capability) → k < l.i → slice_get l.labels k ≡ Some (label, c) → c.kind ≡ cap_kind.Vnic → c.grant ≡ l.grant → ⊥
