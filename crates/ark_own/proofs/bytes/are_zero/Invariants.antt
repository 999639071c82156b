use Rattle.std.proofs.Common.{◌≡◌, nat_eq, take}
use Rattle.ark_own.specs.Bytes.{are_zero}
use Rattle.ark_own.proofs.bytes.are_zero.Given as goal

abbrev pub invariant-loop-b : goal.invariant-loop-b
invariant-loop-b l = nat_eq l.all 0 ≡ are_zero (take l.b-index l.bytes)
