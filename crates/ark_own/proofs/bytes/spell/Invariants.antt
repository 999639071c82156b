use Rattle.std.proofs.Common.{◌≡◌, ◌*◌, ◌++◌, take, drop}
use Rattle.ark_script.specs.Line.{spelled}
use Rattle.ark_own.proofs.bytes.spell.Given as goal

abbrev pub invariant-loop-i : goal.invariant-loop-i
invariant-loop-i l = l.room ≡ spelled (take (2 * l.i) l.hex.digits.now) ++ drop l.i l.initial.room
