use Rattle.std.proofs.Common.{◌≡◌, ◌≤◌, ◌+◌, ◌-◌, take}
use Rattle.ark_machine.specs.Bytes.{trimmed}
use Rattle.ark_own.proofs.bytes.before_last_zeros.Given as goal

abbrev pub invariant-loop-end : goal.invariant-loop-end
invariant-loop-end l = record {
  trimmed : trimmed (take l.end l.bytes) ≡ trimmed (take l.len l.bytes);
  within : l.end ≤ l.len;
}

abbrev pub decreases-loop-end : goal.decreases-loop-end
decreases-loop-end l = l.end + 1 - l.piece
