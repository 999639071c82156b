use Rattle.std.proofs.Common.{◌≡◌, ◌<◌, ℕ, length, get_or}
use Rattle.ark_packet.specs.Sum.{plus, ones_sum}
use Rattle.ark_packet.proofs.sum.add_octets.Given as goal

abbrev pub invariant-loop-rest : goal.invariant-loop-rest
invariant-loop-rest l = record {
  same : plus l.sum (ones_sum l.rest) ≡ plus l.fn.start (ones_sum l.fn.octets);
  fits : l.sum < 65536;
  octets : (k : ℕ) → get_or l.rest k 0 < 256;
}

abbrev pub decreases-loop-rest : goal.decreases-loop-rest
decreases-loop-rest l = length l.rest
