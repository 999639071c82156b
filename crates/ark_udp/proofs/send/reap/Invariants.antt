use Rattle.std.proofs.Common.{◌≡◌, length}
use Rattle.std.specs.Prelude.{All}
use Rattle.ark_udp.specs.Sent.{LiesIn, reaped, space_reaped}
use Rattle.ark_udp.proofs.send.reap.Given as goal

abbrev pub invariant-loop-done : goal.invariant-loop-done
invariant-loop-done l = record {
  ring : reaped l.ring ≡ reaped l.fn.ring;
  space : space_reaped l.ring l.region ≡ space_reaped l.fn.ring l.fn.region;
  sound : All (LiesIn l.fn.region.taken) l.ring.unreaped;
  frames : length l.region.taken ≡ length l.fn.region.taken;
}

abbrev pub decreases-loop-done : goal.decreases-loop-done
decreases-loop-done l = length l.ring.unreaped
