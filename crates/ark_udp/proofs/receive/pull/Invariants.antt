use Rattle.std.proofs.Common.{◌≡◌, ◌≤◌, ◌+◌, length}
use Rattle.std.specs.Prelude.{All}
use Rattle.ark_vic.specs.Queue.{members}
use Rattle.ark_udp.specs.Received.{IsReceived, posted_again}
use Rattle.ark_udp.proofs.Pulling.{gets}
use Rattle.ark_udp.proofs.receive.pull.Given as goal

abbrev pub invariant-loop : goal.invariant-loop
invariant-loop l = record {
  sockets : gets l.own l.region l.ring.unreaped l.sockets ≡ gets l.own l.region l.fn.ring.unreaped l.fn.sockets;
  ring : posted_again l.ring ≡ posted_again l.fn.ring;
  sound : All (IsReceived l.region.taken) l.ring.unreaped;
  few : length l.ring.unreaped + l.counter ≤ l.end;
  room : members l.ring ≤ l.ring.size;
}
