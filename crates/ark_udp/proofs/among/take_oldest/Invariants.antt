use Rattle.std.proofs.Common.{◌≡◌, ◌++◌, take, drop}
use Rattle.ark_udp.specs.Socket.{datagrams_at, without_oldest}
use Rattle.ark_udp.proofs.among.take_oldest.Given as goal

abbrev pub invariant-loop-socket : goal.invariant-loop-socket
invariant-loop-socket l = record {
  items : l.socket-items ≡ l.fn.sockets;
  out : l.out ≡ l.fn.out;
  later : datagrams_at l.port (drop l.socket-index l.fn.sockets) ≡ datagrams_at l.port l.fn.sockets;
  before : take l.socket-index l.fn.sockets ++ without_oldest l.port (drop l.socket-index l.fn.sockets) ≡ without_oldest l.port l.fn.sockets;
}
