use Rattle.std.proofs.Common.{◌≡◌, nat_eq, drop}
use Rattle.std.specs.List.{list_any}
use Rattle.ark_udp.proofs.among.has_port.Given as goal

abbrev pub invariant-loop-socket : goal.invariant-loop-socket
invariant-loop-socket l = list_any (λ s. nat_eq s.port l.port) (drop l.socket-index l.sockets) ≡ list_any (λ s. nat_eq s.port l.port) l.sockets
