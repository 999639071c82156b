use Rattle.std.proofs.Common.{◌≡◌, ◌++◌, map, take, drop}
use Rattle.ark_udp.specs.Received.{delivered}
use Rattle.ark_udp.proofs.among.deliver.Given as goal

abbrev pub invariant-loop-socket : goal.invariant-loop-socket
invariant-loop-socket l =
    let f = delivered l.udp.to_port (record { ip = l.udp.from; port = l.udp.from_port; payload = l.udp.payload.now }) in
    l.socket-items ≡ map f (take l.socket-index l.fn.sockets) ++ drop l.socket-index l.fn.sockets
