use Rattle.ark_filters.proofs.Mapped.{mapped_more}
use Rattle.ark_udp.specs.Received.{delivered}
use Rattle.ark_udp.proofs.among.deliver.Goals as goal

pub loop-socket-preserved : goal.loop-socket-preserved
loop-socket-preserved c =
    mapped_more (delivered c.args.udp.now.to_port (record { ip = c.args.udp.now.from; port = c.args.udp.now.from_port; payload = c.args.udp.now.payload.now }))
    c.args.sockets.now c.loop-socket.socket-items c.loop-socket.socket-index _ c.deliver.new.self c.loop-socket-test.true c.loop-socket.invariant c.deliver.ensures
