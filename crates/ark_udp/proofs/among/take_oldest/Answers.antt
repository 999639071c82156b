use Rattle.std.proofs.Common.{◌≡◌, sym, ap, ◌∙◌, subst, slice_set, slice_index_or}
use Rattle.ark_udp.proofs.OneSocket.{given, taken_out}
use Rattle.ark_udp.proofs.among.take_oldest.Goals as goal

pub returns-then-port-clause-rest : goal.returns-then-port-clause-rest
returns-then-port-clause-rest c =
    let i = c.loop-socket.socket-index in
    let x = c.socket-item.result in
    let items = c.loop-socket.invariant.items in
    ap (λ xs. slice_set xs i c.take_oldest.new.self) items
    ∙ taken_out c.args.port c.args.sockets.now i x c.take_oldest.new.self c.loop-socket-test.true
    (subst (λ xs. x ≡ slice_index_or xs i x) items c.socket-item.is) (ap (λ s. s.port) c.socket-item.is ∙ sym c.port.ensures ∙ c.if-port.true)
    (c.take_oldest.ensures.rest ∙ ap given (sym c.socket-item.is)) c.loop-socket.invariant.before
