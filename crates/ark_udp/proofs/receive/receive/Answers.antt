use Rattle.std.proofs.Common.{◌≤◌, length, sym, ap, ◌∙◌, subst}
use Rattle.std.specs.Prelude.{IfOk}
use Rattle.ark_packet.specs.Udp.{datagram_in}
use Rattle.ark_udp.proofs.Short.{short_payload}
use Rattle.ark_udp.proofs.receive.receive.Goals as goal

pub deliver-requires : goal.deliver-requires
deliver-requires c = record {
  short = subst (λ r. IfOk r (λ d. length d.payload ≤ 1472)) (sym (c.in-Ok.ensures ∙ ap datagram_in c.read_frame-frame.ensures.ip)) (short_payload c.args.frame.now c.requires.at_most);
}
