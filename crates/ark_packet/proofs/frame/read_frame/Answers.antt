use Rattle.std.proofs.Common.{◌∙◌}
use Rattle.ark_packet.proofs.Sums.{rest_from}
use Rattle.ark_packet.proofs.Numbers.{number_from}
use Rattle.ark_packet.proofs.Frames.{packet_is}
use Rattle.ark_packet.proofs.frame.read_frame.Goals as goal

pub returns-clause-ip : goal.returns-clause-ip
returns-clause-ip c = packet_is _ c.args.bytes.now _ _ (c.read_u16-proto.ensures ∙ number_from c.args.bytes.now 12) (rest_from c.args.bytes.now 14) c.read_ip_of.ensures

pub returns-clause-frame : goal.returns-clause-frame
returns-clause-frame c = record {
  bytes = c.args.bytes.now;
  at_least = c.requires.at_least;
  at_most = c.requires.at_most;
  says = record {
    to = c.read_mac.ensures;
    from = c.read_mac-2.ensures;
    proto = c.read_u16-proto.ensures ∙ number_from c.args.bytes.now 12;
    ip = packet_is _ c.args.bytes.now _ _ (c.read_u16-proto.ensures ∙ number_from c.args.bytes.now 12) (rest_from c.args.bytes.now 14) c.read_ip_of.ensures;
  };
}
