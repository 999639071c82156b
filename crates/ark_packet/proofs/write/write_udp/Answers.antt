use Rattle.std.proofs.Common.{ap, ◌∙◌, take, arith}
use Rattle.ark_packet.specs.Frame.{target_of, source_of, packet_in}
use Rattle.ark_packet.specs.Udp.{datagram_in}
use Rattle.ark_packet.proofs.Laying.{four_laid, four_left, frame_laid, part_laid}
use Rattle.ark_packet.proofs.Reading.{datagram_with, part_back, part_is, target_is, source_is}
use Rattle.ark_packet.proofs.write.write_udp.Goals as goal

pub returns-clause-written : goal.returns-clause-written
returns-clause-written c =
    frame_laid c.args.own.now (datagram_with c.args.own.now.ip c.args.to c.args.from_port c.args.to_port c.args.payload.now) (take c.put.result c.put.new.out)
    c.link_header-link.result c.right_ip_header-ip.result c.udp_header.result
    (four_laid c.args.out.now c.put-at.new.out c.put-at-2.new.out c.put-at-3.new.out c.put.new.out
    c.link_header-link.result c.right_ip_header-ip.result c.udp_header.result c.args.payload.now
    c.put-at.result c.put-at-2.result c.put-at-3.result c.put.result
    c.put-at.ensures.before c.put-at-2.ensures.before c.put-at-3.ensures.before c.put.ensures.before)
    c.link_header-link.ensures.octets
    (part_laid (datagram_with c.args.own.now.ip c.args.to c.args.from_port c.args.to_port c.args.payload.now)
    c.right_ip_header-ip.result c.udp_header-bare.result c.udp_header.result c.udp_sum-sum.result
    c.right_ip_header-ip.ensures c.udp_header-bare.ensures c.udp_sum-sum.ensures.sum c.udp_header.ensures)

pub returns-clause-rest : goal.returns-clause-rest
returns-clause-rest c =
    four_left c.args.out.now c.put-at.new.out c.put-at-2.new.out c.put-at-3.new.out c.put.new.out c.put-at.result c.put-at-2.result c.put-at-3.result c.put.result
    (omega arith) (omega arith) (omega arith) c.put-at.ensures.after c.put-at-2.ensures.after c.put-at-3.ensures.after c.put.ensures.after

pub returns-clause-target : goal.returns-clause-target
returns-clause-target c =
    ap target_of (returns-clause-written c)
    ∙ target_is c.args.own.now (datagram_with c.args.own.now.ip c.args.to c.args.from_port c.args.to_port c.args.payload.now) c.link_header-link.ensures.gateway_length

pub returns-clause-source : goal.returns-clause-source
returns-clause-source c =
    ap source_of (returns-clause-written c)
    ∙ source_is c.args.own.now (datagram_with c.args.own.now.ip c.args.to c.args.from_port c.args.to_port c.args.payload.now)
    c.link_header-link.ensures.gateway_length c.link_header-link.ensures.mac_length

pub returns-clause-read_back : goal.returns-clause-read_back
returns-clause-read_back c =
    ap (λ t. datagram_in (packet_in t)) (returns-clause-written c)
    ∙ ap datagram_in (part_is c.args.own.now (datagram_with c.args.own.now.ip c.args.to c.args.from_port c.args.to_port c.args.payload.now)
    c.link_header-link.ensures.gateway_length c.link_header-link.ensures.mac_length)
    ∙ part_back c.args.own.now.ip c.args.to c.args.from_port c.args.to_port c.args.payload.now c.udp_sum-sum.ensures.from c.udp_sum-sum.ensures.to
    (omega arith) (omega arith) (λ i. omega (arith, c.type_inv.payload i)) c.requires.at_most
