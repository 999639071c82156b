use Rattle.std.proofs.Common.{ap, ◌∙◌, nat_eq}
use Rattle.ark_packet.specs.Sum.{ones_sum}
use Rattle.ark_packet.specs.Udp.{covered}
use Rattle.ark_packet.proofs.Numbers.{number_from}
use Rattle.ark_packet.proofs.Covering.{cut_in_two, unless_zero}
use Rattle.ark_packet.proofs.udp.is_sum_right.Goals as goal

pub returns : goal.returns
returns c =
    ap (λ n. nat_eq n 65535) (c.covered_sum.ensures ∙ ap (λ t. ones_sum (covered c.args.ip.now.from c.args.ip.now.to c.args.ip.now.protocol t)) (cut_in_two c.args.octets.now 8))
    ∙ unless_zero _ _ (λ e. c.if-read_u16-eq0.false (c.read_u16.ensures ∙ number_from c.args.octets.now 6 ∙ e))
