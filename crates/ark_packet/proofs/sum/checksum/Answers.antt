use Rattle.std.proofs.Common.{ap, ◌∙◌, ◌-◌, arith}
use Rattle.ark_packet.proofs.Sums.{zero_plus, ones_sum_below}
use Rattle.ark_packet.proofs.sum.checksum.Goals as goal

pub returns : goal.returns
returns c = ap (λ n. 65535 - n) (c.add_octets.ensures ∙ zero_plus _ (ones_sum_below c.args.octets.now (λ i. omega (arith, c.type_inv.octets i))))
