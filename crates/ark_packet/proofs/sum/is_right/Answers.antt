use Rattle.std.proofs.Common.{ap, ◌∙◌, nat_eq, arith}
use Rattle.ark_packet.proofs.Sums.{zero_plus, ones_sum_below}
use Rattle.ark_packet.proofs.sum.is_right.Goals as goal

pub returns : goal.returns
returns c = ap (λ n. nat_eq n 65535) (c.add_octets.ensures ∙ zero_plus _ (ones_sum_below c.args.octets.now (λ i. omega (arith, c.type_inv.octets i))))
