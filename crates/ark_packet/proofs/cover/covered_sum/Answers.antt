use Rattle.std.proofs.Common.{arith}
use Rattle.ark_packet.proofs.Covering.{covered_whole}
use Rattle.ark_packet.proofs.cover.covered_sum.Goals as goal

pub returns : goal.returns
returns c =
    covered_whole c.args.from.now c.args.to.now c.args.header.now c.args.payload.now c.args.protocol
    c.add_octets-sum.result c.add_octets-sum-2.result c.add_octets-sum-3.result c.add_octets-sum-4.result c.add_octets.result
    c.told-from c.told-to c.requires (omega arith) (λ i. omega (arith, c.fits-from i)) (λ i. omega (arith, c.fits-to i))
    (λ i. omega (arith, c.type_inv.header i)) (λ i. omega (arith, c.type_inv.payload i))
    c.add_octets-sum.ensures c.add_octets-sum-2.ensures c.add_octets-sum-3.ensures c.add_octets-sum-4.ensures c.add_octets.ensures
