use Rattle.std.proofs.Common.{ap, ◌∙◌, arith, rules}
use Rattle.ark_packet.specs.Sum.{plus}
use Rattle.ark_packet.proofs.Sums.{pair_added, rest_from, octets_from}
use Rattle.ark_packet.proofs.Numbers.{number_first}
use Rattle.ark_packet.proofs.sum.add_octets.Goals as goal

pub loop-rest-preserved : goal.loop-rest-preserved
loop-rest-preserved c = record {
  same = pair_added c.loop-rest.sum c.add-sum.result c.loop-rest.rest.now _ (omega arith) c.loop-rest.invariant.octets c.loop-rest.invariant.fits
      (c.add-sum.ensures ∙ ap (plus c.loop-rest.sum) (c.read_u16.ensures ∙ number_first c.loop-rest.rest.now)) (rest_from c.loop-rest.rest.now 2) ∙ c.loop-rest.invariant.same;
  fits = search rules;
  octets = octets_from c.loop-rest.rest.now 2 c.loop-rest.invariant.octets;
}
