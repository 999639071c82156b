use Rattle.ark_filters.proofs.Overlapping.{meets_overlap}
use Rattle.ark_filters.proofs.Together.{overlap_meets, both_ways}
use Rattle.ark_filters.proofs.laws.filter_laws.Goals as goal

pub returns : goal.returns
returns c = record {
  meet_overlap = λ f g own hf hg is met. meets_overlap f g own hf.direction hg.direction hf.rule hg.rule is met;
  overlap_meet = λ f g own hf hg both. overlap_meets f g own hf.direction hg.direction both;
  both_ways = both_ways;
}
