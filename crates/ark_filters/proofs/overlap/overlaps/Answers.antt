use Rattle.std.proofs.Common.{sym, ◌∙◌}
use Rattle.ark_filters.proofs.Overlapping.{meets_overlap}
use Rattle.ark_filters.proofs.Together.{overlap_meets}
use Rattle.ark_filters.proofs.overlap.overlaps.Goals as goal

pub returns-clause-frames : goal.returns-clause-frames
returns-clause-frames c = λ own ha hb is. (
  λ h. meets_overlap c.args.a.now c.args.b.now own ha.direction hb.direction ha.rule hb.rule is (sym c.filters_meet.ensures.met ∙ h),
  λ both. c.filters_meet.ensures.met ∙ overlap_meets c.args.a.now c.args.b.now own ha.direction hb.direction both,
)
