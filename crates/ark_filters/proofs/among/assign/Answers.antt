use Rattle.ark_filters.specs.Rules as spec
use Rattle.ark_filters.proofs.Mapped.{mapped_more}
use Rattle.ark_filters.proofs.among.assign.Goals as goal

pub loop-live-preserved : goal.loop-live-preserved
loop-live-preserved c = mapped_more (spec.assigned c.args.grant c.args.vnic) c.args.rules.now c.loop-live.live-items c.loop-live.live-index _ c.assign.new.self c.loop-live-test.true c.loop-live.invariant c.assign.ensures.assigned
