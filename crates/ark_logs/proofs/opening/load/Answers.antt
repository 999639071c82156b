use Rattle.std.proofs.Common.{◌≡◌, rules, ap, arith}
use Rattle.ark_logs.proofs.Loads.{load_by}
use Rattle.ark_logs.proofs.opening.load.Goals as goal

pub returns-clause-went : goal.returns-clause-went
returns-clause-went g c =
    load_by (λ v. v.spans) (λ v. v.disk.now) (λ a b. b.disk.ghost_name ≡ a.disk.ghost_name) g.D.Disk.goes g.D.Disk.told g.met.D.Disk.goes_more g.met.D.Disk.goes_told g.met.D.Disk.goes_none
    c.args.area.now.spans c.args.disk.now _ c.new-view.result c.load.new.disk c.new-view.ensures.spans (ap (λ b. b.now) c.new-view.ensures.disk) (search rules) (omega (arith, c.if-blocks-lt2.false, c.blocks-2.ensures.blocks)) c.blocks-2.ensures.distinct
    c.args.kind c.args.area.now.grant c.args.header c.args.region.now c.load.new.region c.load.result c.load.ensures.loaded c.load.ensures.failed
