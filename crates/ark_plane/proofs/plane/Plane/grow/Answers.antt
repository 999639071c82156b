use Rattle.std.proofs.Common.{◌∙◌, length, drop, ap}
use Rattle.ark_plane.proofs.Shared.{grown_shared}
use Rattle.ark_plane.proofs.plane.Plane.grow.Goals as goal

pub returns-in-Ok-clause-shared : goal.returns-in-Ok-clause-shared
returns-in-Ok-clause-shared g c =
    let ok = c.requires.joins in
    grown_shared (g.D.Disk.told c.args.disk.now).blocks c.args.self.now.table c.args.self.now.free c.args.self.now.failed c.requires.shared (length c.args.more.now) c.args.index ok.area ok.low ok.used c.requires.settled c.args.more.now c.requires.lowest ok.few
    c.take_lowest.new.self c.grow.new.self (c.take_lowest.ensures.rest ∙ ap (λ n. drop n c.args.self.now.free) c.blocks-2.ensures.blocks) (c.in-Ok.ensures.granted ok.area ok.used)
