use Rattle.std.proofs.Common.{◌≤◌, ◌∙◌, ℕ, List, length, drop, ap, subst}
use Rattle.ark_extents.specs.Blocks.{runs_of}
use Rattle.ark_plane.proofs.Shared.{granted_shared}
use Rattle.ark_plane.proofs.plane.Plane.create.Goals as goal

pub returns-in-Ok-clause-shared : goal.returns-in-Ok-clause-shared
returns-in-Ok-clause-shared g c =
    let few : length (runs_of c.args.slot.spans) ≤ 16 = subst (λ n. n ≤ 16) c.runs.ensures.runs c.runs.ensures.few in
    granted_shared (g.D.Disk.told c.args.disk.now).blocks c.args.self.now.table c.args.self.now.free c.args.self.now.failed c.requires.shared (length c.args.slot.spans) c.args.index c.args.slot.app c.args.slot.label c.args.slot.kind c.requires.least c.requires.settled
    (subst (λ (bs : List ℕ). length (runs_of bs) ≤ 16) c.requires.lowest few) c.args.slot.spans c.take_lowest.new.self c.create.new.self c.requires.lowest (c.take_lowest.ensures.rest ∙ ap (λ n. drop n c.args.self.now.free) c.blocks-2.ensures.blocks) c.in-Ok.ensures.granted
