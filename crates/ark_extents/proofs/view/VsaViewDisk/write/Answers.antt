use Rattle.std.proofs.Common.{is_ok, refl, sym}
use Rattle.std.proofs.lemmas.Option.{slice_get_within, get_or_from_slice_get}
use Rattle.ark_extents.proofs.Unview.{unview_write}
use Rattle.ark_extents.proofs.view.VsaViewDisk.write.Goals as goal

pub returns : goal.returns
returns g c =
    let v = c.args.self.now in
    let at = sym c.in-Some.ensures.block in
    let u = unview_write g.D.Disk.goes v.spans (is_ok c.write.result) v.disk.now c.write.new.self c.args.n c.in-Some.at c.args.block.now
    (slice_get_within v.spans c.args.n c.in-Some.at at) (sym (get_or_from_slice_get v.spans c.args.n c.in-Some.at 0 at)) c.write.ensures.went in
    record { went = record { events = u.0; makes = u.1; goes_on = (refl, refl, u.2) } }
