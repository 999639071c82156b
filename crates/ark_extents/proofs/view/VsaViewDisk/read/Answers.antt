use Rattle.std.proofs.Common.{◌<◌, ◌∙◌, ℕ, get_or, is_ok, refl, subst, sym}
use Rattle.std.proofs.lemmas.Option.{slice_get_within, get_or_from_slice_get}
use Rattle.std.proofs.lemmas.Result.{on_ok_weaker}
use Rattle.std.specs.Prelude.{OnOk}
use Rattle.ark_media.specs.Calls.{GivesBlock}
use Rattle.ark_extents.proofs.ViewImages.{honest_view}
use Rattle.ark_extents.proofs.Unview.{unview_read}
use Rattle.ark_extents.proofs.view.VsaViewDisk.read.Goals as goal

pub returns-clause-went : goal.returns-clause-went
returns-clause-went g c =
    let v = c.args.self.now in
    let at = sym c.in-Some.ensures.block in
    let u = unview_read g.D.Disk.goes v.spans (is_ok c.read.result) v.disk.now c.read.new.self c.args.n c.in-Some.at
    (slice_get_within v.spans c.args.n c.in-Some.at at) (sym (get_or_from_slice_get v.spans c.args.n c.in-Some.at 0 at)) c.read.ensures.went in
    record { events = u.0; makes = u.1; goes_on = (refl, refl, u.2) }

pub returns-clause-honest : goal.returns-clause-honest
returns-clause-honest g c =
    let v = c.args.self.now in
    let at = sym c.in-Some.ensures.block in
    let same = (g.met.D.Disk.goes_told v.disk.now c.read.new.self c.read.ensures.went.events c.read.ensures.went.goes_on).blocks in
    on_ok_weaker c.read.result
    (λ honest. honest_view v.spans v.placed (g.D.Disk.told c.read.new.self) c.args.n c.read.new.out (slice_get_within v.spans c.args.n c.in-Some.at at)
    (λ h is i lt. subst (λ (m : ℕ). get_or v.spans i 0 < m) (sym (g.met.D.Disk.size_is c.read.new.self h is ∙ same)) (v.inside i 0 lt)) honest)
    (subst (λ (m : ℕ). OnOk c.read.result (GivesBlock (g.D.Disk.told c.read.new.self).history m c.read.new.out)) (sym (get_or_from_slice_get v.spans c.args.n c.in-Some.at 0 at)) c.read.ensures.honest)
