use Rattle.std.proofs.Common.{◌≡◌, ◌∙◌, ℕ, Err, IfOk, length, ⊎_elim, ap, subst, sym, arith}
use Rattle.ark_media.specs.Journal.{current}
use Rattle.ark_media.proofs.Stopping.{length-current}
use Rattle.ark_table.specs.declared.fault.LoadFault.{LoadFault}
use Rattle.ark_table.specs.declared.fault.LoadFault.TheVariants.{Damaged}
use Rattle.ark_table.proofs.Front.{not_device, too_small, too_large, same_fault, same_bad}
use Rattle.ark_plane.proofs.Unused.{no_misfit}
use Rattle.ark_plane.specs.Loading.{IsUnused}
use Rattle.ark_plane.specs.declared.plane.Plane.{Plane}
use Rattle.ark_plane.proofs.plane.Plane.load.Goals as goal

pub returns-then-blocks-lt130-clause-damaged : goal.returns-then-blocks-lt130-clause-damaged
returns-then-blocks-lt130-clause-damaged g c bad same h told =
    let image = current h.base h.journal in
    let long : length image ≡ c.blocks-blocks.result = length-current h.base h.journal ∙ g.met.D.Disk.size_is c.args.disk.now h told ∙ sym c.blocks-blocks.ensures in
    not_device image (⊎_elim (λ low. too_small image (omega (arith, low, long))) (λ high. too_large image (omega (arith, high.1, long))) c.then-blocks-lt130.either) ∙ ap (λ (b : ℕ). Err b) (same_bad 0 bad same)

pub returns-in-Ok-clause-free : goal.returns-in-Ok-clause-free
returns-in-Ok-clause-free g c =
    let w = c.in-Ok.ensures.went.went in
    let same = (g.met.D.Disk.goes_told c.args.disk.now c.load.new.disk w.events w.goes_on).blocks in
    subst (λ (n : ℕ). IfOk c.with_table.result (λ (p : Plane). IsUnused n p.table p.free)) (c.blocks-blocks.ensures ∙ sym same) c.with_table.ensures.free

pub returns-in-Ok-clause-damaged : goal.returns-in-Ok-clause-damaged
returns-in-Ok-clause-damaged g c bad same h told =
    let w = c.in-Ok.ensures.went.went in
    let blocks = (g.met.D.Disk.goes_told c.args.disk.now c.load.new.disk w.events w.goes_on).blocks in
    absurd (no_misfit (current h.base h.journal) c.in-Ok.table c.blocks-blocks.result bad c.with_table.result (c.in-Ok.ensures.table h told)
    (length-current h.base h.journal ∙ g.met.D.Disk.size_is c.load.new.disk h told ∙ blocks ∙ sym c.blocks-blocks.ensures) c.with_table.ensures.fault same)

pub returns-in-Err-clause-damaged : goal.returns-in-Err-clause-damaged
returns-in-Err-clause-damaged g c bad same h told = c.in-Err.ensures.damaged bad (ap (λ (x : LoadFault). Err x) (same_fault c.in-Err.fault (Damaged bad) same)) h told
