use Rattle.std.proofs.Common.{◌+◌, ◌∙◌, [], ◌∷◌, true, false, refl, sym, subst}
use Rattle.std.proofs.lemmas.Option.{slice_get_within, get_or_from_slice_get}
use Rattle.ark_media.specs.Journal.{zero_block}
use Rattle.ark_media.specs.Calls.{Went, Writes}
use Rattle.ark_chain.specs.Repair.{clears}
use Rattle.ark_chain.proofs.Looking.{failed_ok, same_blocks}
use Rattle.ark_chain.proofs.Clearing.{clears_more, clears_stop}
use Rattle.ark_chain.proofs.repairing.clear.Goals as goal

pub loop-i-init : goal.loop-i-init
loop-i-init g c = record { went = record { events = []; makes = refl; goes_on = g.met.D.Disk.goes_none c.args.disk.now }; blocks = refl }

pub returns-in_err-write : goal.returns-in_err-write
returns-in_err-write g c =
    let at = sym c.in-Some.ensures in
    let blocks = c.args.blocks.now.items in
    let i = c.loop-i.i in
    record {
      went = subst (λ ok. Went g.D.Disk.goes (clears blocks) ok c.args.disk.now c.write.new.self) (sym (failed_ok c.from_residual.result c.from_residual.ensures.0))
          (clears_stop g.D.Disk.goes blocks (i + 1) c.args.disk.now c.write.new.self
          (clears_more g.D.Disk.goes g.met.D.Disk.goes_more blocks i c.in-Some.n.now false c.args.disk.now c.loop-i.disk c.write.new.self (slice_get_within blocks i c.in-Some.n.now at)
          (get_or_from_slice_get blocks i c.in-Some.n.now 0 at) c.loop-i.invariant.went c.in_err-write.ensures.went));
    }

pub loop-i-preserved : goal.loop-i-preserved
loop-i-preserved g c =
    let at = sym c.in-Some.ensures in
    let blocks = c.args.blocks.now.items in
    let i = c.loop-i.i in
    record {
      went = clears_more g.D.Disk.goes g.met.D.Disk.goes_more blocks i c.in-Some.n.now true c.args.disk.now c.loop-i.disk c.write.new.self (slice_get_within blocks i c.in-Some.n.now at)
          (get_or_from_slice_get blocks i c.in-Some.n.now 0 at) c.loop-i.invariant.went c.in_ok-write.ensures.went;
      blocks = same_blocks g.D.Disk.goes g.D.Disk.told g.met.D.Disk.goes_told (Writes c.in-Some.n.now zero_block ∷ []) true c.loop-i.disk c.write.new.self c.in_ok-write.ensures.went ∙ c.loop-i.invariant.blocks;
    }
