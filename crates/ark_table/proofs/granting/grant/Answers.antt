use Rattle.std.proofs.Common.{[], ◌∷◌, true, false, sym, subst}
use Rattle.std.specs.Prelude.{is_ok}
use Rattle.ark_media.specs.Calls.{Went, Writes, Syncs}
use Rattle.ark_media.proofs.Planning.{went_then, went_stop}
use Rattle.ark_table.specs.Area.{area_bytes}
use Rattle.ark_table.specs.Plans.{zero_calls, grant_calls}
use Rattle.ark_table.specs.Stated.{stated}
use Rattle.ark_table.proofs.Zeroing.{failed_ok, written_at}
use Rattle.ark_table.proofs.granting.grant.Goals as goal

pub returns-in_err-write_zeros : goal.returns-in_err-write_zeros
returns-in_err-write_zeros g c =
    let a = stated c.args.slot.now in
    record {
      went = subst (λ ok. Went g.D.Disk.goes (grant_calls c.args.i a c.args.added.now) ok c.args.disk.now c.write_zeros.new.disk) (sym (failed_ok c.from_residual.result c.from_residual.ensures.0))
          (went_stop g.D.Disk.goes (zero_calls c.args.added.now) (Syncs ∷ (Writes c.args.i (area_bytes a) ∷ (Syncs ∷ []))) c.args.disk.now c.write_zeros.new.disk c.in_err-write_zeros.ensures.went);
    }

pub returns-in_err-sync : goal.returns-in_err-sync
returns-in_err-sync g c =
    let a = stated c.args.slot.now in
    let slot = Writes c.args.i (area_bytes a) ∷ (Syncs ∷ []) in
    record {
      went = subst (λ ok. Went g.D.Disk.goes (grant_calls c.args.i a c.args.added.now) ok c.args.disk.now c.sync.new.self) (sym (failed_ok c.from_residual-in_err-sync.result c.from_residual-in_err-sync.ensures.0))
          (went_then g.D.Disk.goes g.met.D.Disk.goes_more (zero_calls c.args.added.now) (Syncs ∷ slot) false c.args.disk.now c.write_zeros.new.disk c.sync.new.self c.in_ok-write_zeros.ensures.went
          (went_stop g.D.Disk.goes (Syncs ∷ []) slot c.write_zeros.new.disk c.sync.new.self c.in_err-sync.ensures.went));
    }

pub returns-in_err-write : goal.returns-in_err-write
returns-in_err-write g c =
    let a = stated c.args.slot.now in
    let slot = Writes c.args.i (area_bytes a) ∷ (Syncs ∷ []) in
    let wrote = written_at g.D.Disk.goes c.from.result c.args.i c.slot_block.result (area_bytes a) false c.sync.new.self c.write.new.self c.from.ensures c.slot_block.ensures c.in_err-write.ensures.went in
    record {
      went = subst (λ ok. Went g.D.Disk.goes (grant_calls c.args.i a c.args.added.now) ok c.args.disk.now c.write.new.self) (sym (failed_ok c.from_residual-in_err-write.result c.from_residual-in_err-write.ensures.0))
          (went_then g.D.Disk.goes g.met.D.Disk.goes_more (zero_calls c.args.added.now) (Syncs ∷ slot) false c.args.disk.now c.write_zeros.new.disk c.write.new.self c.in_ok-write_zeros.ensures.went
          (went_then g.D.Disk.goes g.met.D.Disk.goes_more (Syncs ∷ []) slot false c.write_zeros.new.disk c.sync.new.self c.write.new.self c.in_ok-sync.ensures.went
          (went_stop g.D.Disk.goes (Writes c.args.i (area_bytes a) ∷ []) (Syncs ∷ []) c.sync.new.self c.write.new.self wrote)));
    }

pub returns : goal.returns
returns g c =
    let a = stated c.args.slot.now in
    let slot = Writes c.args.i (area_bytes a) ∷ (Syncs ∷ []) in
    let ok = is_ok c.sync-2.result in
    let wrote = written_at g.D.Disk.goes c.from.result c.args.i c.slot_block.result (area_bytes a) true c.sync.new.self c.write.new.self c.from.ensures c.slot_block.ensures c.in_ok-write.ensures.went in
    record {
      went = went_then g.D.Disk.goes g.met.D.Disk.goes_more (zero_calls c.args.added.now) (Syncs ∷ slot) ok c.args.disk.now c.write_zeros.new.disk c.sync-2.new.self c.in_ok-write_zeros.ensures.went
          (went_then g.D.Disk.goes g.met.D.Disk.goes_more (Syncs ∷ []) slot ok c.write_zeros.new.disk c.sync.new.self c.sync-2.new.self c.in_ok-sync.ensures.went
          (went_then g.D.Disk.goes g.met.D.Disk.goes_more (Writes c.args.i (area_bytes a) ∷ []) (Syncs ∷ []) ok c.sync.new.self c.write.new.self c.sync-2.new.self wrote c.sync-2.ensures.went));
    }
