use Rattle.std.proofs.Common.{◌∙◌, ◌-◌, [], ◌∷◌, true, false, None, set, refl, sym, subst}
use Rattle.std.specs.Prelude.{is_ok}
use Rattle.ark_media.specs.Journal.{zero_block}
use Rattle.ark_media.specs.Calls.{Went, Writes, Syncs}
use Rattle.ark_media.proofs.Planning.{went_then, went_stop}
use Rattle.ark_table.specs.Plans.{remove_calls}
use Rattle.ark_table.proofs.Places.{areas-set}
use Rattle.ark_table.proofs.Zeroing.{failed_ok, written_at}
use Rattle.ark_table.proofs.table.GrantTable.remove.Goals as goal

pub returns-in_err-write-clause-went : goal.returns-in_err-write-clause-went
returns-in_err-write-clause-went g c =
    let wrote = written_at g.D.Disk.goes c.from-2.result c.args.i zero_block zero_block false c.args.disk.now c.write.new.self c.from-2.ensures refl c.in_err-write.ensures.went in
    subst (λ ok. Went g.D.Disk.goes (remove_calls c.args.i) ok c.args.disk.now c.write.new.self) (sym (failed_ok c.from_residual.result c.from_residual.ensures.0))
    (went_stop g.D.Disk.goes (Writes c.args.i zero_block ∷ []) (Syncs ∷ []) c.args.disk.now c.write.new.self wrote)

pub returns-in_err-write-clause-freed : goal.returns-in_err-write-clause-freed
returns-in_err-write-clause-freed g c = areas-set c.self.inside.slots.items (c.from.result - 1) None ∙ (λ j. set (c.self.view_is j) (c.from.ensures j - 1) None)

pub returns-clause-went : goal.returns-clause-went
returns-clause-went g c =
    let wrote = written_at g.D.Disk.goes c.from-2.result c.args.i zero_block zero_block true c.args.disk.now c.write.new.self c.from-2.ensures refl c.in_ok-write.ensures.went in
    went_then g.D.Disk.goes g.met.D.Disk.goes_more (Writes c.args.i zero_block ∷ []) (Syncs ∷ []) (is_ok c.sync.result) c.args.disk.now c.write.new.self c.sync.new.self wrote c.sync.ensures.went

pub returns-clause-freed : goal.returns-clause-freed
returns-clause-freed g c = areas-set c.self.inside.slots.items (c.from.result - 1) None ∙ (λ j. set (c.self.view_is j) (c.from.ensures j - 1) None)
