use Rattle.std.proofs.Common.{◌++◌, [], ◌∷◌, false, sym, subst}
use Rattle.ark_media.specs.Calls.{Went, Writes, Syncs}
use Rattle.ark_media.proofs.Planning.{went_then, went_stop}
use Rattle.ark_chain.specs.Repair.{clears, header_calls, repair_calls}
use Rattle.ark_chain.proofs.Looking.{failed_ok}
use Rattle.ark_chain.proofs.repairing.repair.Goals as goal

pub returns-in_err-clear : goal.returns-in_err-clear
returns-in_err-clear g c =
    let blocks = c.args.blocks.now.items in
    let header = c.args.header.now in
    let goes = g.D.Disk.goes in
    record {
      went = subst (λ ok. Went goes (repair_calls blocks header) ok c.args.disk.now c.clear.new.disk) (sym (failed_ok c.from_residual-in_err-clear.result c.from_residual-in_err-clear.ensures.0))
          (went_then goes g.met.D.Disk.goes_more (Syncs ∷ []) (clears blocks ++ header_calls header) false c.args.disk.now c.sync.new.self c.clear.new.disk c.in_ok-sync.ensures.went
          (went_stop goes (clears blocks) (header_calls header) c.sync.new.self c.clear.new.disk c.in_err-clear.ensures.went));
    }

pub returns-in_err-write : goal.returns-in_err-write
returns-in_err-write g c =
    let blocks = c.args.blocks.now.items in
    let header = c.args.header.now in
    let goes = g.D.Disk.goes in
    let more = g.met.D.Disk.goes_more in
    record {
      went = subst (λ ok. Went goes (repair_calls blocks header) ok c.args.disk.now c.write.new.self) (sym (failed_ok c.from_residual-in_err-write.result c.from_residual-in_err-write.ensures.0))
          (went_then goes more (Syncs ∷ []) (clears blocks ++ header_calls header) false c.args.disk.now c.sync.new.self c.write.new.self c.in_ok-sync.ensures.went
          (went_then goes more (clears blocks) (header_calls header) false c.sync.new.self c.clear.new.disk c.write.new.self c.in_ok-clear.ensures.went
          (went_stop goes (Writes 0 header ∷ []) (Syncs ∷ []) c.clear.new.disk c.write.new.self c.in_err-write.ensures.went)));
    }

pub returns : goal.returns
returns g c =
    let blocks = c.args.blocks.now.items in
    let header = c.args.header.now in
    let goes = g.D.Disk.goes in
    let more = g.met.D.Disk.goes_more in
    record {
      went = went_then goes more (Syncs ∷ []) (clears blocks ++ header_calls header) _ c.args.disk.now c.sync.new.self c.sync-2.new.self c.in_ok-sync.ensures.went
          (went_then goes more (clears blocks) (header_calls header) _ c.sync.new.self c.clear.new.disk c.sync-2.new.self c.in_ok-clear.ensures.went
          (went_then goes more (Writes 0 header ∷ []) (Syncs ∷ []) _ c.clear.new.disk c.write.new.self c.sync-2.new.self c.in_ok-write.ensures.went c.sync-2.ensures.went));
    }
