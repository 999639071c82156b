use Rattle.std.proofs.Common.{[], ◌∷◌, is_ok}
use Rattle.ark_media.specs.Calls.{Writes, Syncs}
use Rattle.ark_media.proofs.Planning.{went_then}
use Rattle.ark_table.proofs.superblock.format.Goals as goal

pub returns : goal.returns
returns g c = record {
  went = rw (← c.blocks-2.ensures, ← c.superblock_of-block.ensures)
      (went_then g.D.Disk.goes g.met.D.Disk.goes_more (Writes 0 _ ∷ []) (Syncs ∷ []) (is_ok c.sync.result) c.args.disk.now c.write.new.self c.sync.new.self c.in_ok-write.ensures.went c.sync.ensures.went);
}
