use Rattle.std.proofs.Common.{[], ◌∷◌, true, ◌∙◌, ap}
use Rattle.ark_media.specs.Journal.{current}
use Rattle.ark_media.specs.Calls.{Reads}
use Rattle.ark_media.proofs.Stopping.{length-current}
use Rattle.ark_table.specs.Superblock.{superblock}
use Rattle.ark_table.proofs.Front.{device_of}
use Rattle.ark_table.proofs.Zeroing.{same_blocks}
use Rattle.ark_table.proofs.loading.read_superblock.Goals as goal

pub returns-clause-device : goal.returns-clause-device
returns-clause-device g c h told = c.eq.ensures ∙ device_of (current h.base h.journal) (g.D.Disk.told c.args.disk.now).blocks c.read.new.out c.superblock_of.result c.requires.low c.requires.high
    (length-current h.base h.journal ∙ g.met.D.Disk.size_is c.read.new.self h told
    ∙ same_blocks g.D.Disk.goes g.D.Disk.told g.met.D.Disk.goes_told (Reads 0 ∷ []) true c.args.disk.now c.read.new.self c.in_ok-read.ensures.went)
    (c.in_ok-read.ensures.honest.told h told) (c.superblock_of.ensures ∙ ap superblock c.blocks-size.ensures)
