use Rattle.ark_media.specs.Stops.{Whole, AnyBytes}
use Rattle.ark_extents.proofs.ViewImages.{left_alike, placed_blocks}
use Rattle.ark_extents.proofs.view.VsaView.new.Goals as goal

pub invariant_of-result-clause-placed : goal.invariant_of-result-clause-placed
invariant_of-result-clause-placed g c = placed_blocks c.args.spans.now c.blocks-count.ensures.distinct

pub returns-clause-left_whole : goal.returns-clause-left_whole
returns-clause-left_whole g c = left_alike Whole c.args.spans.now (g.D.Disk.told c.args.disk.now).blocks c.blocks-count.ensures.distinct (λ k lt. c.requires.inside k 0 lt)

pub returns-clause-left_torn : goal.returns-clause-left_torn
returns-clause-left_torn g c = left_alike AnyBytes c.args.spans.now (g.D.Disk.told c.args.disk.now).blocks c.blocks-count.ensures.distinct (λ k lt. c.requires.inside k 0 lt)
