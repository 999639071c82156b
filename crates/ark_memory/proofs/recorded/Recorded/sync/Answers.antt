use Rattle.std.proofs.Common.{refl, ap}
use Rattle.ark_media.specs.Journal.{Sync}
use Rattle.ark_memory.specs.Reels.{Taped}
use Rattle.ark_media.specs.Blocks.{whole_blocks}
use Rattle.ark_memory.proofs.Recording.{plain_image}
use Rattle.ark_memory.proofs.recorded.Recorded.sync.Goals as goal

pub invariant_of-self-2 : goal.invariant_of-self-2
invariant_of-self-2 c =
    let r = c.self.inside in (
      plain_image r.image.items (whole_blocks r.base.items) r.tape.events c.sync.new.self.events (Sync c.works.result) (ap (λ (t : Taped). t.events) c.sync.ensures) refl c.self.invariant.0,
      c.self.invariant.1,
      c.self.invariant.2,
    )
