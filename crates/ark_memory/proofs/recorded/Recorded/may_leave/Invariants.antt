use Rattle.ark_media.specs.Blocks.{whole_blocks}
use Rattle.ark_memory.specs.Leaving.{front_of}
use Rattle.ark_memory.proofs.Leaving.{FirstLeft}
use Rattle.ark_memory.proofs.recorded.Recorded.may_leave.Given as goal

abbrev pub invariant-loop-n : goal.invariant-loop-n
invariant-loop-n l = FirstLeft l.self.base (front_of l.self l.front) (whole_blocks l.image) l.n
