use Rattle.std.proofs.Common.{◌≡◌, [], take}
use Rattle.ark_media.specs.Journal.{onto}
use Rattle.ark_memory.specs.Holding.{holding}
use Rattle.ark_memory.proofs.recorded.Recorded.holding.Given as goal

abbrev pub invariant-loop-i : goal.invariant-loop-i
invariant-loop-i l = l.holding ≡ holding l.self.base (onto (take l.i l.self.events) []) l.n l.content
