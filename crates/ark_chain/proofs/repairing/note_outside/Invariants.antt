use Rattle.ark_chain.proofs.Clearing.{Noting}
use Rattle.ark_chain.proofs.repairing.note_outside.Given as goal

abbrev pub invariant-loop-q : goal.invariant-loop-q
invariant-loop-q g l = Noting g.D.Disk.goes g.D.Disk.told l.from.room l.from.start l.used l.q l.fn.disk l.disk l.fn.noted l.noted
