use Rattle.ark_memory.proofs.Moving.{has_cause}
use Rattle.ark_memory.proofs.world.outside.MemoryWorldOutside.make.Goals as goal

pub returns-clause-cause : goal.returns-clause-cause
returns-clause-cause c = has_cause c.answer.result c.args.self.now.attach_faults c.answer.new.faults c.answer.ensures.later c.answer.ensures.counts
