use Rattle.std.proofs.Common.{arith}
use Rattle.std.proofs.lemmas.Grind.{common_steps}
use Rattle.ark_region.proofs.Living.{stands_less}
use Rattle.ark_region.proofs.region.Region.give.Goals as goal

pub returns-clause-taken : goal.returns-clause-taken
returns-clause-taken c = grind (arith, common_steps)

pub returns-clause-stands : goal.returns-clause-stands
returns-clause-stands c before after st = stands_less c.args.self.now.taken c.args.buf before after st _ (returns-clause-taken c)
