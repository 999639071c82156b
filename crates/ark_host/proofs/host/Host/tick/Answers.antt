use Rattle.ark_host.proofs.Ticking.{ticks}
use Rattle.ark_host.proofs.host.Host.tick.Goals as goal

pub returns-clause-turned : goal.returns-clause-turned
returns-clause-turned c = λ size h s st. ticks s c.args.self.now size h c.args.ticks st
