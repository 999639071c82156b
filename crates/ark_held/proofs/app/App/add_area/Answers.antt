use Rattle.ark_held.proofs.Bindings.{bound_beside}
use Rattle.ark_held.proofs.app.App.add_area.Goals as goal

pub invariant_of-self-clause-bound : goal.invariant_of-self-clause-bound
invariant_of-self-clause-bound c = bound_beside c.args.self.now.areas _ c.args.grant c.args.area _ c.add-2.ensures.added c.args.self.now.bound
