use Rattle.std.proofs.Common.{◌≡◌, true, rules}
use Rattle.std.specs.Prelude.{is_some}
use Rattle.ark_objects.specs.Held.{at}
use Rattle.ark_held.proofs.Bindings.{some_in, unbound_then}
use Rattle.ark_held.proofs.app.App.unbind.Goals as goal

pub invariant_of-self-clause-bound : goal.invariant_of-self-clause-bound
invariant_of-self-clause-bound c =
    let app = c.args.self.now in
    let there : is_some (at app.devices.cards c.args.key) ≡ true = search rules in
    let one = some_in (at app.devices.cards c.args.key) there in
    unbound_then app.areas app.devices.cards _ c.args.key app.bound one.0 one.1 c.args.grant (c.unbind.ensures.changes one.0 one.1)
