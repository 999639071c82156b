use Rattle.std.proofs.Common.{◌≡◌, true, rules}
use Rattle.std.specs.Prelude.{is_some}
use Rattle.ark_objects.specs.Held.{at}
use Rattle.ark_held.proofs.Bindings.{some_in, room_to_bind, bound_then}
use Rattle.ark_held.proofs.app.App.bind.Goals as goal

pub bind-requires : goal.bind-requires
bind-requires c =
    let app = c.args.self.now in
    let there : is_some (at app.devices.cards c.args.key) ≡ true = search rules in
    let one = some_in (at app.devices.cards c.args.key) there in
    record { room = room_to_bind app.areas app.devices.cards app.devices.cards c.args.key app.bound one.0 one.1 c.args.grant c.requires.held c.len-areas.ensures.within }

pub invariant_of-self-clause-bound : goal.invariant_of-self-clause-bound
invariant_of-self-clause-bound c =
    let app = c.args.self.now in
    let there : is_some (at app.devices.cards c.args.key) ≡ true = search rules in
    let one = some_in (at app.devices.cards c.args.key) there in
    bound_then app.areas app.devices.cards _ c.args.key app.bound one.0 one.1 c.args.grant c.requires.held (c.bind.ensures.changes one.0 one.1)
