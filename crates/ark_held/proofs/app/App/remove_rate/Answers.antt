use Rattle.std.proofs.Common.{rules}
use Rattle.ark_held.proofs.Bindings.{bound_fewer}
use Rattle.ark_held.proofs.app.App.remove_rate.Goals as goal

pub invariant_of-self-2 : goal.invariant_of-self-2
invariant_of-self-2 c =
    let app = c.args.self.now in
    record { room = search rules; memory = search rules; network = search rules; bound = bound_fewer app.areas app.devices.cards _ c.args.grant c.unbind_all.ensures.cards app.bound }
