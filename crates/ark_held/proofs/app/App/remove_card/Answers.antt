use Rattle.std.proofs.Common.{rules}
use Rattle.ark_held.proofs.Bindings.{bound_gone}
use Rattle.ark_held.proofs.app.App.remove_card.Goals as goal

pub invariant_of-self : goal.invariant_of-self
invariant_of-self c =
    let app = c.args.self.now in
    record {
      room = search rules;
      memory = search rules;
      network = search rules;
      bound = bound_gone app.areas app.devices.cards _ c.args.key c.args.grant (record { rest = c.remove_card.new.self.cards; gone = c.remove_card.ensures.gone; cards = c.unbind_all.ensures.cards }) app.bound;
    }
