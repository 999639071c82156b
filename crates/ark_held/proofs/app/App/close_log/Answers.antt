use Rattle.std.proofs.Common.{sym, ◌∙◌, ap, arith}
use Rattle.ark_objects.specs.Held.{held}
use Rattle.ark_held.proofs.Bindings.{bound_closed}
use Rattle.ark_held.proofs.Storing.{long_in}
use Rattle.ark_held.specs.declared.nets.Nets.{Nets}
use Rattle.ark_held.proofs.app.App.close_log.Goals as goal

pub invariant_of-self : goal.invariant_of-self
invariant_of-self c = (long_in c.args.self.now.store.region.taken c.close.new.region.taken c.args.self.now.store.buffers c.close.ensures.length c.args.self.now.store.lie, tt)

pub invariant_of-self-2 : goal.invariant_of-self-2
invariant_of-self-2 c =
    let app = c.args.self.now in
    let labelled = app.room in
    let cards = c.close.ensures.held in
    let doors = ap held c.close.ensures.doors in
    let rates = ap held c.close.ensures.rates in
    let nets = ap (λ (n : Nets). held n.cards) c.close.ensures.nets in
    record {
      room = omega (arith, labelled, cards, doors, rates, nets);
      memory = c.close.ensures.frames ∙ app.memory ∙ sym c.close.ensures.length;
      network = ap (λ (n : Nets). n.frames) c.close.ensures.nets ∙ app.network ∙ sym c.close.ensures.length;
      bound = bound_closed app.areas app.devices.cards c.close.new.self.cards c.args.key app.bound c.requires.there _ _ c.close.result c.close.ensures.closed c.close.ensures.cards;
    }
