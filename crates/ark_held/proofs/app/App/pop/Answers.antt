use Rattle.std.proofs.Common.{sym, ◌∙◌, ap, arith}
use Rattle.ark_objects.specs.Held.{held}
use Rattle.ark_held.proofs.Commands.{popped_bound}
use Rattle.ark_held.proofs.Storing.{long_in}
use Rattle.ark_held.specs.declared.nets.Nets.{Nets}
use Rattle.ark_held.proofs.app.App.pop.Goals as goal

pub invariant_of-self : goal.invariant_of-self
invariant_of-self c = (long_in c.args.self.now.store.region.taken c.pop.new.region.taken c.args.self.now.store.buffers c.pop.ensures.length c.args.self.now.store.lie, tt)

pub invariant_of-self-2 : goal.invariant_of-self-2
invariant_of-self-2 c =
    let app = c.args.self.now in
    let labelled = app.room in
    let cards = c.pop.ensures.held in
    let doors = ap held c.pop.ensures.doors in
    let rates = ap held c.pop.ensures.rates in
    let nets = ap (λ (n : Nets). held n.cards) c.pop.ensures.nets in
    record {
      room = omega (arith, labelled, cards, doors, rates, nets);
      memory = c.pop.ensures.frames ∙ app.memory ∙ sym c.pop.ensures.length;
      network = ap (λ (n : Nets). n.frames) c.pop.ensures.nets ∙ app.network ∙ sym c.pop.ensures.length;
      bound = popped_bound app.areas app.devices.cards c.pop.new.self.cards c.args.key app.bound c.requires.there _ _ c.pop.result c.pop.ensures.accepted c.pop.ensures.cards;
    }
