use Rattle.std.proofs.Common.{sym, ◌∙◌, ap, arith}
use Rattle.ark_objects.specs.Held.{held}
use Rattle.ark_held.proofs.Commands.{appended_bound}
use Rattle.ark_held.proofs.Storing.{long_in}
use Rattle.ark_held.specs.declared.nets.Nets.{Nets}
use Rattle.ark_held.proofs.app.App.append.Goals as goal

pub invariant_of-self : goal.invariant_of-self
invariant_of-self c = (long_in c.args.self.now.store.region.taken c.append.new.region.taken c.args.self.now.store.buffers c.append.ensures.length c.args.self.now.store.lie, tt)

pub invariant_of-self-2 : goal.invariant_of-self-2
invariant_of-self-2 c =
    let app = c.args.self.now in
    let labelled = app.room in
    let cards = c.append.ensures.held in
    let doors = ap held c.append.ensures.doors in
    let rates = ap held c.append.ensures.rates in
    let nets = ap (λ (n : Nets). held n.cards) c.append.ensures.nets in
    record {
      room = omega (arith, labelled, cards, doors, rates, nets);
      memory = c.append.ensures.frames ∙ app.memory ∙ sym c.append.ensures.length;
      network = ap (λ (n : Nets). n.frames) c.append.ensures.nets ∙ app.network ∙ sym c.append.ensures.length;
      bound = appended_bound app.areas app.devices.cards c.append.new.self.cards c.args.key app.bound c.requires.there c.args.payload.now _ _ c.append.result c.append.ensures.accepted c.append.ensures.cards;
    }
