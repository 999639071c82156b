use Rattle.std.proofs.Common.{◌∙◌, ap, arith}
use Rattle.ark_objects.specs.Held.{held}
use Rattle.ark_held.proofs.Commands.{trimmed_bound}
use Rattle.ark_held.specs.declared.nets.Nets.{Nets}
use Rattle.ark_held.proofs.app.App.trim.Goals as goal

pub invariant_of-self : goal.invariant_of-self
invariant_of-self c =
    let app = c.args.self.now in
    let labelled = app.room in
    let cards = c.trim.ensures.held in
    let doors = ap held c.trim.ensures.doors in
    let rates = ap held c.trim.ensures.rates in
    let nets = ap (λ (n : Nets). held n.cards) c.trim.ensures.nets in
    record {
      room = omega (arith, labelled, cards, doors, rates, nets);
      memory = c.trim.ensures.frames ∙ app.memory;
      network = ap (λ (n : Nets). n.frames) c.trim.ensures.nets ∙ app.network;
      bound = trimmed_bound app.areas app.devices.cards c.trim.new.self.cards c.args.key app.bound c.requires.there c.args.n c.trim.result c.trim.ensures.accepted c.trim.ensures.cards;
    }
