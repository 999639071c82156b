use Rattle.std.proofs.Common.{sym, ◌∙◌, ap, arith}
use Rattle.ark_objects.specs.Held.{held}
use Rattle.ark_held.proofs.PolledCards.{polled_bound}
use Rattle.ark_held.proofs.Storing.{long_in}
use Rattle.ark_held.specs.declared.nets.Nets.{Nets}
use Rattle.ark_held.proofs.app.App.poll.Goals as goal

pub invariant_of-self : goal.invariant_of-self
invariant_of-self c = (long_in c.args.self.now.store.region.taken c.poll.new.region.taken c.args.self.now.store.buffers c.poll.ensures.length c.args.self.now.store.lie, tt)

pub invariant_of-self-2 : goal.invariant_of-self-2
invariant_of-self-2 c =
    let app = c.args.self.now in
    let labelled = app.room in
    let cards = c.poll.ensures.held in
    let doors = ap held c.poll.ensures.doors in
    let rates = ap held c.poll.ensures.rates in
    let nets = ap (λ (n : Nets). held n.cards) c.poll.ensures.nets in
    record {
      room = omega (arith, labelled, cards, doors, rates, nets);
      memory = c.poll.ensures.frames ∙ app.memory ∙ sym c.poll.ensures.length;
      network = ap (λ (n : Nets). n.frames) c.poll.ensures.nets ∙ app.network ∙ sym c.poll.ensures.length;
      bound = polled_bound app.areas app.devices.cards c.poll.new.self.cards c.args.key app.bound c.requires.there _ _ _ _ c.poll.result c.poll.ensures.polled;
    }
