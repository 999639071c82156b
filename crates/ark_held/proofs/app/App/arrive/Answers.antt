use Rattle.std.proofs.Common.{List, Bool, sym, ◌∙◌, ap, arith, length}
use Rattle.ark_objects.specs.Held.{held}
use Rattle.ark_held.proofs.Bindings.{bound_still}
use Rattle.ark_held.proofs.Storing.{long_in}
use Rattle.ark_held.proofs.app.App.arrive.Goals as goal

pub invariant_of-self : goal.invariant_of-self
invariant_of-self c = (long_in c.args.self.now.store.region.taken c.arrive.new.region.taken c.args.self.now.store.buffers (ap (λ (t : List Bool). length t) c.arrive.ensures.taken) c.args.self.now.store.lie, tt)

pub invariant_of-self-2 : goal.invariant_of-self-2
invariant_of-self-2 c =
    let app = c.args.self.now in
    let size = sym (ap (λ (t : List Bool). length t) c.arrive.ensures.taken) in
    let labelled = app.room in
    let cards = ap held c.arrive.ensures.cards in
    let doors = c.arrive.ensures.held_doors in
    let rates = ap held c.arrive.ensures.rates in
    let nets = c.arrive.ensures.held_nets in
    record {
      room = omega (arith, labelled, cards, doors, rates, nets);
      memory = c.arrive.ensures.frames ∙ app.memory ∙ size;
      network = c.arrive.ensures.net_frames ∙ app.network ∙ size;
      bound = bound_still app.areas app.devices.cards c.arrive.new.self.cards c.arrive.ensures.cards app.bound;
    }
