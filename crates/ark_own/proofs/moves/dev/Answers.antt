use Rattle.std.proofs.Common.{◌≡◌, false, [], refl, sym, ◌∙◌, ap, rules, arith, List, Bool, length}
use Rattle.std.specs.Prelude.{None, is_none}
use Rattle.ark_objects.specs.Held.{at, held}
use Rattle.ark_base.specs.declared.refusal.Refusal.TheVariants as refusal
use Rattle.ark_held.proofs.Bindings.{bound_same}
use Rattle.ark_held.proofs.Storing.{same_in}
use Rattle.ark_own.proofs.MovingCards.{dev_no_key, dev_no_card, dev_done, some_there}
use Rattle.ark_held.specs.declared.nets.Nets.{Nets}
use Rattle.ark_own.proofs.moves.dev.Goals as goal

pub returns-then-has_net-clause-acts : goal.returns-then-has_net-clause-acts
returns-then-has_net-clause-acts g c = record {
  events = [];
  goes_on = g.met.D.Disk.goes_none c.args.disk.now;
  does = λ grant. c.dev_net.ensures.acts (g.D.Disk.told c.args.disk.now) grant c.args.now;
}

pub returns-in-Err-clause-acts : goal.returns-in-Err-clause-acts
returns-in-Err-clause-acts g c = record {
  events = [];
  goes_on = g.met.D.Disk.goes_none c.args.disk.now;
  does = λ grant. dev_no_key (g.D.Disk.told c.args.disk.now) c.args.app.now c.args.label.now (sym c.has_net.ensures ∙ c.if-has_net.false) c.in-Err.refusal c.in-Err.ensures.key grant c.args.now;
}

pub returns-then-is_none-clause-acts : goal.returns-then-is_none-clause-acts
returns-then-is_none-clause-acts g c =
    let gone : at c.args.app.now.devices.cards c.in-Ok.key ≡ None = search rules in record {
      events = [];
      goes_on = g.met.D.Disk.goes_none c.args.disk.now;
      does = λ grant. dev_no_card (g.D.Disk.told c.args.disk.now) c.args.app.now c.args.label.now c.in-Ok.key c.in-Ok.ensures.key c.args.app.now refusal.WrongKind gone grant c.args.now;
    }

pub invariant_of-app : goal.invariant_of-app
invariant_of-app g c =
    let labelled = c.args.app.now.room in
    let cards = c.move_card-moved.ensures.held_cards in
    let doors = c.move_card-moved.ensures.held_doors in
    let rates = ap held c.move_card-moved.ensures.rates in
    let nets = ap (λ (n : Nets). held n.cards) c.move_card-moved.ensures.nets in
    let there : is_none (at c.args.app.now.devices.cards c.in-Ok.key) ≡ false = search rules in
    let one = some_there (at c.args.app.now.devices.cards c.in-Ok.key) there in
    let size = sym (ap (λ (z : List Bool). length z) c.move_card-moved.ensures.taken) in
    let bound = bound_same c.args.app.now.areas c.args.app.now.devices.cards c.move_card-moved.new.self.cards c.in-Ok.key c.args.app.now.bound one.0 one.1 _ (c.move_card-moved.ensures.cards one.0 one.1) refl in (
      (same_in c.args.app.now.store.region.taken c.move_card-moved.new.region.taken c.args.app.now.store.buffers c.move_card-moved.ensures.taken c.args.app.now.store.lie, tt),
      (omega (arith, labelled, cards, doors, rates, nets), (c.move_card-moved.ensures.frames ∙ c.args.app.now.memory ∙ size, (ap (λ (n : Nets). n.frames) c.move_card-moved.ensures.nets ∙ c.args.app.now.network ∙ size, (bound, tt)))),
    )

pub returns-clause-acts : goal.returns-clause-acts
returns-clause-acts g c =
    let there : is_none (at c.args.app.now.devices.cards c.in-Ok.key) ≡ false = search rules in
    let one = some_there (at c.args.app.now.devices.cards c.in-Ok.key) there in
    let went = c.move_card-moved.ensures.went one.0 one.1 in
    rw c.said_of.ensures.answer (record {
      events = went.events;
      goes_on = went.goes_on;
      does = dev_done (g.D.Disk.told c.move_card-moved.new.disk) c.args.app.now c.args.label.now c.in-Ok.key c.in-Ok.ensures.key _ one.0 one.1 c.args.now went.events c.move_card-moved.result (g.met.D.Disk.size_is c.move_card-moved.new.disk)
          went.makes (c.move_card-moved.ensures.answer one.0 one.1) (c.move_card-moved.ensures.region one.0 one.1) (c.move_card-moved.ensures.cards one.0 one.1) (c.move_card-moved.ensures.doors one.0 one.1)
          (c.move_card-moved.ensures.sound one.0 one.1) (c.move_card-moved.ensures.distinct one.0 one.1) refl c.move_card-moved.ensures.rates c.move_card-moved.ensures.nets refl refl refl c.move_card-moved.ensures.taken;
    })
