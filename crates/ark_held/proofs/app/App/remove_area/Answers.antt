use Rattle.std.proofs.Common.{◌+◌, arith, ap, ◌∙◌}
use Rattle.ark_objects.specs.Held.{held}
use Rattle.ark_held.proofs.Bindings.{bound_lost}
use Rattle.ark_held.proofs.Without.{room_stays}
use Rattle.ark_held.specs.declared.nets.Nets.{Nets}
use Rattle.ark_held.proofs.app.App.remove_area.Goals as goal

pub invariant_of-self : goal.invariant_of-self
invariant_of-self c =
    let app = c.args.self.now in
    let stays = room_stays app.labels app.areas c.args.label.now c.args.grant c.requires.there.0 (held app.store.buffers + held app.devices.cards + held app.devices.doors + held app.devices.rates + held app.devices.nets.cards) c.remove-2.new.self c.remove.new.self c.remove-2.result
    c.requires.there.1 app.room c.remove-2.ensures.value c.remove-2.ensures.one c.remove.ensures.rest in
    let cards = c.unbind_all.ensures.held in
    let doors = ap held c.unbind_all.ensures.doors in
    let rates = ap held c.unbind_all.ensures.rates in
    let nets = ap (λ (n : Nets). held n.cards) c.unbind_all.ensures.nets in
    record { room = omega (arith, stays, cards, doors, rates, nets); memory = c.unbind_all.ensures.frames ∙ app.memory; network = ap (λ (n : Nets). n.frames) c.unbind_all.ensures.nets ∙ app.network; bound = bound_lost app.areas _ app.devices.cards _ c.args.grant c.remove.ensures.rest c.unbind_all.ensures.cards app.bound }
