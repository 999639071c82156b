use Rattle.std.proofs.Common.{◌≡◌, ◌∙◌, ℕ, List, false, [], sym, ap, subst, rules}
use Rattle.std.specs.Prelude.{None, is_none}
use Rattle.ark_objects.specs.Held.{at}
use Rattle.ark_script.specs.declared.said.Said.{Said}
use Rattle.ark_script.specs.declared.said.Said.TheVariants as said
use Rattle.ark_machine.specs.Network as network
use Rattle.ark_held.specs.Does.{ActsAt}
use Rattle.ark_held.specs.Frames.{said_of}
use Rattle.ark_own.proofs.ArrivingFrames.{came, no_card, no_label}
use Rattle.ark_own.proofs.MovingCards.{some_there}
use Rattle.ark_own.proofs.frames.arrive.Goals as goal

pub returns-in_default-clause-acts : goal.returns-in_default-clause-acts
returns-in_default-clause-acts c = λ t v key its. no_label c.args.now t c.args.app.now c.args.app.now c.args.grant c.args.frame.now v key its said.DroppedNoFilter c.in_default.ensures.none

pub returns-then-is_none-clause-acts : goal.returns-then-is_none-clause-acts
returns-then-is_none-clause-acts c = λ t v key its.
    let gone : at c.args.app.now.devices.nets.cards c.in-Some.card.1 ≡ None = search rules in
    no_card c.args.now t c.args.app.now c.args.app.now c.args.grant c.args.frame.now v key its c.in-Some.card.0 c.in-Some.card.1 c.in-Some.ensures.found said.DroppedNoFilter gone

pub returns-clause-acts : goal.returns-clause-acts
returns-clause-acts c = λ t v key its.
    let app = c.args.app.now in
    let there : is_none (at app.devices.nets.cards c.in-Some.card.1) ≡ false = search rules in
    let one = some_there (at app.devices.nets.cards c.in-Some.card.1) there in
    subst (λ (s : Said). ActsAt c.args.now t app c.arrive-arrived.new.self (λ m g. network.arrive app.name m v c.args.frame.now) [] s []) (sym (c.said_of.ensures.answer ∙ ap (λ (n : List ℕ). said_of n c.in-Some.card.0 c.arrive-arrived.result) c.arrive-arrived.ensures.name))
    (came c.args.now t app c.arrive-arrived.new.self c.args.grant c.args.frame.now v key its c.in-Some.card.0 c.in-Some.card.1 c.in-Some.ensures.found one.0 one.1 c.arrive-arrived.result (c.arrive-arrived.ensures.answer one.0 one.1) (c.arrive-arrived.ensures.nets one.0 one.1)
    (c.arrive-arrived.ensures.region one.0 one.1) (c.arrive-arrived.ensures.doors one.0 one.1) c.arrive-arrived.ensures.labels c.arrive-arrived.ensures.cards c.arrive-arrived.ensures.rates c.arrive-arrived.ensures.areas c.arrive-arrived.ensures.buffers c.arrive-arrived.ensures.name)
