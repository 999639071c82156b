use Rattle.std.proofs.Common.{◌≡◌, true, rules, refl}
use Rattle.std.specs.Prelude.{None, is_some}
use Rattle.ark_script.specs.declared.step.Side.TheVariants as side
use Rattle.ark_objects.specs.Held.{at}
use Rattle.ark_own.proofs.OfCards.{never_gone}
use Rattle.ark_own.proofs.Sides.{card_side}
use Rattle.ark_own.proofs.Watching.{no_keys, never_there, is, watch_done}
use Rattle.ark_held.proofs.Bindings.{bound_same, some_in}
use Rattle.ark_own.proofs.rates.watch_card.Goals as goal

pub returns-in-Err-clause-acts : goal.returns-in-Err-clause-acts
returns-in-Err-clause-acts c = λ t. no_keys t c.args.app.now c.args.label.now c.args.door.now side.Io _ (card_side c.args.app.now c.args.label.now) c.in-Err.refusal c.in-Err.ensures.keys

pub returns-then-is_none-clause-acts : goal.returns-then-is_none-clause-acts
returns-then-is_none-clause-acts c = λ t.
    let app = c.args.app.now in
    let l = c.args.label.now in
    let gone : at app.devices.cards c.in-Ok.keys.0 ≡ None = search rules in
    never_there t app l c.args.door.now side.Io _ (card_side app l) _ (λ y h. never_gone app l c.in-Ok.keys.0 (is t app l c.args.door.now side.Io _ (card_side app l) c.in-Ok.keys.0 c.in-Ok.keys.1 c.in-Ok.ensures.keys) y h gone)

pub returns-clause-acts : goal.returns-clause-acts
returns-clause-acts c = λ t.
    let there : is_some (at c.args.app.now.devices.cards c.in-Ok.keys.0) ≡ true = search rules in
    let one = some_in (at c.args.app.now.devices.cards c.in-Ok.keys.0) there in
    watch_done t c.args.app.now _ c.args.label.now c.args.door.now c.in-Ok.keys.0 c.in-Ok.keys.1 c.in-Ok.ensures.keys one.0 one.1 (c.watch.ensures.changes one.0 one.1) refl c.watch.ensures.doors c.watch.ensures.rates c.watch.ensures.nets refl refl refl

pub invariant_of-app-clause-bound : goal.invariant_of-app-clause-bound
invariant_of-app-clause-bound c =
    let there : is_some (at c.args.app.now.devices.cards c.in-Ok.keys.0) ≡ true = search rules in
    let one = some_in (at c.args.app.now.devices.cards c.in-Ok.keys.0) there in
    bound_same c.args.app.now.areas c.args.app.now.devices.cards _ c.in-Ok.keys.0 c.args.app.now.bound one.0 one.1 _ (c.watch.ensures.changes one.0 one.1) refl
