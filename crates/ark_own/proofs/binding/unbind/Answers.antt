use Rattle.std.proofs.Common.{◌≡◌, refl, rules}
use Rattle.std.specs.Prelude.{Some}
use Rattle.ark_objects.specs.Held.{at}
use Rattle.ark_machine.specs.Cards.{bound_without}
use Rattle.ark_own.proofs.Bindings as of
use Rattle.ark_own.proofs.binding.unbind.Goals as goal

pub returns-in-Err-clause-acts : goal.returns-in-Err-clause-acts
returns-in-Err-clause-acts c = λ t. of.no_keys c.args.card.now c.args.area.now bound_without t c.args.app.now _ (λ m g. refl) c.in-Err.refusal c.in-Err.ensures.keys

pub returns-in_default-clause-acts : goal.returns-in_default-clause-acts
returns-in_default-clause-acts c = λ t. of.no_card c.args.card.now c.args.area.now bound_without t c.args.app.now _ (λ m g. refl) c.in-Ok.keys.0 c.in-Ok.keys.1 c.in-Ok.ensures.keys _ (search rules)

pub returns-then-is_some-clause-acts : goal.returns-then-is_some-clause-acts
returns-then-is_some-clause-acts c = λ t. of.is_busy c.args.card.now c.args.area.now bound_without t c.args.app.now _ (λ m g. refl) c.in-Ok.keys.0 c.in-Ok.keys.1 c.in-Ok.ensures.keys c.in-Some.one.now (search rules) (search rules)

pub returns-clause-acts : goal.returns-clause-acts
returns-clause-acts c = λ t.
    let here : at c.args.app.now.devices.cards c.in-Ok.keys.0 ≡ Some c.in-Some.one.now = search rules in
    of.unbind_done t c.args.app.now _ c.args.card.now c.args.area.now c.in-Ok.keys.0 c.in-Ok.keys.1 c.in-Ok.ensures.keys c.in-Some.one.now here (search rules)
    c.unbind.ensures.labels c.unbind.ensures.doors c.unbind.ensures.rates c.unbind.ensures.nets c.unbind.ensures.store c.unbind.ensures.areas c.unbind.ensures.name (c.unbind.ensures.changes c.in-Some.one.now here)
