use Rattle.std.proofs.Common.{◌≡◌, refl, rules}
use Rattle.std.specs.Prelude.{Some}
use Rattle.ark_objects.specs.Held.{at}
use Rattle.ark_caps.specs.Labels.{value_at}
use Rattle.ark_machine.specs.Cards.{bound_with}
use Rattle.ark_own.proofs.Bindings as of
use Rattle.ark_own.proofs.Looked.{each_key}
use Rattle.ark_own.proofs.binding.bind.Goals as goal

pub returns-in-Err-clause-acts : goal.returns-in-Err-clause-acts
returns-in-Err-clause-acts c = λ t. of.no_keys c.args.card.now c.args.area.now bound_with t c.args.app.now _ (λ m g. refl) c.in-Err.refusal c.in-Err.ensures.keys

pub returns-in_default-clause-acts : goal.returns-in_default-clause-acts
returns-in_default-clause-acts c = λ t. of.no_card c.args.card.now c.args.area.now bound_with t c.args.app.now _ (λ m g. refl) c.in-Ok.keys.0 c.in-Ok.keys.1 c.in-Ok.ensures.keys _ (search rules)

pub returns-then-is_some-clause-acts : goal.returns-then-is_some-clause-acts
returns-then-is_some-clause-acts c = λ t. of.is_busy c.args.card.now c.args.area.now bound_with t c.args.app.now _ (λ m g. refl) c.in-Ok.keys.0 c.in-Ok.keys.1 c.in-Ok.ensures.keys c.in-Some.one.now (search rules) (search rules)

pub bind-requires-clause-held : goal.bind-requires-clause-held
bind-requires-clause-held c = of.held_under c.args.app.now.areas c.args.area.now (value_at c.args.app.now.labels c.args.area.now) c.in-Ok.keys.1
    (each_key c.in-Ok.keys.0 c.in-Ok.keys.1 _ _ c.in-Ok.ensures.keys).1

pub returns-clause-acts : goal.returns-clause-acts
returns-clause-acts c = λ t.
    let here : at c.args.app.now.devices.cards c.in-Ok.keys.0 ≡ Some c.in-Some.one.now = search rules in
    of.bind_done t c.args.app.now _ c.args.card.now c.args.area.now c.in-Ok.keys.0 c.in-Ok.keys.1 c.in-Ok.ensures.keys c.in-Some.one.now here (search rules)
    c.bind.ensures.labels c.bind.ensures.doors c.bind.ensures.rates c.bind.ensures.nets c.bind.ensures.store c.bind.ensures.areas c.bind.ensures.name (c.bind.ensures.changes c.in-Some.one.now here)
