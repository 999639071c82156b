use Rattle.std.proofs.Common.{◌≡◌, ℕ, true, rules, refl, subst}
use Rattle.std.specs.Prelude.{None, Option, Result, Ok, is_some}
use Rattle.ark_script.specs.declared.step.Side.TheVariants as side
use Rattle.ark_base.specs.declared.refusal.Refusal.{Refusal}
use Rattle.ark_objects.specs.Held.{at}
use Rattle.ark_held.proofs.Bindings.{bound_same, some_in}
use Rattle.ark_own.specs.Keys.{both_keys, card_key, rate_given}
use Rattle.ark_own.proofs.OfCards.{never_gone}
use Rattle.ark_own.proofs.Sides.{card_side}
use Rattle.ark_own.proofs.Pacing.{no_keys, never_there, is, no_rate_there, unpaced, paced_anew}
use Rattle.ark_own.proofs.rates.pace_card.Goals as goal

pub returns-in-Err-clause-acts : goal.returns-in-Err-clause-acts
returns-in-Err-clause-acts c = λ t grant. no_keys t c.args.app.now c.args.label.now c.args.rate.now side.Io _ (card_side c.args.app.now c.args.label.now) c.in-Err.refusal c.in-Err.ensures.keys grant c.args.now

pub returns-then-is_none-clause-acts : goal.returns-then-is_none-clause-acts
returns-then-is_none-clause-acts c = λ t grant.
    let app = c.args.app.now in
    let l = c.args.label.now in
    let gone : at app.devices.cards c.in-Ok.keys.0 ≡ None = search rules in
    never_there t app l c.args.rate.now side.Io _ (card_side app l) _ (λ y h. never_gone app l c.in-Ok.keys.0 (is t app l c.args.rate.now side.Io _ (card_side app l) c.in-Ok.keys.0 c.in-Ok.keys.1 c.in-Ok.ensures.keys) y h gone) grant c.args.now

pub invariant_of-app-clause-bound : goal.invariant_of-app-clause-bound
invariant_of-app-clause-bound c =
    let there : is_some (at c.args.app.now.devices.cards c.in-Ok.keys.0) ≡ true = search rules in
    let one = some_in (at c.args.app.now.devices.cards c.in-Ok.keys.0) there in
    bound_same c.args.app.now.areas c.args.app.now.devices.cards _ c.in-Ok.keys.0 c.args.app.now.bound one.0 one.1 _ (c.unpace.ensures.changes one.0 one.1) refl

pub returns-in_default-clause-acts : goal.returns-in_default-clause-acts
returns-in_default-clause-acts c = λ t.
    let there : is_some (at c.args.app.now.devices.cards c.in-Ok.keys.0) ≡ true = search rules in
    let one = some_in (at c.args.app.now.devices.cards c.in-Ok.keys.0) there in
    let keys = subst (λ (o : Option ℕ). ◌≡◌ {A = Result (ℕ × Option ℕ) Refusal} (Ok (c.in-Ok.keys.0, o)) (both_keys (card_key c.args.app.now.labels c.args.label.now) (rate_given c.args.app.now.labels c.args.rate.now))) c.in_default.is c.in-Ok.ensures.keys in
    unpaced c.args.now t c.args.app.now _ c.args.label.now c.args.rate.now c.in-Ok.keys.0 one.0 one.1 refl c.unpace.ensures.doors c.unpace.ensures.rates c.unpace.ensures.nets refl refl refl keys (c.unpace.ensures.changes one.0 one.1)

pub returns-in_default-at-clause-acts : goal.returns-in_default-at-clause-acts
returns-in_default-at-clause-acts c = λ t grant.
    no_rate_there t c.args.app.now c.args.label.now c.args.rate.now side.Io _ (card_side c.args.app.now c.args.label.now) c.in-Ok.keys.0 c.in-Ok.keys.1 c.in-Ok.ensures.keys _ c.in-Some.key c.in-Some.is (search rules) grant c.args.now

pub invariant_of-app-2-clause-bound : goal.invariant_of-app-2-clause-bound
invariant_of-app-2-clause-bound c =
    let there : is_some (at c.args.app.now.devices.cards c.in-Ok.keys.0) ≡ true = search rules in
    let one = some_in (at c.args.app.now.devices.cards c.in-Ok.keys.0) there in
    bound_same c.args.app.now.areas c.args.app.now.devices.cards _ c.in-Ok.keys.0 c.args.app.now.bound one.0 one.1 _ (c.pace.ensures.changes one.0 one.1) refl

pub returns-clause-acts : goal.returns-clause-acts
returns-clause-acts c = λ t.
    let there : is_some (at c.args.app.now.devices.cards c.in-Ok.keys.0) ≡ true = search rules in
    let one = some_in (at c.args.app.now.devices.cards c.in-Ok.keys.0) there in
    let keys = subst (λ (o : Option ℕ). ◌≡◌ {A = Result (ℕ × Option ℕ) Refusal} (Ok (c.in-Ok.keys.0, o)) (both_keys (card_key c.args.app.now.labels c.args.label.now) (rate_given c.args.app.now.labels c.args.rate.now))) c.in-Some.is c.in-Ok.ensures.keys in
    paced_anew c.args.now t c.args.app.now _ c.args.label.now c.args.rate.now c.in-Ok.keys.0 one.0 one.1 refl c.pace.ensures.doors c.pace.ensures.rates c.pace.ensures.nets refl refl refl
    c.in-Some.key keys c.in-Some-at.allowance.now (search rules) c.new-pace.result c.new-pace.ensures.value c.new-pace.ensures.stands (c.pace.ensures.changes one.0 one.1)
