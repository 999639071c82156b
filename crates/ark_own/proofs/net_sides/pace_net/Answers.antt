use Rattle.std.proofs.Common.{◌≡◌, ℕ, true, rules, refl, subst}
use Rattle.std.specs.Prelude.{None, Option, Result, Ok, is_some}
use Rattle.ark_base.specs.declared.refusal.Refusal.{Refusal}
use Rattle.ark_objects.specs.Held.{at}
use Rattle.ark_held.proofs.Bindings.{some_in}
use Rattle.ark_own.specs.Keys.{both_keys, net_key, rate_given}
use Rattle.ark_own.specs.Sides.{side_of}
use Rattle.ark_own.proofs.OfNets.{never_gone}
use Rattle.ark_own.proofs.Pacing.{no_keys, never_there, is, no_rate_there}
use Rattle.ark_own.proofs.Sides.{net_side}
use Rattle.ark_own.proofs.SidesOfNets.{net_unpaced, net_paced_anew}
use Rattle.ark_own.proofs.net_sides.pace_net.Goals as goal

pub returns-in-Err-clause-acts : goal.returns-in-Err-clause-acts
returns-in-Err-clause-acts c = λ t grant. no_keys t c.args.app.now c.args.label.now c.args.rate.now (side_of c.args.at) _ (net_side c.args.app.now c.args.label.now c.args.at) c.in-Err.refusal c.in-Err.ensures.keys grant c.args.now

pub returns-then-is_none-clause-acts : goal.returns-then-is_none-clause-acts
returns-then-is_none-clause-acts c = λ t grant.
    let app = c.args.app.now in
    let l = c.args.label.now in
    let gone : at app.devices.nets.cards c.in-Ok.keys.0 ≡ None = search rules in
    never_there t app l c.args.rate.now (side_of c.args.at) _ (net_side app l c.args.at) _ (λ y h. never_gone app l c.in-Ok.keys.0 (is t app l c.args.rate.now (side_of c.args.at) _ (net_side app l c.args.at) c.in-Ok.keys.0 c.in-Ok.keys.1 c.in-Ok.ensures.keys) y h gone) grant c.args.now

pub returns-in_default-clause-acts : goal.returns-in_default-clause-acts
returns-in_default-clause-acts c = λ t.
    let app = c.args.app.now in
    let there : is_some (at app.devices.nets.cards c.in-Ok.keys.0) ≡ true = search rules in
    let one = some_in (at app.devices.nets.cards c.in-Ok.keys.0) there in
    let keys = subst (λ (o : Option ℕ). ◌≡◌ {A = Result (ℕ × Option ℕ) Refusal} (Ok (c.in-Ok.keys.0, o)) (both_keys (net_key app.labels c.args.label.now) (rate_given app.labels c.args.rate.now))) c.in_default.is c.in-Ok.ensures.keys in
    net_unpaced app _ c.args.label.now c.in-Ok.keys.0 one.0 one.1 refl refl refl refl refl refl refl c.args.now t c.args.rate.now c.args.at keys (c.pace.ensures.changes one.0 one.1)

pub returns-in_default-at-clause-acts : goal.returns-in_default-at-clause-acts
returns-in_default-at-clause-acts c = λ t grant.
    no_rate_there t c.args.app.now c.args.label.now c.args.rate.now (side_of c.args.at) _ (net_side c.args.app.now c.args.label.now c.args.at) c.in-Ok.keys.0 c.in-Ok.keys.1 c.in-Ok.ensures.keys _ c.in-Some.key c.in-Some.is (search rules) grant c.args.now

pub returns-clause-acts : goal.returns-clause-acts
returns-clause-acts c = λ t.
    let app = c.args.app.now in
    let there : is_some (at app.devices.nets.cards c.in-Ok.keys.0) ≡ true = search rules in
    let one = some_in (at app.devices.nets.cards c.in-Ok.keys.0) there in
    let keys = subst (λ (o : Option ℕ). ◌≡◌ {A = Result (ℕ × Option ℕ) Refusal} (Ok (c.in-Ok.keys.0, o)) (both_keys (net_key app.labels c.args.label.now) (rate_given app.labels c.args.rate.now))) c.in-Some.is c.in-Ok.ensures.keys in
    net_paced_anew app _ c.args.label.now c.in-Ok.keys.0 one.0 one.1 refl refl refl refl refl refl refl c.args.now t c.args.rate.now c.args.at
    c.in-Some.key keys c.in-Some-at.allowance.now (search rules) c.new-pace.result c.new-pace.ensures.value c.new-pace.ensures.stands (c.pace-2.ensures.changes one.0 one.1)
