use Rattle.std.proofs.Common.{◌≡◌, true, rules, refl}
use Rattle.std.specs.Prelude.{None, is_some}
use Rattle.ark_objects.specs.Held.{at}
use Rattle.ark_held.proofs.Bindings.{some_in}
use Rattle.ark_own.specs.Sides.{side_of}
use Rattle.ark_own.proofs.OfNets.{never_gone}
use Rattle.ark_own.proofs.Sides.{net_side}
use Rattle.ark_own.proofs.SidesOfNets.{net_watched}
use Rattle.ark_own.proofs.Watching.{no_keys, never_there, is}
use Rattle.ark_own.proofs.net_sides.watch_net.Goals as goal

pub returns-in-Err-clause-acts : goal.returns-in-Err-clause-acts
returns-in-Err-clause-acts c = λ t. no_keys t c.args.app.now c.args.label.now c.args.door.now (side_of c.args.at) _ (net_side c.args.app.now c.args.label.now c.args.at) c.in-Err.refusal c.in-Err.ensures.keys

pub returns-then-is_none-clause-acts : goal.returns-then-is_none-clause-acts
returns-then-is_none-clause-acts c = λ t.
    let app = c.args.app.now in
    let l = c.args.label.now in
    let gone : at app.devices.nets.cards c.in-Ok.keys.0 ≡ None = search rules in
    never_there t app l c.args.door.now (side_of c.args.at) _ (net_side app l c.args.at) _ (λ y h. never_gone app l c.in-Ok.keys.0 (is t app l c.args.door.now (side_of c.args.at) _ (net_side app l c.args.at) c.in-Ok.keys.0 c.in-Ok.keys.1 c.in-Ok.ensures.keys) y h gone)

pub returns-clause-acts : goal.returns-clause-acts
returns-clause-acts c = λ t.
    let app = c.args.app.now in
    let there : is_some (at app.devices.nets.cards c.in-Ok.keys.0) ≡ true = search rules in
    let one = some_in (at app.devices.nets.cards c.in-Ok.keys.0) there in
    net_watched app _ c.args.label.now c.in-Ok.keys.0 one.0 one.1 refl refl refl refl refl refl refl t c.args.door.now c.args.at c.in-Ok.keys.1 c.in-Ok.ensures.keys (c.watch.ensures.changes one.0 one.1)
