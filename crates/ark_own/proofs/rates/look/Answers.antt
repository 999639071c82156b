use Rattle.std.proofs.Common.{rules, refl}
use Rattle.ark_own.proofs.Looking.{no_key, no_door_there, look_done}
use Rattle.ark_held.proofs.Bindings.{bound_still}
use Rattle.ark_own.proofs.rates.look.Goals as goal

pub returns-in-Err-clause-acts : goal.returns-in-Err-clause-acts
returns-in-Err-clause-acts c = λ t. no_key t c.args.app.now c.args.label.now c.in-Err.refusal c.in-Err.ensures.key

pub returns-in_default-clause-acts : goal.returns-in_default-clause-acts
returns-in_default-clause-acts c = λ t. no_door_there t c.args.app.now c.args.label.now c.in-Ok.key c.in-Ok.ensures.key _ _ (search rules)

pub returns-clause-acts : goal.returns-clause-acts
returns-clause-acts c = λ t. look_done t c.args.app.now c.args.label.now c.in-Ok.key c.in-Ok.ensures.key _ c.in-Some.counts (search rules) c.in-Some.ensures.anew refl c.look.ensures.cards c.look.ensures.rates c.look.ensures.nets refl refl refl

pub invariant_of-app-clause-bound : goal.invariant_of-app-clause-bound
invariant_of-app-clause-bound c = bound_still c.args.app.now.areas c.args.app.now.devices.cards _ c.look.ensures.cards c.args.app.now.bound
