use Rattle.std.proofs.Common.{◌≡◌, false, rules}
use Rattle.std.specs.Prelude.{None, is_none}
use Rattle.ark_filters.specs.declared.filter.Direction.TheVariants as direction
use Rattle.ark_objects.specs.Held.{at}
use Rattle.ark_held.proofs.Quiet.{quiet_at}
use Rattle.ark_own.proofs.MovingCards.{some_there}
use Rattle.ark_own.proofs.TakingFrames.{no_key, no_net, none_sent}
use Rattle.ark_own.proofs.nets.take_sent.Goals as goal

pub returns-in-Err-clause-acts : goal.returns-in-Err-clause-acts
returns-in-Err-clause-acts c = λ t. no_key t c.args.app.now c.args.label.now direction.Tx c.in-Err.refusal c.in-Err.ensures.key

pub returns-then-is_none-clause-acts : goal.returns-then-is_none-clause-acts
returns-then-is_none-clause-acts c = λ t.
    let gone : at c.args.app.now.devices.nets.cards c.in-Ok.key ≡ None = search rules in
    no_net t c.args.app.now c.args.label.now direction.Tx c.in-Ok.key c.in-Ok.ensures.key _ gone

pub returns-clause-acts : goal.returns-clause-acts
returns-clause-acts c = λ t.
    let nets = c.args.app.now.devices.nets in
    let there : is_none (at nets.cards c.in-Ok.key) ≡ false = search rules in
    let one = some_there (at nets.cards c.in-Ok.key) there in
    none_sent t c.args.app.now c.args.label.now c.in-Ok.key c.in-Ok.ensures.key one.0 one.1 (quiet_at nets.cards c.in-Ok.key one.0 nets.quiet one.1)
