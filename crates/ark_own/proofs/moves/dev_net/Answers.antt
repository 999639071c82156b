use Rattle.std.proofs.Common.{◌≡◌, false, rules}
use Rattle.std.specs.Prelude.{None, is_none}
use Rattle.ark_objects.specs.Held.{at}
use Rattle.ark_caps.specs.Labels.{value_at}
use Rattle.ark_held.proofs.Quiet.{quiet_at}
use Rattle.ark_own.proofs.MovingCards.{some_there}
use Rattle.ark_own.proofs.MovingNets.{dev_never, dev_no_net, dev_idle}
use Rattle.ark_own.proofs.OfNets.{net_at}
use Rattle.ark_own.proofs.moves.dev_net.Goals as goal

pub returns-in-Err-clause-acts : goal.returns-in-Err-clause-acts
returns-in-Err-clause-acts c = λ t. dev_never t c.args.app.now c.args.label.now _ (λ y h. net_at c.args.label.now (value_at c.args.app.now.labels c.args.label.now) c.in-Err.refusal c.requires.net c.in-Err.ensures.key)

pub returns-then-is_none-clause-acts : goal.returns-then-is_none-clause-acts
returns-then-is_none-clause-acts c = λ t.
    let gone : at c.args.app.now.devices.nets.cards c.in-Ok.key ≡ None = search rules in
    dev_no_net t c.args.app.now c.args.label.now c.in-Ok.key c.in-Ok.ensures.key _ gone

pub returns-clause-acts : goal.returns-clause-acts
returns-clause-acts c = λ t.
    let nets = c.args.app.now.devices.nets in
    let there : is_none (at nets.cards c.in-Ok.key) ≡ false = search rules in
    let one = some_there (at nets.cards c.in-Ok.key) there in
    dev_idle t c.args.app.now c.args.label.now c.in-Ok.key c.in-Ok.ensures.key one.0 one.1 (quiet_at nets.cards c.in-Ok.key one.0 nets.quiet one.1)
