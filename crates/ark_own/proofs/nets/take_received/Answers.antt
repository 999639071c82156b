use Rattle.std.proofs.Common.{◌≡◌, ap, arith, length, refl, rules}
use Rattle.std.specs.Prelude.{Some}
use Rattle.ark_filters.specs.declared.filter.Direction.TheVariants as direction
use Rattle.ark_objects.specs.Held.{at}
use Rattle.ark_vic.specs.Queue.{Queue}
use Rattle.ark_own.proofs.TakingFrames.{no_key, no_net, none_received, never_bare, never_unnamed, taken_back}
use Rattle.ark_own.proofs.nets.take_received.Goals as goal

pub returns-in-Err-clause-acts : goal.returns-in-Err-clause-acts
returns-in-Err-clause-acts c = λ t. no_key t c.args.app.now c.args.label.now direction.Rx c.in-Err.refusal c.in-Err.ensures.key

pub returns-in_default-clause-acts : goal.returns-in_default-clause-acts
returns-in_default-clause-acts c = λ t. no_net t c.args.app.now c.args.label.now direction.Rx c.in-Ok.key c.in-Ok.ensures.key _ (search rules)

pub returns-then-unreaped-eq0-clause-acts : goal.returns-then-unreaped-eq0-clause-acts
returns-then-unreaped-eq0-clause-acts c = λ t.
    let unreaped = ap (λ (q : Queue). length q.unreaped) c.rx.ensures in
    none_received t c.args.app.now c.args.label.now c.in-Ok.key c.in-Ok.ensures.key c.in-Some.card.now (search rules) (omega (arith, unreaped, c.unreaped.ensures, c.if-unreaped-eq0.true))

pub returns-in_default-buf-clause-acts : goal.returns-in_default-buf-clause-acts
returns-in_default-buf-clause-acts c = λ t.
    let here : at c.args.app.now.devices.nets.cards c.in-Ok.key ≡ Some c.in-Some.card.now = search rules in
    never_bare t c.args.app.now c.args.label.now c.in-Ok.key c.in-Ok.ensures.key c.in-Some.card.now here c.take-done.result (c.take-done.ensures.oldest c.in-Some.card.now here) _ _ c.in_default-buf.is

pub returns-in_default-label_of_buffer-clause-acts : goal.returns-in_default-label_of_buffer-clause-acts
returns-in_default-label_of_buffer-clause-acts c = λ t.
    let here : at c.args.app.now.devices.nets.cards c.in-Ok.key ≡ Some c.in-Some.card.now = search rules in
    never_unnamed t c.args.app.now c.args.label.now c.in-Ok.key c.in-Ok.ensures.key c.in-Some.card.now here c.take-done.result (c.take-done.ensures.oldest c.in-Some.card.now here) _ _ c.in_default-label_of_buffer.ensures.none

pub returns-clause-acts : goal.returns-clause-acts
returns-clause-acts c = λ t.
    let here : at c.args.app.now.devices.nets.cards c.in-Ok.key ≡ Some c.in-Some.card.now = search rules in
    taken_back t c.args.app.now c.args.label.now c.in-Ok.key c.in-Ok.ensures.key c.in-Some.card.now here c.take-done.result (c.take-done.ensures.oldest c.in-Some.card.now here)
    _ (c.take-done.ensures.changes c.in-Some.card.now here) refl refl refl refl refl refl c.in-Some-buf.right c.in-Some-buf.is c.in-Some-label_of_buffer.buffer c.in-Some-label_of_buffer.ensures.found c.restore.ensures.region c.restore.ensures.changes
