use Rattle.std.proofs.Common.{◌<◌, ◌≤◌, rules, refl}
use Rattle.ark_vic.specs.Queue.{members}
use Rattle.ark_own.proofs.OfCards.{no_key, no_card_there, is_busy, is_full}
use Rattle.ark_own.proofs.Flushing.{flushed, full_at, full_there, flush_done}
use Rattle.ark_held.proofs.Bindings.{bound_same}
use Rattle.std.proofs.Common.{◌≡◌}
use Rattle.std.specs.Prelude.{Some}
use Rattle.ark_objects.specs.Held.{at}
use Rattle.ark_own.proofs.cards.flush.Goals as goal

pub returns-in-Err-clause-acts : goal.returns-in-Err-clause-acts
returns-in-Err-clause-acts c = λ t. no_key t c.args.app.now c.args.label.now (full_at c.args.label.now) _ (flushed c.args.label.now) (λ m g. refl) c.in-Err.refusal c.in-Err.ensures.key

pub returns-in_default-clause-acts : goal.returns-in_default-clause-acts
returns-in_default-clause-acts c = λ t. no_card_there t c.args.app.now c.args.label.now (full_at c.args.label.now) _ (flushed c.args.label.now) (λ m g. refl) c.in-Ok.key c.in-Ok.ensures.key _ (search rules)

pub returns-then-is_some-clause-acts : goal.returns-then-is_some-clause-acts
returns-then-is_some-clause-acts c = λ t. is_busy t c.args.app.now c.args.label.now (full_at c.args.label.now) _ (flushed c.args.label.now) (λ m g. refl) c.in-Ok.key c.in-Ok.ensures.key c.in-Some.card.now (search rules) (search rules)

pub returns-then-is_full-clause-acts : goal.returns-then-is_full-clause-acts
returns-then-is_full-clause-acts c = λ t.
    let over : c.in-Some.card.now.vsic.ring.size ≤ members c.in-Some.card.now.vsic.ring = search rules in
    is_full t c.args.app.now c.args.label.now (full_at c.args.label.now) _ (flushed c.args.label.now) (λ m g. refl) c.in-Ok.key c.in-Ok.ensures.key c.in-Some.card.now (search rules) (search rules)
    (full_there c.args.app.now c.args.label.now c.in-Ok.key c.in-Ok.ensures.key c.in-Some.card.now (search rules) over)

pub post-requires : goal.post-requires
post-requires c = record { room = record { one = c.in-Some.card.now; there = search rules; room = search rules }; shut = search rules; sound = λ taken long. tt }

pub returns-clause-acts : goal.returns-clause-acts
returns-clause-acts c = λ t.
    let under : members c.in-Some.card.now.vsic.ring < c.in-Some.card.now.vsic.ring.size = search rules in
    flush_done t c.args.app.now _ c.args.label.now c.in-Ok.key c.in-Ok.ensures.key c.in-Some.card.now (search rules) (search rules) under _ refl refl (c.post.ensures.changes c.in-Some.card.now (search rules)) refl c.post.ensures.doors c.post.ensures.rates c.post.ensures.nets refl refl refl

pub invariant_of-app-clause-bound : goal.invariant_of-app-clause-bound
invariant_of-app-clause-bound c =
    let here : at c.args.app.now.devices.cards c.in-Ok.key ≡ Some c.in-Some.card.now = search rules in
    bound_same c.args.app.now.areas c.args.app.now.devices.cards _ c.in-Ok.key c.args.app.now.bound c.in-Some.card.now here _ (c.post.ensures.changes c.in-Some.card.now here) refl
