use Rattle.std.proofs.Common.{◌≡◌, refl, sym, ◌∙◌, rules}
use Rattle.std.specs.Prelude.{Some}
use Rattle.ark_objects.specs.Held.{at}
use Rattle.ark_own.proofs.OfCards.{no_key, no_card_there, is_busy}
use Rattle.ark_own.proofs.TakingBack.{oldest, never_full, none_left, flushed, never_unnamed, taken_back}
use Rattle.ark_held.proofs.Bindings.{bound_same}
use Rattle.ark_own.proofs.transfers.reap.Goals as goal

pub returns-in-Err-clause-acts : goal.returns-in-Err-clause-acts
returns-in-Err-clause-acts c = λ t. no_key t c.args.app.now c.args.label.now never_full _ (oldest c.args.label.now) (λ m g. refl) c.in-Err.refusal c.in-Err.ensures.key

pub returns-in_default-clause-acts : goal.returns-in_default-clause-acts
returns-in_default-clause-acts c = λ t. no_card_there t c.args.app.now c.args.label.now never_full _ (oldest c.args.label.now) (λ m g. refl) c.in-Ok.key c.in-Ok.ensures.key _ (search rules)

pub returns-then-is_some-clause-acts : goal.returns-then-is_some-clause-acts
returns-then-is_some-clause-acts c = λ t. is_busy t c.args.app.now c.args.label.now never_full _ (oldest c.args.label.now) (λ m g. refl) c.in-Ok.key c.in-Ok.ensures.key c.in-Some.card.now (search rules) (search rules)

pub returns-in_default-reap-clause-acts : goal.returns-in_default-reap-clause-acts
returns-in_default-reap-clause-acts c = λ t.
    let here : at c.args.app.now.devices.cards c.in-Ok.key ≡ Some c.in-Some.card.now = search rules in
    none_left t c.args.app.now c.args.label.now c.in-Ok.key c.in-Ok.ensures.key c.in-Some.card.now here (search rules) _ (c.reap.ensures.changes c.in-Some.card.now here) refl c.reap.ensures.doors c.reap.ensures.rates c.reap.ensures.nets refl refl refl
    (sym (c.reap.ensures.oldest c.in-Some.card.now here) ∙ c.in_default-reap.is)

pub returns-in_default-buf-clause-acts : goal.returns-in_default-buf-clause-acts
returns-in_default-buf-clause-acts c = λ t.
    let here : at c.args.app.now.devices.cards c.in-Ok.key ≡ Some c.in-Some.card.now = search rules in
    flushed t c.args.app.now c.args.label.now c.in-Ok.key c.in-Ok.ensures.key c.in-Some.card.now here (search rules) c.in-Some-reap.done (sym (c.reap.ensures.oldest c.in-Some.card.now here) ∙ c.in-Some-reap.is)
    _ (c.reap.ensures.changes c.in-Some.card.now here) refl c.reap.ensures.doors c.reap.ensures.rates c.reap.ensures.nets refl refl refl c.in_default-buf.is

pub returns-in_default-label_of_buffer-clause-acts : goal.returns-in_default-label_of_buffer-clause-acts
returns-in_default-label_of_buffer-clause-acts c = λ t.
    let here : at c.args.app.now.devices.cards c.in-Ok.key ≡ Some c.in-Some.card.now = search rules in
    never_unnamed t c.args.app.now c.args.label.now c.in-Ok.key c.in-Ok.ensures.key c.in-Some.card.now here (search rules) c.in-Some-reap.done (sym (c.reap.ensures.oldest c.in-Some.card.now here) ∙ c.in-Some-reap.is)
    _ _ c.in-Some-buf.right c.in-Some-buf.is c.in_default-label_of_buffer.ensures.none

pub returns-clause-acts : goal.returns-clause-acts
returns-clause-acts c = λ t.
    let here : at c.args.app.now.devices.cards c.in-Ok.key ≡ Some c.in-Some.card.now = search rules in
    let said = c.said_of.ensures.answer in
    rw said (taken_back t c.args.app.now c.args.label.now c.in-Ok.key c.in-Ok.ensures.key c.in-Some.card.now here (search rules) c.in-Some-reap.done (sym (c.reap.ensures.oldest c.in-Some.card.now here) ∙ c.in-Some-reap.is)
    _ (c.reap.ensures.changes c.in-Some.card.now here) refl c.reap.ensures.doors c.reap.ensures.rates c.reap.ensures.nets refl refl c.in-Some-buf.right c.in-Some-buf.is c.in-Some-label_of_buffer.buffer c.in-Some-label_of_buffer.ensures.found c.restore.ensures.region c.restore.ensures.changes)

pub invariant_of-app-clause-bound : goal.invariant_of-app-clause-bound
invariant_of-app-clause-bound c =
    let here : at c.args.app.now.devices.cards c.in-Ok.key ≡ Some c.in-Some.card.now = search rules in
    bound_same c.args.app.now.areas c.args.app.now.devices.cards _ c.in-Ok.key c.args.app.now.bound c.in-Some.card.now here _ (c.reap.ensures.changes c.in-Some.card.now here) refl

pub invariant_of-app-in_default-buf-clause-bound : goal.invariant_of-app-in_default-buf-clause-bound
invariant_of-app-in_default-buf-clause-bound c =
    let here : at c.args.app.now.devices.cards c.in-Ok.key ≡ Some c.in-Some.card.now = search rules in
    bound_same c.args.app.now.areas c.args.app.now.devices.cards _ c.in-Ok.key c.args.app.now.bound c.in-Some.card.now here _ (c.reap.ensures.changes c.in-Some.card.now here) refl

pub invariant_of-app-in_default-label_of_buffer-clause-bound : goal.invariant_of-app-in_default-label_of_buffer-clause-bound
invariant_of-app-in_default-label_of_buffer-clause-bound c =
    let here : at c.args.app.now.devices.cards c.in-Ok.key ≡ Some c.in-Some.card.now = search rules in
    bound_same c.args.app.now.areas c.args.app.now.devices.cards _ c.in-Ok.key c.args.app.now.bound c.in-Some.card.now here _ (c.reap.ensures.changes c.in-Some.card.now here) refl

pub invariant_of-app-2-clause-bound : goal.invariant_of-app-2-clause-bound
invariant_of-app-2-clause-bound c =
    let here : at c.args.app.now.devices.cards c.in-Ok.key ≡ Some c.in-Some.card.now = search rules in
    bound_same c.args.app.now.areas c.args.app.now.devices.cards _ c.in-Ok.key c.args.app.now.bound c.in-Some.card.now here _ (c.reap.ensures.changes c.in-Some.card.now here) refl
