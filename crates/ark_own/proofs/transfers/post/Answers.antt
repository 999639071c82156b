use Rattle.std.proofs.Common.{◌≡◌, ◌≤◌, ◌*◌, false, refl, sym, ◌∙◌, subst, rules, arith}
use Rattle.std.specs.Prelude.{Some, is_none}
use Rattle.ark_objects.specs.Held.{at, Changes}
use Rattle.ark_vic.specs.declared.descriptor.Descriptor.{Descriptor}
use Rattle.ark_held.specs.Rings.{with_posted}
use Rattle.ark_held.proofs.Rights.{right_lies, right_len}
use Rattle.ark_held.proofs.Storing.{right_found}
use Rattle.ark_own.specs.Transfers.{transfer as its_transfer}
use Rattle.ark_own.proofs.OfBuffers.{some_right}
use Rattle.ark_own.proofs.Transferring as of
use Rattle.ark_held.proofs.Bindings.{bound_same}
use Rattle.ark_own.proofs.transfers.post.Goals as goal

pub returns-in-Err-clause-acts : goal.returns-in-Err-clause-acts
returns-in-Err-clause-acts c = λ t. of.no_keys c.args.put c.args.card.now c.args.area.now c.args.buffer.now c.args.off c.args.count t c.args.app.now c.in-Err.refusal c.in-Err.ensures.keys

pub returns-in_default-at-clause-acts : goal.returns-in_default-at-clause-acts
returns-in_default-at-clause-acts c = λ t. of.no_card c.args.put c.args.card.now c.args.area.now c.args.buffer.now c.args.off c.args.count t c.args.app.now c.in-Ok.keys.0.0 c.in-Ok.keys.1 c.in-Ok.keys.0.1 c.in-Ok.ensures.keys _ (search rules)

pub returns-in_default-clause-acts : goal.returns-in_default-clause-acts
returns-in_default-clause-acts c = λ t. of.no_buffer c.args.put c.args.card.now c.args.area.now c.args.buffer.now c.args.off c.args.count t c.args.app.now c.in-Ok.keys.0.0 c.in-Ok.keys.1 c.in-Ok.keys.0.1 c.in-Ok.ensures.keys _ (search rules)

pub returns-then-off-count-clause-acts : goal.returns-then-off-count-clause-acts
returns-then-off-count-clause-acts c = λ t. of.past_area c.args.put c.args.card.now c.args.area.now c.args.buffer.now c.args.off c.args.count t c.args.app.now c.in-Ok.keys.0.0 c.in-Ok.keys.1 c.in-Ok.keys.0.1 c.in-Ok.ensures.keys
    c.in-Some-at.one.now c.in-Some.lent.now (search rules) (search rules) (search rules)

pub returns-then-count-from-clause-acts : goal.returns-then-count-from-clause-acts
returns-then-count-from-clause-acts c = λ t. of.past_buffer c.args.put c.args.card.now c.args.area.now c.args.buffer.now c.args.off c.args.count t c.args.app.now c.in-Ok.keys.0.0 c.in-Ok.keys.1 c.in-Ok.keys.0.1 c.in-Ok.ensures.keys
    c.in-Some-at.one.now c.in-Some.lent.now (search rules) (search rules) (search rules) (search rules)

pub returns-then-is_some-clause-acts : goal.returns-then-is_some-clause-acts
returns-then-is_some-clause-acts c = λ t. of.is_busy c.args.put c.args.card.now c.args.area.now c.args.buffer.now c.args.off c.args.count t c.args.app.now c.in-Ok.keys.0.0 c.in-Ok.keys.1 c.in-Ok.keys.0.1 c.in-Ok.ensures.keys
    c.in-Some-at.one.now c.in-Some.lent.now (search rules) (search rules) (search rules) (search rules) (search rules)

pub returns-then-is_lent-clause-acts : goal.returns-then-is_lent-clause-acts
returns-then-is_lent-clause-acts c = λ t. of.is_away c.args.put c.args.card.now c.args.area.now c.args.buffer.now c.args.off c.args.count t c.args.app.now c.in-Ok.keys.0.0 c.in-Ok.keys.1 c.in-Ok.keys.0.1 c.in-Ok.ensures.keys
    c.in-Some-at.one.now c.in-Some.lent.now (search rules) (search rules) (search rules) (search rules) (search rules) (search rules)

pub returns-then-is_full-clause-acts : goal.returns-then-is_full-clause-acts
returns-then-is_full-clause-acts c = λ t. of.is_full c.args.put c.args.card.now c.args.area.now c.args.buffer.now c.args.off c.args.count t c.args.app.now c.in-Ok.keys.0.0 c.in-Ok.keys.1 c.in-Ok.keys.0.1 c.in-Ok.ensures.keys
    c.in-Some-at.one.now c.in-Some.lent.now (search rules) (search rules) (search rules) (search rules) (search rules) (search rules) (search rules)

pub post-requires-clause-sound : goal.post-requires-clause-sound
post-requires-clause-sound c = λ taken long.
    let app = c.args.app.now in
    let some : is_none c.in-Some.lent.now.buf ≡ false = search rules in
    let right = some_right c.in-Some.lent.now.buf some in
    let there : at app.store.buffers c.in-Ok.keys.1 ≡ Some c.in-Some.lent.now = search rules in
    let fits : 512 * c.args.count ≤ c.in-Some.lent.now.len = search rules in
    let len = right_len app.store.region.taken app.store.buffers c.in-Ok.keys.1 c.in-Some.lent.now right.0 app.store.lie there right.1 in
    let few = c.requires.some in
    rw c.transfer.ensures (of.can_move c.args.put taken app.store.region.taken (its_transfer c.job_of.result _ c.in-Ok.keys.1 c.lend-right.result) right.0 c.job_of.ensures (omega (arith, few)) (c.lend-right.ensures.right ∙ right_found app.store.buffers c.in-Ok.keys.1 c.in-Some.lent.now right.0 there right.1)
    (right_lies app.store.region.taken app.store.buffers c.in-Ok.keys.1 c.in-Some.lent.now right.0 app.store.lie there right.1) (long ∙ app.memory) (omega (arith, fits, len)))

pub returns-clause-acts : goal.returns-clause-acts
returns-clause-acts c = λ t.
    let app = c.args.app.now in
    let some : is_none c.in-Some.lent.now.buf ≡ false = search rules in
    let right = some_right c.in-Some.lent.now.buf some in
    let there : at app.devices.cards c.in-Ok.keys.0.0 ≡ Some c.in-Some-at.one.now = search rules in
    let was : at app.store.buffers c.in-Ok.keys.1 ≡ Some c.in-Some.lent.now = search rules in
    of.post_done c.args.put c.args.card.now c.args.area.now c.args.buffer.now c.args.off c.args.count t app c.in-Ok.keys.0.0 c.in-Ok.keys.1 c.in-Ok.keys.0.1 c.in-Ok.ensures.keys
    c.in-Some-at.one.now c.in-Some.lent.now there was (search rules) (search rules) (search rules) some (search rules) _ (its_transfer c.job_of.result _ c.in-Ok.keys.1 c.lend-right.result) c.job_of.ensures refl refl refl refl refl refl
    (c.lend-right.ensures.right ∙ right_found app.store.buffers c.in-Ok.keys.1 c.in-Some.lent.now right.0 was right.1 ∙ sym right.1) (subst (λ (d : Descriptor). Changes app.devices.cards c.post.new.self.cards c.in-Ok.keys.0.0 (Some (with_posted d c.in-Some-at.one.now))) c.transfer.ensures (c.post.ensures.changes c.in-Some-at.one.now there)) (c.lend-right.ensures.changes c.in-Some.lent.now was) c.lend-right.ensures.region refl c.post.ensures.doors c.post.ensures.rates c.post.ensures.nets refl refl

pub invariant_of-app-clause-bound : goal.invariant_of-app-clause-bound
invariant_of-app-clause-bound c =
    let there : at c.args.app.now.devices.cards c.in-Ok.keys.0.0 ≡ Some c.in-Some-at.one.now = search rules in
    bound_same c.args.app.now.areas c.args.app.now.devices.cards _ c.in-Ok.keys.0.0 c.args.app.now.bound c.in-Some-at.one.now there _ (c.post.ensures.changes c.in-Some-at.one.now there) refl
