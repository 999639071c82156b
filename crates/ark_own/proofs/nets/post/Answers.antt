use Rattle.std.proofs.Common.{◌≡◌, false, refl, sym, ◌∙◌, subst, rules}
use Rattle.std.specs.Prelude.{Some, is_none}
use Rattle.ark_objects.specs.Held.{at, Changes}
use Rattle.ark_vic.specs.declared.descriptor.Descriptor.{Descriptor}
use Rattle.ark_held.specs.Nets.{with_receiving}
use Rattle.ark_held.proofs.Rights.{right_lies}
use Rattle.ark_held.proofs.Storing.{right_found}
use Rattle.ark_own.specs.Transfers.{receiving as its_descriptor}
use Rattle.ark_own.proofs.OfBuffers.{some_right}
use Rattle.ark_own.proofs.PostingFrames as of
use Rattle.ark_own.proofs.nets.post.Goals as goal

pub returns-in-Err-clause-acts : goal.returns-in-Err-clause-acts
returns-in-Err-clause-acts c = λ t. of.no_keys c.args.label.now c.args.buffer.now t c.args.app.now c.in-Err.refusal c.in-Err.ensures.keys

pub returns-in_default-at-clause-acts : goal.returns-in_default-at-clause-acts
returns-in_default-at-clause-acts c = λ t. of.no_net c.args.label.now c.args.buffer.now t c.args.app.now c.in-Ok.keys.0 c.in-Ok.keys.1 c.in-Ok.ensures.keys _ (search rules)

pub returns-in_default-clause-acts : goal.returns-in_default-clause-acts
returns-in_default-clause-acts c = λ t. of.no_buffer c.args.label.now c.args.buffer.now t c.args.app.now c.in-Ok.keys.0 c.in-Ok.keys.1 c.in-Ok.ensures.keys _ (search rules)

pub returns-then-is_lent-clause-acts : goal.returns-then-is_lent-clause-acts
returns-then-is_lent-clause-acts c = λ t. of.is_away c.args.label.now c.args.buffer.now t c.args.app.now c.in-Ok.keys.0 c.in-Ok.keys.1 c.in-Ok.ensures.keys c.in-Some-at.one.now c.in-Some.lent.now (search rules) (search rules) (search rules)

pub returns-then-is_full-clause-acts : goal.returns-then-is_full-clause-acts
returns-then-is_full-clause-acts c = λ t. of.is_full c.args.label.now c.args.buffer.now t c.args.app.now c.in-Ok.keys.0 c.in-Ok.keys.1 c.in-Ok.ensures.keys c.in-Some-at.one.now c.in-Some.lent.now (search rules) (search rules) (search rules) (search rules)

pub post-requires-clause-sound : goal.post-requires-clause-sound
post-requires-clause-sound c = λ taken long.
    let app = c.args.app.now in
    let some : is_none c.in-Some.lent.now.buf ≡ false = search rules in
    let right = some_right c.in-Some.lent.now.buf some in
    let there : at app.store.buffers c.in-Ok.keys.1 ≡ Some c.in-Some.lent.now = search rules in
    rw c.receiving.ensures (of.has_place taken app.store.region.taken (its_descriptor c.in-Ok.keys.1 c.lend-right.result) right.0 (c.lend-right.ensures.right ∙ right_found app.store.buffers c.in-Ok.keys.1 c.in-Some.lent.now right.0 there right.1)
    (right_lies app.store.region.taken app.store.buffers c.in-Ok.keys.1 c.in-Some.lent.now right.0 app.store.lie there right.1) (long ∙ app.network))

pub returns-clause-acts : goal.returns-clause-acts
returns-clause-acts c = λ t.
    let app = c.args.app.now in
    let some : is_none c.in-Some.lent.now.buf ≡ false = search rules in
    let right = some_right c.in-Some.lent.now.buf some in
    let there : at app.devices.nets.cards c.in-Ok.keys.0 ≡ Some c.in-Some-at.one.now = search rules in
    let was : at app.store.buffers c.in-Ok.keys.1 ≡ Some c.in-Some.lent.now = search rules in
    of.post_done c.args.label.now c.args.buffer.now t app c.in-Ok.keys.0 c.in-Ok.keys.1 c.in-Ok.ensures.keys c.in-Some-at.one.now c.in-Some.lent.now there was some (search rules) _ (its_descriptor c.in-Ok.keys.1 c.lend-right.result) refl refl
    (c.lend-right.ensures.right ∙ right_found app.store.buffers c.in-Ok.keys.1 c.in-Some.lent.now right.0 was right.1 ∙ sym right.1)
    (subst (λ (d : Descriptor). Changes app.devices.nets.cards c.post.new.self.cards c.in-Ok.keys.0 (Some (with_receiving d c.in-Some-at.one.now))) c.receiving.ensures (c.post.ensures.changes c.in-Some-at.one.now there))
    (c.lend-right.ensures.changes c.in-Some.lent.now was) c.lend-right.ensures.region refl refl refl refl refl refl
