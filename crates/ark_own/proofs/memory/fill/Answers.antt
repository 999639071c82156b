use Rattle.std.proofs.Common.{◌≡◌, ◌+◌, ◌/◌, ◌<◌, ◌≤◌, false, length, refl, rules, arith}
use Rattle.std.specs.Prelude.{Some, is_none}
use Rattle.ark_objects.specs.Held.{at}
use Rattle.ark_script.specs.Line.{spelled}
use Rattle.ark_held.proofs.Storing.{right_found}
use Rattle.ark_own.proofs.OfBytes.{half_digits}
use Rattle.ark_own.proofs.OfBuffers.{no_key, no_buffer_there, too_far, is_away, some_right, right_there}
use Rattle.ark_own.proofs.Filling.{filled, fill_done}
use Rattle.ark_own.proofs.memory.fill.Goals as goal

pub returns-in-Err-clause-acts : goal.returns-in-Err-clause-acts
returns-in-Err-clause-acts c = λ t. let bytes = spelled c.args.hex.now.digits.now in
    no_key t c.args.app.now c.args.label.now (c.args.off + length bytes) _ (filled c.args.label.now c.args.off bytes) (λ m g. refl) c.in-Err.refusal c.in-Err.ensures.key

pub returns-in_default-clause-acts : goal.returns-in_default-clause-acts
returns-in_default-clause-acts c = λ t. let bytes = spelled c.args.hex.now.digits.now in
    no_buffer_there t c.args.app.now c.args.label.now (c.args.off + length bytes) _ (filled c.args.label.now c.args.off bytes) (λ m g. refl) c.in-Ok.key c.in-Ok.ensures.key _ (search rules)

pub returns-then-at-hex-clause-acts : goal.returns-then-at-hex-clause-acts
returns-then-at-hex-clause-acts c = λ t.
    let bytes = spelled c.args.hex.now.digits.now in
    let half = half_digits c.args.hex.now.digits.now c.args.hex.now.even in
    let far : c.in-Some.buffer.now.len < c.args.off + length c.args.hex.now.digits.now / 2 = search rules in
    too_far t c.args.app.now c.args.label.now (c.args.off + length bytes) _ (filled c.args.label.now c.args.off bytes) (λ m g. refl) c.in-Ok.key c.in-Ok.ensures.key c.in-Some.buffer.now (search rules) (omega (arith, half, far))

pub returns-then-is_none-clause-acts : goal.returns-then-is_none-clause-acts
returns-then-is_none-clause-acts c = λ t.
    let bytes = spelled c.args.hex.now.digits.now in
    let half = half_digits c.args.hex.now.digits.now c.args.hex.now.even in
    let within : c.args.off + length c.args.hex.now.digits.now / 2 ≤ c.in-Some.buffer.now.len = search rules in
    is_away t c.args.app.now c.args.label.now (c.args.off + length bytes) _ (filled c.args.label.now c.args.off bytes) (λ m g. refl) c.in-Ok.key c.in-Ok.ensures.key c.in-Some.buffer.now (search rules) (omega (arith, half, within)) (search rules)

pub spell_into-requires-clause-here : goal.spell_into-requires-clause-here
spell_into-requires-clause-here c =
    let some : is_none c.in-Some.buffer.now.buf ≡ false = search rules in
    record { one = c.in-Some.buffer.now; there = search rules; right = right_there c.in-Some.buffer.now.buf some; within = search rules }

pub returns-clause-acts : goal.returns-clause-acts
returns-clause-acts c = λ t.
    let digits = c.args.hex.now.digits.now in
    let half = half_digits digits c.args.hex.now.even in
    let within : c.args.off + length digits / 2 ≤ c.in-Some.buffer.now.len = search rules in
    let some : is_none c.in-Some.buffer.now.buf ≡ false = search rules in
    let right = some_right c.in-Some.buffer.now.buf some in
    let there : at c.args.app.now.store.buffers c.in-Ok.key ≡ Some c.in-Some.buffer.now = search rules in
    fill_done t c.args.app.now _ c.args.label.now c.args.off c.in-Ok.key (spelled digits) c.in-Ok.ensures.key c.in-Some.buffer.now there (omega (arith, half, within)) right.0 right.1
    (c.spell_into.ensures.wrote right.0 (right_found c.args.app.now.store.buffers c.in-Ok.key c.in-Some.buffer.now right.0 there right.1)) c.spell_into.ensures.buffers refl refl refl refl
