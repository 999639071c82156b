use Rattle.std.proofs.Common.{◌≡◌, false, refl, rules}
use Rattle.std.specs.Prelude.{Some, is_none}
use Rattle.ark_objects.specs.Held.{at}
use Rattle.ark_held.proofs.Storing.{right_found}
use Rattle.ark_own.proofs.OfBuffers.{some_right, right_there}
use Rattle.ark_own.proofs.TwoBuffers.{no_keys, no_first, no_second, past_first, past_second, first_away, second_away}
use Rattle.ark_own.proofs.Copying.{copied, copy_done}
use Rattle.ark_own.proofs.memory.copy.Goals as goal

pub returns-in-Err-clause-acts : goal.returns-in-Err-clause-acts
returns-in-Err-clause-acts c = λ t. no_keys t c.args.app.now c.args.from.now c.args.to.now c.args.len c.args.len _ (copied c.args.from.now c.args.to.now c.args.len) (λ m g. refl) c.in-Err.refusal c.in-Err.ensures.keys

pub returns-in_default-clause-acts : goal.returns-in_default-clause-acts
returns-in_default-clause-acts c = λ t. no_first t c.args.app.now c.args.from.now c.args.to.now c.args.len c.args.len _ (copied c.args.from.now c.args.to.now c.args.len) (λ m g. refl) c.in-Ok.keys.0 c.in-Ok.keys.1 c.in-Ok.ensures.keys _ (search rules)

pub returns-in_default-at-clause-acts : goal.returns-in_default-at-clause-acts
returns-in_default-at-clause-acts c = λ t. no_second t c.args.app.now c.args.from.now c.args.to.now c.args.len c.args.len _ (copied c.args.from.now c.args.to.now c.args.len) (λ m g. refl) c.in-Ok.keys.0 c.in-Ok.keys.1 c.in-Ok.ensures.keys _ (search rules)

pub returns-then-len-source-clause-acts : goal.returns-then-len-source-clause-acts
returns-then-len-source-clause-acts c = λ t. past_first t c.args.app.now c.args.from.now c.args.to.now c.args.len c.args.len _ (copied c.args.from.now c.args.to.now c.args.len) (λ m g. refl) c.in-Ok.keys.0 c.in-Ok.keys.1 c.in-Ok.ensures.keys c.in-Some.source.now c.in-Some-at.target.now (search rules) (search rules) (search rules)

pub returns-then-len-target-clause-acts : goal.returns-then-len-target-clause-acts
returns-then-len-target-clause-acts c = λ t. past_second t c.args.app.now c.args.from.now c.args.to.now c.args.len c.args.len _ (copied c.args.from.now c.args.to.now c.args.len) (λ m g. refl) c.in-Ok.keys.0 c.in-Ok.keys.1 c.in-Ok.ensures.keys c.in-Some.source.now c.in-Some-at.target.now (search rules) (search rules) (search rules) (search rules)

pub returns-then-is_none-clause-acts : goal.returns-then-is_none-clause-acts
returns-then-is_none-clause-acts c = λ t. first_away t c.args.app.now c.args.from.now c.args.to.now c.args.len c.args.len _ (copied c.args.from.now c.args.to.now c.args.len) (λ m g. refl) c.in-Ok.keys.0 c.in-Ok.keys.1 c.in-Ok.ensures.keys c.in-Some.source.now c.in-Some-at.target.now (search rules) (search rules) (search rules) (search rules) (search rules)

pub returns-then-is_none-2-clause-acts : goal.returns-then-is_none-2-clause-acts
returns-then-is_none-2-clause-acts c = λ t.
    let some : is_none c.in-Some.source.now.buf ≡ false = search rules in
    let right = some_right c.in-Some.source.now.buf some in
    second_away t c.args.app.now c.args.from.now c.args.to.now c.args.len c.args.len _ (copied c.args.from.now c.args.to.now c.args.len) (λ m g. refl) c.in-Ok.keys.0 c.in-Ok.keys.1 c.in-Ok.ensures.keys c.in-Some.source.now c.in-Some-at.target.now (search rules) (search rules) (search rules) (search rules) right.0 right.1 (search rules)

pub copy-requires-clause-from : goal.copy-requires-clause-from
copy-requires-clause-from c =
    let some : is_none c.in-Some.source.now.buf ≡ false = search rules in
    record { one = c.in-Some.source.now; there = search rules; right = right_there c.in-Some.source.now.buf some; within = search rules }

pub copy-requires-clause-to : goal.copy-requires-clause-to
copy-requires-clause-to c =
    let some : is_none c.in-Some-at.target.now.buf ≡ false = search rules in
    record { one = c.in-Some-at.target.now; there = search rules; right = right_there c.in-Some-at.target.now.buf some; within = search rules }

pub returns-clause-acts : goal.returns-clause-acts
returns-clause-acts c = λ t.
    let some : is_none c.in-Some.source.now.buf ≡ false = search rules in
    let too : is_none c.in-Some-at.target.now.buf ≡ false = search rules in
    let source = some_right c.in-Some.source.now.buf some in
    let target = some_right c.in-Some-at.target.now.buf too in
    let from : at c.args.app.now.store.buffers c.in-Ok.keys.0 ≡ Some c.in-Some.source.now = search rules in
    let to : at c.args.app.now.store.buffers c.in-Ok.keys.1 ≡ Some c.in-Some-at.target.now = search rules in
    copy_done t c.args.app.now _ c.args.from.now c.args.to.now c.args.len c.in-Ok.keys.0 c.in-Ok.keys.1 c.in-Ok.ensures.keys c.in-Some.source.now c.in-Some-at.target.now from to (search rules) (search rules) source.0 target.0 source.1 target.1
    (c.copy.ensures.wrote source.0 target.0 (right_found c.args.app.now.store.buffers c.in-Ok.keys.0 c.in-Some.source.now source.0 from source.1) (right_found c.args.app.now.store.buffers c.in-Ok.keys.1 c.in-Some-at.target.now target.0 to target.1))
    c.copy.ensures.buffers refl refl refl refl
