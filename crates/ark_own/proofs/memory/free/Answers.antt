use Rattle.std.proofs.Common.{refl, rules, arith}
use Rattle.ark_own.proofs.OfBuffers.{no_key, no_buffer_there, is_away}
use Rattle.ark_own.proofs.Freeing.{freed, free_row, free_done}
use Rattle.ark_own.proofs.memory.free.Goals as goal

pub returns-in-Err-clause-acts : goal.returns-in-Err-clause-acts
returns-in-Err-clause-acts c = λ t. no_key t c.args.app.now c.args.label.now 0 _ (freed c.args.label.now) (free_row c.args.label.now) c.in-Err.refusal c.in-Err.ensures.key

pub returns-in_default-clause-acts : goal.returns-in_default-clause-acts
returns-in_default-clause-acts c = λ t. no_buffer_there t c.args.app.now c.args.label.now 0 _ (freed c.args.label.now) (free_row c.args.label.now) c.in-Ok.key c.in-Ok.ensures.key _ (search rules)

pub returns-then-is_none-clause-acts : goal.returns-then-is_none-clause-acts
returns-then-is_none-clause-acts c = λ t. is_away t c.args.app.now c.args.label.now 0 _ (freed c.args.label.now) (free_row c.args.label.now) c.in-Ok.key c.in-Ok.ensures.key c.in-Some.freed.now (search rules) (omega arith) (search rules)

pub returns-clause-acts : goal.returns-clause-acts
returns-clause-acts c = λ t. free_done t c.args.app.now _ c.args.label.now c.in-Ok.key c.in-Ok.ensures.key c.give.ensures.gave c.remove.ensures.rest refl refl refl
