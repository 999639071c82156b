use Rattle.std.proofs.Common.{rules, refl}
use Rattle.ark_own.proofs.MakingDoors.{door_taken, door_full, door_done}
use Rattle.ark_own.proofs.rates.door.Goals as goal

pub returns-then-is_some-clause-acts : goal.returns-then-is_some-clause-acts
returns-then-is_some-clause-acts c = λ t. door_taken t c.args.app.now c.args.label.now c.args.grant (search rules)

pub returns-then-len-ge-LABELS-clause-acts : goal.returns-then-len-ge-LABELS-clause-acts
returns-then-len-ge-LABELS-clause-acts c = λ t. door_full t c.args.app.now c.args.label.now c.args.grant (search rules) (search rules)

pub returns-clause-acts : goal.returns-clause-acts
returns-clause-acts c = λ t. door_done t c.args.app.now c.args.label.now c.args.grant (search rules) (search rules) _ c.put-key.result c.put-key.ensures.vacant (rw c.new.ensures at c.put-key.ensures.changes) (search rules) refl refl refl refl refl refl
