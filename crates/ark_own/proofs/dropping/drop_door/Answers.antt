use Rattle.std.proofs.Common.{rules, sym, ◌∙◌}
use Rattle.ark_own.proofs.GivingUp.{no_door_there, door_busy, door_done}
use Rattle.ark_own.proofs.dropping.drop_door.Goals as goal

pub returns-then-is_none-clause-acts : goal.returns-then-is_none-clause-acts
returns-then-is_none-clause-acts c = λ t. no_door_there t c.args.app.now c.args.app.now c.args.label.now c.args.cap c.requires.labelled c.requires.door _ (search rules)

pub returns-then-watches-clause-acts : goal.returns-then-watches-clause-acts
returns-then-watches-clause-acts c = λ t. door_busy t c.args.app.now c.args.app.now c.args.label.now c.args.cap c.requires.labelled c.requires.door (sym c.watches.ensures ∙ c.if-watches.true)

pub returns-clause-acts : goal.returns-clause-acts
returns-clause-acts c = λ t.
    door_done t c.args.app.now c.remove_door.new.self c.args.label.now c.args.cap c.requires.labelled c.requires.door (sym c.watches.ensures ∙ c.if-watches.false)
    c.remove_door.ensures.labels c.remove_door.ensures.doors c.remove_door.ensures.cards c.remove_door.ensures.rates c.remove_door.ensures.nets c.remove_door.ensures.areas c.remove_door.ensures.name c.remove_door.ensures.store
