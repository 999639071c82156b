use Rattle.std.proofs.Common.{◌∙◌, sym}
use Rattle.ark_table.proofs.Beside.{counted, kept_off}
use Rattle.ark_table.proofs.going.goes_into.Goals as goal

pub returns-then-goes_beside_all : goal.returns-then-goes_beside_all
returns-then-goes_beside_all c = counted c.args.slot.now c.args.slots.now c.count_of.result (sym c.goes_beside_all.ensures ∙ c.if-goes_beside_all.true) c.count_of.ensures

pub returns-else-goes_beside_all : goal.returns-else-goes_beside_all
returns-else-goes_beside_all c = c.if-goes_beside_all.false ∙ kept_off c.args.slot.now c.args.slots.now (sym c.goes_beside_all.ensures ∙ c.if-goes_beside_all.false)
