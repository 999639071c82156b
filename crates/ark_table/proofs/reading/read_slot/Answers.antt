use Rattle.std.proofs.Common.{◌∙◌, sym}
use Rattle.ark_table.proofs.Decoding.{unkept, unspelled}
use Rattle.ark_table.proofs.reading.read_slot.Goals as goal

pub returns-in_default : goal.returns-in_default
returns-in_default c = (sym c.is_free.ensures ∙ c.if-is_free.false, unkept c.args.size c.args.block.now c.slot_in.result c.in_default.is c.slot_in.ensures.kept.1)

pub returns-else-eq : goal.returns-else-eq
returns-else-eq c = (sym c.is_free.ensures ∙ c.if-is_free.false, unspelled c.args.size c.args.block.now c.in-Some.slot c.slot_block.result c.in-Some.ensures.fields c.slot_block.ensures (sym c.eq.ensures ∙ c.if-eq.false))
