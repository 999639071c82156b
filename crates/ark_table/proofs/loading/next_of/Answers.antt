use Rattle.std.proofs.Common.{◌∙◌, sym, ap}
use Rattle.ark_table.specs.Slots.{goes_with}
use Rattle.ark_table.specs.Table.{held_in}
use Rattle.ark_table.specs.Stated.{stated, areas}
use Rattle.ark_table.proofs.Front.{says_read}
use Rattle.ark_table.proofs.loading.next_of.Goals as goal

pub returns-then-goes_into : goal.returns-then-goes_into
returns-then-goes_into c = (says_read c.args.size c.args.block.now (stated c.in-Used.slot) c.in-Used.ensures.1 c.in-Used.ensures.2, sym c.goes_into.ensures ∙ c.if-goes_into.true)

pub returns-else-goes_into : goal.returns-else-goes_into
returns-else-goes_into c = (c.in-Used.ensures.0, λ _. ap (goes_with (held_in 1 (areas c.args.slots.now))) (sym c.in-Used.ensures.2) ∙ sym c.goes_into.ensures ∙ c.if-goes_into.false)
