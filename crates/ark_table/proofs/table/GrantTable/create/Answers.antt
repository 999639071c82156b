use Rattle.std.proofs.Common.{◌∙◌, ◌-◌, Some, set, arith}
use Rattle.ark_table.specs.Stated.{stated}
use Rattle.ark_table.proofs.Places.{areas-set}
use Rattle.ark_table.proofs.table.GrantTable.create.Goals as goal

pub grant-requires-clause-inside : goal.grant-requires-clause-inside
grant-requires-clause-inside g c = c.requires.inside

pub grant-requires-clause-slot : goal.grant-requires-clause-slot
grant-requires-clause-slot g c = omega (arith, c.requires.high, c.requires.table)

pub returns-clause-granted : goal.returns-clause-granted
returns-clause-granted g c = areas-set c.self.inside.slots.items (c.from.result - 1) (Some c.args.slot) ∙ (λ j. set (c.self.view_is j) (c.from.ensures j - 1) (Some (stated c.args.slot)))
