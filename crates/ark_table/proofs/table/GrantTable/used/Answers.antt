use Rattle.std.proofs.Common.{◌∙◌, ap, length}
use Rattle.std.specs.Prelude.{count_by, is_some}
use Rattle.ark_table.specs.Table.{slots_in}
use Rattle.ark_table.proofs.Places.{count_in}
use Rattle.ark_table.proofs.table.GrantTable.used.Goals as goal

pub returns-clause-used : goal.returns-clause-used
returns-clause-used c = c.count_used.ensures ∙ ap (λ l. count_by is_some l) c.deref.ensures.value ∙ count_in 1 c.self.inside.slots.items ∙ ap (λ t. length (slots_in 1 t)) c.self.view_is
