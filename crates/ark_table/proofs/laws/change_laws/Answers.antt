use Rattle.ark_table.proofs.Tables.{same_table}
use Rattle.ark_table.proofs.Changing.{removed_table, added_table, grown_table}
use Rattle.ark_table.proofs.laws.change_laws.Goals as goal

pub returns : goal.returns
returns c = record { same_table = same_table; removed_table = removed_table; added_table = added_table; grown_table = grown_table }
