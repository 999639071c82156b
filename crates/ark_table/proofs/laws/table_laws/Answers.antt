use Rattle.ark_table.proofs.Tables.{table_is_read, read_has_table}
use Rattle.ark_table.proofs.laws.table_laws.Goals as goal

pub returns : goal.returns
returns c = record { table_is_read = table_is_read; read_has_table = read_has_table }
