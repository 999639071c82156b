use Rattle.ark_entry.proofs.Headers.{written_is_read, read_was_written}
use Rattle.ark_entry.proofs.laws.header_laws.Goals as goal

pub returns : goal.returns
returns c = record { written_is_read = written_is_read; read_was_written = read_was_written }
