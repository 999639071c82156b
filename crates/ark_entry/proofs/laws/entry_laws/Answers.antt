use Rattle.ark_entry.proofs.Entries.{written_is_found}
use Rattle.ark_entry.proofs.laws.entry_laws.Goals as goal

pub returns : goal.returns
returns c = record { written_is_found = written_is_found }
