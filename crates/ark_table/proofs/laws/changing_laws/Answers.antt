use Rattle.ark_table.proofs.Moments.{created, grown, removed}
use Rattle.ark_table.proofs.laws.changing_laws.Goals as goal

pub returns : goal.returns
returns c = record { created = created; grown = grown; removed = removed }
