use Rattle.ark_entry.proofs.Emptiness.{zeros_are_empty}
use Rattle.ark_entry.proofs.laws.empty_laws.Goals as goal

pub returns : goal.returns
returns c = record { zeros_are_empty = zeros_are_empty }
