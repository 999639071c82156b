use Rattle.ark_table.proofs.Fresh.{fresh_is_empty, zeros_are_damaged}
use Rattle.ark_table.proofs.laws.fresh_laws.Goals as goal

pub returns : goal.returns
returns c = record { fresh_is_empty = fresh_is_empty; zeros_are_damaged = zeros_are_damaged }
