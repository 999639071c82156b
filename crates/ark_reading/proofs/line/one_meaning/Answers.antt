use Rattle.ark_reading.proofs.Meant.{some_meaning, one_meaning}
use Rattle.ark_reading.proofs.line.one_meaning.Goals as goal

pub returns : goal.returns
returns c = record { some = some_meaning; only = one_meaning }
