use Rattle.ark_entry.proofs.Dropping.{dropping_finds}
use Rattle.ark_entry.proofs.laws.drop_laws.Goals as goal

pub returns : goal.returns
returns c = record { dropping_finds = dropping_finds }
