use Rattle.ark_entry.proofs.Repairing.{repair_finds, read_stands}
use Rattle.ark_entry.proofs.laws.repair_laws.Goals as goal

pub returns : goal.returns
returns c = record { repair_finds = repair_finds; read_stands = read_stands }
