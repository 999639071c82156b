use Rattle.ark_entry.proofs.Appending.{idle_finds, body_finds, marking_finds, more_stands}
use Rattle.ark_entry.proofs.laws.append_laws.Goals as goal

pub returns : goal.returns
returns c = record { idle_finds = idle_finds; body_finds = body_finds; marking_finds = marking_finds; more_stands = more_stands }
