use Rattle.ark_udp.proofs.Reaping.{stands}
use Rattle.ark_udp.proofs.laws.reaping_laws.Goals as goal

pub returns : goal.returns
returns c = record { stands = stands }
