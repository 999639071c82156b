use Rattle.ark_running.proofs.Framing.{running_listed, running_same}
use Rattle.ark_running.proofs.laws.frame_laws.Goals as goal

pub returns : goal.returns
returns c = record { listed = running_listed; same = running_same }
