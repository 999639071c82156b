use Rattle.ark_running.proofs.Opens.{closes, rests_free}
use Rattle.ark_running.proofs.opening.closing_laws.Goals as goal

pub returns : goal.returns
returns c = record { closes = closes; full = λ h blocks space ring v p g o runs. runs.full; free = rests_free }
