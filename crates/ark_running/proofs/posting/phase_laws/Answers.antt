use Rattle.ark_running.proofs.Phased.{polled_none_left, posted_phase}
use Rattle.ark_running.proofs.posting.phase_laws.Goals as goal

pub returns : goal.returns
returns c = record { posted = posted_phase; none_left = polled_none_left }
