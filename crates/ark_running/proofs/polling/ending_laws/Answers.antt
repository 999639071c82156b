use Rattle.ark_running.proofs.Acks.{polled_acks}
use Rattle.ark_running.proofs.Polls.{polled_fails}
use Rattle.ark_running.proofs.polling.ending_laws.Goals as goal

pub returns : goal.returns
returns c = record { fails = polled_fails; acknowledges = polled_acks }
