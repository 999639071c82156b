use Rattle.ark_running.proofs.Payloads.{answers, gives}
use Rattle.ark_running.proofs.giving.giving_laws.Goals as goal

pub returns : goal.returns
returns c = record { answers = answers; gives = gives }
