use Rattle.ark_machine.proofs.Runs.{each_more, system_after-more}
use Rattle.ark_laws.proofs.laws.run_laws.Goals as goal

pub returns : goal.returns
returns c = record { goes_on = each_more; leaves = system_after-more }
