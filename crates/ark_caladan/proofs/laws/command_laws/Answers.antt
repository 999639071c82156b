use Rattle.ark_caladan.proofs.Commands.{append_adds, trim_drops, pop_drops, all_go_on}
use Rattle.ark_caladan.proofs.laws.command_laws.Goals as goal

pub returns : goal.returns
returns c = record { append_adds = append_adds; trim_drops = trim_drops; pop_drops = pop_drops; all_go_on = all_go_on }
