use Rattle.ark_caladan.proofs.Commands.{acknowledged_is_listed, stored_is_listed, only_listed, none_else, damaged_alone}
use Rattle.ark_caladan.proofs.laws.list_laws.Goals as goal

pub returns : goal.returns
returns c = record { acknowledged_is_listed = acknowledged_is_listed; stored_is_listed = stored_is_listed; only_listed = only_listed; none_else = none_else; damaged_alone = damaged_alone }
