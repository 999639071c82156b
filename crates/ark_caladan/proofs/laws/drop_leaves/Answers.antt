use Rattle.ark_caladan.proofs.Leaving.{dropped_is_found, rest_lies, rest_holds}
use Rattle.ark_caladan.proofs.laws.drop_leaves.Goals as goal

pub returns : goal.returns
returns c = record { dropped_is_found = dropped_is_found; rest_lies = rest_lies; rest_holds = rest_holds }
