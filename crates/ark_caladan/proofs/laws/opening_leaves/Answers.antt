use Rattle.ark_caladan.proofs.Opening.{repaired_is_found, repaired_lies, repaired_holds}
use Rattle.ark_caladan.proofs.laws.opening_leaves.Goals as goal

pub returns : goal.returns
returns c = record { repaired_is_found = repaired_is_found; repaired_lies = repaired_lies; repaired_holds = repaired_holds }
