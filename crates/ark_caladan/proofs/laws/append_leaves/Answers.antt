use Rattle.ark_caladan.proofs.Leaving.{rest_is_found, draft_is_found, marker_is_found, entry_lies}
use Rattle.ark_caladan.proofs.laws.append_leaves.Goals as goal

pub returns : goal.returns
returns c = record { rest_is_found = rest_is_found; draft_is_found = draft_is_found; marker_is_found = marker_is_found; entry_lies = entry_lies }
