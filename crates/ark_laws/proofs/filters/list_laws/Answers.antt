use Rattle.ark_laws.proofs.OneList.{fresh_agrees, start_agrees, line_agrees}
use Rattle.ark_laws.proofs.filters.list_laws.Goals as goal

pub returns : goal.returns
returns c = record {
  fresh = fresh_agrees;
  stored = start_agrees;
  kept = line_agrees;
}
