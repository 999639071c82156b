use Rattle.ark_caladan.proofs.Accepting.{can_append, can_trim, can_pop}
use Rattle.ark_caladan.proofs.open_logs.waiting_laws.Goals as goal

pub returns : goal.returns
returns c = record {
  appends = can_append;
  trims = can_trim;
  pops = can_pop;
}
