use Rattle.ark_laws.proofs.Leaving.{fault_after, new_fails, more_fails, drop_fails}
use Rattle.ark_laws.proofs.TableFailed.{stays_failed, no_new_area, no_more_blocks, no_drop}
use Rattle.ark_laws.proofs.effects.failure_laws.Goals as goal

pub returns : goal.returns
returns c = record {
  whole = fault_after;
  new_area = new_fails;
  more_blocks = more_fails;
  dropped = drop_fails;
  stays = stays_failed;
  no_new_area = no_new_area;
  no_more_blocks = no_more_blocks;
  no_drop = no_drop;
}
