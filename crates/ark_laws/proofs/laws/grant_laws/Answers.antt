use Rattle.ark_laws.proofs.Granted.{line_apart, areas_apart, new_apart}
use Rattle.ark_laws.proofs.Owned.{no_other_read, no_other_written}
use Rattle.ark_laws.proofs.Stored.{stored_apart}
use Rattle.ark_laws.proofs.laws.grant_laws.Goals as goal

pub returns : goal.returns
returns c = record {
  fresh = λ size. record { fit = tt; apart = tt };
  stored = stored_apart;
  kept = line_apart;
  apart = areas_apart;
  new_blocks = new_apart;
  reads = no_other_read;
  writes = no_other_written;
}
