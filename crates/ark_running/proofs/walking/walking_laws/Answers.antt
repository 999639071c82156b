use Rattle.ark_running.proofs.Walks.{has_entry, has_at, long_payload, reads_payload}
use Rattle.ark_running.proofs.walking.walking_laws.Goals as goal

pub returns : goal.returns
returns c = record { has = has_entry; only = has_at; long = long_payload; payload = reads_payload }
