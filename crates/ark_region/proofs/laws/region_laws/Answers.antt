use Rattle.ark_region.proofs.Sharing.{apart_bytes}
use Rattle.ark_region.proofs.laws.region_laws.Goals as goal

pub returns : goal.returns
returns c = record { no_byte_shared = apart_bytes }
