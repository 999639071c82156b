use Rattle.ark_vic.proofs.PaceLemmas.{kept_law, added_law, later_law}
use Rattle.ark_vic.proofs.laws.rate_laws.Goals as goal

pub returns : goal.returns
returns c = record { kept = kept_law; added = added_law; later = later_law }
