use Rattle.ark_log.proofs.Whole.{whole_appends, whole_pops, whole_trims, whole_acknowledged}
use Rattle.ark_log.proofs.laws.buffer_laws.Goals as goal

pub returns : goal.returns
returns c = record { appends = whole_appends; pops = whole_pops; trims = whole_trims; acknowledged = whole_acknowledged }
