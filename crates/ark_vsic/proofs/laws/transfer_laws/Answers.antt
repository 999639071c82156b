use Rattle.ark_vsic.proofs.Running.{goes_on, touches, ends}
use Rattle.ark_vsic.proofs.laws.transfer_laws.Goals as goal

pub returns : goal.returns
returns c = record { goes_on = goes_on; touches = touches; ends = ends }
