use Rattle.ark_laws.proofs.Privacy.{others_left, replies_private, machine_private, replies_alike}
use Rattle.ark_laws.proofs.Told.{outputs_private, outputs_alike, start_private, start_alike, start_outputs_alike}
use Rattle.ark_laws.proofs.laws.privacy_laws.Goals as goal

pub returns : goal.returns
returns c = record {
  others = others_left;
  replies = replies_private;
  machine = machine_private;
  alike = replies_alike;
  outputs = outputs_private;
  outputs_alike = outputs_alike;
  start = start_private;
  start_alike = start_alike;
  start_outputs = start_outputs_alike;
}
