use Rattle.ark_running.proofs.AnyCard.{elsewhere, full, is_due, sound}
use Rattle.ark_running.proofs.moving.due_laws.Goals as goal

pub returns : goal.returns
returns c = record {
  sound = sound;
  due = λ h blocks space card v p g o held now d runs area first. is_due h blocks space card v p g o held now runs area d first;
  elsewhere = elsewhere;
  full = full;
}
