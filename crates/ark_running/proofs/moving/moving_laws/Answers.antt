use Rattle.ark_running.proofs.AnyCard.{all_beside, moves}
use Rattle.ark_running.proofs.moving.moving_laws.Goals as goal

pub returns : goal.returns
returns c = record {
  moves = λ h blocks old new card v p g o held now events result d stage runs area first at has. moves h blocks old card v p g o held now runs area d first new events result has stage at;
  beside = λ h blocks old new card v p g o held now events result runs area has. all_beside h blocks old card v p g o held now runs area new events result has;
}
