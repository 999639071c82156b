use Rattle.ark_vsic.proofs.Owning.{own, keeps, stands, waits}
use Rattle.ark_vsic.proofs.laws.due_laws.Goals as goal

pub returns : goal.returns
returns c = record {
  own = own;
  keeps = λ card held now n r p h. keeps card held now r p h.rate h.stands h.later n;
  stands = λ card held now n r p h. stands card held now r p h.rate h.stands h.later n;
  waits = λ card held now r p h. waits card held now r p h.rate h.stands h.later;
}
