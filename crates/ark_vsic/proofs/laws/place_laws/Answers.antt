use Rattle.ark_vsic.proofs.Stepping.{stepwise, in_ring}
use Rattle.ark_vsic.proofs.laws.place_laws.Goals as goal

pub returns : goal.returns
returns c = record { stepwise = stepwise; in_ring = in_ring }
