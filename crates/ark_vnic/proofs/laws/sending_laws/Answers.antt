use Rattle.ark_vnic.proofs.LettingOut.{let_out, keeps, stands, held}
use Rattle.ark_vnic.proofs.laws.sending_laws.Goals as goal

pub returns : goal.returns
returns c = record {
  let_out = let_out;
  keeps = λ card rules own space now len r p paced. keeps card rules own space now r p paced len;
  stands = λ card rules own space now len r p paced. stands card rules own space now r p paced len;
  waits = held;
}
