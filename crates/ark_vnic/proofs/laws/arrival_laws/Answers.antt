use Rattle.ark_vnic.proofs.Arriving.{fits, keeps, stands, throttled}
use Rattle.ark_vnic.proofs.laws.arrival_laws.Goals as goal

pub returns : goal.returns
returns c = record {
  fits = λ card len now. fits len now card;
  keeps = λ card len now. keeps len now card;
  stands = λ card len now. stands len now card;
  throttled = λ card len now. throttled len now card;
}
