use Rattle.ark_laws.proofs.OthersLeft.{others_whole, others_torn}
use Rattle.ark_laws.proofs.effects.stop_laws.Goals as goal

pub returns : goal.returns
returns c = record { whole = others_whole; torn = others_torn }
