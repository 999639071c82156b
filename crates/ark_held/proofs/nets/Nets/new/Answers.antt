use Rattle.ark_held.proofs.NetSound.{no_nets}
use Rattle.ark_held.proofs.Quiet.{no_quiet}
use Rattle.ark_held.proofs.nets.Nets.new.Goals as goal

pub invariant_of-result : goal.invariant_of-result
invariant_of-result c = record { sound = ∣ no_nets c.args.frames c.in_ok-cards.cards c.in_ok-cards.ensures.vacant ∣₁; quiet = ∣ no_quiet c.in_ok-cards.cards c.in_ok-cards.ensures.vacant ∣₁ }
