use Rattle.std.proofs.Common.{refl, sym}
use Rattle.std.proofs.Math.Logic.{∥∥₁_map}
use Rattle.ark_held.proofs.Keyed.{changes_set}
use Rattle.ark_held.proofs.NetSound.{net_set}
use Rattle.ark_held.proofs.Quiet.{quiet_turned}
use Rattle.ark_held.proofs.nets.Nets.watch.Goals as goal

pub invariant_of-self : goal.invariant_of-self
invariant_of-self c =
    let there = sym c.at_mut-card.ensures.value in
    record {
      sound = ∥∥₁_map c.args.self.now.sound (λ all. net_set _ _ _ c.args.key _ (changes_set _ _ _ _ there) (all c.args.key _ there) all);
      quiet = ∥∥₁_map c.args.self.now.quiet (λ all. quiet_turned _ _ c.args.key _ _ there (changes_set _ _ _ _ there) refl all);
    }

pub invariant_of-self-in-Tx : goal.invariant_of-self-in-Tx
invariant_of-self-in-Tx c =
    let there = sym c.at_mut-card.ensures.value in
    record {
      sound = ∥∥₁_map c.args.self.now.sound (λ all. net_set _ _ _ c.args.key _ (changes_set _ _ _ _ there) (all c.args.key _ there) all);
      quiet = ∥∥₁_map c.args.self.now.quiet (λ all. quiet_turned _ _ c.args.key _ _ there (changes_set _ _ _ _ there) refl all);
    }
