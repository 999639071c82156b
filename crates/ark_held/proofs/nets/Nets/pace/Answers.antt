use Rattle.std.proofs.Common.{sym, ap}
use Rattle.std.proofs.Math.Logic.{∥∥₁_map}
use Rattle.ark_vnic.specs.Card.{NetCard}
use Rattle.ark_held.proofs.Keyed.{changes_set}
use Rattle.ark_held.proofs.NetSound.{net_set, sound_same}
use Rattle.ark_held.proofs.Quiet.{quiet_turned}
use Rattle.ark_held.proofs.nets.Nets.pace.Goals as goal

pub invariant_of-self : goal.invariant_of-self
invariant_of-self c =
    let there = sym c.at_mut-card.ensures.value in
    record {
      sound = ∥∥₁_map c.args.self.now.sound (λ all. net_set _ _ _ c.args.key _ (changes_set _ _ _ _ there)
          (sound_same _ c.at_mut-card.result.now.vnic _ (ap (λ (v : NetCard). v.rx.posted) c.pace_rx.ensures) (ap (λ (v : NetCard). v.tx.posted) c.pace_rx.ensures) (all c.args.key _ there)) all);
      quiet = ∥∥₁_map c.args.self.now.quiet (λ all. quiet_turned _ _ c.args.key _ _ there (changes_set _ _ _ _ there) (ap (λ (v : NetCard). v.tx) c.pace_rx.ensures) all);
    }

pub invariant_of-self-in-Tx : goal.invariant_of-self-in-Tx
invariant_of-self-in-Tx c =
    let there = sym c.at_mut-card.ensures.value in
    record {
      sound = ∥∥₁_map c.args.self.now.sound (λ all. net_set _ _ _ c.args.key _ (changes_set _ _ _ _ there)
          (sound_same _ c.at_mut-card.result.now.vnic _ (ap (λ (v : NetCard). v.rx.posted) c.pace_tx.ensures) (ap (λ (v : NetCard). v.tx.posted) c.pace_tx.ensures) (all c.args.key _ there)) all);
      quiet = ∥∥₁_map c.args.self.now.quiet (λ all. quiet_turned _ _ c.args.key _ _ there (changes_set _ _ _ _ there) (ap (λ (v : NetCard). v.tx) c.pace_tx.ensures) all);
    }
