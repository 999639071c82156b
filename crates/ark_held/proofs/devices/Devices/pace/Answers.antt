use Rattle.std.proofs.Common.{refl, sym, ap, subst}
use Rattle.std.proofs.Math.Logic.{∥∥₁_map}
use Rattle.ark_vic.specs.Queue.{Queue}
use Rattle.ark_vsic.specs.Card.{Card}
use Rattle.ark_held.specs.Rings.{IsSoundRing}
use Rattle.ark_held.proofs.Keyed.{changes_set}
use Rattle.ark_held.specs.LogBuffers.{LiesIn}
use Rattle.ark_held.proofs.CardLogs.{log_turned}
use Rattle.ark_held.proofs.Sounding.{sound_turned}
use Rattle.ark_held.proofs.LogRings.{rings_turned}
use Rattle.ark_held.proofs.devices.Devices.pace.Goals as goal

pub invariant_of-self : goal.invariant_of-self
invariant_of-self c =
    let there = sym c.at_mut-card.ensures.value in
    record { sound = ∥∥₁_map c.args.self.now.sound (λ all. sound_turned _ _ _ c.args.key _ _ there (changes_set _ _ _ _ there) (λ taken long s. subst (λ (q : Queue). IsSoundRing taken q) (sym (ap (λ (v : Card). v.ring) c.pace.ensures)) s) all); lie = ∥∥₁_map c.args.self.now.lie (λ all. log_turned (LiesIn c.args.self.now.frames) _ _ c.args.key _ _ there (changes_set _ _ _ _ there) refl all); logs = ∥∥₁_map c.args.self.now.logs (λ all. rings_turned _ _ _ c.args.key _ _ there (changes_set _ _ _ _ there) refl (ap (λ (v : Card). v.ring) c.pace.ensures) all) }
