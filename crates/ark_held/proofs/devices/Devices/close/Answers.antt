use Rattle.std.proofs.Common.{Some, refl, sym, ◌∙◌, ap, subst}
use Rattle.std.proofs.Math.Logic.{∥∥₁_map}
use Rattle.ark_log.specs.Open.{OpenChain}
use Rattle.ark_vic.specs.Queue.{Queue}
use Rattle.ark_vsic.specs.Card.{Card}
use Rattle.ark_held.specs.LogBuffers.{LiesIn}
use Rattle.ark_held.specs.Rings.{IsSoundRing}
use Rattle.ark_held.proofs.CardLogs.{lies_at, log_set, log_turned}
use Rattle.ark_held.proofs.Keyed.{changes_set}
use Rattle.ark_held.proofs.Sounding.{sound_turned}
use Rattle.ark_held.proofs.LogRings.{rings_changed, rings_turned, shut_ring}
use Rattle.ark_held.proofs.devices.Devices.close.Goals as goal

pub close-requires : goal.close-requires
close-requires c = lies_at c.args.self.now.frames c.args.self.now.cards c.args.key c.at_mut-card.result.now c.in-Some.chain c.args.region.now.taken c.args.self.now.lie (sym c.at_mut-card.ensures.value) (sym c.take.ensures.value ∙ c.in-Some.is) c.requires.size

pub invariant_of-self : goal.invariant_of-self
invariant_of-self c =
    let there = sym c.at_mut-card.ensures.value in
    let none = sym c.take.ensures.after in
    record {
      sound = ∥∥₁_map c.args.self.now.sound (λ all. sound_turned _ _ _ c.args.key _ _ there (changes_set _ _ _ _ there) (λ taken long s. subst (λ (q : Queue). IsSoundRing taken q) (sym (ap (λ (v : Card). v.ring) c.unbind.ensures)) s) all);
      lie = ∥∥₁_map c.args.self.now.lie (λ all. log_set (LiesIn c.args.self.now.frames) _ _ c.args.key _ (changes_set _ _ _ _ there) (subst (LiesIn c.args.self.now.frames) none (λ taken long. tt)) all);
      logs = ∥∥₁_map c.args.self.now.logs (λ all. rings_changed _ _ _ c.args.key _ _ there (changes_set _ _ _ _ there) (ap (λ (v : Card). v.ring.size) c.unbind.ensures) (shut_ring _ _ _ c.take.ensures.after) all);
    }

pub invariant_of-self-in-Err : goal.invariant_of-self-in-Err
invariant_of-self-in-Err c =
    let there = sym c.at_mut-card.ensures.value in
    let same = ap (λ (q : OpenChain). Some q) c.in-Err.ensures.back ∙ sym (sym c.take.ensures.value ∙ c.in-Some.is) in
    record {
      sound = ∥∥₁_map c.args.self.now.sound (λ all. sound_turned _ _ _ c.args.key _ _ there (changes_set _ _ _ _ there) (λ taken long s. s) all);
      lie = ∥∥₁_map c.args.self.now.lie (λ all. log_turned (LiesIn c.args.self.now.frames) _ _ c.args.key _ _ there (changes_set _ _ _ _ there) same all);
      logs = ∥∥₁_map c.args.self.now.logs (λ all. rings_turned _ _ _ c.args.key _ _ there (changes_set _ _ _ _ there) same refl all);
    }
