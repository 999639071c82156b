use Rattle.std.proofs.Common.{refl, sym, ap, ◌∙◌, subst}
use Rattle.std.proofs.Math.Logic.{∥∥₁_map}
use Rattle.ark_vic.specs.Queue.{Queue}
use Rattle.ark_held.specs.Rings.{IsSoundRing}
use Rattle.ark_held.proofs.Keyed.{changes_set}
use Rattle.ark_held.specs.LogBuffers.{LiesIn}
use Rattle.ark_held.proofs.CardLogs.{log_turned}
use Rattle.ark_held.proofs.Sounding.{sound_turned, sound_reaped}
use Rattle.ark_held.proofs.LogRings.{rings_changed, shut_ring}
use Rattle.ark_held.proofs.devices.Devices.reap.Goals as goal

pub invariant_of-self : goal.invariant_of-self
invariant_of-self c =
    let there = sym c.at_mut.ensures.value in
    record { sound = ∥∥₁_map c.args.self.now.sound (λ all. sound_turned _ _ _ c.args.key _ _ there (changes_set _ _ _ _ there) (λ taken long s. sound_reaped taken _ _ c.reap.ensures.rest (subst (λ (q : Queue). IsSoundRing taken q) (sym c.ring_mut.ensures.value) s)) all); lie = ∥∥₁_map c.args.self.now.lie (λ all. log_turned (LiesIn c.args.self.now.frames) _ _ c.args.key _ _ there (changes_set _ _ _ _ there) refl all); logs = ∥∥₁_map c.args.self.now.logs (λ all. rings_changed _ _ _ c.args.key _ _ there (changes_set _ _ _ _ there) (ap (λ (q : Queue). q.size) c.reap.ensures.rest ∙ ap (λ (q : Queue). q.size) c.ring_mut.ensures.value) (shut_ring _ _ _ (c.requires.shut _ there)) all) }
