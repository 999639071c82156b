use Rattle.std.proofs.Common.{◌<◌, refl, sym, ap, ◌∙◌, subst}
use Rattle.std.proofs.Math.Logic.{∥∥₁_map}
use Rattle.ark_vic.specs.Queue.{Queue, members}
use Rattle.ark_held.specs.Rings.{IsSoundRing}
use Rattle.ark_held.specs.declared.card.StorageCard.{StorageCard}
use Rattle.ark_held.proofs.Lists.{some_same}
use Rattle.ark_held.proofs.Keyed.{changes_set}
use Rattle.ark_held.specs.LogBuffers.{LiesIn}
use Rattle.ark_held.proofs.CardLogs.{log_turned}
use Rattle.ark_held.proofs.Sounding.{ok_of, sound_more, sound_turned}
use Rattle.ark_held.proofs.LogRings.{rings_changed, shut_ring}
use Rattle.ark_held.proofs.devices.Devices.post.Goals as goal

pub invariant_of-self : goal.invariant_of-self
invariant_of-self c =
    let there = sym c.at_mut.ensures.value in
    let same = some_same _ c.requires.room.one c.at_mut.result.now c.requires.room.there there in
    let ring = sym c.ring_mut.ensures.value in
    let room = subst (λ (q : Queue). members q < q.size) ring (subst (λ (z : StorageCard). members z.vsic.ring < z.vsic.ring.size) same c.requires.room.room) in
    let posted = ok_of c.post.result _ (c.post.ensures.fits.1 room) c.post.ensures.posted in
    record { sound = ∥∥₁_map c.args.self.now.sound (λ all. sound_turned _ _ _ c.args.key _ _ there (changes_set _ _ _ _ there) (λ taken long s. sound_more taken _ _ c.args.descriptor posted (c.requires.sound taken long) (subst (λ (q : Queue). IsSoundRing taken q) ring s)) all); lie = ∥∥₁_map c.args.self.now.lie (λ all. log_turned (LiesIn c.args.self.now.frames) _ _ c.args.key _ _ there (changes_set _ _ _ _ there) refl all); logs = ∥∥₁_map c.args.self.now.logs (λ all. rings_changed _ _ _ c.args.key _ _ there (changes_set _ _ _ _ there) (ap (λ (q : Queue). q.size) posted ∙ ap (λ (q : Queue). q.size) c.ring_mut.ensures.value) (shut_ring _ _ _ (c.requires.shut _ there)) all) }
