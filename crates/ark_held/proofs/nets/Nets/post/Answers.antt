use Rattle.std.proofs.Common.{◌<◌, refl, sym, subst}
use Rattle.std.proofs.Math.Logic.{∥∥₁_map}
use Rattle.ark_vic.specs.Queue.{Queue, members}
use Rattle.ark_held.specs.Nets.{with_rx}
use Rattle.ark_held.specs.declared.network_card.NetworkCard.{NetworkCard}
use Rattle.ark_held.proofs.Keyed.{changes_set}
use Rattle.ark_held.proofs.Lists.{some_same}
use Rattle.ark_held.proofs.NetSound.{net_set, sound_receiving}
use Rattle.ark_held.proofs.Quiet.{quiet_turned}
use Rattle.ark_held.proofs.Sounding.{ok_of}
use Rattle.ark_held.proofs.nets.Nets.post.Goals as goal

pub invariant_of-self : goal.invariant_of-self
invariant_of-self c =
    let there = sym c.at_mut.ensures.value in
    let same = some_same _ c.requires.room.one c.at_mut.result.now c.requires.room.there there in
    let ring = sym c.rx_mut.ensures.value in
    let room = subst (λ (q : Queue). members q < q.size) ring (subst (λ (z : NetworkCard). members z.vnic.rx < z.vnic.rx.size) same c.requires.room.room) in
    let posted = ok_of c.post.result _ (c.post.ensures.fits.1 room) c.post.ensures.posted in
    record {
      sound = ∥∥₁_map c.args.self.now.sound (λ all. net_set c.args.self.now.frames _ _ c.args.key (with_rx c.post.new.self c.at_mut.result.now) (changes_set _ _ _ _ there)
          (sound_receiving c.args.self.now.frames c.at_mut.result.now.vnic c.rx_mut.result.now c.post.new.self c.args.descriptor ring posted c.requires.sound (all c.args.key _ there)) all);
      quiet = ∥∥₁_map c.args.self.now.quiet (λ all. quiet_turned _ _ c.args.key _ _ there (changes_set _ _ _ _ there) refl all);
    }
