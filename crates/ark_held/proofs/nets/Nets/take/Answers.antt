use Rattle.std.proofs.Common.{refl, sym}
use Rattle.std.proofs.Math.Logic.{∥∥₁_map}
use Rattle.ark_held.specs.Nets.{with_rx}
use Rattle.ark_held.proofs.Keyed.{changes_set}
use Rattle.ark_held.proofs.NetSound.{net_set, sound_reaped}
use Rattle.ark_held.proofs.Quiet.{quiet_turned}
use Rattle.ark_held.proofs.nets.Nets.take.Goals as goal

pub invariant_of-self : goal.invariant_of-self
invariant_of-self c =
    let there = sym c.at_mut.ensures.value in
    record {
      sound = ∥∥₁_map c.args.self.now.sound (λ all. net_set c.args.self.now.frames _ _ c.args.key (with_rx c.reap.new.self c.at_mut.result.now) (changes_set _ _ _ _ there)
          (sound_reaped c.args.self.now.frames c.at_mut.result.now.vnic c.rx_mut.result.now c.reap.new.self (sym c.rx_mut.ensures.value) c.reap.ensures.rest (all c.args.key _ there)) all);
      quiet = ∥∥₁_map c.args.self.now.quiet (λ all. quiet_turned _ _ c.args.key _ _ there (changes_set _ _ _ _ there) refl all);
    }
