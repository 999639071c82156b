use Rattle.std.proofs.Math.Logic.{∥∥₁_map}
use Rattle.ark_held.proofs.NetSound.{net_set, sound_new}
use Rattle.ark_held.proofs.Quiet.{empty_ring, quiet_set}
use Rattle.ark_held.proofs.nets.Nets.add.Goals as goal

pub invariant_of-self : goal.invariant_of-self
invariant_of-self c = record {
  sound = ∥∥₁_map c.args.self.now.sound (λ all. net_set _ _ _ c.put.result _ c.put.ensures.changes (sound_new _ c.args.vnic c.requires.none (empty_ring c.args.vnic.tx c.requires.empty).0) all);
  quiet = ∥∥₁_map c.args.self.now.quiet (λ all. quiet_set _ _ c.put.result _ c.put.ensures.changes c.requires.empty all);
}
