use Rattle.std.proofs.Math.Logic.{∥∥₁_map}
use Rattle.ark_held.proofs.NetSound.{net_less}
use Rattle.ark_held.proofs.Quiet.{quiet_less}
use Rattle.ark_held.proofs.nets.Nets.remove.Goals as goal

pub invariant_of-self : goal.invariant_of-self
invariant_of-self c = record {
  sound = ∥∥₁_map c.args.self.now.sound (λ all. net_less _ _ _ c.args.key c.take.ensures.changes all);
  quiet = ∥∥₁_map c.args.self.now.quiet (λ all. quiet_less _ _ c.args.key c.take.ensures.changes all);
}
