use Rattle.std.proofs.Math.Logic.{∥∥₁_map}
use Rattle.ark_held.specs.LogBuffers.{LiesIn}
use Rattle.ark_held.proofs.CardLogs.{log_set}
use Rattle.ark_held.proofs.Sounding.{none_posted, sound_set}
use Rattle.ark_held.proofs.LogRings.{rings_set}
use Rattle.ark_held.proofs.devices.Devices.add_card.Goals as goal

pub invariant_of-self : goal.invariant_of-self
invariant_of-self c = record {
  sound = ∥∥₁_map c.args.self.now.sound (λ all. sound_set _ _ _ c.put.result _ c.put.ensures.changes (λ taken long. none_posted taken _ _ c.requires.empty) all);
  lie = ∥∥₁_map c.args.self.now.lie (λ all. log_set (LiesIn c.args.self.now.frames) _ _ c.put.result _ c.put.ensures.changes (λ taken long. tt) all);
  logs = ∥∥₁_map c.args.self.now.logs (λ all. rings_set _ _ _ c.put.result _ c.put.ensures.changes c.requires.some (λ taken long. tt) all);
}
