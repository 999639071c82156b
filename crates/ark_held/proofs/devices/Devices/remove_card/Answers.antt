use Rattle.std.proofs.Math.Logic.{∥∥₁_map}
use Rattle.ark_held.specs.LogBuffers.{LiesIn}
use Rattle.ark_held.proofs.CardLogs.{log_less}
use Rattle.ark_held.proofs.Sounding.{sound_less}
use Rattle.ark_held.proofs.LogRings.{rings_less}
use Rattle.ark_held.proofs.devices.Devices.remove_card.Goals as goal

pub invariant_of-self : goal.invariant_of-self
invariant_of-self c = record { sound = ∥∥₁_map c.args.self.now.sound (λ all. sound_less _ _ _ c.args.key c.take.ensures.changes all); lie = ∥∥₁_map c.args.self.now.lie (λ all. log_less (LiesIn c.args.self.now.frames) _ _ c.args.key c.take.ensures.changes all); logs = ∥∥₁_map c.args.self.now.logs (λ all. rings_less _ _ _ c.args.key c.take.ensures.changes all) }
