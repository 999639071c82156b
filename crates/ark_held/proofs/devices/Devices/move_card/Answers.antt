use Rattle.std.proofs.Common.{refl, sym}
use Rattle.std.proofs.Math.Logic.{∥∥₁_map}
use Rattle.ark_objects.specs.Held.{at}
use Rattle.ark_held.proofs.Keyed.{changes_set}
use Rattle.ark_held.specs.LogBuffers.{LiesIn}
use Rattle.ark_held.proofs.CardLogs.{log_turned}
use Rattle.ark_held.proofs.Ringing.{no_ring}
use Rattle.ark_held.proofs.Sounder.{oldest_can, sound_after}
use Rattle.ark_held.proofs.LogRings.{rings_moved}
use Rattle.ark_held.proofs.devices.Devices.move_card.Goals as goal

pub move_vsic-moved-requires-clause-sound : goal.move_vsic-moved-requires-clause-sound
move_vsic-moved-requires-clause-sound g c = oldest_can c.args.self.now.frames c.args.self.now.cards c.args.key c.at_mut-card.result.now _ c.args.self.now.sound (sym c.at_mut-card.ensures.value) c.requires.frames

pub invariant_of-self : goal.invariant_of-self
invariant_of-self g c = record {
  sound = ∥∥₁_map c.args.self.now.sound (λ all. sound_after c.args.self.now.frames c.args.self.now.cards c.args.key c.at_mut-card.result.now _ _ _ c.move_vsic-moved.result (sym c.at_mut-card.ensures.value) c.move_vsic-moved.ensures.ring c.move_vsic-moved.ensures.answer all);
  lie = ∥∥₁_map c.args.self.now.lie (λ all. log_turned (LiesIn c.args.self.now.frames) _ _ c.args.key c.at_mut-card.result.now _ (sym c.at_mut-card.ensures.value) (changes_set _ _ _ _ (sym c.at_mut-card.ensures.value)) refl all);
  logs = ∥∥₁_map c.args.self.now.logs (λ all. rings_moved _ _ _ c.args.key c.at_mut-card.result.now _ c.move_vsic-moved.result (sym c.at_mut-card.ensures.value) (changes_set _ _ _ _ (sym c.at_mut-card.ensures.value)) refl c.move_vsic-moved.ensures.ring all);
}

pub returns-in-Done-clause-sound : goal.returns-in-Done-clause-sound
returns-in-Done-clause-sound g c = λ one there. oldest_can c.args.self.now.frames c.args.self.now.cards c.args.key one c.args.region.now.taken c.args.self.now.sound there c.requires.frames

pub returns-in_default-clause-sound : goal.returns-in_default-clause-sound
returns-in_default-clause-sound g c = λ one there. oldest_can c.args.self.now.frames c.args.self.now.cards c.args.key one c.args.region.now.taken c.args.self.now.sound there c.requires.frames

pub returns-in_default-clause-doors : goal.returns-in_default-clause-doors
returns-in_default-clause-doors g c = λ one there watching. no_ring c.move_vsic-moved.result one.door (at c.args.self.now.doors) c.in_default.not-Done
