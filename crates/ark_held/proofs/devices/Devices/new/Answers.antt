use Rattle.ark_held.specs.LogBuffers.{LiesIn}
use Rattle.ark_held.proofs.CardLogs.{none_logged}
use Rattle.ark_held.proofs.Sounding.{none_sound}
use Rattle.ark_held.proofs.LogRings.{none_ringed}
use Rattle.ark_held.proofs.devices.Devices.new.Goals as goal

pub invariant_of-result : goal.invariant_of-result
invariant_of-result c = record { sound = ∣ none_sound c.args.frames c.in_ok-cards.cards c.in_ok-cards.ensures.vacant ∣₁; lie = ∣ none_logged (LiesIn c.args.frames) c.in_ok-cards.cards c.in_ok-cards.ensures.vacant ∣₁; logs = ∣ none_ringed c.args.frames c.in_ok-cards.cards c.in_ok-cards.ensures.vacant ∣₁ }
