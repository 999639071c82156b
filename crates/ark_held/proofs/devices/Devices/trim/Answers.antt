use Rattle.std.proofs.Common.{Option, refl, sym, subst}
use Rattle.std.proofs.Math.Logic.{∥∥₁_map}
use Rattle.ark_log.specs.Open.{OpenChain}
use Rattle.ark_held.specs.LogBuffers.{LiesIn}
use Rattle.ark_held.specs.LogRings.{HasLogRing}
use Rattle.ark_held.proofs.Commands.{trimmed, trimmed_lies}
use Rattle.ark_held.proofs.CardLogs.{log_set}
use Rattle.ark_held.proofs.Keyed.{changes_set}
use Rattle.ark_held.proofs.Sounding.{sound_turned}
use Rattle.ark_held.proofs.LogRings.{rings_changed, trimmed_ring}
use Rattle.ark_held.proofs.devices.Devices.trim.Goals as goal

pub invariant_of-self : goal.invariant_of-self
invariant_of-self c =
    let there = sym c.at_mut.ensures.value in
    record {
      sound = ∥∥₁_map c.args.self.now.sound (λ all. sound_turned _ _ _ c.args.key _ _ there (changes_set _ _ _ _ there) (λ taken long s. s) all);
      lie = ∥∥₁_map c.args.self.now.lie (λ all. log_set (LiesIn c.args.self.now.frames) _ _ c.args.key _ (changes_set _ _ _ _ there)
          (trimmed_lies c.args.self.now.frames c.in-Some.chain c.trim.new.self (subst (LiesIn c.args.self.now.frames) c.in-Some.is (all c.args.key _ there)) c.args.n c.trim.result c.trim.ensures.accepted c.trim.ensures.same) all);
      logs = ∥∥₁_map c.args.self.now.logs (λ all. rings_changed _ _ _ c.args.key _ _ there (changes_set _ _ _ _ there) refl (trimmed_ring c.args.self.now.frames c.in-Some.chain c.trim.new.self c.at_mut.result.now.vsic.ring (subst (λ (o : Option OpenChain). HasLogRing c.args.self.now.frames o c.at_mut.result.now.vsic.ring) c.in-Some.is (all c.args.key _ there).1) c.args.n c.trim.result c.trim.ensures.accepted c.trim.ensures.same) all);
    }

pub returns-clause-accepted : goal.returns-clause-accepted
returns-clause-accepted c = trimmed c.args.self.now.cards c.args.key c.at_mut.result.now c.in-Some.chain (sym c.at_mut.ensures.value) c.in-Some.is c.args.n c.trim.new.self c.trim.result c.trim.ensures.accepted c.trim.ensures.admitted c.trim.ensures.some c.trim.ensures.there
