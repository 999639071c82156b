use Rattle.std.proofs.Common.{Option, refl, sym, subst}
use Rattle.std.proofs.Math.Logic.{∥∥₁_map}
use Rattle.ark_log.specs.Open.{OpenChain}
use Rattle.ark_held.specs.LogBuffers.{LiesIn}
use Rattle.ark_held.specs.LogRings.{HasLogRing}
use Rattle.ark_held.proofs.Commands.{appended, appended_lies}
use Rattle.ark_held.proofs.CardLogs.{log_set}
use Rattle.ark_held.proofs.Keyed.{changes_set}
use Rattle.ark_held.proofs.Sounding.{sound_turned}
use Rattle.ark_held.proofs.LogRings.{appended_ring, rings_changed}
use Rattle.ark_held.proofs.devices.Devices.append.Goals as goal

pub invariant_of-self : goal.invariant_of-self
invariant_of-self c =
    let there = sym c.at_mut.ensures.value in
    record {
      sound = ∥∥₁_map c.args.self.now.sound (λ all. sound_turned _ _ _ c.args.key _ _ there (changes_set _ _ _ _ there) (λ taken long s. s) all);
      lie = ∥∥₁_map c.args.self.now.lie (λ all. log_set (LiesIn c.args.self.now.frames) _ _ c.args.key _ (changes_set _ _ _ _ there)
          (appended_lies c.args.self.now.frames c.in-Some.chain c.append.new.self (subst (LiesIn c.args.self.now.frames) c.in-Some.is (all c.args.key _ there)) c.args.payload.now c.args.region.now c.append.new.region c.append.result c.append.ensures.accepted c.append.ensures.same c.requires.size c.append.ensures.frames) all);
      logs = ∥∥₁_map c.args.self.now.logs (λ all. rings_changed _ _ _ c.args.key _ _ there (changes_set _ _ _ _ there) refl (appended_ring c.args.self.now.frames c.in-Some.chain c.append.new.self c.at_mut.result.now.vsic.ring (subst (λ (o : Option OpenChain). HasLogRing c.args.self.now.frames o c.at_mut.result.now.vsic.ring) c.in-Some.is (all c.args.key _ there).1) c.args.payload.now c.args.region.now c.append.new.region c.append.result c.append.ensures.accepted c.append.ensures.same c.requires.size c.append.ensures.frames) all);
    }

pub returns-clause-accepted : goal.returns-clause-accepted
returns-clause-accepted c = appended c.args.self.now.cards c.args.key c.at_mut.result.now c.in-Some.chain (sym c.at_mut.ensures.value) c.in-Some.is c.args.payload.now c.append.new.self c.args.region.now c.append.new.region c.append.result c.append.ensures.number c.append.ensures.accepted c.append.ensures.admitted c.append.ensures.room
