use Rattle.std.proofs.Common.{Option, refl, sym, subst}
use Rattle.std.proofs.Math.Logic.{∥∥₁_map}
use Rattle.ark_log.specs.Refused.{IsNoPop, IsRefused}
use Rattle.ark_log.specs.Open.{OpenChain}
use Rattle.ark_held.specs.LogBuffers.{LiesIn}
use Rattle.ark_held.specs.LogRings.{HasLogRing}
use Rattle.ark_held.proofs.Commands.{popped, popped_lies, refused}
use Rattle.ark_held.proofs.CardLogs.{log_set}
use Rattle.ark_held.proofs.Keyed.{changes_set}
use Rattle.ark_held.proofs.Sounding.{sound_turned}
use Rattle.ark_held.proofs.LogRings.{popped_ring, rings_changed}
use Rattle.ark_held.proofs.devices.Devices.pop.Goals as goal

pub invariant_of-self : goal.invariant_of-self
invariant_of-self c =
    let there = sym c.at_mut.ensures.value in
    record {
      sound = ∥∥₁_map c.args.self.now.sound (λ all. sound_turned _ _ _ c.args.key _ _ there (changes_set _ _ _ _ there) (λ taken long s. s) all);
      lie = ∥∥₁_map c.args.self.now.lie (λ all. log_set (LiesIn c.args.self.now.frames) _ _ c.args.key _ (changes_set _ _ _ _ there)
          (popped_lies c.args.self.now.frames c.in-Some.chain c.pop.new.self (subst (LiesIn c.args.self.now.frames) c.in-Some.is (all c.args.key _ there)) c.args.region.now c.pop.new.region c.pop.result c.pop.ensures.accepted c.pop.ensures.same c.requires.size c.pop.ensures.frames) all);
      logs = ∥∥₁_map c.args.self.now.logs (λ all. rings_changed _ _ _ c.args.key _ _ there (changes_set _ _ _ _ there) refl (popped_ring c.args.self.now.frames c.in-Some.chain c.pop.new.self c.at_mut.result.now.vsic.ring (subst (λ (o : Option OpenChain). HasLogRing c.args.self.now.frames o c.at_mut.result.now.vsic.ring) c.in-Some.is (all c.args.key _ there).1) c.args.region.now c.pop.new.region c.pop.result c.pop.ensures.accepted c.pop.ensures.same c.requires.size c.pop.ensures.frames) all);
    }

pub returns-clause-accepted : goal.returns-clause-accepted
returns-clause-accepted c = popped c.args.self.now.cards c.args.key c.at_mut.result.now c.in-Some.chain (sym c.at_mut.ensures.value) c.in-Some.is c.pop.new.self c.args.region.now c.pop.new.region c.pop.result c.pop.ensures.number c.pop.ensures.accepted c.pop.ensures.admitted c.pop.ensures.some

pub returns-clause-refused : goal.returns-clause-refused
returns-clause-refused c = refused c.args.self.now.cards c.args.key c.at_mut.result.now c.in-Some.chain (sym c.at_mut.ensures.value) c.in-Some.is (λ u e. IsRefused u (IsNoPop u c.args.region.now) e) c.pop.result c.pop.ensures.refused
