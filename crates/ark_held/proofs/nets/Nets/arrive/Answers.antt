use Rattle.std.proofs.Common.{sym, ◌∙◌, ap, subst}
use Rattle.std.proofs.Math.Logic.{∥∥₁_map}
use Rattle.ark_vnic.specs.Card.{NetCard}
use Rattle.ark_held.specs.Nets.{IsSoundNet}
use Rattle.ark_held.proofs.Keyed.{changes_set}
use Rattle.ark_held.proofs.NetSound.{head_lies, net_set, sound_arrived}
use Rattle.ark_held.proofs.Quiet.{quiet_turned, tx_arrived}
use Rattle.ark_held.proofs.nets.Nets.arrive.Goals as goal

pub arrive-requires : goal.arrive-requires
arrive-requires c = record {
  buffer = head_lies c.args.self.now.frames c.args.self.now.cards c.args.key c.at_mut.result.now c.args.region.now.taken c.args.self.now.sound (sym c.at_mut.ensures.value) c.requires.size;
  at_most = c.requires.at_most;
}

pub invariant_of-self : goal.invariant_of-self
invariant_of-self c =
    let there = sym c.at_mut.ensures.value in
    record {
      sound = ∥∥₁_map c.args.self.now.sound (λ all. net_set c.args.self.now.frames _ _ c.args.key _ (changes_set _ _ _ _ there)
          (subst (λ (v : NetCard). IsSoundNet c.args.self.now.frames v) (sym c.arrive.ensures.card) (sound_arrived c.args.self.now.frames c.at_mut.result.now.vnic c.arrive.result _ c.args.now (all c.args.key _ there))) all);
      quiet = ∥∥₁_map c.args.self.now.quiet (λ all. quiet_turned _ _ c.args.key _ _ there (changes_set _ _ _ _ there)
          (ap (λ (v : NetCard). v.tx) c.arrive.ensures.card ∙ tx_arrived c.at_mut.result.now.vnic c.arrive.result _ c.args.now) all);
    }
