use Rattle.std.proofs.Common.{◌≡◌, length, map, arith, sym, ap, ◌∙◌, subst}
use Rattle.std.proofs.lemmas.List.{length-map, with_items_is}
use Rattle.ark_filters.specs.Rules.{unassigned, AreRules}
use Rattle.ark_filters.proofs.Kept.{rules_unassigned}
use Rattle.ark_filters.proofs.rules.Rules.unassign.Goals as goal

pub invariant_of-self : goal.invariant_of-self
invariant_of-self c =
    let new = c.unassign.ensures.all ∙ ap (map (unassigned c.args.vnic)) c.deref_mut.ensures.value in
    let long : length c.unassign.new.rules ≡ c.self.inside.live.len =
    omega (arith, ap length c.unassign.ensures.all, length-map c.deref_mut.result.now (unassigned c.args.vnic), c.deref_mut.ensures.len) in
    subst AreRules (sym (with_items_is c.self.inside.live c.unassign.new.rules long)) (subst AreRules (sym new) (rules_unassigned c.self.inside.live.items c.args.vnic c.self.invariant))
