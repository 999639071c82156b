use Rattle.std.proofs.Common.{◌≡◌, length, map, arith, sym, ap, ◌∙◌, subst}
use Rattle.std.proofs.lemmas.List.{length-map, with_items_is}
use Rattle.ark_filters.specs.Rules.{assigned, AreRules}
use Rattle.ark_filters.proofs.Kept.{rules_assigned}
use Rattle.ark_filters.proofs.rules.Rules.assign.Goals as goal

pub invariant_of-self : goal.invariant_of-self
invariant_of-self c =
    let new = c.assign.ensures.all ∙ ap (map (assigned c.args.grant c.args.vnic)) c.deref_mut.ensures.value in
    let long : length c.assign.new.rules ≡ c.self.inside.live.len =
    omega (arith, ap length c.assign.ensures.all, length-map c.deref_mut.result.now (assigned c.args.grant c.args.vnic), c.deref_mut.ensures.len) in
    subst AreRules (sym (with_items_is c.self.inside.live c.assign.new.rules long)) (subst AreRules (sym new) (rules_assigned c.self.inside.live.items c.args.grant c.args.vnic c.self.invariant))
