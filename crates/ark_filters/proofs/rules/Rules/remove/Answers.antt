use Rattle.std.proofs.Common.{sym, subst}
use Rattle.ark_filters.specs.Rules.{AreRules}
use Rattle.ark_filters.proofs.Kept.{rules_without}
use Rattle.ark_filters.proofs.rules.Rules.remove.Goals as goal

pub invariant_of-self : goal.invariant_of-self
invariant_of-self c = subst AreRules (sym c.remove.ensures.others) (rules_without c.self.inside.live.items c.args.grant c.self.invariant)
