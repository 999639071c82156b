use Rattle.std.proofs.Common.{◌≡◌, ◌<◌, None, sym, subst, is_ok}
use Rattle.std.specs.List.{All}
use Rattle.ark_filters.specs.Rules.{first_clash}
use Rattle.ark_filters.proofs.Kept.{rules_pushed}
use Rattle.ark_filters.proofs.rules.Rules.push.Goals as goal

pub invariant_of-self : goal.invariant_of-self
invariant_of-self c =
    rules_pushed c.self.inside.live.items c.push.new.self.items c.args.live (is_ok c.push.result) c.self.invariant c.requires.rule
    (subst (All (λ other. other.grant < c.args.live.grant)) (sym c.self.view_is) c.requires.later)
    (subst (λ rules. first_clash c.args.live.filter rules ≡ None) (sym c.self.view_is) c.requires.apart) c.push.ensures.items
