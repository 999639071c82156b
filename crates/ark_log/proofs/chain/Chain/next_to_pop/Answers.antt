use Rattle.std.proofs.Common.{◌≡◌, sym, ap, ◌∙◌, subst}
use Rattle.std.specs.Option.{option_copied}
use Rattle.ark_log.specs.Refused.{IsNextToPop, next_number}
use Rattle.ark_log.specs.contracts.chain.Chain.{the_view}
use Rattle.ark_log.proofs.Turns.{coming_within, none_to_pop, next_to_pop}
use Rattle.ark_log.proofs.chain.Chain.next_to_pop.Goals as goal

pub returns-in_default-clause-none : goal.returns-in_default-clause-none
returns-in_default-clause-none c =
    subst (λ x. x.coming ≡ next_number x) c.self.view_is (none_to_pop (the_view c.self.inside) c.self.invariant.2 (sym c.get.ensures ∙ ap option_copied c.in_default.is))

pub returns-clause-some : goal.returns-clause-some
returns-clause-some c =
    subst (λ x. IsNextToPop x c.in-Some.len.now) c.self.view_is (next_to_pop (the_view c.self.inside) c.in-Some.len.now c.self.invariant.2 (sym c.get.ensures ∙ ap option_copied c.in-Some.is))

pub overflow_sub-self-inside : goal.overflow_sub-self-inside
overflow_sub-self-inside c = (coming_within (the_view c.self.inside) c.self.invariant.2).0
