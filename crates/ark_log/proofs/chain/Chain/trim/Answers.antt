use Rattle.std.proofs.Common.{◌≡◌, ◌≤◌, ◌<◌, refl, sym, ap, ◌∙◌, arith, subst}
use Rattle.ark_log.specs.Refused.{Admits, next_number}
use Rattle.ark_log.specs.contracts.chain.Chain.{the_view}
use Rattle.ark_log.proofs.Turns.{right_waits}
use Rattle.ark_log.proofs.chain.Chain.trim.Goals as goal

pub invariant_of-self : goal.invariant_of-self
invariant_of-self c =
    let v = the_view c.self.inside in
    let admitted : Admits v = subst Admits (sym c.self.view_is) c.in_ok-admit.ensures.ok in
    let named : c.next_number.result ≡ next_number v = c.next_number.ensures ∙ ap next_number (sym c.self.view_is) in
    let some : v.coming < c.args.n = omega (arith, c.if-n-self.false) in
    let there : c.args.n ≤ next_number v = omega (arith, c.if-n-next_number.false, named) in (
      c.self.invariant.0,
      ap (λ b. b.capacity) c.in-Ok.ensures.ok ∙ c.self.invariant.1,
      right_waits v _ c.try_push_back.new.self.items c.args.n c.self.invariant.2 admitted.1 (ap (λ b. b.items) c.in-Ok.ensures.ok) (some, there) refl refl (omega arith, tt),
    )
