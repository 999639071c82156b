use Rattle.std.proofs.Common.{◌+◌, ◌≤◌, sym, subst, arith}
use Rattle.ark_log.specs.Open.{OpenChain}
use Rattle.ark_log.specs.contracts.chain.Chain.{the_view}
use Rattle.ark_log.proofs.Turns.{few_entries}
use Rattle.ark_log.proofs.chain.Chain.next_head.Goals as goal

pub overflow_cast-dropped : goal.overflow_cast-dropped
overflow_cast-dropped c =
    let v = the_view c.self.inside in
    let right = c.self.invariant.2 in
    let high : c.first_after-first.result ≤ v.first + v.count = subst (λ (x : OpenChain). c.first_after-first.result ≤ x.first + x.count) (sym c.self.view_is) c.first_after-first.ensures.high in
    let few = few_entries v.lengths in
    omega (arith, high, few, right.counted, right.used_is, right.fits, right.few)
