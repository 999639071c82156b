use Rattle.std.proofs.Common.{◌≤◌, ◌<◌, ◌+◌, ◌^◌, length, sym, subst}
use Rattle.ark_log.specs.Open.{OpenChain, HasBuffer, first_after}
use Rattle.ark_log.specs.Stages.{oldest}
use Rattle.ark_log.specs.contracts.chain.Chain.{the_view}
use Rattle.ark_log.proofs.Lent.{first_low, oldest_has}
use Rattle.ark_log.proofs.chain.Chain.oldest.Goals as goal

pub returns-clause-low : goal.returns-clause-low
returns-clause-low c =
    let v = the_view c.self.inside in
    let some : 0 < length v.waiting = subst (λ (x : OpenChain). 0 < length x.waiting) (sym c.self.view_is) c.requires in
    subst (λ (x : OpenChain). first_after (oldest x).command x.first ≤ 2 ^ 62 + 1) c.self.view_is (first_low v c.self.invariant.2 some)

pub returns-clause-buffer : goal.returns-clause-buffer
returns-clause-buffer c =
    let v = the_view c.self.inside in
    let some : 0 < length v.waiting = subst (λ (x : OpenChain). 0 < length x.waiting) (sym c.self.view_is) c.requires in
    subst (λ (x : OpenChain). HasBuffer (oldest x)) c.self.view_is (oldest_has v c.self.invariant.2 some)
