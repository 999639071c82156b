use Rattle.std.proofs.Common.{ap, ◌∙◌, None}
use Rattle.ark_log.specs.contracts.chain.Chain.{the_view}
use Rattle.ark_log.proofs.Lent.{right_with}
use Rattle.ark_log.proofs.chain.Chain.post_entry.Goals as goal

pub invariant_of-self : goal.invariant_of-self
invariant_of-self c = (
  c.self.invariant.0,
  ap (λ b. b.capacity) c.replace_first-buf.ensures.waiting ∙ c.self.invariant.1,
  right_with (the_view c.self.inside) None c.replace_first-buf.new.waiting.items c.self.invariant.2 (ap (λ b. b.items) c.replace_first-buf.ensures.waiting) tt,
)
