use Rattle.std.proofs.Common.{[], ◌∷◌, inl}
use Rattle.ark_region.proofs.tests.lends_two_buffers.Goals as goal

-- two buffers that are live share no frame
pub two-x-requires-clause-apart : goal.two-x-requires-clause-apart
two-x-requires-clause-apart g c =
    let none = rw c.expect-region.ensures at c.new.ensures.stands in
    let first = rw c.expect-a.ensures at c.take.ensures.stands [] none in
    let both = rw c.expect-b.ensures at c.take-2.ensures.stands (c.expect-a.result ∷ []) first in
    λ j a b. both.apart.0 j b (inl a)
