use Rattle.std.proofs.Common.{◌<◌, ◌-◌, ◌^◌, List, ℕ, subst, take, All, arith}
use Rattle.ark_extents.specs.Blocks.{AreDistinct}
use Rattle.ark_extents.proofs.Counting.{count_below, distinct_blocks, blocks_within}
use Rattle.ark_extents.proofs.spans.Spans.blocks.Goals as goal

pub count_of-requires : goal.count_of-requires
count_of-requires c = omega (arith, count_below (take c.self.inside.count c.self.inside.runs) c.self.invariant.2)

pub returns-clause-distinct : goal.returns-clause-distinct
returns-clause-distinct c = subst AreDistinct c.self.view_is (distinct_blocks (take c.self.inside.count c.self.inside.runs) c.self.invariant.2)

pub returns-clause-within : goal.returns-clause-within
returns-clause-within c =
    subst (λ (bs : List ℕ). All (λ n. n < 2 ^ 32 - 1) bs) c.self.view_is (blocks_within (take c.self.inside.count c.self.inside.runs) c.self.invariant.2)
