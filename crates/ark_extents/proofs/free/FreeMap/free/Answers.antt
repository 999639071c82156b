use Rattle.std.proofs.Common.{◌<◌, ◌-◌, ◌^◌, ℕ, List, length, sym, subst, All}
use Rattle.std.specs.List.Sorted.{IsStrictlyIncreasing}
use Rattle.ark_base.specs.declared.block.Span.{Span}
use Rattle.ark_extents.specs.Blocks.{blocks_of}
use Rattle.ark_extents.proofs.Ascending.{length_rising, increasing, ascend_blocks, blocks_below}
use Rattle.ark_extents.proofs.free.FreeMap.free.Goals as goal

pub count_of-requires : goal.count_of-requires
count_of-requires c = subst (λ (l : List Span). length (blocks_of l) < 2 ^ 32) (sym c.deref.ensures.value) (length_rising 0 c.self.inside.runs.items c.self.invariant.0)

pub returns-clause-ascending : goal.returns-clause-ascending
returns-clause-ascending c =
    subst IsStrictlyIncreasing c.self.view_is (increasing 0 (blocks_of c.self.inside.runs.items) (ascend_blocks 0 c.self.inside.runs.items c.self.invariant.0))

pub returns-clause-within : goal.returns-clause-within
returns-clause-within c = subst (λ (bs : List ℕ). All (λ n. n < 2 ^ 32 - 1) bs) c.self.view_is (blocks_below 0 c.self.inside.runs.items c.self.invariant.0)
