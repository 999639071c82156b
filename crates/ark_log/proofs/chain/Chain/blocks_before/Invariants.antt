use Rattle.std.proofs.Common.{◌≡◌}
use Rattle.std.specs.Prelude.{sum_by, take}
use Rattle.ark_entry.specs.Entry.{entry_blocks}
use Rattle.ark_log.proofs.chain.Chain.blocks_before.Given as goal

abbrev pub invariant-loop-i : goal.invariant-loop-i
invariant-loop-i l = l.blocks ≡ sum_by entry_blocks (take l.i l.self-inside.lengths.items)
