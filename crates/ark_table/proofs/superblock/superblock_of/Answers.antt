use Rattle.std.proofs.Common.{ap, ◌∙◌}
use Rattle.std.specs.Int.{w64, to_be_bytes}
use Rattle.ark_table.proofs.Laying.{superblock_laid}
use Rattle.ark_table.proofs.superblock.superblock_of.Goals as goal

pub returns : goal.returns
returns c = superblock_laid c.put-at.new.block c.put-at-2.new.block c.put.new.block c.write_u64.new.buf c.write_u16.new.buf c.put-at.result c.put-at-2.result c.args.blocks
    c.put-at.ensures.written c.put-at.ensures.end c.put-at-2.ensures.written c.put-at-2.ensures.end c.put.ensures.written (c.write_u64.ensures ∙ ap (λ n. to_be_bytes w64 n) c.from.ensures) c.write_u16.ensures
