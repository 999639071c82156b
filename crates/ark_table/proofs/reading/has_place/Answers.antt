use Rattle.std.proofs.Common.{◌≡◌, ◌∙◌, ◌&&◌, sym, ap, true, length}
use Rattle.std.specs.Prelude.{nat_le}
use Rattle.std.specs.List.{list_all}
use Rattle.ark_extents.specs.Blocks.{runs_of}
use Rattle.ark_extents.proofs.RunLemmas.{blocks_of-runs_of}
use Rattle.ark_table.specs.Area.{is_data, least_blocks, block_total}
use Rattle.ark_table.proofs.Spelling.{count_is}
use Rattle.ark_table.proofs.reading.has_place.Goals as goal

pub returns-then-are_data : goal.returns-then-are_data
returns-then-are_data c =
    let runs = runs_of c.args.spans.now in
    let all : list_all (is_data c.args.size) runs ≡ true = ap (list_all (is_data c.args.size)) (sym c.as_slice.ensures.runs) ∙ sym c.are_data.ensures ∙ c.if-are_data.true in
    let count : c.blocks-then-are_data.result ≡ block_total runs = c.blocks-then-are_data.ensures.blocks ∙ ap length (sym (blocks_of-runs_of c.args.spans.now)) ∙ sym (count_is runs) in
    (λ i. nat_le (c.least_blocks.ensures i) (count i)) ∙ ap (λ b. b && nat_le (least_blocks c.args.kind) (block_total runs)) (sym all)
