use Rattle.std.proofs.Common.{◌+◌, ◌*◌, ◌++◌, ◌∷◌, [], ◌∙◌, length, take, drop, flat_map}
use Rattle.ark_table.specs.Area.{run_bytes}
use Rattle.ark_table.specs.Stated.{stated}
use Rattle.ark_table.proofs.Laying.{area_laid}
use Rattle.ark_table.proofs.slot.slot_block.Goals as goal

pub returns : goal.returns
returns c =
    let runs = c.as_slice-runs.ensures.runs in
    let at = c.put-at-4.result in
    let block = c.put-at-4.new.block in
    area_laid (stated c.args.slot.now) c.put-at.new.block c.put-at-2.new.block c.put-at-3.new.block block c.put_runs.new.block
    (c.number_of.result ∷ (length c.as_slice-runs.result.now ∷ [])) c.name_field.result c.name_field-2.result c.put-at.result c.put-at-2.result c.put-at-3.result at
    c.put-at.ensures.written c.put-at.ensures.end (λ i. c.number_of.ensures i ∷ (length (runs i) ∷ [])) c.put-at-2.ensures.written c.put-at-2.ensures.end
    c.name_field.ensures c.put-at-3.ensures.written c.put-at-3.ensures.end c.name_field-2.ensures c.put-at-4.ensures.written c.put-at-4.ensures.end
    (c.put_runs.ensures ∙ (λ i. take at block ++ (flat_map run_bytes (runs i) ++ drop (at + 8 * length (runs i)) block)))
