use Rattle.ark_table.proofs.Spelling.{is_block, is_not_free, is_kept, is_read}
use Rattle.ark_table.proofs.laws.slot_laws.Goals as goal

pub returns : goal.returns
returns c = record { is_block = is_block; is_not_free = is_not_free; is_kept = is_kept; is_read = is_read }
