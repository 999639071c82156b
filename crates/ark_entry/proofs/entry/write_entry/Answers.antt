use Rattle.std.proofs.Common.{◌≤◌, ◌+◌, ◌*◌, ◌∙◌, ℕ, List, sym, ap, length, arith}
use Rattle.std.proofs.lemmas.List.{length-take-le}
use Rattle.ark_entry.specs.Entry.{entry_blocks}
use Rattle.ark_entry.proofs.Entries.{blocks_hold}
use Rattle.ark_entry.proofs.Laying.{entry_laid}
use Rattle.ark_entry.proofs.entry.write_entry.Goals as goal

pub copy_from_slice-requires : goal.copy_from_slice-requires
copy_from_slice-requires c =
    let hold : 28 + length c.args.payload.now ≤ 512 * entry_blocks (length c.args.payload.now) = (blocks_hold (length c.args.payload.now)).0 in
    length-take-le 20 c.args.out.now (omega (arith, hold, c.requires.room)) ∙ sym (ap (λ (l : List ℕ). length l) c.head_bytes.ensures)

pub returns : goal.returns
returns c = entry_laid c.args.out.now c.copy_from_slice.new.self c.copy_from_slice-2.new.self c.fill.new.self c.args.number c.args.next c.args.payload.now c.requires.room
    (c.copy_from_slice.ensures.after ∙ c.head_bytes.ensures) c.copy_from_slice-2.ensures.after (c.fill.ensures.after (λ y is. is))
