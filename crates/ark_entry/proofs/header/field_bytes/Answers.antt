use Rattle.std.proofs.Common.{refl}
use Rattle.ark_entry.proofs.header.field_bytes.Goals as goal

pub returns : goal.returns
returns c = rw (c.write_u32-3.ensures, c.write_u32-2.ensures, c.write_u32.ensures, c.write_u64.ensures, c.write_u16.ensures, c.number_of.ensures, c.copy_from_slice.ensures.after) refl
