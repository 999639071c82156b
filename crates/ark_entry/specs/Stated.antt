-- What the headers and the heads of entries of the code say.
use Rattle.std.specs.Prelude.{◌≡◌, ℕ, ◌+◌, ◌%◌, List, slice_range, Bool, false, ◌&&◌, ◌==◌, nat_le, Option, Some, None, Result, Ok, Err}
use Rattle.std.specs.Int.{w32, w64, from_be_bytes}
use Rattle.ark_entry.specs.declared.header.ChainHead.{ChainHead}
use Rattle.ark_entry.specs.declared.header.BadHead.{BadHead}
use Rattle.ark_entry.specs.declared.entry.EntryHead.{EntryHead}
use Rattle.ark_entry.specs.Header.{Header}
use Rattle.ark_entry.specs.Entry.{entry_blocks, length_in}

abbrev pub stated : ChainHead → Header
stated h = record { first = h.first; start = h.start; count = h.count; end = h.end }

abbrev pub stated_if : Result ChainHead BadHead → Option Header
stated_if (Ok h) = Some (stated h)
stated_if (Err e) = None

-- the head has what stands in the block at its places
pub record HasFields (block : List ℕ) (h : EntryHead) : Type 0 where
  pub len : h.len ≡ length_in block
  pub number : h.number ≡ from_be_bytes w64 (slice_range block 8 16)
  pub next : h.next ≡ from_be_bytes w32 (slice_range block 16 20)

-- whether an entry of this number may begin with the head at place p of a ring: its blocks fit, and the place behind them is the next
abbrev pub goes_at : ℕ → ℕ → ℕ → Option EntryHead → Bool
goes_at room p number None = false
goes_at room p number (Some h) = nat_le (entry_blocks h.len) room && (h.number == number && h.next == (p + entry_blocks h.len) % room)
