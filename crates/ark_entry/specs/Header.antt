-- The header of a log or queue, both ways. The blocks behind it are the ring.
use Rattle.std.specs.Prelude.{ℕ, ◌<◌, ◌≤◌, ◌+◌, ◌^◌, List, ◌∷◌, ◌++◌, replicate, slice_range, codes, Bool, ◌&&◌, ◌==◌, nat_le, nat_lt, bytes_eq, Option, Some, None, if◌then◌else◌}
use Rattle.std.specs.Int.{w16, w32, w64, to_be_bytes, from_be_bytes}
use Rattle.std.specs.List.{list_all}
use Rattle.ark_base.specs.declared.kind.Kind.{Kind}
use Rattle.ark_base.specs.declared.kind.Kind.TheVariants.{Raw, Log, Queue}

-- the number of the first entry, its place in the ring, how many entries at least there are, and the place behind them
pub record Header : Type 0 where
  pub first : ℕ
  pub start : ℕ
  pub count : ℕ
  pub end : ℕ

abbrev pub kind_number : Kind → ℕ
kind_number Raw = 1
kind_number Log = 2
kind_number Queue = 3

-- the magic word, kind, zero, the transfer unit 512, first, start, count, end, zeros
abbrev pub header_bytes : Kind → ℕ → ℕ → ℕ → ℕ → List ℕ
header_bytes kind first start count end =
    codes "CAL1" ++ (kind_number kind ∷ (0 ∷ (to_be_bytes w16 512 ++ (to_be_bytes w64 first ++ (to_be_bytes w32 start ++ (to_be_bytes w32 count ++ (to_be_bytes w32 end ++ replicate 484 0)))))))

abbrev pub bytes_of : Kind → Header → List ℕ
bytes_of kind h = header_bytes kind h.first h.start h.count h.end

-- the fields of a block, by their places
abbrev pub header_in : List ℕ → Header
header_in block = record {
  first = from_be_bytes w64 (slice_range block 8 16);
  start = from_be_bytes w32 (slice_range block 16 20);
  count = from_be_bytes w32 (slice_range block 20 24);
  end = from_be_bytes w32 (slice_range block 24 28);
}

-- the fields are right for a ring of so many blocks
abbrev pub is_header : ℕ → Header → Bool
is_header ring h = nat_le 1 h.first && (nat_lt h.start ring && (nat_le h.count ring && (nat_lt h.end ring && nat_le (h.first + h.count) (2 ^ 62 + 1))))

-- the same in words
pub record IsHeader (ring : ℕ) (h : Header) : Type 0 where
  pub some : 1 ≤ h.first
  pub start : h.start < ring
  pub count : h.count ≤ ring
  pub end : h.end < ring
  pub last : h.first + h.count ≤ 2 ^ 62 + 1

-- a header of zeros
abbrev pub empty : Header
empty = record { first = 1; start = 0; count = 0; end = 0 }

abbrev pub is_zero : List ℕ → Bool
is_zero block = list_all (λ b. b == 0) block

-- the block is the one spelling of right fields
abbrev pub is_written : Kind → ℕ → List ℕ → Bool
is_written kind ring block = is_header ring (header_in block) && bytes_eq block (bytes_of kind (header_in block))

-- the header that a block says, for a kind and a ring of so many blocks
abbrev pub header_of : Kind → ℕ → List ℕ → Option Header
header_of kind ring block = if is_zero block then Some empty else (if is_written kind ring block then Some (header_in block) else None)
