-- The block of one slot, both ways. A slot in use has one spelling, so a block is right exactly where it is the spelling
-- of its fields.
use Rattle.std.specs.Prelude.{ℕ, zero, suc, ◌+◌, ◌-◌, List, [], ◌∷◌, ◌++◌, length, take, drop, replicate, slice_index, slice_range, codes, flat_map, Bool, ◌&&◌, ◌==◌, nat_le, bytes_eq, if◌then◌else◌}
use Rattle.std.specs.Int.{w32, to_be_bytes, from_be_bytes}
use Rattle.std.specs.List.{list_all}
use Rattle.ark_base.specs.Name.{is_name, padded}
use Rattle.ark_base.specs.declared.block.Span.{Span}
use Rattle.ark_base.specs.declared.kind.Kind.{Kind}
use Rattle.ark_base.specs.declared.kind.Kind.TheVariants.{Raw, Log, Queue}
use Rattle.ark_extents.specs.Runs.{are_spans}

-- what a slot in use says: whose area it is, its label and kind, and the runs of its blocks
pub record Area : Type 0 where
  pub app : List ℕ
  pub label : List ℕ
  pub kind : Kind
  pub runs : List Span

abbrev pub kind_number : Kind → ℕ
kind_number Raw = 1
kind_number Log = 2
kind_number Queue = 3

-- any other number than 1 and 2 is read as a queue's: of these only 3 is spelled so
abbrev pub kind_of : ℕ → Kind
kind_of n = if n == 1 then Raw else (if n == 2 then Log else Queue)

-- a name's length, and 15 bytes: the name, then zeros
abbrev pub name_bytes : List ℕ → List ℕ
name_bytes name = length name ∷ padded name

abbrev pub run_bytes : Span → List ℕ
run_bytes run = to_be_bytes w32 run.start ++ to_be_bytes w32 run.len

-- bytes, then zeros to the end of the block
abbrev pub padded_block : List ℕ → List ℕ
padded_block bytes = bytes ++ replicate (512 - length bytes) 0

-- the magic word, kind, number of runs, application, label, the runs, zeros
abbrev pub area_bytes : Area → List ℕ
area_bytes a = padded_block (codes "VSA1" ++ (kind_number a.kind ∷ (length a.runs ∷ (name_bytes a.app ++ (name_bytes a.label ++ flat_map run_bytes a.runs)))))

-- the name in the 16 bytes from a place on
abbrev pub name_in : List ℕ → ℕ → List ℕ
name_in block at = take (slice_index block at) (slice_range block (at + 1) (at + 16))

-- so many runs, from the front of the bytes
abbrev pub runs_in : ℕ → List ℕ → List Span
runs_in zero bytes = []
runs_in (suc n) bytes =
    record { start = from_be_bytes w32 (slice_range bytes 0 4); len = from_be_bytes w32 (slice_range bytes 4 8) } ∷ runs_in n (drop 8 bytes)

-- the fields of a block, by their places
abbrev pub area_in : List ℕ → Area
area_in block = record {
  app = name_in block 6;
  label = name_in block 22;
  kind = kind_of (slice_index block 4);
  runs = runs_in (slice_index block 5) (drop 38 block);
}

-- the run lies in the data part of a device of so many blocks: it has none of the first 129, and ends by the device's end
abbrev pub is_data : ℕ → Span → Bool
is_data size run = nat_le 129 run.start && nat_le (run.start + run.len) size

-- so many blocks the runs have
abbrev pub block_total : List Span → ℕ
block_total [] = 0
block_total (run ∷ runs) = run.len + block_total runs

-- a log or queue has two blocks
abbrev pub least_blocks : Kind → ℕ
least_blocks Raw = 1
least_blocks Log = 2
least_blocks Queue = 2

-- The rules of a slot by itself: names are names; 1 to 16 runs, which are the longest of their blocks and share none, all in
-- the data part; and a log or queue has two blocks.
abbrev pub is_area : ℕ → Area → Bool
is_area size a = is_name a.app && (is_name a.label && (are_spans a.runs && (list_all (is_data size) a.runs && nat_le (least_blocks a.kind) (block_total a.runs))))

abbrev pub is_free : List ℕ → Bool
is_free block = list_all (λ b. b == 0) block

-- the block is the one spelling of an area that keeps the rules by itself
abbrev pub is_used : ℕ → List ℕ → Bool
is_used size block = is_area size (area_in block) && bytes_eq block (area_bytes (area_in block))
