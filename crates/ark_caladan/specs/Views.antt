-- An area's blocks on a device, and how a header and the blocks of a list lie in them.
use Rattle.std.specs.Prelude.{◌≡◌, ◌<◌, ℕ, zero, suc, ◌+◌, ◌-◌, ◌%◌, List, length, get_or, map, nat_lt, if◌then◌else◌}
use Rattle.ark_media.specs.Journal.{block, zero_block}
use Rattle.ark_media.specs.Calls.{Call, Reads, Writes, Syncs}
use Rattle.ark_entry.specs.Writing.{at}

-- the area's blocks are on the disk, and none is there twice
pub record OnDisk (blocks : List ℕ) (base : List (List ℕ)) : Type 0 where
  pub inside : (k : ℕ) → k < length blocks → get_or blocks k 0 < length base
  pub apart : (i k : ℕ) → i < length blocks → k < length blocks → get_or blocks i 0 ≡ get_or blocks k 0 → i ≡ k

-- a call that writes no block of the area
abbrev pub Elsewhere : List ℕ → Call → Type 0
Elsewhere blocks (Reads n) = Unit {0}
Elsewhere blocks (Writes n content) = (k : ℕ) → k < length blocks → get_or blocks k 0 ≡ n → ⊥
Elsewhere blocks Syncs = Unit {0}

-- one area has no block of another
abbrev pub AreApart : List ℕ → List ℕ → Type 0
AreApart blocks other = (i k : ℕ) → i < length blocks → k < length other → get_or blocks i 0 ≡ get_or other k 0 → ⊥

-- the blocks of an image at these numbers, in their order
abbrev pub contents_at : List (List ℕ) → List ℕ → List (List ℕ)
contents_at image blocks = map (λ n. block image n) blocks

-- A view gives the block at each place of an area, place 0 being the header's. That of a header, and of a ring that holds these
-- blocks from its start on, and zeros behind them:
abbrev pub view_of : ℕ → List ℕ → ℕ → List (List ℕ) → ℕ → List ℕ
view_of room header start stored zero = header
view_of room header start stored (suc p) = at stored ((p + room - start) % room)

-- the view that an opening has repaired: this header, the first blocks of the ring from its start on, and zeros behind them
abbrev pub repaired : ℕ → ℕ → ℕ → List ℕ → (ℕ → List ℕ) → ℕ → List ℕ
repaired room start used header a zero = header
repaired room start used header a (suc p) = if nat_lt ((p + room - start) % room) used then a (suc p) else zero_block
