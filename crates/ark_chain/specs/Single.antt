-- What it comes to to read one entry.
use Rattle.std.specs.Prelude.{◌≡◌, ◌≤◌, ℕ, zero, suc, ◌+◌, ◌-◌, ◌*◌, ◌%◌, min, List, [], ◌∷◌, ◌++◌, length, take, drop, slice_range, Option, Some, None, Result, is_ok, IfOk, IfSome, OnOk}
use Rattle.ark_media.specs.Journal.{Event, AllBlocks, block}
use Rattle.ark_media.specs.Calls.{Told, Went}
use Rattle.ark_media.specs.declared.outside.DiskFailed.{DiskFailed}
use Rattle.ark_entry.specs.Entry.{entry_blocks, entry_at, payload_at, ring_bytes}
use Rattle.ark_chain.specs.Survey.{reads_at, block_at}

-- the places from 1 on that are below n, in rising order
abbrev pub behind : ℕ → List ℕ
behind zero = []
behind (suc zero) = []
behind (suc (suc n)) = behind (suc n) ++ suc n ∷ []

-- The blocks from p on were read in turn, up to the first read that failed: all of the entry's where there is one, and no more than an entry may have.
pub record HasReadEntry {D : Type 0} (goes : D → List Event → D → Type 0) (told : D → Told) (p : ℕ)
    (result : Result (Option (ℕ × ℕ)) DiskFailed) (old new : D) : Type 0 where
  pub room : ℕ
  pub ring : room + 1 ≡ (told old).blocks
  pub count : ℕ
  pub few : count ≤ 65
  pub went : Went goes (reads_at room p (0 ∷ behind count)) (is_ok result) old new
  pub all : IfOk result (λ found. IfSome found (λ e. count ≡ entry_blocks e.0))

-- of an image whose blocks have 512 bytes: the entry of this number at block p of the ring has the payload that stands in the bytes, and the
-- next block stands behind it; or there is none
abbrev pub IsEntryOf : ℕ → ℕ → Option (ℕ × ℕ) → List ℕ → List (List ℕ) → Type 0
IsEntryOf p number (Some e) out image =
    AllBlocks image
    → (entry_at (drop 1 image) p number ≡ Some (slice_range out 20 (20 + e.0)))
    × (e.1 ≡ (p + entry_blocks e.0) % length (drop 1 image))
IsEntryOf p number None out image = AllBlocks image → entry_at (drop 1 image) p number ≡ None

-- the blocks behind the first were read in turn, up to the first read that failed
pub record HasReadOn {D : Type 0} (goes : D → List Event → D → Type 0) (room start blocks : ℕ)
    {T : Type 0} (result : Result T DiskFailed) (old new : D) : Type 0 where
  pub count : ℕ
  pub few : count ≤ blocks
  pub all : OnOk result (count ≡ blocks)
  pub went : Went goes (reads_at room start (behind count)) (is_ok result) old new

-- the blocks from the first on were read in turn, up to the first read that failed
pub record HasReadBlocks {D : Type 0} (goes : D → List Event → D → Type 0) (room start blocks : ℕ)
    {T : Type 0} (result : Result T DiskFailed) (old new : D) : Type 0 where
  pub count : ℕ
  pub few : count ≤ blocks
  pub all : OnOk result (count ≡ blocks)
  pub went : Went goes (reads_at room start (0 ∷ behind count)) (is_ok result) old new

-- behind the bytes of k blocks stands now the block of the ring that is k behind the start
abbrev pub AddsBlock : ℕ → ℕ → ℕ → List ℕ → List ℕ → List (List ℕ) → Type 0
AddsBlock room start k old new image =
    take (512 * k + 512) new ≡ take (512 * k) old ++ block image (block_at room start k)

-- the bytes begin with those of so many blocks from the start on
abbrev pub AreRead : ℕ → ℕ → ℕ → List ℕ → List (List ℕ) → Type 0
AreRead room start blocks out image =
    length (drop 1 image) ≡ room
    → take (512 * blocks) out ≡ ring_bytes (drop 1 image) start blocks

-- of a payload of this length the first blocks of its entry have so many bytes
abbrev pub payload_in : ℕ → ℕ → ℕ
payload_in len blocks = min len (512 * blocks - 20)

-- so many bytes of the entry's block k stand before the payload
abbrev pub head_in : ℕ → ℕ
head_in zero = 20
head_in (suc k) = 0

-- The first k blocks have 512 bytes each, and their part of the payload stands at the front of the bytes.
abbrev pub HasPart : ℕ → ℕ → ℕ → ℕ → List ℕ → List (List ℕ) → Type 0
HasPart room start len k out image =
    length (drop 1 image) ≡ room → (length (ring_bytes (drop 1 image) start k) ≡ 512 * k)
    × (take (payload_in len k) out ≡ take (payload_in len k) (drop 20 (ring_bytes (drop 1 image) start k)))

-- behind that part stands now the next block's
abbrev pub AddsPart : ℕ → ℕ → ℕ → ℕ → List ℕ → List ℕ → List (List ℕ) → Type 0
AddsPart room start len k old new image = HasPart room start len k old image → HasPart room start len (k + 1) new image

-- the payload of so many bytes whose entry begins at the start stands at the front of the bytes
abbrev pub IsPayload : ℕ → ℕ → ℕ → List ℕ → List (List ℕ) → Type 0
IsPayload room start len out image = length (drop 1 image) ≡ room → take len out ≡ payload_at (drop 1 image) start len
