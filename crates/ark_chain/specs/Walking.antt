-- How a survey goes from entry to entry.
use Rattle.std.specs.Prelude.{◌≡◌, ◌≤◌, ◌<◌, ℕ, ◌+◌, ◌%◌, ◌^◌, List, All, length, take, drop, map, Bool, true, Option, Some, None, Result, Ok, Err, is_ok}
use Rattle.ark_base.specs.declared.kind.Kind.{Kind}
use Rattle.ark_media.specs.Journal.{Event, AllBlocks, block}
use Rattle.ark_media.specs.Calls.{Went}
use Rattle.ark_media.specs.declared.outside.DiskFailed.{DiskFailed}
use Rattle.ark_entry.specs.Entry.{entry_blocks, length_in, is_head}
use Rattle.ark_entry.specs.Reading.{reading, Entry, Finds}
use Rattle.ark_entry.specs.declared.header.ChainHead.{ChainHead}
use Rattle.ark_entry.specs.Header.{header_of}
use Rattle.ark_entry.specs.Stated.{stated}
use Rattle.ark_chain.specs.declared.surveying.SurveyFault.{SurveyFault}
use Rattle.ark_chain.specs.declared.surveying.SurveyFault.TheVariants.{DeviceFault, Damaged}
use Rattle.ark_chain.specs.Survey.{reads_at, ends_of, blocks_used, Rise, AreEnds}

-- an entry of this number is short, and so far behind the start it fits the ring
pub record FitsAt (room behind number len : ℕ) : Type 0 where
  pub short : len ≤ 32768
  pub low : number ≤ 2 ^ 62
  pub fits : behind + entry_blocks len ≤ room

-- the block begins the entry of this number, so far behind the start, and the entry's blocks fit the ring
pub record IsHead (room start behind number : ℕ) (first : List ℕ) (len : ℕ) : Type 0 where
  pub size : len ≡ length_in first
  pub is : is_head room ((start + behind) % room) number first ≡ true
  pub fits : FitsAt room behind number len

-- the block begins no such entry
abbrev pub IsNoHead : ℕ → ℕ → ℕ → ℕ → List ℕ → Type 0
IsNoHead room start behind number first =
    is_head room ((start + behind) % room) number first ≡ true
    → behind + entry_blocks (length_in first) ≤ room
    → ⊥

-- the entry of this number that stands so far behind the start, by its length; or none stands there
abbrev pub IsNext : ℕ → ℕ → ℕ → ℕ → Option ℕ → List (List ℕ) → Type 0
IsNext room start behind number (Some len) image =
    AllBlocks image
    → (payload : List ℕ) × (length payload ≡ len)
    × Entry room start (reading (drop 1 image) start) behind number payload
IsNext room start behind number None image =
    AllBlocks image
    → (payload : List ℕ)
    → Entry room start (reading (drop 1 image) start) behind number payload → ⊥

-- its ends were looked at, and of none other
abbrev pub LooksAt : ℕ → Result (Option ℕ) DiskFailed → List ℕ → Type 0
LooksAt behind (Ok (Some len)) places = places ≡ ends_of behind len
LooksAt behind (Ok None) places = (len : ℕ) × (n : ℕ) × (places ≡ take n (ends_of behind len))
LooksAt behind (Err e) places = (len : ℕ) × (n : ℕ) × (places ≡ take n (ends_of behind len))

-- the reads of one entry's ends
pub record HasLooked {D : Type 0} (goes : D → List Event → D → Type 0) (room start behind : ℕ)
    (result : Result (Option ℕ) DiskFailed) (old new : D) : Type 0 where
  pub places : List ℕ
  pub went : Went goes (reads_at room start places) (is_ok result) old new
  pub once : Rise behind places room
  pub ends : LooksAt behind result places

-- the reads of all entries' ends
pub record HasWalked {D : Type 0} (goes : D → List Event → D → Type 0) (room start : ℕ) (ok : Bool)
    (lengths : List ℕ) (old new : D) : Type 0 where
  pub places : List ℕ
  pub went : Went goes (reads_at room start places) ok old new
  pub once : Rise 0 places room
  pub ends : AreEnds lengths places

-- the entries that were found take so many blocks of the ring
pub record HasEntries (room first : ℕ) (lengths : List ℕ) (used : ℕ) : Type 0 where
  pub used_is : used ≡ blocks_used lengths
  pub fits : used ≤ room
  pub few : length lengths ≤ used
  pub short : All (λ len. len ≤ 32768) lengths
  pub last : first + length lengths ≤ 2 ^ 62 + 1

-- entries of these lengths are found from the start on
abbrev pub AreFound : ℕ → ℕ → ℕ → List ℕ → List (List ℕ) → Type 0
AreFound room start first lengths image =
    AllBlocks image
    → (xs : List (List ℕ)) × (lengths ≡ map (λ p. length p) xs)
    × Finds room start (reading (drop 1 image) start) 0 first xs

-- the header of the image was read, or there is none
abbrev pub IsHeader : Kind → ℕ → Result ChainHead SurveyFault → List (List ℕ) → Type 0
IsHeader kind room (Ok head) image = header_of kind room (block image 0) ≡ Some (stated head)
IsHeader kind room (Err (Damaged n)) image = (n ≡ 0) × (header_of kind room (block image 0) ≡ None)
IsHeader kind room (Err DeviceFault) image = Unit {0}

-- the header is right for the ring
pub record IsHeadOf (room : ℕ) (head : ChainHead) : Type 0 where
  pub some : 1 ≤ head.first
  pub start : head.start < room
  pub count : head.count ≤ room
  pub last : head.first + head.count ≤ 2 ^ 62 + 1
