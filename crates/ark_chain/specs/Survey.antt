-- What a survey of a log's or queue's area reads, and what it tells.
use Rattle.std.specs.Prelude.{◌≡◌, ◌⊎◌, ◌≤◌, ◌<◌, ℕ, zero, suc, ◌+◌, ◌-◌, ◌%◌, ◌^◌, List, [], ◌∷◌, ◌++◌, All, length, take, map, sum_by, Bool, true, false, Some, Result, Ok, Err}
use Rattle.ark_base.specs.declared.kind.Kind.{Kind}
use Rattle.ark_media.specs.Journal.{Event, AllBlocks, block}
use Rattle.ark_media.specs.Calls.{Call, Reads, Told, Went, OnTold}
use Rattle.ark_entry.specs.Header.{header_of}
use Rattle.ark_entry.specs.Entry.{entry_blocks}
use Rattle.ark_entry.specs.Found.{Entries, found, damaged, found_of}
use Rattle.ark_chain.specs.declared.surveying.Seen.{Seen}
use Rattle.ark_chain.specs.declared.surveying.SurveyFault.{SurveyFault}
use Rattle.ark_chain.specs.declared.surveying.SurveyFault.TheVariants.{DeviceFault, Damaged}

-- the area's block that stands so far behind the start of a list in the ring; block 0 is the header's
abbrev pub block_at : ℕ → ℕ → ℕ → ℕ
block_at room start behind = (start + behind) % room + 1

-- reads of these blocks, in their order
abbrev pub reads : List ℕ → List Call
reads blocks = map (λ n. Reads n) blocks

abbrev pub reads_at : ℕ → ℕ → List ℕ → List Call
reads_at room start places = reads (map (λ u. block_at room start u) places)

-- the blocks of entries of these lengths
abbrev pub blocks_used : List ℕ → ℕ
blocks_used lengths = sum_by entry_blocks lengths

-- the last of so many blocks behind place u, where there is one
abbrev pub last_of : ℕ → ℕ → List ℕ
last_of u zero = []
last_of u (suc n) = (u + suc n) ∷ []

-- the first block of an entry and its last, where that is another
abbrev pub ends_of : ℕ → ℕ → List ℕ
ends_of u len = u ∷ last_of u (entry_blocks len - 1)

-- the same of entries one behind another
abbrev pub all_ends : ℕ → List ℕ → List ℕ
all_ends u [] = []
all_ends u (len ∷ lengths) = ends_of u len ++ all_ends (u + entry_blocks len) lengths

-- these places come in rising order, none before u or behind the end, and so none twice
abbrev pub Rise : ℕ → List ℕ → ℕ → Type 0
Rise u [] end = u ≤ end
Rise u (v ∷ places) end = (u ≤ v) × Rise (v + 1) places end

-- the ends of each entry that was found, and at most those of one more
abbrev pub AreEnds : List ℕ → List ℕ → Type 0
AreEnds lengths places =
    (len : ℕ) × (n : ℕ)
    × (places ≡ all_ends 0 lengths ++ take n (ends_of (blocks_used lengths) len))

-- whether no read failed
abbrev pub is_damage : SurveyFault → Bool
is_damage DeviceFault = false
is_damage (Damaged n) = true

abbrev pub is_read : {T : Type 0} → Result T SurveyFault → Bool
is_read (Ok x) = true
is_read (Err fault) = is_damage fault

-- where the list begins, by the header that the image has
abbrev pub IsStart : Kind → ℕ → ℕ → List (List ℕ) → Type 0
IsStart kind room start image =
    (first count end : ℕ)
    × (header_of kind room (block image 0)
    ≡ Some (record { first = first; start = start; count = count; end = end }))

-- The header was read; then, up to the first read that failed, the ends of the entries from the list's start on.
pub record HasSurveyed {D : Type 0} (goes : D → List Event → D → Type 0) (told : D → Told)
    (kind : Kind) (result : Result Seen SurveyFault) (lengths : List ℕ) (old new : D) : Type 0 where
  pub room : ℕ
  pub ring : room + 1 ≡ (told old).blocks
  pub start : ℕ
  pub places : List ℕ
  pub went : Went goes (Reads 0 ∷ reads_at room start places) (is_read result) old new
  pub once : Rise 0 places room
  pub ends : AreEnds lengths places
  pub from_start : (places ≡ []) ⊎ OnTold (told new) (IsStart kind room start)

-- A list is found, and these are its first number, the number of its entries and their lengths.
pub record HasFound (kind : Kind) (seen : Seen) (lengths : List ℕ) (image : List (List ℕ))
    : Type 0 where
  pub list : Entries
  pub is_found : found_of kind image ≡ found list
  pub first : seen.first ≡ list.first
  pub count : seen.count ≡ length list.payloads
  pub lengths_are : lengths ≡ map (λ p. length p) list.payloads
  pub start : IsStart kind (length image - 1) seen.start image

-- what was answered is what is found in the image
abbrev pub IsAnswer : Kind → Result Seen SurveyFault → List ℕ → List (List ℕ) → Type 0
IsAnswer kind (Ok seen) lengths image = HasFound kind seen lengths image
IsAnswer kind (Err (Damaged n)) lengths image = found_of kind image ≡ damaged n
IsAnswer kind (Err DeviceFault) lengths image = Unit {0}

-- the same of an image whose blocks have 512 bytes
abbrev pub IsSurvey : Kind → Result Seen SurveyFault → List ℕ → List (List ℕ) → Type 0
IsSurvey kind result lengths image = AllBlocks image → IsAnswer kind result lengths image

-- what is so of every list that a survey finds in an area of so many blocks
pub record IsSeen (blocks : ℕ) (lengths : List ℕ) (seen : Seen) : Type 0 where
  pub count : seen.count ≡ length lengths
  pub short : All (λ len. len ≤ 32768) lengths
  pub used : seen.used ≡ blocks_used lengths
  pub fits : blocks_used lengths < blocks
  pub start : seen.start + 1 < blocks
  pub end : seen.end + 1 ≡ block_at (blocks - 1) seen.start (blocks_used lengths)
  pub some : 1 ≤ seen.first
  pub last : seen.first + seen.count ≤ 2 ^ 62 + 1
