-- What a ring of blocks holds, as a relation. A reading gives the block at each place of the ring, the place where the list
-- begins being 0: so no place wraps.
use Rattle.std.specs.Prelude.{◌≡◌, ◌⊎◌, ◌<◌, ◌≤◌, Some, None, ℕ, zero, suc, ◌+◌, ◌-◌, ◌%◌, ◌^◌, List, [], ◌∷◌, ◌++◌, length, take, drop, slice_range, codes}
use Rattle.std.specs.Int.{w32, w64, from_be_bytes}
use Rattle.ark_base.specs.declared.kind.Kind.{Kind}
use Rattle.ark_media.specs.Journal.{block}
use Rattle.ark_entry.specs.Header.{Header, header_of}
use Rattle.ark_entry.specs.Entry.{entry_blocks, length_in, marker}
use Rattle.ark_entry.specs.Found.{Entries}

-- the ring, read from a start on
abbrev pub reading : List (List ℕ) → ℕ → ℕ → List ℕ
reading ring start u = block ring ((start + u) % length ring)

-- n blocks of a reading, one after another, from place u on
abbrev pub bytes_from : (ℕ → List ℕ) → ℕ → ℕ → List ℕ
bytes_from r u zero = []
bytes_from r u (suc n) = r u ++ bytes_from r (u + 1) n

-- An entry of this number and payload stands at place u of a ring of `room` blocks, whose place 0 is block `start` of the ring.
pub record Entry (room start : ℕ) (r : ℕ → List ℕ) (u number : ℕ) (payload : List ℕ) : Type 0 where
  pub tag : take 4 (r u) ≡ codes "ENT1"
  pub size : length_in (r u) ≡ length payload
  pub short : length payload ≤ 32768
  pub num : from_be_bytes w64 (slice_range (r u) 8 16) ≡ number
  pub low : number ≤ 2 ^ 62
  pub next : from_be_bytes w32 (slice_range (r u) 16 20) ≡ (start + u + entry_blocks (length payload)) % room
  pub fits : u + entry_blocks (length payload) ≤ room
  pub mark : drop 504 (r (u + entry_blocks (length payload) - 1)) ≡ marker
  pub content : slice_range (bytes_from r u (entry_blocks (length payload))) 20 (20 + length payload) ≡ payload

-- from place u and this number on these are the payloads of the entries that stand one behind another, and no more stands there
abbrev pub Finds : ℕ → ℕ → (ℕ → List ℕ) → ℕ → ℕ → List (List ℕ) → Type 0
Finds room start r u number [] = (payload : List ℕ) → Entry room start r u number payload → ⊥
Finds room start r u number (x ∷ xs) = Entry room start r u number x × Finds room start r (u + entry_blocks (length x)) (number + 1) xs

-- entries with these payloads stand one behind another up to a place
abbrev pub Stands : ℕ → ℕ → (ℕ → List ℕ) → ℕ → ℕ → List (List ℕ) → ℕ → Type 0
Stands room start r u number [] end = u ≡ end
Stands room start r u number (x ∷ xs) end = Entry room start r u number x × Stands room start r (u + entry_blocks (length x)) (number + 1) xs end

-- The header is right, and this list stands in the ring from its start on, with at least as many entries as it counts.
abbrev pub HasList : Kind → List ℕ → List (List ℕ) → Entries → Type 0
HasList kind header ring l =
    (h : Header) × (header_of kind (length ring) header ≡ Some h) × (l.first ≡ h.first) × (h.count ≤ length l.payloads) × Finds (length ring) h.start (reading ring h.start) 0 h.first l.payloads

-- The header is wrong, and n is 0; or it counts more entries than stand in the ring, and n is the number of the first that is missing.
abbrev pub IsDamaged : Kind → List ℕ → List (List ℕ) → ℕ → Type 0
IsDamaged kind header ring n =
    ((header_of kind (length ring) header ≡ None) × (n ≡ 0))
    ⊎ ((h : Header) × (xs : List (List ℕ)) × (header_of kind (length ring) header ≡ Some h) × Finds (length ring) h.start (reading ring h.start) 0 h.first xs × (length xs < h.count) × (n ≡ h.first + length xs))
