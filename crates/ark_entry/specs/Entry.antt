-- One entry of a log or queue: how it is written, and what is an entry at a place of the ring.
use Rattle.std.specs.Prelude.{◌≡◌, ◌<◌, ℕ, zero, suc, ◌+◌, ◌-◌, ◌*◌, ◌/◌, ◌%◌, ◌^◌, List, [], ◌++◌, length, take, drop, replicate, slice_range, codes, Bool, true, false, ◌&&◌, ◌==◌, nat_le, bytes_eq, Option, Some, None}
use Rattle.std.specs.Int.{w32, w64, to_be_bytes, from_be_bytes}
use Rattle.ark_media.specs.Journal.{block}

-- the blocks of an entry of so many bytes: 20 before its payload, 8 of the marker behind it
abbrev pub entry_blocks : ℕ → ℕ
entry_blocks len = (len + 539) / 512

abbrev pub marker : List ℕ
marker = codes "CALADAN!"

-- the first 20 bytes: the magic word, length, number, and the place of the next entry
abbrev pub head_bytes : ℕ → ℕ → ℕ → List ℕ
head_bytes len number next = codes "ENT1" ++ (to_be_bytes w32 len ++ (to_be_bytes w64 number ++ to_be_bytes w32 next))

-- an entry without the marker: zeros stand behind the payload to the end of its blocks
abbrev pub entry_bytes : ℕ → ℕ → List ℕ → List ℕ
entry_bytes number next payload =
    head_bytes (length payload) number next ++ (payload ++ replicate (512 * entry_blocks (length payload) - (20 + length payload)) 0)

-- the same bytes with the marker as the last 8
abbrev pub marked : List ℕ → List ℕ
marked bytes = take (length bytes - 8) bytes ++ marker

-- n blocks of the ring from place p on, one after another; the ring begins again after its last block
abbrev pub ring_bytes : List (List ℕ) → ℕ → ℕ → List ℕ
ring_bytes ring p zero = []
ring_bytes ring p (suc n) = block ring (p % length ring) ++ ring_bytes ring (p + 1) n

-- each block of the ring has 512 bytes
abbrev pub AreWhole : List (List ℕ) → Type 0
AreWhole ring = (u : ℕ) → u < length ring → length (block ring u) ≡ 512

-- the length that the first block of an entry says
abbrev pub length_in : List ℕ → ℕ
length_in head = from_be_bytes w32 (slice_range head 4 8)

-- the first block of an entry at place p: the magic word, a length of at most 32,768 whose blocks fit the ring, this number,
-- and the place behind the entry as the next
abbrev pub is_head : ℕ → ℕ → ℕ → List ℕ → Bool
is_head room p number head =
    bytes_eq (take 4 head) (codes "ENT1")
    && (nat_le (length_in head) 32768
    && (nat_le (entry_blocks (length_in head)) room
    && (from_be_bytes w64 (slice_range head 8 16) == number
    && (nat_le number (2 ^ 62)
    && from_be_bytes w32 (slice_range head 16 20) == (p + entry_blocks (length_in head)) % room))))

-- a block ends with the marker
abbrev pub is_marked : List ℕ → Bool
is_marked last = bytes_eq (drop 504 last) marker

-- whether an entry of this number stands at place p
abbrev pub is_entry : List (List ℕ) → ℕ → ℕ → Bool
is_entry ring p number =
    is_head (length ring) p number (block ring p)
    && is_marked (block ring ((p + entry_blocks (length_in (block ring p)) - 1) % length ring))

-- the bytes of so long a payload that stand from place p on
abbrev pub payload_at : List (List ℕ) → ℕ → ℕ → List ℕ
payload_at ring p len = slice_range (ring_bytes ring p (entry_blocks len)) 20 (20 + len)

abbrev pub payload_if : Bool → List (List ℕ) → ℕ → Option (List ℕ)
payload_if true ring p = Some (payload_at ring p (length_in (block ring p)))
payload_if false ring p = None

-- the payload of the entry of this number at place p of the ring
abbrev pub entry_at : List (List ℕ) → ℕ → ℕ → Option (List ℕ)
entry_at ring p number = payload_if (is_entry ring p number) ring p
