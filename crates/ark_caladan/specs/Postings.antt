-- The descriptors that a command posts, one for each of its stages, and what the buffers hold. No standard fixes them.
use Rattle.std.specs.Prelude.{◌≡◌, ℕ, ◌+◌, ◌-◌, ◌*◌, ◌%◌, List, [], ◌∷◌, length, take, drop, get_or, nat_lt, if◌then◌else◌}
use Rattle.ark_base.specs.declared.kind.Kind.{Kind}
use Rattle.ark_media.specs.Journal.{zero_block}
use Rattle.ark_media.specs.Calls.{Call, Reads, Writes, Syncs}
use Rattle.ark_entry.specs.Header.{Header, bytes_of}
use Rattle.ark_entry.specs.Entry.{entry_blocks, entry_bytes, marked}
use Rattle.ark_entry.specs.Found.{Entries}
use Rattle.ark_entry.specs.Reading.{bytes_from}
use Rattle.ark_entry.specs.Writing.{at}
use Rattle.ark_caladan.specs.Chain.{Command, append, trim, pop, blocks_of, next_number}
use Rattle.ark_caladan.specs.Leaves.{freed_by}
use Rattle.ark_caladan.specs.Plans.{ring_place, header_after, added_by}

-- A descriptor that a log posts, by its first block and how many there are: blocks are read into a buffer; blocks of these bytes
-- are written; zeros are written; a sync is made.
pub data Posting : Type 0 where
  loads : ℕ → ℕ → Posting
  saves : ℕ → ℕ → List ℕ → Posting
  clears : ℕ → ℕ → Posting
  flushes : Posting

-- the block of an area of n blocks that is k behind another, where block 1 follows the last
abbrev pub walked : ℕ → ℕ → ℕ → ℕ
walked n first k = if nat_lt (first + k) n then first + k else 1 + (first + k - n)

abbrev pub bytes_block : List ℕ → ℕ → List ℕ
bytes_block bytes k = take 512 (drop (512 * k) bytes)

-- its device call behind so many
abbrev pub posted_call : List ℕ → Posting → ℕ → Call
posted_call blocks (loads first count) k = Reads (get_or blocks (walked (length blocks) first k) 0)
posted_call blocks (saves first count bytes) k = Writes (get_or blocks (walked (length blocks) first k) 0) (bytes_block bytes k)
posted_call blocks (clears first count) k = Writes (get_or blocks (walked (length blocks) first k) 0) zero_block
posted_call blocks flushes k = Syncs

-- an entry's bytes, as its buffer has them from its acceptance to its marker: its number, and the place behind it as the next
abbrev pub buffer_of : ℕ → ℕ → ℕ → List ℕ → List ℕ
buffer_of room place number payload = entry_bytes number ((place + entry_blocks (length payload)) % room) payload

abbrev pub append_postings : ℕ → ℕ → Entries → List ℕ → List Posting
append_postings room start l payload =
    saves (ring_place room start (blocks_of l.payloads)) (entry_blocks (length payload)) (buffer_of room (start + blocks_of l.payloads) (next_number l) payload)
    ∷ flushes
    ∷ saves (ring_place room start (blocks_of l.payloads + entry_blocks (length payload) - 1)) 1
    (drop (512 * (entry_blocks (length payload) - 1)) (marked (buffer_of room (start + blocks_of l.payloads) (next_number l) payload)))
    ∷ flushes
    ∷ []

abbrev pub drop_postings : ℕ → List ℕ → ℕ → ℕ → List Posting
drop_postings room new_header start freed = saves 0 1 new_header ∷ flushes ∷ clears (ring_place room start 0) freed ∷ flushes ∷ []

-- what a command posts, by its list and the place where that begins
abbrev pub postings_of : Kind → ℕ → Header → Entries → Command → List Posting
postings_of kind room h l (append n payload) = append_postings room h.start l payload
postings_of kind room h l (trim n) = drop_postings room (bytes_of kind (header_after room h l (trim n))) h.start (freed_by l (trim n))
postings_of kind room h l (pop n) =
    loads (ring_place room h.start 0) (freed_by l (pop n)) ∷ drop_postings room (bytes_of kind (header_after room h l (pop n))) h.start (freed_by l (pop n))

-- where the entries behind a list will begin, not yet wrapped
abbrev pub place_behind : Header → Entries → ℕ
place_behind h l = h.start + blocks_of l.payloads

-- The buffer of a command of which so many stages are whole: an append's has the entry, from its third stage on with the marker.
abbrev pub HoldsEntry : ℕ → ℕ → ℕ → Command → List ℕ → Type 0
HoldsEntry room place done (append n payload) b = b ≡ (if nat_lt done 2 then buffer_of room place n payload else marked (buffer_of room place n payload))
HoldsEntry room place done (trim n) b = Unit {0}
HoldsEntry room place done (pop n) b = Unit {0}

-- The buffers of the commands that wait, one for each (of a trim it is empty, and of a pop it may be any), where the first new entry
-- begins at this place and so many stages of the oldest are whole.
abbrev pub HoldEntries : ℕ → ℕ → ℕ → List Command → List (List ℕ) → Type 0
HoldEntries room place done [] bs = bs ≡ []
HoldEntries room place done (c ∷ cs) [] = ⊥
HoldEntries room place done (c ∷ cs) (b ∷ bs) = HoldsEntry room place done c b × HoldEntries room (place + added_by c) 0 cs bs

-- the buffer of a pop that has read so many blocks
abbrev pub HasRead : List (List ℕ) → ℕ → List ℕ → Type 0
HasRead stored n b = take (512 * n) b ≡ bytes_from (at stored) 0 n
