-- A list on its blocks, and the blocks while a command is carried out.
use Rattle.std.specs.Prelude.{◌≡◌, ◌<◌, ◌≤◌, ℕ, ◌+◌, ◌-◌, ◌%◌, ◌^◌, List, length, take, Some}
use Rattle.ark_base.specs.declared.kind.Kind.{Kind}
use Rattle.ark_entry.specs.Header.{Header, header_of}
use Rattle.ark_entry.specs.Entry.{entry_blocks, AreWhole}
use Rattle.ark_entry.specs.Found.{Entries}
use Rattle.ark_entry.specs.Reading.{reading, Stands}
use Rattle.ark_entry.specs.Repair.{used_by, Zeroes}
use Rattle.ark_entry.specs.Writing.{at, Between, drafted, finished}
use Rattle.ark_caladan.specs.Chain.{Command, append, trim, pop, after_command, next_number, blocks_of}

-- The list's entries stand in these blocks from the header's start on, and the header counts no more than there are.
pub record LiesInRing (kind : Kind) (room : ℕ) (header : List ℕ) (h : Header) (stored : List (List ℕ)) (l : Entries) : Type 0 where
  pub read : header_of kind room header ≡ Some h
  pub first : l.first ≡ h.first
  pub count : h.count ≤ length l.payloads
  pub stands : Stands room h.start (at stored) 0 l.first l.payloads (length stored)
  pub fits : length stored ≤ room

-- a ring of blocks
pub record AreRingBlocks (ring : List (List ℕ)) : Type 0 where
  pub whole : AreWhole ring
  pub some : 0 < length ring

-- the ring holds at each place, read from the start on, the block of the one list of blocks or of the other, and zeros behind them
abbrev pub RingHolds : List (List ℕ) → Header → List (List ℕ) → List (List ℕ) → Type 0
RingHolds ring h a b = Between (length ring) a b (reading ring h.start)

-- the next entry has room behind these blocks
pub record HasRoom (room : ℕ) (stored : List (List ℕ)) (l : Entries) (payload : List ℕ) : Type 0 where
  pub short : length payload ≤ 32768
  pub low : next_number l ≤ 2 ^ 62
  pub fits : length stored + entry_blocks (length payload) ≤ room
  pub few : room < 2 ^ 32

-- the new entry's blocks behind the stored ones, without the marker and with it
abbrev pub with_draft : ℕ → Header → List (List ℕ) → Entries → List ℕ → List (List ℕ)
with_draft room h stored l payload = drafted room h.start stored l.first l.payloads payload

abbrev pub with_entry : ℕ → Header → List (List ℕ) → Entries → List ℕ → List (List ℕ)
with_entry room h stored l payload = finished room h.start stored l.first l.payloads payload

-- how many entries a command drops, and how many blocks they have
abbrev pub dropped_by : Entries → Command → ℕ
dropped_by l (append n payload) = 0
dropped_by l (trim n) = n - l.first
dropped_by l (pop n) = 1

abbrev pub freed_by : Entries → Command → ℕ
freed_by l c = blocks_of (take (dropped_by l c) l.payloads)

-- the header that a trim or pop writes: what is left begins behind the freed blocks
pub record HeaderAfter (kind : Kind) (room : ℕ) (header : List ℕ) (h : Header) (l : Entries) (c : Command) (new : Header) : Type 0 where
  pub read : header_of kind room header ≡ Some new
  pub first : new.first ≡ (after_command l c).first
  pub start : new.start ≡ (h.start + freed_by l c) % room
  pub count : new.count ≤ length (after_command l c).payloads

-- A moment of an opening that found this list: some of the blocks outside it are zero already, and the header is the old one, or
-- a new one for the same list.
pub record Repairs (kind : Kind) (header : List ℕ) (h : Header) (ring : List (List ℕ)) (l : Entries) (new_header : List ℕ) (new : Header) (new_ring : List (List ℕ)) : Type 0 where
  pub read : header_of kind (length ring) new_header ≡ Some new
  pub first : new.first ≡ h.first
  pub start : new.start ≡ h.start
  pub count : new.count ≤ length l.payloads
  pub size : length new_ring ≡ length ring
  pub zeroes : Zeroes (length ring) (used_by l.payloads) (reading ring h.start) (reading new_ring h.start)
