-- An opening at each moment behind its first sync. No standard fixes it.
use Rattle.std.specs.Prelude.{◌≡◌, ◌⊎◌, ◌<◌, ◌≤◌, ℕ, suc, false, List, [], ◌∷◌, length, get_or, Some}
use Rattle.ark_base.specs.declared.kind.Kind.{Kind}
use Rattle.ark_media.specs.Journal.{History, block}
use Rattle.ark_entry.specs.Header.{Header, header_of}
use Rattle.ark_entry.specs.Entry.{AreWhole}
use Rattle.ark_entry.specs.Found.{Entries, found, found_of}
use Rattle.ark_entry.specs.Reading.{reading}
use Rattle.ark_entry.specs.Repair.{used_by, blocks_read}
use Rattle.ark_caladan.specs.Views.{OnDisk, repaired}
use Rattle.ark_caladan.specs.Stages.{Stage, writes, syncs, resting, moment_at, IsAt}
use Rattle.ark_caladan.specs.Leading.{AllIn}
use Rattle.ark_caladan.specs.Open.{Layout, IsPlace}

-- What an opening has seen: the contents of the area's blocks, what their header says and the list in them. And what it writes
-- then: the block of a header and what that says, and the places that it writes.
pub record Repair : Type 0 where
  pub seen : List (List ℕ)
  pub says : Header
  pub list : Entries
  pub header : List ℕ
  pub new : Header
  pub places : List ℕ

-- the view that it makes of what it has seen
abbrev pub repaired_view : ℕ → Repair → ℕ → List ℕ
repaired_view room r = repaired room r.says.start (used_by r.list.payloads) r.header (block r.seen)

-- It was seen so, the new header says the same list, and the places are all those at which the new view differs.
pub record IsRepair (kind : Kind) (room : ℕ) (r : Repair) : Type 0 where
  pub size : length r.seen ≡ suc room
  pub whole : AreWhole r.seen
  pub read : header_of kind room (block r.seen 0) ≡ Some r.says
  pub is_found : found_of kind r.seen ≡ found r.list
  pub new_read : header_of kind room r.header ≡ Some r.new
  pub first : r.new.first ≡ r.says.first
  pub start : r.new.start ≡ r.says.start
  pub count : r.new.count ≤ length r.list.payloads
  pub inside : AllIn (suc room) r.places
  pub all : (k : ℕ) → k < suc room
      → (block r.seen k ≡ repaired_view room r k) ⊎ ((i : ℕ) × (i < length r.places) × (get_or r.places i 0 ≡ k))

-- its stages behind the first sync
abbrev pub repair_stages : ℕ → Repair → List Stage
repair_stages room r = writes (repaired_view room r) r.places ∷ syncs ∷ []

-- the blocks of its list in contents, from the list's start on
abbrev pub blocks_seen : List (List ℕ) → Header → Entries → List (List ℕ)
blocks_seen [] h l = []
blocks_seen (header ∷ ring) h l = blocks_read (reading ring h.start) 0 (used_by l.payloads)

-- how the list lies behind its last sync
abbrev pub repaired_layout : Repair → Layout
repaired_layout r = record { header = r.header; says = r.new; stored = blocks_seen r.seen r.says r.list }

-- an area is inside its repair: so many stages are whole, and of the next so many calls are made
pub record Repairing (kind : Kind) (room : ℕ) (history : History) (blocks : List ℕ) (r : Repair) (done n : ℕ) : Type 0 where
  pub size : length blocks ≡ suc room
  pub some : 0 < room
  pub on_disk : OnDisk blocks history.base
  pub right : IsRepair kind room r
  pub place : IsPlace (repair_stages room r) done n
  pub at : IsAt history blocks (moment_at (resting (block r.seen) false) (repair_stages room r) done n)
