-- An open log or queue while its card and its device go on. No standard fixes it.
use Rattle.std.specs.Prelude.{◌≡◌, ◌≤◌, ◌<◌, ℕ, ◌-◌, suc, Bool, true, false, List, get_or, length, map, Some}
use Rattle.std.specs.List.{AllByRecursion}
use Rattle.ark_base.specs.declared.kind.Kind.{Kind}
use Rattle.ark_media.specs.Journal.{History, block, current}
use Rattle.ark_region.specs.Frames.{LiesInRegion, ShareNoFrame, Space}
use Rattle.ark_vic.specs.Queue.{Queue}
use Rattle.ark_entry.specs.Entry.{entry_blocks}
use Rattle.ark_entry.specs.Found.{Entries, found}
use Rattle.ark_entry.specs.Writing.{at}
use Rattle.ark_caladan.specs.Chain.{Command, Log, Opened, commands, entries}
use Rattle.ark_caladan.specs.Leaves.{LiesInRing}
use Rattle.ark_caladan.specs.Listed.{AreFull}
use Rattle.ark_caladan.specs.Open.{Layout, freed_first}
use Rattle.ark_caladan.specs.Plans.{CanWait, ring_place}
use Rattle.ark_caladan.specs.Postings.{HoldEntries, place_behind}
use Rattle.ark_caladan.specs.Standing.{Progress, LogStands, makes_calls}
use Rattle.ark_caladan.specs.Views.{OnDisk}
use Rattle.ark_log.specs.Open.{OpenChain, IsRight}
use Rattle.ark_log.specs.Stages.{oldest}
use Rattle.ark_log.specs.Stands.{StandsFor}
use Rattle.ark_running.specs.Buffers.{AreRoomsOf, HasNoneOfTrim, HasReadFor, HaveLengths, blocks_read, entry_bytes_in, pieces_of}
use Rattle.ark_running.specs.Ringed.{IsRingOf, progress_of}

-- where the log still makes calls
abbrev pub Where : Bool → Type 0 → Type 0
Where true Holds = Holds
Where false Holds = Unit {0}

-- What is open stands for the log of its machine, whose list lies so.
pub record IsOpenFor (v : OpenChain) (p : Layout) (g : Log) (o : Opened) : Type 0 where
  pub right : IsRight v
  pub kind : v.kind ≡ g.kind
  pub room : g.blocks ≡ suc v.room
  pub opened : g.opened ≡ Some o
  pub list : g.list ≡ found (entries g.list)
  pub stands : StandsFor v (entries g.list) (commands o)
  pub can : CanWait v.room (entries g.list) (commands o)
  pub lengths : HaveLengths (entries g.list) v.waiting (commands o)
  pub start : p.says.start ≡ v.start
  pub done : v.done ≡ o.done
  pub failed : v.failed ≡ o.failed
  pub header : v.header_at ≡ o.header_frame
  pub rooms : AreRoomsOf v.waiting o.waiting
  pub trims : AllByRecursion (λ w. HasNoneOfTrim w.command w.buf) v.waiting

-- Its buffers lie in the memory, none in another's frames, and those of appends have the entries.
pub record HasBuffersOf (space : Space) (v : OpenChain) (p : Layout) (l : Entries) (cs : List Command) : Type 0 where
  pub lies : AllByRecursion (LiesInRegion space.taken) (pieces_of v)
  pub apart : ShareNoFrame (pieces_of v)
  pub hold : HoldEntries v.room (place_behind p.says l) v.done cs (map (entry_bytes_in space) v.waiting)

-- the buffer of a pop has the blocks that are read, while the log makes calls
abbrev pub HasReadSoFar : Space → OpenChain → Layout → Opened → Progress → Type 0
HasReadSoFar space v p o progress =
    Where (makes_calls o progress)
    (HasReadFor (oldest v).command p.stored (blocks_read v.done (entry_blocks (oldest v).len) progress) (entry_bytes_in space (oldest v)))

-- The list lies so, and its blocks stand in the area, but for those that the oldest command frees: also once a call of that has
-- failed.
pub record HasEntries (kind : Kind) (room : ℕ) (h : History) (blocks : List ℕ) (p : Layout) (l : Entries) (cs : List Command) : Type 0 where
  pub lies : LiesInRing kind room p.header p.says p.stored l
  pub there : (u : ℕ) → u < length p.stored → freed_first l cs ≤ u
      → block (current h.base h.journal) (get_or blocks (ring_place room p.says.start u) 0) ≡ at p.stored u

-- What is open, its card's ring, its buffers and its area stand for the log of its machine, whose list lies so.
pub record IsRunning (h : History) (blocks : List ℕ) (space : Space) (queue : Queue) (v : OpenChain) (p : Layout) (g : Log) (o : Opened) : Type 0 where
  pub is : IsOpenFor v p g o
  -- its area, whose blocks have 512 bytes, and how far its descriptor has come
  pub size : length blocks ≡ g.blocks
  pub on_disk : OnDisk blocks h.base
  pub full : AreFull h blocks
  pub area : LogStands h blocks g p (progress_of queue)
  pub has : HasEntries g.kind (g.blocks - 1) h blocks p (entries g.list) (commands o)
  pub ring : IsRingOf v space queue
  -- its buffers
  pub buffers : HasBuffersOf space v p (entries g.list) (commands o)
  pub read : HasReadSoFar space v p o (progress_of queue)
