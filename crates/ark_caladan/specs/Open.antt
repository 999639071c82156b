-- An open log or queue at each moment: its list on its blocks, the commands that wait, and how far the oldest has come. No
-- standard fixes it.
use Rattle.std.specs.Prelude.{◌≡◌, ◌<◌, ◌≤◌, ℕ, suc, Bool, false, List, [], ◌∷◌, length, drop, get_or, Option, Some, None}
use Rattle.ark_base.specs.declared.kind.Kind.{Kind}
use Rattle.ark_media.specs.Journal.{History}
use Rattle.ark_entry.specs.Header.{Header, bytes_of}
use Rattle.ark_entry.specs.Found.{Entries}
use Rattle.ark_caladan.specs.Chain.{Command, append, trim, pop}
use Rattle.ark_caladan.specs.Leaves.{LiesInRing, with_entry, freed_by}
use Rattle.ark_caladan.specs.Views.{OnDisk, view_of}
use Rattle.ark_caladan.specs.Stages.{Stage, syncs, calls_of, Moment, resting, moment_at, IsAt}
use Rattle.ark_caladan.specs.Plans.{header_after, stages_of, CanWait}

-- how a list lies: the header's block, what it says, and the blocks of the list from its start on
pub record Layout : Type 0 where
  pub header : List ℕ
  pub says : Header
  pub stored : List (List ℕ)

-- behind a command that drops entries, the rest lies where it lay
abbrev pub layout_dropped : Kind → ℕ → Layout → Entries → Command → Layout
layout_dropped kind room p l c = record {
  header = bytes_of kind (header_after room p.says l c);
  says = header_after room p.says l c;
  stored = drop (freed_by l c) p.stored;
}

-- how it lies after a command
abbrev pub layout_after : Kind → ℕ → Layout → Entries → Command → Layout
layout_after kind room p l (append n payload) = record p { stored = with_entry room p.says p.stored l payload }
layout_after kind room p l (trim n) = layout_dropped kind room p l (trim n)
layout_after kind room p l (pop n) = layout_dropped kind room p l (pop n)

-- the stages of the oldest command
abbrev pub oldest_stages : Kind → ℕ → Layout → Entries → List Command → List Stage
oldest_stages kind room p l [] = []
oldest_stages kind room p l (c ∷ cs) = stages_of kind room p.header p.says p.stored l c

-- so many stages are whole, and of the next so many calls are made; where there is no stage, none
abbrev pub IsPlace : List Stage → ℕ → ℕ → Type 0
IsPlace [] done n = (done ≡ 0) × (n ≡ 0)
IsPlace (s ∷ ss) done n = (done < length (s ∷ ss)) × (n ≤ calls_of (get_or (s ∷ ss) done syncs))

-- the moment of the area then
abbrev pub log_moment : Kind → ℕ → Layout → Entries → List Command → ℕ → ℕ → Moment
log_moment kind room p l cs done n = moment_at (resting (view_of room p.header p.says.start p.stored) false) (oldest_stages kind room p l cs) done n

-- the oldest command, and whether its deciding write took
abbrev pub oldest : List Command → Bool → Option (Command × Bool)
oldest [] took = None
oldest (c ∷ cs) took = Some (c, took)

-- how many blocks of the list the oldest command frees
abbrev pub freed_first : Entries → List Command → ℕ
freed_first l [] = 0
freed_first l (c ∷ cs) = freed_by l c

-- A list lies so in a ring of so many blocks, and these commands wait; of the oldest so many stages are whole, and of the next so
-- many calls are made.
pub record Waits (kind : Kind) (room : ℕ) (p : Layout) (l : Entries) (cs : List Command) (done n : ℕ) : Type 0 where
  pub some : 0 < room
  pub lies : LiesInRing kind room p.header p.says p.stored l
  pub can : CanWait room l cs
  pub place : IsPlace (oldest_stages kind room p l cs) done n

-- an area's log is open so, and the area is at that moment
pub record IsOpenWith (kind : Kind) (room : ℕ) (history : History) (blocks : List ℕ) (p : Layout) (l : Entries) (cs : List Command) (done n : ℕ) : Type 0 where
  pub size : length blocks ≡ suc room
  pub on_disk : OnDisk blocks history.base
  pub waits : Waits kind room p l cs done n
  pub at : IsAt history blocks (log_moment kind room p l cs done n)
