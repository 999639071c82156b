-- The stages of each command on the blocks of its area. No standard fixes them.
use Rattle.std.specs.Prelude.{◌≤◌, ℕ, zero, suc, ◌+◌, ◌-◌, ◌%◌, ◌^◌, ◌<◌, List, [], ◌∷◌, length, sum_by}
use Rattle.ark_base.specs.declared.kind.Kind.{Kind}
use Rattle.ark_entry.specs.Header.{Header, bytes_of}
use Rattle.ark_entry.specs.Entry.{entry_blocks}
use Rattle.ark_entry.specs.Found.{Entries}
use Rattle.ark_entry.specs.Writing.{zeroed}
use Rattle.ark_caladan.specs.Chain.{Command, append, trim, pop, after_command, after_all, next_number, blocks_of, Phase, phase, reading, writing, syncing, deciding}
use Rattle.ark_caladan.specs.Numbers.{AllFit}
use Rattle.ark_caladan.specs.Leaves.{with_draft, with_entry, freed_by}
use Rattle.ark_caladan.specs.Views.{view_of}
use Rattle.ark_caladan.specs.Stages.{Stage, reads, writes, decides, syncs}

-- the place in the area of the block that is u behind the list's start
abbrev pub ring_place : ℕ → ℕ → ℕ → ℕ
ring_place room start u = suc ((start + u) % room)

-- n of them, from the one that is u behind the start on
abbrev pub ring_places : ℕ → ℕ → ℕ → ℕ → List ℕ
ring_places room start u zero = []
ring_places room start u (suc n) = ring_place room start u ∷ ring_places room start (u + 1) n

-- The header after a command: of the list after it, whose blocks begin behind those that it frees and end where they did.
abbrev pub header_after : ℕ → Header → Entries → Command → Header
header_after room h l c = record {
  first = (after_command l c).first;
  start = (h.start + freed_by l c) % room;
  count = length (after_command l c).payloads;
  end = (h.start + blocks_of l.payloads) % room;
}

-- the entry is written without its marker; then its last block is written with it
abbrev pub append_stages : ℕ → List ℕ → Header → List (List ℕ) → Entries → List ℕ → List Stage
append_stages room header h stored l payload =
    writes (view_of room header h.start (with_draft room h stored l payload)) (ring_places room h.start (length stored) (entry_blocks (length payload))) ∷ syncs
    ∷ decides (view_of room header h.start (with_entry room h stored l payload)) (ring_place room h.start (length stored + entry_blocks (length payload) - 1)) ∷ syncs ∷ []

-- the header is written; then the freed blocks are made zero
abbrev pub drop_stages : ℕ → List ℕ → Header → List (List ℕ) → ℕ → List Stage
drop_stages room new_header h stored freed =
    decides (view_of room new_header h.start stored) 0 ∷ syncs
    ∷ writes (view_of room new_header h.start (zeroed freed stored)) (ring_places room h.start 0 freed) ∷ syncs ∷ []

-- the stages of a command on a list whose blocks lie so in a ring of so many blocks
abbrev pub stages_of : Kind → ℕ → List ℕ → Header → List (List ℕ) → Entries → Command → List Stage
stages_of kind room header h stored l (append n payload) = append_stages room header h stored l payload
stages_of kind room header h stored l (trim n) = drop_stages room (bytes_of kind (header_after room h l (trim n))) h stored (freed_by l (trim n))
stages_of kind room header h stored l (pop n) =
    reads (ring_places room h.start 0 (freed_by l (pop n))) ∷ drop_stages room (bytes_of kind (header_after room h l (pop n))) h stored (freed_by l (pop n))

-- a stage as a phase of the log
abbrev pub phase_of : Stage → Phase
phase_of (reads places) = phase reading (length places)
phase_of (writes b places) = phase writing (length places)
phase_of (decides b p) = deciding
phase_of syncs = phase syncing 1

-- the blocks that a command adds
abbrev pub added_by : Command → ℕ
added_by (append n payload) = entry_blocks (length payload)
added_by (trim n) = 0
added_by (pop n) = 0

abbrev pub AreShort : List Command → Type 0
AreShort [] = Unit {0}
AreShort (append n payload ∷ cs) = (length payload ≤ 32768) × AreShort cs
AreShort (trim n ∷ cs) = AreShort cs
AreShort (pop n ∷ cs) = AreShort cs

-- these commands can be carried out on a list in a ring of so many blocks: their numbers fit, and all their entries have room
pub record CanWait (room : ℕ) (l : Entries) (cs : List Command) : Type 0 where
  pub fit : AllFit l cs
  pub fits : blocks_of l.payloads + sum_by added_by cs ≤ room
  pub short : AreShort cs
  pub low : next_number (after_all l cs) ≤ 2 ^ 62 + 1
  pub few : room < 2 ^ 32
