-- What worked scripts are made of: names, areas, and the device events of lines.
use Rattle.std.proofs.Common.{ℕ, Bool, true, false, List, [], ◌∷◌, ◌++◌}
use Rattle.std.specs.Prelude.{map, None, decimal}
use Rattle.std.specs.List.{range_with_len}
use Rattle.ark_base.specs.declared.kind.Kind.{Kind}
use Rattle.ark_media.specs.Journal.{Event, Write, Sync, zero_block}
use Rattle.ark_table.specs.Slots.{Slot, slot_bytes}
use Rattle.ark_entry.specs.Header.{header_bytes}
use Rattle.ark_caladan.specs.Chain.{reading}
use Rattle.ark_script.specs.Line as w
use Rattle.ark_script.specs.Line.{Line}
use Rattle.ark_machine.specs.Row.{Ended}
use Rattle.ark_machine.specs.System.{System, line_turn}
use Rattle.ark_worked.proofs.Playing.{Played, played, words_said}

-- a line that calls no device
abbrev pub quiet : Line → Played
quiet line = (line, [])

abbrev pub app : List ℕ → Played
app a = quiet (w.app a None)

-- an area in this slot: so many blocks from a first one on
abbrev pub area : ℕ → List ℕ → List ℕ → Kind → ℕ → ℕ → Slot
area i a s k from n = record { index = i; app = a; label = s; kind = k; blocks = range_with_len from n }

abbrev pub zeroed : List ℕ → List Event
zeroed blocks = map (λ b. Write b zero_block true true) blocks

abbrev pub slot_written : Slot → List Event
slot_written t = Sync true ∷ Write t.index (slot_bytes t) true true ∷ Sync true ∷ []

-- the events of the line that grants an area
abbrev pub granting : Slot → List Event
granting t = zeroed t.blocks ++ slot_written t

-- of the line that drops the area of a slot
abbrev pub dropping : ℕ → List Event
dropping i = Write i zero_block true true ∷ Sync true ∷ []

-- of a line that opens a log on a fresh area: the header is written after a sync
abbrev pub opening : ℕ → List ℕ → List Event
opening header content = Sync true ∷ Write header content true true ∷ Sync true ∷ []

-- of a line that settles the append of an entry of one block, to this block
abbrev pub appending : ℕ → List ℕ → List ℕ → List Event
appending block plain marked = Write block plain true true ∷ Sync true ∷ Write block marked true true ∷ Sync true ∷ []

-- of a line that opens a log with no entries yet
abbrev pub opening_empty : ℕ → Kind → List Event
opening_empty header k = opening header (header_bytes k 1 0 0 0)

-- The reply of a line after a script, where its device calls ended so, and whether it finds no memory.
abbrev pub reply_after : System → List Played → Line → List Ended → Bool → List ℕ
reply_after s script line ends memory = words_said (line_turn (played s script) line ends memory)

-- a read that failed
abbrev pub failed_read : Ended
failed_read = record { verb = reading; ok = false; took = true }

-- so many labels, numbered from 1 on behind a letter
abbrev pub numbered : List ℕ → ℕ → List (List ℕ)
numbered letter n = map (λ i. letter ++ decimal i) (range_with_len 1 n)
