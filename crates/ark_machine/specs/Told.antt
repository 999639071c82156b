-- What a run puts out for one application, and the machine with which it begins.
use Rattle.std.specs.Prelude.{ℕ, List, [], ◌∷◌, ◌++◌, Option, Some, None, Ok, Err, filter as select, if◌then◌else◌, bytes_eq}
use Rattle.ark_base.specs.declared.kind.Kind.{Kind}
use Rattle.ark_media.specs.Journal.{Event, output_of, device_events}
use Rattle.ark_table.specs.Slots.{Slot}
use Rattle.ark_script.specs.Line.{Line}
use Rattle.ark_script.specs.Lines.{Meaning}
use Rattle.ark_script.specs.Text.{text}
use Rattle.ark_machine.specs.Machine.{Machine, with_new}
use Rattle.ark_machine.specs.Control.{is_label}
use Rattle.ark_machine.specs.System.{System}
use Rattle.ark_machine.specs.Start.{contents_at, stored_area}
use Rattle.ark_machine.specs.Built.{is_built}
use Rattle.ark_machine.specs.Follow.{ends_of}
use Rattle.ark_machine.specs.Replies.{turn_for, has_lacked}
use Rattle.ark_machine.specs.Private.{Play, Reply, concerned}

-- the line that comes to the machines; one that is refused at sight does not
abbrev pub heard : Meaning → Option Line
heard (Err refusal) = None
heard (Ok line) = if is_built line then Some line else None

-- the line of a whole part, with what the part tells of its device calls and of memory
abbrev pub play_of : Line → List Event → Play
play_of line part = record { line = line; ends = ends_of (device_events part); memory = has_lacked part }

abbrev pub plays_in : Option Line → List Event → List Play
plays_in None part = []
plays_in (Some line) part = play_of line part ∷ []

-- the lines of a run, by their whole parts
abbrev pub plays_of : List Meaning → List (List Event) → List Play
plays_of [] parts = []
plays_of (m ∷ ms) [] = []
plays_of (m ∷ ms) (part ∷ parts) = plays_in (heard m) part ++ plays_of ms parts

abbrev pub outputs_in : List ℕ → System → Option Line → List Event → List (List ℕ)
outputs_in a s None part = []
outputs_in a s (Some line) part = if is_label a (concerned s line) then output_of part ∷ [] else []

-- what was put out for the lines that concern application a
abbrev pub outputs_to : List ℕ → System → List Meaning → List (List Event) → List (List ℕ)
outputs_to a s [] parts = []
outputs_to a s (m ∷ ms) [] = []
outputs_to a s (m ∷ ms) (part ∷ parts) = outputs_in a s (heard m) part ++ outputs_to a (turn_for s m part).after ms parts

-- a reply as it is put out
abbrev pub text_of : Reply → List ℕ
text_of r = text r.said r.bytes

-- What an application has at the start of a run: what is stored in its own slots.

abbrev pub own_slots : List ℕ → List Slot → List Slot
own_slots a slots = select (λ t. bytes_eq a t.app) slots

-- an area that is stored for an application: its label, its kind, and the content of its blocks
pub record Area : Type 0 where
  pub label : List ℕ
  pub kind : Kind
  pub content : List (List ℕ)

abbrev pub area_in : List (List ℕ) → Slot → Area
area_in image t = record { label = t.label; kind = t.kind; content = contents_at image t.blocks }

abbrev pub with_areas : Machine → List Area → Machine
with_areas m [] = m
with_areas m (x ∷ xs) = with_areas (with_new m x.label (stored_area x.kind x.content)) xs
