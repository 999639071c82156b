-- How a report is put out.
use Rattle.std.specs.Prelude.{◌≡◌, ℕ, List, [], ◌∷◌, ◌++◌, Option, Some, None, Result, Ok, Err}
use Rattle.ark_base.specs.declared.status.Status.{Status}
use Rattle.ark_base.specs.declared.status.Status.TheVariants.{Device, Sink}
use Rattle.ark_media.specs.Journal.{Event, AllBlocks, output_of, device_events, HasFailed, AreReads}
use Rattle.ark_media.specs.Calls.{Told, Beside, Goes, Rose, OnTold}
use Rattle.ark_table.specs.Area.{Area}
use Rattle.ark_table.specs.Slots.{slot_at}
use Rattle.ark_table.specs.Table.{slots_in}
use Rattle.ark_check.specs.Report.{slot_line, lines_with, text_of}

-- all of a text came out, or where it ended before that a prefix
abbrev pub CameOut : Result (Unit {0}) Status → List ℕ → List ℕ → Type 0
CameOut (Ok done) text out = out ≡ text
CameOut (Err status) text out = (more : List ℕ) × (text ≡ out ++ more)

-- nothing failed; or a read did, or else a put
abbrev pub EndedBy : Result (Unit {0}) Status → List Event → Beside → Beside → Type 0
EndedBy (Ok done) es before after = (HasFailed es → ⊥) × (after.sink_faults ≡ before.sink_faults)
EndedBy (Err Device) es before after = HasFailed es × (after.sink_faults ≡ before.sink_faults)
EndedBy (Err Sink) es before after = (HasFailed es → ⊥) × Rose before.sink_faults after.sink_faults
EndedBy (Err _) es before after = ⊥

-- A text, by the device's image, was put out; the device was read, and nothing else was done to it.
pub record PutsText (told0 told1 : Told) (beside0 beside1 : Beside) (text : List (List ℕ) → List ℕ) (result : Result (Unit {0}) Status) : Type 0 where
  pub events : List Event
  pub goes : Goes events [] told0 told1 beside0 beside1
  pub source : beside1.source_faults ≡ beside0.source_faults
  pub reads : AreReads (device_events events)
  pub ended : EndedBy result events beside0 beside1
  pub shows : OnTold told1 (λ image. AllBlocks image → CameOut result (text image) (output_of events))

-- the line of a slot, if it is in use
abbrev pub slot_text : ℕ → Option Area → List (List ℕ) → List ℕ
slot_text i None image = []
slot_text i (Some a) image = slot_line image (slot_at i a) ++ 10 ∷ []

-- the report of a device with this table
abbrev pub report_text : List (Option Area) → List (List ℕ) → List ℕ
report_text table image = text_of (lines_with image (slots_in 1 table))
