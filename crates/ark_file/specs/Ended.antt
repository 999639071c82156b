-- How a run over a real outside ended, where all that it answered was what is supposed.
use Rattle.std.specs.Prelude.{◌≡◌, ◌+◌, ◌≤◌, ◌⊎◌, ℕ, true, false, List, [], ◌∷◌, ◌++◌, length, Option, Some, None}
use Rattle.ark_base.specs.Status.{code_of}
use Rattle.ark_base.specs.declared.status.Status.{Status}
use Rattle.ark_base.specs.declared.status.Status.TheVariants.{Done, Usage, Sink, Device, Memory, Long}
use Rattle.ark_media.specs.Journal.{Event, onto, output_of, device_events, HasFailed, AreReads}
use Rattle.ark_media.specs.Calls.{Opening, Told, Rose}
use Rattle.ark_media.specs.Parts.{parts}
use Rattle.ark_script.specs.Lines.{lines_of}
use Rattle.ark_script.specs.Text.{text}
use Rattle.ark_script.specs.declared.said.Said.TheVariants.{Ready}
use Rattle.ark_machine.specs.System.{System}
use Rattle.ark_work.specs.Generated.{generated}
use Rattle.ark_report.specs.Work.{work_blocks}
use Rattle.ark_cli.specs.Words.{IsRun, IsCheck, IsWork, AsksFor, AreNoCommand}
use Rattle.ark_cli.specs.Checking.{Shows, ReportEnds}
use Rattle.ark_cli.specs.Working.{work_start, SumsUp, WorkEnds}
use Rattle.ark_cli.specs.Line.{limit}
use Rattle.ark_cli.specs.Cut.{CutReplies, CutConfined}
use Rattle.ark_cli.specs.Opening.{Start, old_device, base_of, blocks_of, blocks_asked, asking, Starts, HeedsDamage}
use Rattle.ark_cli.specs.Running.{HasRun, RecoversAtFronts}
use Rattle.ark_cli.specs.Ending.{Does, Ends, Closes}
use Rattle.ark_record.specs.Replay.{Past, Model, model_of}
use Rattle.ark_record.specs.Watch.{told_of, told_by, beside_by}
use Rattle.ark_record.specs.Honest.{IsHonest}

-- No device was opened: these openings were asked for, the closing line alone came, and no byte of the script was taken.
pub record IsUnopened (asked : List Opening) (status : Status) (old now : Model) : Type 0 where
  pub closing : List Event
  pub closes : Closes status old.sink_faults now.sink_faults closing
  pub openings : now.openings ≡ old.openings ++ asked
  pub base : now.base ≡ old.base
  pub journal : now.journal ≡ onto closing old.journal
  pub taken : now.taken ≡ old.taken

-- Where a put failed, what stands behind the whole parts shows the first bytes of the line that was put: that of the device, or
-- the next reply.
abbrev pub CutEnds : Start → List ℕ → List (List Event) → List Event → Type 0
CutEnds start script [] rest =
    (s : System) × Starts start s
    × ((more : List ℕ)
    × (text (Ready (blocks_of start) (length s.plane.slots)) [] ≡ output_of rest ++ more))
CutEnds start script (opening ∷ whole) rest =
    (s : System) × Starts start s
    × CutReplies s (lines_of script) whole rest × CutConfined s (lines_of script) whole rest

-- how many whole parts there are by the status, and what stands behind them
abbrev pub EndsBy : Start → Told → Status → List ℕ → List (List Event) → List Event → Type 0
EndsBy start told Sink script whole rest = CutEnds start script whole rest
EndsBy start told status script whole rest = Ends start told status script whole rest

-- A device was made, or was there, and the script was run on it.
pub record IsRunOn (start : Start) (device : List ℕ) (status : Status) (old now : Model)
    : Type 0 where
  -- the bytes of the script that were taken, and the events of the run in order
  pub script : List ℕ
  pub events : List Event
  -- this device alone was asked for; it had this image, and since then these events came, and no others
  pub openings : now.openings ≡ old.openings ++ asking (blocks_asked start) device true ∷ []
  pub base : now.base ≡ base_of start
  pub journal : now.journal ≡ onto events []
  pub faults : HasFailed events → Rose old.disk_faults now.disk_faults
  pub taken : now.taken ≡ old.taken ++ script
  pub left : old.rest.script ≡ script ++ now.rest.script
  pub run : HasRun start (lines_of script) (parts events).whole (parts events).unfinished
  pub recovers : RecoversAtFronts start (lines_of script) events
  -- the unfinished part ends with the closing line
  pub rest : List Event
  pub closing : List Event
  pub unfinished : (parts events).unfinished ≡ rest ++ closing
  pub closes : Closes status old.sink_faults now.sink_faults closing
  pub ends : EndsBy start (told_of now) status script (parts events).whole rest
  pub heeds : HeedsDamage start (told_of now) status (device_events rest)
  pub at_end : status ≡ Done → now.rest.script ≡ []
  pub long : status ≡ Long → length script ≡ limit + 1
  pub short : (status ≡ Long → ⊥) → length script ≤ limit

-- A device that was there was read, and its report put.
pub record IsCheckedOn (device : List ℕ) (status : Status) (old now : Model) : Type 0 where
  -- the events of the command in order, and the closing line behind them
  pub events : List Event
  pub closing : List Event
  -- this device alone was asked for, and these events came on it, and no others
  pub openings : now.openings ≡ old.openings ++ asking None device true ∷ []
  pub journal : now.journal ≡ onto (events ++ closing) []
  pub faults : HasFailed (events ++ closing) → Rose old.disk_faults now.disk_faults
  pub taken : now.taken ≡ old.taken
  pub reads : AreReads (device_events events)
  pub shows : Shows now.base status (output_of events)
  pub ends : ReportEnds status events
  pub heeds : HeedsDamage (old_device now.base) (told_of now) status events
  pub closes : Closes status old.sink_faults now.sink_faults closing

-- A device was made, and the generated script run on it.
pub record IsWorkedOn (seed lines : ℕ) (device : List ℕ) (status : Status) (old now : Model)
    : Type 0 where
  -- the events of a run of this script, of which those of the device came; the line that was put, and the closing line
  pub run : List Event
  pub shown : List Event
  pub closing : List Event
  -- this device alone was asked for; it had zero blocks, and since then these events came, and no others
  pub openings : now.openings ≡ old.openings ++ asking (Some work_blocks) device true ∷ []
  pub base : now.base ≡ base_of work_start
  pub journal : now.journal ≡ onto (device_events run ++ (shown ++ closing)) []
  pub faults : HasFailed (device_events run ++ (shown ++ closing))
      → Rose old.disk_faults now.disk_faults
  pub taken : now.taken ≡ old.taken
  pub does : HasRun work_start (generated seed lines) (parts run).whole (parts run).unfinished
  pub recovers : RecoversAtFronts work_start (generated seed lines) run
  pub sums : SumsUp seed lines (parts run).whole
  pub ends : WorkEnds seed lines status (parts run).whole (parts run).unfinished shown
  pub closes : Closes status old.sink_faults now.sink_faults closing

-- From one model of the outside to another: the words were no command, memory was wanting before a device was asked for, the
-- device could not be made or attached, the script was run, the report put, or the generated script run.
pub data HasEnded (words : List (List ℕ)) (old now : Model) (status : Status) : Type 0 where
  no_command : status ≡ Usage → AreNoCommand words → IsUnopened [] status old now
      → HasEnded words old now status
  no_memory : status ≡ Memory → IsUnopened [] status old now → HasEnded words old now status
  no_device : (blocks : Option ℕ) (device : List ℕ) → status ≡ Device
      → AsksFor words blocks device
      → IsUnopened (asking blocks device false ∷ []) status old now
      → HasEnded words old now status
  ran : (start : Start) (device : List ℕ) → IsRun words (blocks_asked start) device
      → IsRunOn start device status old now → HasEnded words old now status
  checked : (device : List ℕ) → IsCheck words device → IsCheckedOn device status old now
      → HasEnded words old now status
  worked : (seed lines : ℕ) (device : List ℕ) → IsWork words seed lines device
      → IsWorkedOn seed lines device status old now → HasEnded words old now status

-- The whole script was run, on a device that was made, or was there.
pub record IsDone (words : List (List ℕ)) (old now : Model) : Type 0 where
  pub start : Start
  pub device : List ℕ
  pub command : IsRun words (blocks_asked start) device
  -- this device alone was asked for; it had this image, and since then these events came, and no others
  pub events : List Event
  pub openings : now.openings ≡ old.openings ++ asking (blocks_asked start) device true ∷ []
  pub base : now.base ≡ base_of start
  pub journal : now.journal ≡ onto events []
  -- they are the opening, and then one part for each line of the script, each of which answers as the machines do
  pub run : HasRun start (lines_of old.rest.script) (parts events).whole []
  pub replies : length (parts events).whole ≡ length (lines_of old.rest.script) + 1
  pub unfinished : (parts events).unfinished ≡ []
  pub left : now.rest.script ≡ []

-- The command came to its end: the whole script was run, the whole report put, or the whole generated script run.
abbrev pub IsFinished : List (List ℕ) → Model → Model → Type 0
IsFinished words old now =
    IsDone words old now
    ⊎ ((device : List ℕ) × IsCheck words device × IsCheckedOn device Done old now)
    ⊎ ((seed : ℕ) × (lines : ℕ) × (device : List ℕ) × IsWork words seed lines device
    × IsWorkedOn seed lines device Done old now)

-- The process ends with this status: that of a run for the words.
pub record Exits (words : List (List ℕ)) (was now : Past) (exit : ℕ) : Type 0 where
  pub status : Status
  pub code : exit ≡ code_of status
  pub does : Does words (told_by was) (told_by now) (beside_by was) (beside_by now) status
  pub ended : IsHonest now → HasEnded words (model_of was) (model_of now) status
  pub done : status ≡ Done → IsHonest now → IsFinished words (model_of was) (model_of now)
