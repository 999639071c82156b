-- What the command `work` does.
use Rattle.std.specs.Prelude.{◌≡◌, ℕ, ◌+◌, List, [], ◌∷◌, ◌++◌, length, map, drop, Some}
use Rattle.ark_work.specs.Generated.{generated}
use Rattle.ark_work.specs.Tallied.{summary}
use Rattle.ark_machine.specs.Built.{turn}
use Rattle.ark_report.specs.Work.{work_blocks, Summary}
use Rattle.ark_base.specs.declared.status.Status.{Status}
use Rattle.ark_base.specs.declared.status.Status.TheVariants.{Done, Sink, Device}
use Rattle.ark_media.specs.Journal.{Event, Out, History, output_of, device_events, HasFailed}
use Rattle.ark_media.specs.Calls.{Told, Beside}
use Rattle.ark_media.specs.Parts.{parts}
use Rattle.ark_cli.specs.Opening.{Start, new_device, Since}
use Rattle.ark_cli.specs.Running.{HasRun, RecoversAtFronts}

-- what the device is before the script
abbrev pub work_start : Start
work_start = new_device work_blocks

-- Each line of the script has its part behind the opening's, nothing is unfinished, and this line with its newline tells how
-- the replies in these parts began.
pub record TellsOf (seed lines : ℕ) (whole : List (List Event)) (unfinished : List Event)
    (line : List ℕ) : Type 0 where
  pub count : length whole ≡ length (generated seed lines) + 1
  pub none : unfinished ≡ []
  pub counts : line ≡ summary lines (map output_of (drop 1 whole)) ++ 10 ∷ []

-- The words that count the replies in these parts are the summary, by the lines of the prelude that found no memory and the
-- device events of each line.
abbrev pub SumsUp : ℕ → ℕ → List (List Event) → Type 0
SumsUp seed lines [] = Unit {0}
SumsUp seed lines (opening ∷ whole) =
    (full : List ℕ)
    × Summary turn seed lines full (map device_events whole) (summary lines (map output_of whole))

-- How it ends, by the status: the whole script was run and the line that tells of it put, of which the first bytes came out
-- where that failed; or a call failed before the device was formatted, and nothing came.
abbrev pub WorkEnds : ℕ → ℕ → Status → List (List Event) → List Event → List Event → Type 0
WorkEnds seed lines Done whole unfinished shown =
    (line : List ℕ) × TellsOf seed lines whole unfinished line × (shown ≡ Out line ∷ [])
WorkEnds seed lines Sink whole unfinished shown =
    (part : List ℕ) × (more : List ℕ) × TellsOf seed lines whole unfinished (part ++ more)
    × (shown ≡ Out part ∷ [])
WorkEnds seed lines Device whole unfinished shown =
    (whole ≡ []) × HasFailed (device_events unfinished) × (shown ≡ [])
WorkEnds seed lines _ whole unfinished shown = ⊥

-- A device was made and the generated script run on it. What was done to the device is what a run of this script does, with
-- these events; of what that run puts out nothing came. Behind it came `shown`, and last `closing`.
pub record IsWorked (seed lines : ℕ) (device : List ℕ) (closing : List Event) (told0 told1 : Told)
    (beside0 beside1 : Beside) (status : Status) : Type 0 where
  pub run : List Event
  pub shown : List Event
  pub since : Since work_start device (device_events run ++ (shown ++ closing)) []
      told0 told1 beside0 beside1
  pub does : (h : History) → told1.history ≡ Some h
      → HasRun work_start (generated seed lines) (parts run).whole (parts run).unfinished
  pub recovers : (h : History) → told1.history ≡ Some h
      → RecoversAtFronts work_start (generated seed lines) run
  pub sums : (h : History) → told1.history ≡ Some h → SumsUp seed lines (parts run).whole
  pub ends : WorkEnds seed lines status (parts run).whole (parts run).unfinished shown
