-- The run of a script in parts, and what a stop may leave of it.
use Rattle.std.specs.Prelude.{◌≡◌, ℕ, List, [], ◌∷◌, ◌++◌, None}
use Rattle.ark_media.specs.Journal.{Event, onto, device_events}
use Rattle.ark_media.specs.Parts.{parts}
use Rattle.ark_media.specs.Stops.{MayLeave, Whole}
use Rattle.ark_script.specs.Lines.{Meaning, FirstSay}
use Rattle.ark_machine.specs.System.{System}
use Rattle.ark_machine.specs.Replies.{Replies}
use Rattle.ark_machine.specs.Confined.{Confined}
use Rattle.ark_machine.specs.Fronts.{AtFront, RunAtFront}
use Rattle.ark_cli.specs.Opening.{Start, new_device, old_device, base_of, Starts, BeginsOpening, IsOpening}

-- The parts of a run's events: the opening, and then one for each line of the script, from the system of the device on, each of
-- which answers as the machines do and touches no more than its line may.
abbrev pub HasRun : Start → List (List ℕ) → List (List Event) → List Event → Type 0
HasRun start lines [] unfinished = BeginsOpening start (device_events unfinished)
HasRun start lines (opening ∷ whole) unfinished =
    (s : System) × Starts start s × IsOpening start s opening
    × Replies s lines whole unfinished × Confined s lines whole unfinished

-- Where the run stops before the device's line came: of a device that was there, what is left recovers.
abbrev pub StopsEarly : Start → List Event → List (List ℕ) → Type 0
StopsEarly (new_device size) unfinished image = Unit {0}
StopsEarly (old_device old) unfinished image =
    (s : System) → Starts (old_device old) s → AtFront s None unfinished image

-- by the parts of a front of the run's events: this may be left where the run stops
abbrev pub StopsAt : Start → List Meaning → List (List Event) → List Event → List (List ℕ) → Type 0
StopsAt start meanings [] unfinished image = StopsEarly start unfinished image
StopsAt start meanings (opening ∷ whole) unfinished image =
    (s : System) → Starts start s → RunAtFront s meanings whole unfinished image

-- At each front of the events of a run, whatever a stop leaves of the device recovers. The meanings are those of the first lines.
pub record RecoversAtFronts (start : Start) (lines : List (List ℕ)) (events : List Event)
    : Type 0 where
  pub meanings : List Meaning
  pub say : FirstSay lines meanings
  pub each : (front back : List Event) (image : List (List ℕ)) → events ≡ front ++ back
      → MayLeave Whole (base_of start) (onto front []) image
      → StopsAt start meanings (parts front).whole (parts front).unfinished image
