-- What a stop of a run leaves of every grant.
use Rattle.std.specs.Prelude.{ℕ, List, [], ◌∷◌, length, slice_get, Option, None}
use Rattle.ark_media.specs.Journal.{Event, device_events}
use Rattle.ark_script.specs.Lines.{Meaning}
use Rattle.ark_machine.specs.Plane.{Change}
use Rattle.ark_machine.specs.System.{System}
use Rattle.ark_machine.specs.Replies.{system_after}
use Rattle.ark_machine.specs.Recovers.{Recovers, begun}

-- the change of the table that the line of the unfinished part began; where that part did nothing to the device there is none
abbrev pub begun_in : System → Option Meaning → List Event → Option Change
begun_in s m [] = None
begun_in s m (e ∷ es) = begun s m

-- An image that a stop leaves of a run, by the system at its start, what the script's first lines mean, the whole parts, and the
-- part that is not whole. The meanings are those of the lines of the whole parts and, where there is one more line, of that one,
-- whose part is not whole; meanings behind it say nothing.
pub record RunRecovers (s : System) (ms : List Meaning) (whole : List (List Event)) (unfinished : List Event) (image : List (List ℕ)) : Type 0 where
  pub recovers : Recovers (system_after s ms whole) (begun_in (system_after s ms whole) (slice_get ms (length whole)) (device_events unfinished)) (device_events unfinished) image
