-- Where a disk tells what its history is after some events.
use Rattle.std.specs.Prelude.{◌≡◌, List, Some}
use Rattle.ark_media.specs.Journal.{Event, History}
use Rattle.ark_media.specs.Calls.{Told}
use Rattle.ark_media.specs.Standing.{after}

-- the disk tells that after this history these events came
abbrev pub IsTold : Told → History → List Event → Type 0
IsTold told h es = told.history ≡ Some (after h es)
