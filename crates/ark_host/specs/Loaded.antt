-- What a host is that is loaded from a device that was there.
use Rattle.std.specs.Prelude.{◌≡◌, ℕ, List, [], length, Ok, Some}
use Rattle.ark_media.specs.Journal.{Event, History, AreReads}
use Rattle.ark_media.specs.Calls.{Told}
use Rattle.ark_media.specs.Standing.{after}
use Rattle.ark_table.specs.Slots.{Slot, slots_of}
use Rattle.ark_table.specs.Table.{slots_in}
use Rattle.ark_machine.specs.Start.{start_system}
use Rattle.ark_host.specs.declared.host.Host.{Host}
use Rattle.ark_host.specs.Stands.{Stands}

-- a device as it was found
abbrev pub as_found : List (List ℕ) → History
as_found image = record { base = image; journal = [] }

-- With a device that was found with this image, of which only reads were made since, the host stands for the system of its slots.
pub record StandsLoaded (host : Host) (size : ℕ) (image : List (List ℕ)) (es : List Event) : Type 0 where
  pub slots : List Slot
  pub found : slots_of image ≡ Ok slots
  pub count : length (slots_in 1 host.plane.table) ≡ length slots
  pub stands : Stands host size (after (as_found image) es) (start_system image slots)

abbrev pub IsLoaded : Told → Host → Type 0
IsLoaded told host = (image : List (List ℕ)) (es : List Event) → told.history ≡ Some (after (as_found image) es) → AreReads es → StandsLoaded host told.blocks image es
