-- How a run starts on a device: from the slots of its image.
use Rattle.std.specs.Prelude.{ℕ, false, List, [], ◌∷◌, length, map, None, if◌then◌else◌, bytes_eq}
use Rattle.ark_base.specs.declared.kind.Kind.{Kind}
use Rattle.ark_base.specs.declared.kind.Kind.TheVariants as kind
use Rattle.ark_table.specs.Slots.{Slot}
use Rattle.ark_entry.specs.Found.{found_of}
pub use Rattle.ark_caladan.specs.Views.{contents_at}
use Rattle.ark_machine.specs.Objects
use Rattle.ark_machine.specs.Objects.{Object}
use Rattle.ark_machine.specs.Machine.{Machine, unmade, with_new}
use Rattle.ark_machine.specs.System.{System}

-- what an area of this kind holds: its blocks, or the list of a log or queue that is found in them
abbrev pub stored_area : Kind → List (List ℕ) → Object
stored_area kind.Raw blocks = Objects.raw (record { content = blocks; maybe = map (λ b. b ∷ []) blocks })
stored_area k blocks = Objects.log (record { kind = k; blocks = length blocks; list = found_of k blocks; opened = None; left = None })

abbrev pub with_slot : List (List ℕ) → Machine → Slot → Machine
with_slot image m t = with_new m t.label (stored_area t.kind (contents_at image t.blocks))

-- the machines with the area of a slot
abbrev pub with_stored : List (List ℕ) → List (List ℕ × Machine) → Slot → List (List ℕ × Machine)
with_stored image [] t = (t.app, with_slot image unmade t) ∷ []
with_stored image (p ∷ ps) t = if bytes_eq t.app p.0 then (p.0, with_slot image p.1 t) ∷ ps else p ∷ with_stored image ps t

abbrev pub all_stored : List (List ℕ) → List (List ℕ × Machine) → List Slot → List (List ℕ × Machine)
all_stored image ms [] = ms
all_stored image ms (t ∷ ts) = all_stored image (with_stored image ms t) ts

-- The system at the beginning of a run on an image with these slots: no application is made, and each holds the areas that
-- are stored for it.
abbrev pub start_system : List (List ℕ) → List Slot → System
start_system image slots = record {
  plane = record { size = length image; own = None; apps = []; slots = slots; filters = []; failed = false; unsettled = None };
  now = 0;
  machines = all_stored image [] slots;
}
