-- What the slots of the code say.
use Rattle.std.specs.Prelude.{List, map, Option, Some, None}
use Rattle.ark_extents.specs.Blocks.{runs_of}
use Rattle.ark_table.specs.declared.slot.Slot.{Slot}
use Rattle.ark_table.specs.Area.{Area}

-- the area that a slot states
abbrev pub stated : Slot → Area
stated s = record { app = s.app; label = s.label; kind = s.kind; runs = runs_of s.spans }

abbrev pub stated_if : Option Slot → Option Area
stated_if None = None
stated_if (Some s) = Some (stated s)

-- the areas of slots, in their order
abbrev pub areas : List (Option Slot) → List (Option Area)
areas slots = map stated_if slots
