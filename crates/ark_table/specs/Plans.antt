-- The device calls of a change of the table.
use Rattle.std.specs.Prelude.{ℕ, List, [], ◌∷◌, ◌++◌, Option, Some, None}
use Rattle.ark_media.specs.Journal.{zero_block}
use Rattle.ark_media.specs.Calls.{Call, Writes, Syncs}
use Rattle.ark_extents.specs.Blocks.{blocks_of}
use Rattle.ark_table.specs.Area.{Area, area_bytes}

-- the block of a slot: zeros where it is free, else the one spelling of its area
abbrev pub spelled : Option Area → List ℕ
spelled None = zero_block
spelled (Some a) = area_bytes a

-- zeros are written to each of these blocks, in their order
abbrev pub zero_calls : List ℕ → List Call
zero_calls [] = []
zero_calls (n ∷ added) = Writes n zero_block ∷ zero_calls added

-- slot i is written, and then synced
abbrev pub slot_calls : ℕ → Option Area → List Call
slot_calls i area = Writes i (spelled area) ∷ (Syncs ∷ [])

-- Slot i gets this area, to which these blocks are added: their zeros stand, whatever stop comes, before the slot names them.
abbrev pub grant_calls : ℕ → Area → List ℕ → List Call
grant_calls i a added = zero_calls added ++ (Syncs ∷ slot_calls i (Some a))

-- slot i gets its first area
abbrev pub create_calls : ℕ → Area → List Call
create_calls i a = grant_calls i a (blocks_of a.runs)

-- slot i gets free
abbrev pub remove_calls : ℕ → List Call
remove_calls i = slot_calls i None
