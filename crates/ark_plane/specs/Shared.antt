-- How the blocks of a device are shared among the slots of its table and what is free.
use Rattle.std.specs.Prelude.{◌≡◌, ℕ, ◌<◌, ◌≤◌, Bool, false, List, length, Option, Some, None, All, Contains}
use Rattle.ark_extents.specs.Blocks.{blocks_of, runs_of}
use Rattle.ark_table.specs.Area.{Area}
use Rattle.ark_table.specs.Table.{area_at}
use Rattle.ark_table.specs.Slots.{Slot}
use Rattle.ark_table.specs.Standing.{Table}
use Rattle.ark_machine.specs.Plane.{Plane, empty_plane, free_blocks, max_runs}
use Rattle.ark_machine.specs.Grants.{GrantsApart}
use Rattle.ark_plane.specs.Tables.{table_of}

-- a device of so many blocks with these slots
abbrev pub slots_on : ℕ → List Slot → Plane
slots_on size slots = record (empty_plane size) { slots = slots }

-- The table is that of slots with no block in two of them, each of few runs. Until a change of the table failed, the free blocks
-- are all others.
pub record IsShared (size : ℕ) (entries : Table) (left : List ℕ) (has_failed : Bool) : Type 0 where
  pub slots : List Slot
  pub table : entries ≡ table_of slots
  pub apart : GrantsApart (slots_on size slots)
  pub few : (t : Slot) → Contains slots t → length (runs_of t.blocks) ≤ max_runs
  pub free : has_failed ≡ false → free_blocks (slots_on size slots) ≡ left

-- a device of so many blocks has each block of the table's areas
abbrev pub TableInside : ℕ → Table → Type 0
TableInside size table = (k : ℕ) (a : Area) → area_at table k ≡ Some a → All (λ n. n < size) (blocks_of a.runs)

-- the slot is in use, with these blocks
abbrev pub HasBlocks : Option Area → List ℕ → Type 0
HasBlocks None blocks = ⊥
HasBlocks (Some a) blocks = a.runs ≡ runs_of blocks
