-- What a plane is made of that is loaded from a device that was there.
use Rattle.std.specs.Prelude.{◌≡◌, ◌≤◌, ◌<◌, ◌↔◌, ℕ, List, length, Option, Result, Some, None, OnOk, Contains}
use Rattle.ark_media.specs.Journal.{Event}
use Rattle.ark_media.specs.Calls.{Went}
use Rattle.ark_extents.specs.Blocks.{blocks_of, runs_of, AreAmong, AreDistinct}
use Rattle.ark_extents.specs.Free.{free_at_first, Loses}
use Rattle.ark_table.specs.declared.fault.LoadFault.{LoadFault}
use Rattle.ark_table.specs.declared.fault.LoadFault.TheVariants as fault
use Rattle.ark_table.specs.Area.{Area}
use Rattle.ark_table.specs.Table.{area_at, slots_in}
use Rattle.ark_table.specs.Loading.{read_calls, is_read}
use Rattle.ark_table.specs.Standing.{Table}
use Rattle.ark_machine.specs.Plane.{max_runs}
use Rattle.ark_machine.specs.Grants.{SlotsAgree}

-- no area of the table has the block
abbrev pub IsOutside : Table → ℕ → Type 0
IsOutside table n = (k : ℕ) (a : Area) → area_at table k ≡ Some a → Contains (blocks_of a.runs) n → ⊥

-- these are the data blocks that no area of the table has
abbrev pub IsUnused : ℕ → Table → List ℕ → Type 0
IsUnused size table free = (n : ℕ) → Contains free n ↔ (Contains (free_at_first size) n × IsOutside table n)

-- the blocks of a slot that is in use were free, and are so no more; nothing else changed
abbrev pub TakesEntry : Option Area → List ℕ → List ℕ → Type 0
TakesEntry None old new = new ≡ old
TakesEntry (Some a) old new = AreAmong (blocks_of a.runs) old × Loses old new (blocks_of a.runs)

-- an area as its blocks spell it: by their longest runs, which are few, and no block is in it twice
pub record IsSpelled (a : Area) : Type 0 where
  pub longest : runs_of (blocks_of a.runs) ≡ a.runs
  pub few : length a.runs ≤ max_runs
  pub distinct : AreDistinct (blocks_of a.runs)

abbrev pub SpellsEntry : Option Area → Type 0
SpellsEntry None = Unit {0}
SpellsEntry (Some a) = IsSpelled a

-- the areas of the table are of data blocks of a device of so many blocks, and no block is in two of them
pub record AreApartOn (size : ℕ) (table : Table) : Type 0 where
  pub spelled : (k : ℕ) (a : Area) → area_at table k ≡ Some a → IsSpelled a
  pub data_part : (k : ℕ) (a : Area) → area_at table k ≡ Some a → (n : ℕ) → Contains (blocks_of a.runs) n → (129 ≤ n) × (n < size)
  pub apart : (i k : ℕ) (a b : Area) → i < k → area_at table i ≡ Some a → area_at table k ≡ Some b → (n : ℕ) → Contains (blocks_of a.runs) n → Contains (blocks_of b.runs) n → ⊥

-- the slot is in use, and not all of its blocks are free
abbrev pub HasLost : Option Area → List ℕ → Type 0
HasLost None free = ⊥
HasLost (Some a) free = AreAmong (blocks_of a.runs) free → ⊥

-- why the blocks of slot i were not taken from the free ones
abbrev pub FailsEntry : ℕ → Option Area → List ℕ → LoadFault → Type 0
FailsEntry i slot free (fault.Damaged bad) = (bad ≡ i) × HasLost slot free
FailsEntry i slot free fault.Memory = Unit {0}
FailsEntry i slot free fault.DeviceFault = ⊥

-- why a table can't be that of a device of so many blocks
abbrev pub IsMisfit : ℕ → Table → LoadFault → Type 0
IsMisfit size table (fault.Damaged bad) = SlotsAgree size (slots_in 1 table) → ⊥
IsMisfit size table fault.Memory = Unit {0}
IsMisfit size table fault.DeviceFault = ⊥

-- Blocks from 0 on were read, up to the first read that failed, and all of the table's where it was loaded; nothing else was called.
pub record ReadsTable {D T : Type 0} (goes : D → List Event → D → Type 0) (result : Result T LoadFault) (old new : D) : Type 0 where
  pub count : ℕ
  pub few : count ≤ 129
  pub went : Went goes (read_calls count) (is_read result) old new
  pub all : OnOk result (count ≡ 129)
