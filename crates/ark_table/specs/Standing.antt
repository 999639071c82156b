-- When a table stands for its disk, also in whatever image a stop may leave; and what a change of one slot makes of that, at each
-- moment of its calls.
use Rattle.std.specs.Prelude.{◌≡◌, ◌<◌, ◌≤◌, ◌⊎◌, ℕ, ◌+◌, ◌-◌, List, [], ◌∷◌, ◌++◌, length, set, Contains, count_by, Bool, true, false, Option, Some, None}
use Rattle.ark_media.specs.Journal.{Event, Read, Write, Sync, Out, History, block, zero_block, current}
use Rattle.ark_media.specs.Calls.{Call}
use Rattle.ark_media.specs.Standing.{after, MayStand}
use Rattle.ark_extents.specs.Blocks.{blocks_of, runs_of}
use Rattle.ark_table.specs.Area.{Area, is_area}
use Rattle.ark_table.specs.Table.{Together, area_at, is_of, HasTable}
use Rattle.ark_table.specs.Plans.{spelled, grant_calls}

-- the areas of the slots 1 to 128
abbrev pub Table : Type 0
Table = List (Option Area)

-- the area of slot i, if it is in use
abbrev pub slot_in : Table → ℕ → Option Area
slot_in table i = area_at table (i - 1)

-- the table with this in slot i
abbrev pub with_slot : Table → ℕ → Option Area → Table
with_slot table i area = set table (i - 1) area

-- the area with more blocks behind its own
abbrev pub grown_area : Area → List ℕ → Area
grown_area a more = record { app = a.app; label = a.label; kind = a.kind; runs = runs_of (blocks_of a.runs ++ more) }

-- slot i, of this area, gets these blocks behind its own
abbrev pub grow_calls : ℕ → Area → List ℕ → List Call
grow_calls i a more = grant_calls i (grown_area a more) more

-- The current image has this table, and a stop leaves the superblock and each slot as they are now.
pub record IsTableOf (h : History) (table : Table) : Type 0 where
  pub has : HasTable table (current h.base h.journal)
  pub settled : (n : ℕ) (content : List ℕ) → n < 129 → MayStand h n content → content ≡ block (current h.base h.journal) n

-- a change of one slot: what stands in it afterwards, and the blocks that its area gets by it
pub record SlotChange : Type 0 where
  pub index : ℕ
  pub area : Option Area
  pub added : List ℕ

abbrev pub changed : SlotChange → Table → Table
changed c table = with_slot table c.index c.area

abbrev pub creates : ℕ → Area → SlotChange
creates i a = record { index = i; area = Some a; added = blocks_of a.runs }

-- slot i, of this area, grows by more blocks
abbrev pub grows : ℕ → Area → List ℕ → SlotChange
grows i a more = record { index = i; area = Some (grown_area a more); added = more }

abbrev pub removes : ℕ → SlotChange
removes i = record { index = i; area = None; added = [] }

abbrev pub AreZero : List ℕ → List (List ℕ) → Type 0
AreZero blocks image = (n : ℕ) → Contains blocks n → block image n ≡ zero_block

-- the image has the table as it was; or as it was to be, and then the added blocks are zero
abbrev pub IsEither : Table → SlotChange → List (List ℕ) → Type 0
IsEither table c image = HasTable table image ⊎ (HasTable (changed c table) image × AreZero c.added image)

-- The slot's block was written since the last sync, or may be: a stop leaves it as it was in some image that has the table, or as
-- the change wants it; all else of the table is as in that image, and the added blocks are zero.
pub record IsTried (h : History) (table : Table) (c : SlotChange) : Type 0 where
  pub low : 1 ≤ c.index
  pub high : c.index ≤ 128
  pub image : List (List ℕ)
  pub size : length image ≡ length h.base
  pub before : HasTable table image
  pub later : HasTable (changed c table) (set image c.index (spelled c.area))
  pub slot : (content : List ℕ) → MayStand h c.index content → (content ≡ block image c.index) ⊎ (content ≡ spelled c.area)
  pub others : (n : ℕ) (content : List ℕ) → n < 129 → (n ≡ c.index → ⊥) → MayStand h n content → content ≡ block image n
  pub zeros : (n : ℕ) (content : List ℕ) → Contains c.added n → MayStand h n content → content ≡ zero_block
  pub inside : (n : ℕ) → Contains c.added n → (129 ≤ n) × (n < length h.base)

-- the change came to nothing, or a stop decides
abbrev pub IsUnsettled : History → Table → SlotChange → Type 0
IsUnsettled h table c = IsTableOf h table ⊎ IsTried h table c

-- one of the events is a write to block n, whether it succeeded, took or not
abbrev pub IsWritten : ℕ → List Event → Type 0
IsWritten n [] = ⊥
IsWritten n (Write m content took ok ∷ es) = (m ≡ n) ⊎ IsWritten n es
IsWritten n (Read m ok ∷ es) = IsWritten n es
IsWritten n (Sync ok ∷ es) = IsWritten n es
IsWritten n (Out bytes ∷ es) = IsWritten n es

-- the events write no block of the table, and none of these
abbrev pub Spare : List ℕ → List Event → Type 0
Spare blocks es = (n : ℕ) → IsWritten n es → (129 ≤ n) × (Contains blocks n → ⊥)

-- A moment of a change, after these events of it: the table stands as it was, or the slot was written and a stop decides.
abbrev pub IsUnderWay : History → Table → SlotChange → List Event → Type 0
IsUnderWay h table c front = IsTableOf (after h front) table ⊎ (IsWritten c.index front × IsTried (after h front) table c)

-- How a change goes: at each moment it is under way, once it succeeded the changed table stands, and where it failed a stop decides.
pub record GoesThrough (h : History) (table : Table) (c : SlotChange) (ok : Bool) (es : List Event) : Type 0 where
  pub each : (front back : List Event) → es ≡ front ++ back → IsUnderWay h table c front
  pub done : ok ≡ true → IsTableOf (after h es) (changed c table)
  pub failed : ok ≡ false → IsUnsettled (after h es) table c

-- slot i is free, and may hold this area on a device of so many blocks
pub record CanCreate (size : ℕ) (table : Table) (i : ℕ) (a : Area) : Type 0 where
  pub low : 1 ≤ i
  pub high : i ≤ 128
  pub free : slot_in table i ≡ None
  pub right : is_area size a ≡ true
  pub together : (k : ℕ) (b : Area) → area_at table k ≡ Some b → Together a b
  pub few : count_by (is_of a.app) table + 1 ≤ 8

-- slot i has this area, and may hold it with more blocks
pub record CanGrow (size : ℕ) (table : Table) (i : ℕ) (a : Area) (more : List ℕ) : Type 0 where
  pub low : 1 ≤ i
  pub high : i ≤ 128
  pub used : slot_in table i ≡ Some a
  pub right : is_area size (grown_area a more) ≡ true
  pub together : (k : ℕ) (b : Area) → (k ≡ i - 1 → ⊥) → area_at table k ≡ Some b → Together (grown_area a more) b
