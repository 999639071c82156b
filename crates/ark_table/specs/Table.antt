-- The table of an image's slots, as a relation: the area of each of the 128 slots. Place i of the table is slot
-- i + 1.
use Rattle.std.specs.Prelude.{◌≡◌, ◌<◌, ◌≤◌, ℕ, ◌+◌, List, [], ◌∷◌, length, get_or, count_by, Bool, true, false, bytes_eq, Option, Some, None}
use Rattle.ark_media.specs.Journal.{block}
use Rattle.ark_extents.specs.Blocks.{blocks_of, ShareNoBlock}
use Rattle.ark_table.specs.Area.{Area, area_bytes, is_area, is_free}
use Rattle.ark_table.specs.Slots.{Slot, HeldSlot, slot_at, is_device}

-- the block is that of a free slot, or the spelling of an area that keeps the rules by itself
abbrev pub IsSlotBlock : ℕ → List ℕ → Option Area → Type 0
IsSlotBlock size content None = is_free content ≡ true
IsSlotBlock size content (Some a) = (is_area size a ≡ true) × (content ≡ area_bytes a)

-- two areas share no block, and differ in application or label
pub record Together (a b : Area) : Type 0 where
  pub apart : ShareNoBlock (blocks_of a.runs) (blocks_of b.runs)
  pub differ : a.app ≡ b.app → a.label ≡ b.label → ⊥

abbrev pub area_at : List (Option Area) → ℕ → Option Area
area_at table i = get_or table i None

abbrev pub is_of : List ℕ → Option Area → Bool
is_of app None = false
is_of app (Some a) = bytes_eq app a.app

-- an image's slots have these areas, and keep all rules
pub record HasTable (table : List (Option Area)) (image : List (List ℕ)) : Type 0 where
  pub device : is_device image ≡ true
  pub size : length table ≡ 128
  pub says : (i : ℕ) → i < 128 → IsSlotBlock (length image) (block image (i + 1)) (area_at table i)
  pub together : (i k : ℕ) (a b : Area) → (i ≡ k → ⊥) → area_at table i ≡ Some a → area_at table k ≡ Some b → Together a b
  pub few : (app : List ℕ) → count_by (is_of app) table ≤ 8

-- the areas in use of a table whose first slot has this index, with their slots' indices
abbrev pub held_in : ℕ → List (Option Area) → List HeldSlot
held_in i [] = []
held_in i (None ∷ table) = held_in (i + 1) table
held_in i (Some a ∷ table) = record { index = i; area = a } ∷ held_in (i + 1) table

-- the slots in use of a table whose first slot has this index
abbrev pub slots_in : ℕ → List (Option Area) → List Slot
slots_in i [] = []
slots_in i (None ∷ table) = slots_in (i + 1) table
slots_in i (Some a ∷ table) = slot_at i a ∷ slots_in (i + 1) table

-- these are the slots in use of an image that keeps all rules
abbrev pub HasSlots : List (List ℕ) → List Slot → Type 0
HasSlots image slots = (table : List (Option Area)) × HasTable table image × (slots ≡ slots_in 1 table)
