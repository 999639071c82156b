-- The grants of blocks that are held at one time: each is of data blocks of the device, and no block is in two of them.
use Rattle.std.specs.Prelude.{◌≡◌, ◌≤◌, ◌<◌, ℕ, Bool, true, false, List, [], ◌∷◌, ◌==◌, Contains}
use Rattle.std.specs.List.{AllByRecursion, list_any}
use Rattle.ark_extents.specs.Blocks.{AreDistinct}
use Rattle.ark_table.specs.Slots.{Slot}
use Rattle.ark_machine.specs.Plane.{Plane, is_granted, max_slots}

abbrev pub has_block : List ℕ → ℕ → Bool
has_block blocks n = list_any (λ b. b == n) blocks

abbrev pub has_index : List Slot → ℕ → Bool
has_index slots i = list_any (λ s. s.index == i) slots

-- On a device of so many blocks: the slot is one of the table, and its blocks are data blocks, none of them twice.
pub record SlotFits (size : ℕ) (s : Slot) : Type 0 where
  pub index_low : 1 ≤ s.index
  pub index_high : s.index ≤ max_slots
  pub data_part : (n : ℕ) → Contains s.blocks n → (129 ≤ n) × (n < size)
  pub distinct : AreDistinct s.blocks

abbrev pub SlotsFit : ℕ → List Slot → Type 0
SlotsFit size slots = AllByRecursion (λ s. SlotFits size s) slots

-- each slot has an index of its own, and its blocks are in no other
abbrev pub SlotsApart : List Slot → Type 0
SlotsApart [] = Unit {0}
SlotsApart (s ∷ ss) = ((has_index ss s.index ≡ false) × ((n : ℕ) → has_block s.blocks n ≡ true → is_granted ss n ≡ false)) × SlotsApart ss

-- the slots of a device of so many blocks, each by itself and each beside the others
pub record SlotsAgree (size : ℕ) (slots : List Slot) : Type 0 where
  pub fit : SlotsFit size slots
  pub apart : SlotsApart slots

abbrev pub GrantsApart : Plane → Type 0
GrantsApart p = SlotsAgree p.size p.slots
