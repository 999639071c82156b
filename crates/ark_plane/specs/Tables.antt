-- The table that slots stand in, one of them with more blocks, and how many are one application's.
use Rattle.std.specs.Prelude.{ℕ, ◌+◌, if◌then◌else◌, ◌==◌, List, [], ◌∷◌, map, replicate, Some, None, bytes_eq}
use Rattle.ark_table.specs.Slots.{Slot, area_of}
use Rattle.ark_table.specs.Standing.{Table, with_slot}
use Rattle.ark_machine.specs.Granting.{with_more}
use Rattle.ark_held.specs.Totals.{bit}

-- each slot at its index
abbrev pub table_of : List Slot → Table
table_of [] = replicate 128 None
table_of (t ∷ slots) = with_slot (table_of slots) t.index (Some (area_of t))

-- The slots with more blocks in one of them.
abbrev pub with_longer : Slot → List ℕ → List Slot → List Slot
with_longer t more slots = map (λ u. if u.index == t.index then with_more u more else u) slots

-- how many of the slots are this application's
abbrev pub slot_count : List ℕ → List Slot → ℕ
slot_count a [] = 0
slot_count a (t ∷ slots) = bit (bytes_eq a t.app) + slot_count a slots
