-- How a table is read from its device.
use Rattle.std.specs.Prelude.{◌≡◌, ◌≤◌, ℕ, zero, suc, ◌+◌, List, [], ◌∷◌, ◌++◌, All, Bool, true, false, not, ◌&&◌, Result, Ok, Err, Option, Some, None, OnOk}
use Rattle.ark_media.specs.Journal.{Event, block}
use Rattle.ark_media.specs.Calls.{Call, Reads, Told, Went, OnTold}
use Rattle.ark_table.specs.declared.fault.LoadFault.{LoadFault}
use Rattle.ark_table.specs.declared.fault.LoadFault.TheVariants.{DeviceFault, Damaged, Memory}
use Rattle.ark_table.specs.declared.slot.Slot.{Slot}
use Rattle.ark_table.specs.declared.reading.Content.{Content}
use Rattle.ark_table.specs.declared.reading.Content.TheVariants.{Free, Used, Broken}
use Rattle.ark_table.specs.Area.{Area, area_in, is_area, is_free, is_used}
use Rattle.ark_table.specs.Slots.{goes_with, share_no_block, is_same, slots_of}
use Rattle.ark_table.specs.Table.{IsSlotBlock, held_in}
use Rattle.ark_table.specs.Stated.{stated, stated_if, areas}

-- where a block is told to be damaged, it is the first one of the current image
abbrev pub IsFirstDamaged : {T : Type 0} → Told → Result T LoadFault → Type 0
IsFirstDamaged told result = (bad : ℕ) → result ≡ Err (Damaged bad) → OnTold told (λ image. slots_of image ≡ Err bad)

-- the blocks below n, in rising order
abbrev pub read_calls : ℕ → List Call
read_calls zero = []
read_calls (suc n) = read_calls n ++ Reads n ∷ []

-- whether no read failed
abbrev pub is_read : {T : Type 0} → Result T LoadFault → Bool
is_read (Ok table) = true
is_read (Err DeviceFault) = false
is_read (Err (Damaged bad)) = true
is_read (Err Memory) = true

-- So many blocks were read in turn, up to the first read that failed: all of the table where it was read, and none behind a
-- damaged one.
pub record HasRead {D T : Type 0} (goes : D → List Event → D → Type 0) (result : Result T LoadFault) (old new : D) : Type 0 where
  pub count : ℕ
  pub few : count ≤ 129
  pub went : Went goes (read_calls count) (is_read result) old new
  pub all : OnOk result (count ≡ 129)
  pub stops : (bad : ℕ) → result ≡ Err (Damaged bad) → count ≤ bad + 1

-- a slot is free, or keeps the rules by itself on a device of so many blocks
abbrev pub IsRightIf : ℕ → Option Area → Type 0
IsRightIf size None = Unit {0}
IsRightIf size (Some a) = is_area size a ≡ true

-- so does each slot of a table
abbrev pub AreRight : ℕ → List (Option Area) → Type 0
AreRight size table = All (IsRightIf size) table

-- what a block says of its slot is right
abbrev pub SaysRight : ℕ → Content → Type 0
SaysRight size Free = Unit {0}
SaysRight size (Used slot) = is_area size (stated slot) ≡ true
SaysRight size Broken = Unit {0}

-- the area may stand beside this slot
abbrev pub goes_beside : Area → Option Area → Bool
goes_beside a None = true
goes_beside a (Some b) = share_no_block a.runs b.runs && not (is_same a b)

-- a block says this of the slot behind these, on a device of so many blocks
abbrev pub Follows : ℕ → List (Option Area) → List ℕ → Option Area → Type 0
Follows size before block None = is_free block ≡ true
Follows size before block (Some a) = IsSlotBlock size block (Some a) × (goes_with (held_in 1 before) a ≡ true)

-- a block breaks a rule by itself, or against these
abbrev pub IsBad : ℕ → List (Option Area) → List ℕ → Type 0
IsBad size before block = (is_free block ≡ false) × (is_used size block ≡ true → goes_with (held_in 1 before) (area_in block) ≡ false)

-- a block was read as that of the slot behind these
abbrev pub IsNext : ℕ → List (Option Area) → List ℕ → Content → Type 0
IsNext size before block Free = Follows size before block None
IsNext size before block (Used slot) = Follows size before block (Some (stated slot))
IsNext size before block Broken = IsBad size before block

-- block i was read, and what it says of its slot was put behind these slots
abbrev pub IsMore : Told → ℕ → ℕ → List (Option Slot) → List (Option Slot) → Type 0
IsMore told size i old new =
    (x : Option Slot) × (new ≡ old ++ x ∷ []) × IsRightIf size (stated_if x) × OnTold told (λ image. Follows size (areas old) (block image i) (stated_if x))

-- where a block is told to be damaged, it is block i, which is bad behind these slots
abbrev pub IsDamagedAt : {T : Type 0} → Told → ℕ → ℕ → List (Option Slot) → Result T LoadFault → Type 0
IsDamagedAt told size i slots result =
    (bad : ℕ) → result ≡ Err (Damaged bad) → (bad ≡ i) × OnTold told (λ image. IsBad size (areas slots) (block image i))
