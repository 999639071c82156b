-- What an application that was not made in this run has: the areas that the table says are its own.
use Rattle.std.specs.Prelude.{◌≡◌, ℕ, ◌+◌, ◌<◌, ◌≤◌, List, [], ◌∷◌, length, map, None, Contains}
use Rattle.ark_base.specs.declared.kind.Kind.TheVariants as kind
use Rattle.ark_media.specs.Journal.{History}
use Rattle.ark_table.specs.Slots.{Slot}
use Rattle.ark_table.specs.Table.{slots_in}
use Rattle.ark_caladan.specs.Chain.{Log}
use Rattle.ark_machine.specs.Objects
use Rattle.ark_machine.specs.Objects.{Object}
use Rattle.ark_machine.specs.Machine.{Machine, Held}
use Rattle.ark_machine.specs.Told.{own_slots}
use Rattle.ark_held.specs.Words.{Labels, AreaList, area_in, new_area_cap}
use Rattle.ark_held.specs.Areas.{IsRaw, IsListed, AreFullIf}
use Rattle.ark_plane.specs.Tables.{table_of}

-- the slots of an application, in the order of the table
abbrev pub stored_slots : List ℕ → List Slot → List Slot
stored_slots a slots = own_slots a (slots_in 1 (table_of slots))

-- a log or queue of this slot that is not open
pub record IsClosedLog (h : History) (t : Slot) (g : Log) : Type 0 where
  pub same_kind : t.kind ≡ g.kind
  pub no_raw : g.kind ≡ kind.Raw → ⊥
  pub blocks : g.blocks ≡ length t.blocks
  -- its header, and a ring
  pub two : 2 ≤ length t.blocks
  pub closed : g.opened ≡ None
  pub listed : IsListed h t.blocks g
  pub full : AreFullIf h t.blocks

-- the object is the area of this slot
abbrev pub IsStoredArea : History → Slot → Object → Type 0
IsStoredArea h t (Objects.raw r) = (t.kind ≡ kind.Raw) × IsRaw h t.blocks r
IsStoredArea h t (Objects.log g) = IsClosedLog h t g
IsStoredArea h t _ = ⊥

-- the n-th object is the area of this slot, under its label
pub record IsStoredAt (h : History) (n : ℕ) (t : Slot) (x : Held) : Type 0 where
  pub label : x.label ≡ t.label
  pub serial : x.serial ≡ n
  pub object : IsStoredArea h t x.object

-- one for one, from the n-th on
abbrev pub AllStored : History → ℕ → List Slot → List Held → Type 0
AllStored h n [] [] = Unit {0}
AllStored h n (t ∷ ts) (x ∷ xs) = IsStoredAt h n t x × AllStored h (n + 1) ts xs
AllStored h n _ _ = ⊥

-- The machine holds the areas of these slots and nothing else. The grant of a stored area is its slot's index, which is below
-- the number of the next grant.
pub record HoldsStored (grants : ℕ) (h : History) (ts : List Slot) (m : Machine) : Type 0 where
  pub serial : m.serial ≡ length ts
  pub stored : AllStored h 0 ts m.held
  pub below : (t : Slot) → Contains ts t → t.index < grants

-- What an application keeps of them once it is made.

abbrev pub stored_labels : List Slot → Labels
stored_labels ts = map (λ t. (t.label, new_area_cap t.index)) ts

abbrev pub stored_areas : List Slot → AreaList
stored_areas ts = map (λ t. (t.index, area_in t)) ts

abbrev pub stored_numbers : List Slot → List ℕ
stored_numbers ts = map (λ t. t.index) ts
