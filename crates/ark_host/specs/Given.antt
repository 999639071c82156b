-- How an application that is made gets the areas that are stored for it.
use Rattle.std.specs.Prelude.{◌≡◌, ℕ, ◌<◌, ◌≤◌, true, false, List, [], ◌∷◌, ◌++◌, length, None, bytes_eq, All}
use Rattle.ark_extents.specs.Blocks.{blocks_of}
use Rattle.ark_table.specs.Area.{Area}
use Rattle.ark_table.specs.Slots.{Slot, slot_at}
use Rattle.ark_table.specs.Table.{slots_in}
use Rattle.ark_table.specs.Standing.{Table}
use Rattle.ark_machine.specs.Told.{own_slots}
use Rattle.ark_held.specs.Inside.{AreasInside}
use Rattle.ark_held.specs.Words.{area_in, no_room, with_area}
use Rattle.ark_held.proofs.Members.{In}
use Rattle.ark_held.specs.declared.app.App.{App}
use Rattle.ark_host.specs.Stored.{stored_labels, stored_areas}

-- no two slots have one index or one label
abbrev pub AreApart : List Slot → Type 0
AreApart [] = Unit {0}
AreApart (t ∷ ts) = ((u : Slot) → In ts u → (u.index ≡ t.index → ⊥) × (u.label ≡ t.label → ⊥)) × AreApart ts

-- The area of slot i was given to an application: under its label, if it is the application's own and finds room there.
pub record GivesSlot (i : ℕ) (area : Area) (old new : App) : Type 0 where
  pub name : new.name ≡ old.name
  pub region : new.store.region ≡ old.store.region
  pub own : bytes_eq old.name area.app ≡ true → no_room old.labels old.areas area.label ≡ None →
      (new.labels ≡ old.labels ++ stored_labels (slot_at i area ∷ [])) × (new.areas ≡ with_area old.areas i (area_in (slot_at i area)))
  pub other : bytes_eq old.name area.app ≡ false → (new.labels ≡ old.labels) × (new.areas ≡ old.areas)
  pub inside : (size : ℕ) → All (λ n. n < size) (blocks_of area.runs) → AreasInside size old.areas → AreasInside size new.areas

-- an application of this name has the areas of its own slots of the table and nothing else, where no more than 8 are its own, apart
abbrev pub HasGiven : List ℕ → Table → App → Type 0
HasGiven name table app = AreApart (own_slots name (slots_in 1 table)) → length (own_slots name (slots_in 1 table)) ≤ 8 →
    (app.labels ≡ stored_labels (own_slots name (slots_in 1 table))) × (app.areas ≡ stored_areas (own_slots name (slots_in 1 table)))
