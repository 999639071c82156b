-- The blocks that no slot of a table has, slot by slot.
use Rattle.std.proofs.Common.{◌≡◌, ◌⊎◌, inl, inr, ℕ, zero, suc, ◌+◌, ◌-◌, ◌<◌, ◌≤◌, List, [], ◌∷◌, length, take, refl, sym, ◌∙◌, ap, subst, arith, Contains}
use Rattle.std.specs.Prelude.{Option, Some, None, Result, Ok, Err, IfErr}
use Rattle.std.proofs.lemmas.Bool.{cases_lt}
use Rattle.ark_extents.specs.Blocks.{blocks_of, runs_of, AreAmong, AreDistinct}
use Rattle.ark_extents.specs.Free.{free_at_first, Loses}
use Rattle.ark_extents.proofs.RunLemmas.{blocks_of-runs_of}
use Rattle.ark_extents.proofs.Holding.{range_contains}
use Rattle.ark_table.specs.Area.{Area}
use Rattle.ark_table.specs.Slots.{Slot, slot_at}
use Rattle.ark_table.specs.declared.fault.LoadFault.{LoadFault}
use Rattle.ark_table.specs.declared.fault.LoadFault.TheVariants as fault
use Rattle.ark_table.specs.declared.slot.Slot.{Slot as Coded}
use Rattle.ark_table.specs.Stated.{stated}
use Rattle.ark_table.specs.Table.{HasTable, area_at, slots_in}
use Rattle.ark_table.specs.Standing.{Table, slot_in}
use Rattle.ark_table.proofs.Tables.{table_is_read}
use Rattle.ark_table.proofs.Front.{same_fault}
use Rattle.ark_laws.proofs.Stored.{stored_apart}
use Rattle.ark_machine.specs.Grants.{SlotsAgree}
use Rattle.ark_held.proofs.Members.{in_contains}
use Rattle.ark_plane.specs.Loading.{IsOutside, IsUnused, TakesEntry, SpellsEntry, HasLost, FailsEntry, IsMisfit}
use Rattle.ark_plane.proofs.Tabling.{none_some, in_table, fit_in}
use Rattle.ark_plane.proofs.Sharing.{one_slot}

pub front_entry : (n : ℕ) (table : Table) (i : ℕ) (a : Area) → area_at (take n table) i ≡ Some a → (i < n) × (area_at table i ≡ Some a)
front_entry zero table i a is = absurd (none_some a is)
front_entry (suc n) [] i a is = absurd (none_some a is)
front_entry (suc n) (x ∷ table) zero a is = (omega arith, is)
front_entry (suc n) (x ∷ table) (suc i) a is = let rest = front_entry n table i a is in (omega (arith, rest.0), rest.1)

pub entry_front : (n : ℕ) (table : Table) (i : ℕ) (a : Area) → i < n → area_at table i ≡ Some a → area_at (take n table) i ≡ Some a
entry_front zero table i a lt is = absurd (omega (arith, lt))
entry_front (suc n) [] i a lt is = absurd (none_some a is)
entry_front (suc n) (x ∷ table) zero a lt is = is
entry_front (suc n) (x ∷ table) (suc i) a lt is = entry_front n table i a (omega (arith, lt)) is

fewer : (table : Table) (k n : ℕ) → IsOutside (take (k + 1) table) n → IsOutside (take k table) n
fewer table k n out i a is = let at = front_entry k table i a is in out i a (entry_front (k + 1) table i a (omega (arith, at.0)) at.1)

-- outside of one entry more
outside_more : (table : Table) (k n : ℕ) → IsOutside (take k table) n → ((a : Area) → area_at table k ≡ Some a → Contains (blocks_of a.runs) n → ⊥) → IsOutside (take (k + 1) table) n
outside_more table k n out last i a is has =
    let at = front_entry (k + 1) table i a is in
    elim (cases_lt i k) [
      | inl lt ↦ out i a (entry_front k table i a lt at.1) has
      | inr past ↦ let same : i ≡ k = omega (arith, at.0, past) in last a (ap (λ j. area_at table j) (sym same) ∙ at.1) has
    ]

module _ (size : ℕ) (table : Table) (k : ℕ) where
  pub unused_none : (free : List ℕ) → area_at table k ≡ None → IsUnused size (take k table) free → IsUnused size (take (k + 1) table) free
  unused_none free empty is n = (
    λ has. let old = (is n).0 has in (old.0, outside_more table k n old.1 (λ a at. absurd (none_some a (sym empty ∙ at)))),
    λ both. (is n).1 (both.0, fewer table k n both.1),
  )

  module _ (a : Area) (at : area_at table k ≡ Some a) where
    pub unused_more : (free now : List ℕ) → Loses free now (blocks_of a.runs) → IsUnused size (take k table) free → IsUnused size (take (k + 1) table) now
    unused_more free now loses is n = (
      λ has.
          let left = (loses n).0 has in
          let old = (is n).0 left.0 in
          (old.0, outside_more table k n old.1 (λ b there among. left.1 (subst (λ (o : Option Area). Its o n) (sym there ∙ at) among))),
      λ both. (loses n).1 ((is n).1 (both.0, fewer table k n both.1), λ among. both.1 k a (entry_front (k + 1) table k a (omega arith) at) among),
    )
      where
        Its : Option Area → ℕ → Type 0
        Its None m = ⊥
        Its (Some b) m = Contains (blocks_of b.runs) m

    -- a slot of a table that agrees finds its blocks free
    pub all_free : (free : List ℕ) → IsUnused size (take k table) free → SlotsAgree size (slots_in 1 table) → AreAmong (blocks_of a.runs) free
    all_free free is agree n has =
        let mine = in_table table 1 k a at in
        let bounds = (fit_in size (slots_in 1 table) (slot_at (1 + k) a) agree.fit mine).data_part n has in
        (is n).1 (
          range_contains 129 (size - 129) n bounds.0 (omega (arith, bounds)),
          λ i b there among.
              let front = front_entry k table i b there in
              let same : slot_at (1 + i) b ≡ slot_at (1 + k) a = one_slot (slots_in 1 table) (slot_at (1 + i) b) (slot_at (1 + k) a) n agree.apart
              (in_contains (slots_in 1 table) (slot_at (1 + i) b) (in_table table 1 i b front.1)) (in_contains (slots_in 1 table) (slot_at (1 + k) a) mine) among has in
              let index : 1 + i ≡ 1 + k = ap (λ (t : Slot). t.index) same in
              omega (arith, index, front.0),
        )

-- no slot was looked at yet
pub unused_first : (size : ℕ) (table : Table) → IsUnused size (take 0 table) (free_at_first size)
unused_first size table n = (λ has. (has, λ i a is. absurd (none_some a is)), λ both. both.0)

-- What is done with one entry of the table.

absent : (i : ℕ) (o : Option Area) → 1 ≤ i → (i ≡ 0) ⊎ (o ≡ None) → o ≡ None
absent i o low (inl zero_index) = absurd (omega (arith, low, zero_index))
absent i o low (inr none) = none

pub taken_none : (i : ℕ) (o : Option Area) (free : List ℕ) → 1 ≤ i → (i ≡ 0) ⊎ (o ≡ None) → TakesEntry o free free
taken_none i o free low is = subst (λ (x : Option Area). TakesEntry x free free) (sym (absent i o low is)) refl

pub spelled_some : (o : Option Area) (slot : Coded) → o ≡ Some (stated slot) → length (runs_of slot.spans) ≤ 16 → AreDistinct slot.spans → SpellsEntry o
spelled_some o slot is few distinct = subst (λ (x : Option Area). SpellsEntry x) (sym is) (record {
  longest = ap runs_of (blocks_of-runs_of slot.spans);
  few = few;
  distinct = subst (λ (bs : List ℕ). AreDistinct bs) (sym (blocks_of-runs_of slot.spans)) distinct;
})

pub spelled_none : (i : ℕ) (o : Option Area) → 1 ≤ i → (i ≡ 0) ⊎ (o ≡ None) → SpellsEntry o
spelled_none i o low is = subst (λ (x : Option Area). SpellsEntry x) (sym (absent i o low is)) tt

pub taken_some : (o : Option Area) (slot : Coded) (free now : List ℕ) → o ≡ Some (stated slot) → AreAmong slot.spans free → Loses free now slot.spans → TakesEntry o free now
taken_some o slot free now is among loses = subst (λ (x : Option Area). TakesEntry x free now) (sym is) (
  subst (λ (bs : List ℕ). AreAmong bs free) (sym (blocks_of-runs_of slot.spans)) among,
  subst (λ (bs : List ℕ). Loses free now bs) (sym (blocks_of-runs_of slot.spans)) loses,
)

pub lost_some : (o : Option Area) (slot : Coded) (free : List ℕ) → o ≡ Some (stated slot) → (AreAmong slot.spans free → ⊥) → HasLost o free
lost_some o slot free is lost = subst (λ (x : Option Area). HasLost x free) (sym is) (λ among. lost (subst (λ (bs : List ℕ). AreAmong bs free) (blocks_of-runs_of slot.spans) among))

module _ (size : ℕ) (table : Table) (k : ℕ) where
  pub entry : (o : Option Area) → slot_in table (k + 1) ≡ o → area_at table k ≡ o
  entry o is = ap (λ i. area_at table i) (let e : k ≡ (k + 1) - 1 = omega arith in e) ∙ is

  pub entry_unused : (free now : List ℕ) → TakesEntry (slot_in table (k + 1)) free now → IsUnused size (take k table) free → IsUnused size (take (k + 1) table) now
  entry_unused free now takes is = by (slot_in table (k + 1)) refl takes
    where
      by : (o : Option Area) → slot_in table (k + 1) ≡ o → TakesEntry o free now → IsUnused size (take (k + 1) table) now
      by None at kept = unused_none size table k now (entry None at) (subst (λ (f : List ℕ). IsUnused size (take k table) f) (sym kept) is)
      by (Some a) at took = unused_more size table k a (entry (Some a) at) free now took.1 is

  pub entry_misfit : (i : ℕ) (free : List ℕ) (e : LoadFault) → FailsEntry i (slot_in table (k + 1)) free e → IsUnused size (take k table) free → IsMisfit size table e
  entry_misfit i free fault.DeviceFault fails is = absurd fails
  entry_misfit i free fault.Memory fails is = tt
  entry_misfit i free (fault.Damaged bad) fails is = by (slot_in table (k + 1)) refl fails.1
    where
      by : (o : Option Area) → slot_in table (k + 1) ≡ o → HasLost o free → SlotsAgree size (slots_in 1 table) → ⊥
      by None at lost agree = lost
      by (Some a) at lost agree = lost (all_free size table k a (entry (Some a) at) free is agree)

-- a table that an image has fits the device
pub no_misfit : {T : Type 0} (image : List (List ℕ)) (table : Table) (size bad : ℕ) (r : Result T LoadFault) → HasTable table image → length image ≡ size → IfErr r (λ e. IsMisfit size table e) → r ≡ Err (fault.Damaged bad) → ⊥
no_misfit image table size bad (Ok x) has len is same = absurd cc
no_misfit image table size bad (Err e) has len is same =
    let misfit : IsMisfit size table (fault.Damaged bad) = subst (λ (f : LoadFault). IsMisfit size table f) (same_fault e (fault.Damaged bad) same) is in
    misfit (subst (λ (n : ℕ). SlotsAgree n (slots_in 1 table)) len (stored_apart image (slots_in 1 table) (table_is_read table image has)))
