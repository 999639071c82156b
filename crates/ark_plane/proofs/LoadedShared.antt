-- A table that was taken from the free blocks, entry by entry, shares none of them: so its slots are those of a plane.
use Rattle.std.proofs.Common.{◌≡◌, ◌⊎◌, inl, inr, ℕ, suc, ◌+◌, ◌-◌, ◌<◌, ◌≤◌, Bool, false, ◌==◌, List, [], ◌∷◌, length, take, refl, sym, ◌∙◌, ap, subst, arith, Contains, get_or}
use Rattle.std.specs.Prelude.{Option, Some, None}
use Rattle.std.specs.List.Sorted.{IsStrictlyIncreasing}
use Rattle.std.proofs.lemmas.Bool.{cases_lt}
use Rattle.std.proofs.lemmas.Bool.Decides.{nat_tests}
use Rattle.std.proofs.lemmas.List.{get_or_default}
use Rattle.ark_extents.specs.Blocks.{blocks_of, runs_of, AreAmong}
use Rattle.ark_extents.proofs.RunLemmas.{blocks_of-runs_of}
use Rattle.ark_extents.proofs.Holding.{contains_range}
use Rattle.ark_table.specs.Area.{Area}
use Rattle.ark_table.specs.Slots.{Slot}
use Rattle.ark_table.specs.Table.{area_at, slots_in}
use Rattle.ark_table.specs.Standing.{Table, slot_in}
use Rattle.ark_machine.specs.Plane.{is_granted, max_runs}
use Rattle.ark_machine.specs.Grants.{has_block, has_index, SlotsFit, SlotsApart, SlotsAgree}
use Rattle.ark_machine.proofs.Grants.{or_both}
use Rattle.ark_held.proofs.Members.{contains_in}
use Rattle.ark_plane.specs.Shared.{IsShared, TableInside}
use Rattle.ark_plane.specs.Loading.{IsUnused, TakesEntry, IsSpelled, SpellsEntry, AreApartOn}
use Rattle.ark_plane.proofs.Tests.{by_test}
use Rattle.ark_plane.proofs.Tabling.{none_some, same_some, of_table, slot_there, fit_in}
use Rattle.ark_plane.proofs.Unused.{front_entry, entry_front, entry}
use Rattle.ark_plane.proofs.Given.{block_in}
use Rattle.ark_plane.proofs.Entries.{table_again, free_same}

-- One entry more.

module _ (size : ℕ) (table : Table) (k : ℕ) (before : AreApartOn size (take k table)) where
  entry_of : (i : ℕ) (b : Area) → area_at (take (k + 1) table) i ≡ Some b → (area_at (take k table) i ≡ Some b) ⊎ ((i ≡ k) × (area_at table k ≡ Some b))
  entry_of i b there =
      let p = front_entry (k + 1) table i b there in
      elim (cases_lt i k) [
        | inl lt ↦ inl (entry_front k table i b lt p.1)
        | inr past ↦ let same : i ≡ k = (let lt = p.0 in omega (arith, lt, past)) in inr (same, ap (λ j. area_at table j) (sym same) ∙ p.1)
      ]

  earlier : area_at table k ≡ None → (i : ℕ) (b : Area) → area_at (take (k + 1) table) i ≡ Some b → area_at (take k table) i ≡ Some b
  earlier empty i b there = elim (entry_of i b there) [
    | inl old ↦ old
    | inr here ↦ absurd (none_some b (sym empty ∙ here.1))
  ]

  apart_none : area_at table k ≡ None → AreApartOn size (take (k + 1) table)
  apart_none empty = record {
    spelled = λ i a is. before.spelled i a (earlier empty i a is);
    data_part = λ i a is. before.data_part i a (earlier empty i a is);
    apart = λ i j a b lt one two. before.apart i j a b lt (earlier empty i a one) (earlier empty j b two);
  }

  module _ (a : Area) (at : area_at table k ≡ Some a) (spelled : IsSpelled a) (free : List ℕ) (low : 130 ≤ size) (is : IsUnused size (take k table) free) (among : AreAmong (blocks_of a.runs) free) where
    its : (b : Area) → area_at table k ≡ Some b → a ≡ b
    its b here = same_some a b (sym at ∙ here)

    data_of : (n : ℕ) → Contains (blocks_of a.runs) n → (129 ≤ n) × (n < size)
    data_of n has = let r = contains_range 129 (size - 129) n ((is n).0 (among n has)).0 in (omega (arith, r), omega (arith, r, low))

    outside : (i : ℕ) (b : Area) → area_at (take k table) i ≡ Some b → (n : ℕ) → Contains (blocks_of b.runs) n → Contains (blocks_of a.runs) n → ⊥
    outside i b old n its_block has = ((is n).0 (among n has)).1 i b old its_block

    apart_more : AreApartOn size (take (k + 1) table)
    apart_more = record {
      spelled = λ i b there. elim (entry_of i b there) [
        | inl old ↦ before.spelled i b old
        | inr here ↦ subst (λ (x : Area). IsSpelled x) (its b here.1) spelled
      ];
      data_part = λ i b there. elim (entry_of i b there) [
        | inl old ↦ before.data_part i b old
        | inr here ↦ subst (λ (x : Area). (n : ℕ) → Contains (blocks_of x.runs) n → (129 ≤ n) × (n < size)) (its b here.1) data_of
      ];
      apart = λ i j b c lt one two. by i j b c lt (entry_of i b one) (entry_of j c two);
    }
      where
        by : (i j : ℕ) (b c : Area) → i < j → (area_at (take k table) i ≡ Some b) ⊎ ((i ≡ k) × (area_at table k ≡ Some b)) → (area_at (take k table) j ≡ Some c) ⊎ ((j ≡ k) × (area_at table k ≡ Some c))
            → (n : ℕ) → Contains (blocks_of b.runs) n → Contains (blocks_of c.runs) n → ⊥
        by i j b c lt (inl one) (inl two) n x y = before.apart i j b c lt one two n x y
        by i j b c lt (inl one) (inr two) n x y = outside i b one n x (subst (λ (z : Area). Contains (blocks_of z.runs) n) (sym (its c two.1)) y)
        by i j b c lt (inr one) (inl two) n x y = let near = (front_entry k table j c two).0 in let same = one.0 in absurd (omega (arith, lt, near, same))
        by i j b c lt (inr one) (inr two) n x y = let same = one.0 in let also = two.0 in absurd (omega (arith, lt, same, also))

  pub entry_apart : (free now : List ℕ) → 130 ≤ size → TakesEntry (slot_in table (k + 1)) free now → SpellsEntry (slot_in table (k + 1)) → IsUnused size (take k table) free → AreApartOn size (take (k + 1) table)
  entry_apart free now low takes spells is = by (slot_in table (k + 1)) refl takes spells
    where
      by : (o : Option Area) → slot_in table (k + 1) ≡ o → TakesEntry o free now → SpellsEntry o → AreApartOn size (take (k + 1) table)
      by None at kept spelled = apart_none (entry size table k None at)
      by (Some a) at took spelled = apart_more a (entry size table k (Some a) at) spelled free low is took.0

-- no entry was looked at yet
pub apart_first : (size : ℕ) (table : Table) → AreApartOn size (take 0 table)
apart_first size table = record {
  spelled = λ k a is. absurd (none_some a is);
  data_part = λ k a is. absurd (none_some a is);
  apart = λ i k a b lt is. absurd (none_some a is);
}

-- The slots agree.

module _ (size : ℕ) where
  all_fit : (ts : Table) (i : ℕ) → 1 ≤ i → i + length ts ≤ 129 → ((k : ℕ) (a : Area) → area_at ts k ≡ Some a → IsSpelled a) → ((k : ℕ) (a : Area) → area_at ts k ≡ Some a → (n : ℕ) → Contains (blocks_of a.runs) n → (129 ≤ n) × (n < size))
      → SlotsFit size (slots_in i ts)
  all_fit [] i low high spelled data_part = tt
  all_fit (None ∷ ts) i low high spelled data_part = all_fit ts (i + 1) (omega arith) (omega (arith, high)) (λ k a is. spelled (suc k) a is) (λ k a is. data_part (suc k) a is)
  all_fit (Some x ∷ ts) i low high spelled data_part = (
    record { index_low = low; index_high = omega (arith, high); data_part = data_part 0 x refl; distinct = (spelled 0 x refl).distinct },
    all_fit ts (i + 1) (omega arith) (omega (arith, high)) (λ k a is. spelled (suc k) a is) (λ k a is. data_part (suc k) a is),
  )

other_number : (i j : ℕ) → j < i → (i == j) ≡ false
other_number i j lt = grind (arith, nat_tests)

no_index : (ts : Table) (i j : ℕ) → j < i → has_index (slots_in i ts) j ≡ false
no_index [] i j lt = refl
no_index (None ∷ ts) i j lt = no_index ts (i + 1) j (omega (arith, lt))
no_index (Some x ∷ ts) i j lt = or_both (i == j) (has_index (slots_in (i + 1) ts) j) (other_number i j lt) (no_index ts (i + 1) j (omega (arith, lt)))

no_block : (ts : Table) (i n : ℕ) → ((k : ℕ) (b : Area) → area_at ts k ≡ Some b → Contains (blocks_of b.runs) n → ⊥) → is_granted (slots_in i ts) n ≡ false
no_block [] i n none = refl
no_block (None ∷ ts) i n none = no_block ts (i + 1) n (λ k b is. none (suc k) b is)
no_block (Some x ∷ ts) i n none = or_both (has_block (blocks_of x.runs) n) (is_granted (slots_in (i + 1) ts) n)
    (by_test (has_block (blocks_of x.runs) n) (λ b. has_block (blocks_of x.runs) n ≡ b → b ≡ false) (λ yes q. absurd (none 0 x refl (block_in (blocks_of x.runs) n q))) (λ no q. refl) refl)
    (no_block ts (i + 1) n (λ k b is. none (suc k) b is))

all_apart : (ts : Table) (i : ℕ) → ((j k : ℕ) (a b : Area) → j < k → area_at ts j ≡ Some a → area_at ts k ≡ Some b → (n : ℕ) → Contains (blocks_of a.runs) n → Contains (blocks_of b.runs) n → ⊥) → SlotsApart (slots_in i ts)
all_apart [] i apart = tt
all_apart (None ∷ ts) i apart = all_apart ts (i + 1) (λ j k a b lt one two. apart (suc j) (suc k) a b (omega (arith, lt)) one two)
all_apart (Some x ∷ ts) i apart = (
  (no_index ts (i + 1) i (omega arith), λ n has. no_block ts (i + 1) n (λ k b is its. apart 0 (suc k) x b (omega arith) refl is n (block_in (blocks_of x.runs) n has) its)),
  all_apart ts (i + 1) (λ j k a b lt one two. apart (suc j) (suc k) a b (omega (arith, lt)) one two),
)

module _ (size : ℕ) (table : Table) (full : length table ≡ 128) (all : AreApartOn size table) where
  agree : SlotsAgree size (slots_in 1 table)
  agree = record { fit = all_fit size table 1 (omega arith) (omega (arith, full)) all.spelled all.data_part; apart = all_apart table 1 all.apart }

  few : (t : Slot) → Contains (slots_in 1 table) t → length (runs_of t.blocks) ≤ max_runs
  few t among =
      let from = of_table table 1 t (contains_in (slots_in 1 table) t among) in
      let spelled = all.spelled from.0 from.1 from.2 in
      subst (λ (u : Slot). length (runs_of u.blocks) ≤ max_runs) (sym from.3) (let same : length (runs_of (blocks_of from.1.runs)) ≡ length from.1.runs = ap (λ l. length l) spelled.longest in let most = spelled.few in omega (arith, same, most))

  pub loaded_shared : (free : List ℕ) → IsStrictlyIncreasing free → IsUnused size table free → IsShared size table free false
  loaded_shared free rising unused = record {
    slots = slots_in 1 table;
    table = sym (table_again size table full (λ k a is. (all.spelled k a is).longest) agree);
    apart = agree;
    few = few;
    free = λ no. free_same size table free rising unused;
  }

-- the areas of a table that is shared so lie on the device
pub shared_inside : (size : ℕ) (table : Table) (free : List ℕ) (failed : Bool) → IsShared size table free failed → TableInside size table
shared_inside size table free failed sh k a is =
    let there = slot_there size sh.slots k a sh.apart.fit (ap (λ (t : Table). area_at t k) (sym sh.table) ∙ is) in
    let bounds = (fit_in size sh.slots there.0 sh.apart.fit there.1).data_part in
    let blocks : there.0.blocks ≡ blocks_of a.runs = sym (blocks_of-runs_of there.0.blocks) ∙ ap (λ (x : Area). blocks_of x.runs) there.3 in
    λ j d lt. let n = get_or (blocks_of a.runs) j d in
    (bounds n (subst (λ (bs : List ℕ). Contains bs n) (sym blocks) (j, lt, get_or_default (blocks_of a.runs) j n d lt))).1
