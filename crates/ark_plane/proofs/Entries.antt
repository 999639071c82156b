-- A table as the slots that stand in it: the table of these slots is the same, and the free blocks are those that no entry has.
use Rattle.std.proofs.Common.{◌≡◌, ℕ, suc, ◌+◌, ◌-◌, Bool, true, false, not, ◌==◌, List, [], ◌∷◌, length, refl, sym, ◌∙◌, ap, subst, arith, Contains}
use Rattle.std.specs.Prelude.{Option, Some, None, filter as select}
use Rattle.std.specs.List.{list_any, range_with_len}
use Rattle.std.specs.List.Sorted.{IsStrictlyIncreasing}
use Rattle.std.proofs.lemmas.Bool.{false≢true}
use Rattle.ark_extents.specs.Blocks.{blocks_of, runs_of}
use Rattle.ark_table.specs.Area.{Area}
use Rattle.ark_table.specs.Slots.{Slot, slot_at, area_of}
use Rattle.ark_table.specs.Table.{area_at, slots_in}
use Rattle.ark_table.specs.Standing.{Table}
use Rattle.ark_machine.specs.Plane.{is_granted}
use Rattle.ark_machine.specs.Grants.{SlotsAgree}
use Rattle.ark_held.proofs.Members.{In, contains_in, in_contains}
use Rattle.ark_plane.specs.Tables.{table_of}
use Rattle.ark_plane.specs.Loading.{IsOutside, IsUnused}
use Rattle.ark_plane.proofs.Tests.{by_test}
use Rattle.ark_plane.proofs.Lists.{any_in, in_select}
use Rattle.ark_plane.proofs.Freeing.{rising, eq_same}
use Rattle.ark_plane.proofs.Removed.{any_found, in_selected}
use Rattle.ark_plane.proofs.Given.{block_in, rises_all, same_rising}
use Rattle.ark_plane.proofs.Tabling.{none_some, table_size, slot_there, area_there, in_table, of_table}

-- The table of its slots.

same_entries : (xs ys : Table) → length xs ≡ length ys → ((k : ℕ) → area_at xs k ≡ area_at ys k) → xs ≡ ys
same_entries [] [] size each = refl
same_entries [] (y ∷ ys) size each = absurd (omega (arith, size))
same_entries (x ∷ xs) [] size each = absurd (omega (arith, size))
same_entries (x ∷ xs) (y ∷ ys) size each = ap (λ (o : Option Area). o ∷ xs) (each 0) ∙ ap (λ (zs : Table). y ∷ zs) (same_entries xs ys (omega (arith, size)) (λ k. each (suc k)))

module _ (size : ℕ) (table : Table) (full : length table ≡ 128) (longest : (k : ℕ) (a : Area) → area_at table k ≡ Some a → runs_of (blocks_of a.runs) ≡ a.runs) (agree : SlotsAgree size (slots_in 1 table)) where
  abbrev slots : List Slot
  slots = slots_in 1 table

  -- an area is as its blocks are
  area_again : (k : ℕ) (a : Area) → area_at table k ≡ Some a → area_of (slot_at (1 + k) a) ≡ a
  area_again k a is = λ i. record { app = a.app; label = a.label; kind = a.kind; runs = longest k a is i }

  entry_same : (k : ℕ) (o p : Option Area) → area_at (table_of slots) k ≡ o → area_at table k ≡ p → o ≡ p
  entry_same k None None is at = refl
  entry_same k None (Some a) is at =
      absurd (none_some (area_of (slot_at (1 + k) a)) (sym is ∙ ap (λ j. area_at (table_of slots) j) (let e : k ≡ 1 + k - 1 = omega arith in e) ∙ area_there size slots agree.fit agree.apart (slot_at (1 + k) a) (in_table table 1 k a at)))
  entry_same k (Some b) p is at =
      let there = slot_there size slots k b agree.fit is in
      let from = of_table table 1 there.0 there.1 in
      let index : 1 + from.0 ≡ k + 1 = ap (λ (t : Slot). t.index) (sym from.3) ∙ there.2 in
      let place : from.0 ≡ k = omega (arith, index) in
      let its : area_at table k ≡ Some from.1 = ap (λ j. area_at table j) (sym place) ∙ from.2 in
      let area : b ≡ from.1 = sym there.3 ∙ ap (λ (t : Slot). area_of t) (from.3 ∙ ap (λ j. slot_at (1 + j) from.1) place) ∙ area_again k from.1 its in
      ap (λ (x : Area). Some x) area ∙ sym its ∙ at

  pub table_again : table_of slots ≡ table
  table_again = same_entries (table_of slots) table (table_size slots ∙ sym full) (λ k. entry_same k (area_at (table_of slots) k) (area_at table k) refl refl)

-- The blocks that no entry has.

module _ (size : ℕ) (table : Table) where
  abbrev all_slots : List Slot
  all_slots = slots_in 1 table

  granted_outside : (n : ℕ) → is_granted all_slots n ≡ false → IsOutside table n
  granted_outside n free k a is has_n =
      let mine = in_table table 1 k a is in
      false≢true (sym free ∙ any_in (λ (s : Slot). list_any (λ b. b == n) s.blocks) all_slots (slot_at (1 + k) a) mine (any_in (λ b. b == n) (blocks_of a.runs) n (contains_in (blocks_of a.runs) n has_n) (eq_same n)))

  outside_granted : (n : ℕ) → IsOutside table n → is_granted all_slots n ≡ false
  outside_granted n out = by_test (is_granted all_slots n) (λ b. is_granted all_slots n ≡ b → b ≡ false) (λ yes q. absurd (taken all_slots q (λ t h. h))) (λ no q. refl) refl
    where
      taken : (ts : List Slot) → is_granted ts n ≡ true → ((t : Slot) → In ts t → In all_slots t) → ⊥
      taken ts q all =
          let f = any_found (λ (s : Slot). list_any (λ b. b == n) s.blocks) ts q in
          let at = of_table table 1 f.0 (all f.0 f.1) in
          out at.0 at.1 at.2 (subst (λ (s : Slot). Contains s.blocks n) at.3 (block_in f.0.blocks n f.2))

  abbrev is_free : ℕ → Bool
  is_free n = not (is_granted all_slots n)

  not_false : (b : Bool) → not b ≡ true → b ≡ false
  not_false true h = absurd (false≢true h)
  not_false false h = refl

  pub free_same : (free : List ℕ) → IsStrictlyIncreasing free → IsUnused size table free → select is_free (range_with_len 129 (size - 129)) ≡ free
  free_same free increasing unused = same_rising 129 0 (select is_free (range_with_len 129 (size - 129))) free
      (rising is_free 129 (size - 129)) (rises_all free increasing)
      (λ n h.
      let at = in_select is_free (range_with_len 129 (size - 129)) n h in
      contains_in free n ((unused n).1 (in_contains (range_with_len 129 (size - 129)) n at.0, granted_outside n (not_false (is_granted all_slots n) at.1))))
      (λ n h.
      let at = (unused n).0 (in_contains free n h) in
      in_selected is_free (range_with_len 129 (size - 129)) n (contains_in (range_with_len 129 (size - 129)) n at.0) (ap not (outside_granted n at.1)))
