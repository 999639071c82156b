-- The areas of slots, place by place.
use Rattle.std.proofs.Common.{◌≡◌, inl, inr, ℕ, ◌+◌, ◌-◌, ◌<◌, List, [], ◌∷◌, Bool, true, false, not, cond, length, get_or, set, Option, Some, None, refl, sym, ◌∙◌, ap, subst, arith}
use Rattle.std.specs.Prelude.{count_by, is_some}
use Rattle.std.specs.List.{position, position_or_len}
use Rattle.std.proofs.Math.ListN as listn
use Rattle.std.proofs.lemmas.Bool.{false≢true, cases_lt, lt-ltb}
use Rattle.std.proofs.lemmas.List.{map-set}
use Rattle.std.proofs.lemmas.List.Quantifiers.{position-Some}
use Rattle.std.proofs.lemmas.List.Sums.{sum_by-cons, fails_before_first}
use Rattle.ark_table.specs.declared.slot.Slot.{Slot}
use Rattle.ark_table.specs.Table.{area_at, slots_in}
use Rattle.ark_table.specs.Stated.{stated_if, areas}
use Rattle.ark_table.specs.Standing.{Table, slot_in}
use Rattle.ark_table.specs.Using.{IsLeastFree, IsFull}

pub area_at_place : (slots : List (Option Slot)) (k : ℕ) → area_at (areas slots) k ≡ stated_if (get_or slots k None)
area_at_place slots k = listn.get_or-map stated_if slots k None

pub areas-set : (slots : List (Option Slot)) (k : ℕ) (x : Option Slot) → areas (set slots k x) ≡ set (areas slots) k (stated_if x)
areas-set slots k x = map-set stated_if slots k x

-- so many slots are in use
pub count_in : (i : ℕ) (slots : List (Option Slot)) → count_by is_some slots ≡ length (slots_in i (areas slots))
count_in i [] = refl
count_in i (None ∷ slots) =
    let here : count_by is_some (None ∷ slots) ≡ 0 + count_by is_some slots = sum_by-cons (λ (o : Option Slot). cond (is_some o) 1 0) None slots in
    omega (arith, here, count_in (i + 1) slots)
count_in i (Some s ∷ slots) =
    let here : count_by is_some (Some s ∷ slots) ≡ 1 + count_by is_some slots = sum_by-cons (λ (o : Option Slot). cond (is_some o) 1 0) (Some s) slots in
    omega (arith, here, count_in (i + 1) slots)

used_stated : (o : Option Slot) → not (is_some o) ≡ false → stated_if o ≡ None → ⊥
used_stated None used none = false≢true (sym used)
used_stated (Some s) used none = absurd (false≢true (sym (ap is_some none)))

free_stated : (o : Option Slot) → not (is_some o) ≡ true → stated_if o ≡ None
free_stated None free = refl
free_stated (Some s) free = absurd (false≢true free)

-- where there is no first element that passes, none passes
none_passes : {X : Type 0} (p : X → Bool) (xs : List X) (k : ℕ) (d : X) → position p xs ≡ None → k < length xs → p (get_or xs k d) ≡ false
none_passes p xs k d none lt = elim (cases_lt (position_or_len p xs) (length xs)) [
  | inl first ↦ absurd (false≢true (ap is_some (sym none ∙ ap (λ b. cond b (Some (position_or_len p xs)) None) (lt-ltb (position_or_len p xs) (length xs) first))))
  | inr past ↦ fails_before_first p xs k d (omega (arith, past, lt))
]

-- the least place that is free
pub least_free : (slots : List (Option Slot)) (table : Table) (k : ℕ) → areas slots ≡ table → length slots ≡ 128 → position (λ o. not (is_some o)) slots ≡ Some k → IsLeastFree table (k + 1)
least_free slots table k view size found = subst (λ (t : Table). IsLeastFree t (k + 1)) view (record {
  low = omega arith;
  high = omega (arith, first.0, size);
  free = free;
  least = λ j low lt none. used_stated (get_or slots (j - 1) None) (first.2 (j - 1) (omega (arith, low, lt))) (sym (area_at_place slots (j - 1)) ∙ none);
})
  where
    first : (k < length slots) × (not (is_some (get_or slots k None)) ≡ true) × ((j : ℕ) → j < k → not (is_some (get_or slots j None)) ≡ false)
    first = position-Some (λ o. not (is_some o)) slots k None found

    free : slot_in (areas slots) (k + 1) ≡ None
    free = let e : k + 1 - 1 ≡ k = omega arith in ap (λ j. area_at (areas slots) j) e ∙ area_at_place slots k ∙ free_stated (get_or slots k None) first.1

pub none_free : (slots : List (Option Slot)) (table : Table) → areas slots ≡ table → length slots ≡ 128 → position (λ o. not (is_some o)) slots ≡ None → IsFull table
none_free slots table view size none = subst (λ (t : Table). IsFull t) view (λ k low high free.
    used_stated (get_or slots (k - 1) None) (none_passes (λ o. not (is_some o)) slots (k - 1) None none (omega (arith, low, high, size))) (sym (area_at_place slots (k - 1)) ∙ free))
