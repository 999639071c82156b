-- A slot is tried against the slots of a list, and so against those in use.
use Rattle.std.proofs.Common.{◌≡◌, ℕ, suc, ◌+◌, List, [], ◌∷◌, true, false, ◌&&◌, cond, Option, Some, None, refl, sym, ◌∙◌, ap, arith}
use Rattle.std.specs.Prelude.{count_by, bytes_eq, nat_le, nat_lt}
use Rattle.std.specs.List.{list_all}
use Rattle.std.proofs.lemmas.List.Sums.{sum_by-cons}
use Rattle.ark_table.specs.declared.slot.Slot.{Slot}
use Rattle.ark_table.specs.Area.{Area}
use Rattle.ark_table.specs.Slots.{HeldSlot, goes_with, areas_with}
use Rattle.ark_table.specs.Table.{is_of, held_in}
use Rattle.ark_table.specs.Stated.{stated, stated_if, areas}
use Rattle.ark_table.specs.Loading.{goes_beside}
use Rattle.ark_table.proofs.Gathering.{goes}

all_held : (a : Area) (i : ℕ) (slots : List (Option Slot)) → list_all (λ o. goes_beside a (stated_if o)) slots ≡ list_all (λ h. goes a h.area) (held_in i (areas slots))
all_held a i [] = refl
all_held a i (None ∷ slots) = all_held a (i + 1) slots
all_held a i (Some s ∷ slots) = ap (λ b. goes a (stated s) && b) (all_held a (i + 1) slots)

count_held : (app : List ℕ) (i : ℕ) (slots : List (Option Slot)) → count_by (λ o. is_of app (stated_if o)) slots ≡ areas_with app (held_in i (areas slots))
count_held app i [] = refl
count_held app i (None ∷ slots) =
    let here : count_by (λ o. is_of app (stated_if o)) (None ∷ slots) ≡ 0 + count_by (λ o. is_of app (stated_if o)) slots = sum_by-cons (λ (o : Option Slot). cond (is_of app (stated_if o)) 1 0) None slots in
    omega (arith, here, count_held app (i + 1) slots)
count_held app i (Some s ∷ slots) =
    sum_by-cons (λ (o : Option Slot). cond (is_of app (stated_if o)) 1 0) (Some s) slots
    ∙ ap (λ n. cond (bytes_eq app s.app) 1 0 + n) (count_held app (i + 1) slots)
    ∙ sym (sum_by-cons (λ (h : HeldSlot). cond (bytes_eq app h.area.app) 1 0) (record { index = i; area = stated s }) (held_in (i + 1) (areas slots)))

-- with the count, where it goes beside all
pub counted : (slot : Slot) (slots : List (Option Slot)) (count : ℕ) → list_all (λ o. goes_beside (stated slot) (stated_if o)) slots ≡ true
    → count ≡ count_by (λ o. is_of slot.app (stated_if o)) slots → nat_lt count 8 ≡ goes_with (held_in 1 (areas slots)) (stated slot)
counted slot slots count all is =
    let held = held_in 1 (areas slots) in
    let more : suc count ≡ areas_with slot.app held + 1 = omega (arith, is, count_held slot.app 1 slots) in
    ap (λ n. nat_le n 8) more ∙ ap (λ b. b && nat_le (areas_with slot.app held + 1) 8) (sym all ∙ all_held (stated slot) 1 slots)

-- and where it does not
pub kept_off : (slot : Slot) (slots : List (Option Slot)) → list_all (λ o. goes_beside (stated slot) (stated_if o)) slots ≡ false → false ≡ goes_with (held_in 1 (areas slots)) (stated slot)
kept_off slot slots off =
    let held = held_in 1 (areas slots) in
    ap (λ b. b && nat_le (areas_with slot.app held + 1) 8) (sym off ∙ all_held (stated slot) 1 slots)
