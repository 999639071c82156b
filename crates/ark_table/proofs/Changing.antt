-- A table of which one slot is added, grown or removed.
use Rattle.std.proofs.Common.{◌≡◌, ℕ, ◌+◌, ◌<◌, ◌≤◌, List, Bool, true, false, length, get_or, set, cond, Option, Some, None, refl, sym, ap, subst, arith}
use Rattle.std.specs.Prelude.{count_by, bytes_eq, is_some, unwrap_or}
use Rattle.std.proofs.lemmas.Bool.{false≢true}
use Rattle.std.proofs.lemmas.List.Sums.{sum_by-set}
use Rattle.std.proofs.lemmas.Slice.Eq.{bytes_eq-Decides}
use Rattle.ark_media.specs.Journal.{zero_block}
use Rattle.ark_table.specs.Area.{Area, area_bytes, is_area}
use Rattle.ark_table.specs.Table.{Together, area_at, is_of, HasTable}
use Rattle.ark_table.proofs.Tables.{changed_table}

abbrev one : Bool → ℕ
one b = cond b 1 0

-- how many slots an application has after one is changed
count_set : (app : List ℕ) (table : List (Option Area)) (i : ℕ) (new : Option Area) → i < length table
    → count_by (is_of app) (set table i new) + one (is_of app (get_or table i None)) ≡ count_by (is_of app) table + one (is_of app new)
count_set app table i new lt = sum_by-set (λ o. one (is_of app o)) table i new None lt

module _ (table : List (Option Area)) (image : List (List ℕ)) (i : ℕ) (has : HasTable table image) (low : i < 128) where
  within : i < length table
  within = omega (arith, low, has.size)

  pub removed_table : HasTable (set table i None) (set image (i + 1) zero_block)
  removed_table = changed_table table image i zero_block None has low refl (λ k a b ne is_a is_b. absurd (false≢true (ap is_some is_a)))
      (λ app. omega (arith, count_set app table i None within, has.few app))

  pub added_table : (a : Area) → area_at table i ≡ None → is_area (length image) a ≡ true → ((k : ℕ) (b : Area) → area_at table k ≡ Some b → Together a b)
      → count_by (is_of a.app) table + 1 ≤ 8 → HasTable (set table i (Some a)) (set image (i + 1) (area_bytes a))
  added_table a free kept goes count = changed_table table image i (area_bytes a) (Some a) has low (kept, refl)
      (λ k x b ne is_a is_b. subst (λ (y : Area). Together y b) (ap (λ (o : Option Area). unwrap_or o x) is_a) (goes k b is_b))
      (λ app. by app (bytes_eq app a.app) refl)
    where
      by : (app : List ℕ) (b : Bool) → bytes_eq app a.app ≡ b → count_by (is_of app) (set table i (Some a)) ≤ 8
      by app true is =
          let same : app ≡ a.app = (bytes_eq-Decides app a.app).0 is in
          let most : count_by (is_of app) table + 1 ≤ 8 = subst (λ (x : List ℕ). count_by (is_of x) table + 1 ≤ 8) (sym same) count in
          omega (arith, count_set app table i (Some a) within, ap (λ b. one b) is, most)
      by app false is = omega (arith, count_set app table i (Some a) within, ap (λ b. one b) is, has.few app)

  pub grown_table : (old a : Area) → area_at table i ≡ Some old → a.app ≡ old.app → is_area (length image) a ≡ true → ((k : ℕ) (b : Area) → (k ≡ i → ⊥) → area_at table k ≡ Some b → Together a b)
      → HasTable (set table i (Some a)) (set image (i + 1) (area_bytes a))
  grown_table old a is_old same kept goes = changed_table table image i (area_bytes a) (Some a) has low (kept, refl)
      (λ k x b ne is_a is_b. subst (λ (y : Area). Together y b) (ap (λ (o : Option Area). unwrap_or o x) is_a) (goes k b ne is_b))
      (λ app. omega (arith, count_set app table i (Some a) within, ap (λ (o : Option Area). one (is_of app o)) is_old, ap (λ (x : List ℕ). one (bytes_eq app x)) same, has.few app))
