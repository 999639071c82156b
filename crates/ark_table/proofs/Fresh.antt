-- The slots of a new device.
use Rattle.std.proofs.Common.{◌≡◌, ℕ, zero, suc, ◌+◌, ◌<◌, ◌≤◌, List, [], Bool, true, false, ◌&&◌, length, set, replicate, Option, Some, None, Ok, Err, refl, sym, ◌∙◌, ap, subst, arith, inl, inr}
use Rattle.std.specs.Prelude.{bytes_eq, is_some, nat_le, count_by}
use Rattle.std.proofs.lemmas.Bool.{le-leb, cases_lt, false≢true}
use Rattle.std.proofs.lemmas.List.{get_or-replicate, get_or_past, get_or-set_same, get_or-set_other, length-set, length-replicate}
use Rattle.std.proofs.lemmas.Slice.Eq.{bytes_eq-Decides}
use Rattle.ark_media.specs.Journal.{block, zero_block}
use Rattle.ark_table.specs.Superblock.{superblock}
use Rattle.ark_table.specs.Area.{Area, is_free}
use Rattle.ark_table.specs.Slots.{held_if, as_slots, slots_of}
use Rattle.ark_table.specs.Table.{IsSlotBlock, area_at, is_of, HasTable, slots_in}
use Rattle.ark_table.proofs.Tables.{table_is_read}

no_areas : List (Option Area)
no_areas = replicate 128 None

none_there : (i : ℕ) → area_at no_areas i ≡ None
unfolding no_areas
none_there i = elim (cases_lt i 128) [
  | inl lt ↦ get_or-replicate {A = Option Area} 128 i None None lt
  | inr past ↦ get_or_past no_areas i None past
]

no_area : (i : ℕ) (a : Area) → area_at no_areas i ≡ Some a → ⊥
no_area i a is = false≢true (ap is_some (sym (none_there i) ∙ is))

none_counted : (app : List ℕ) → count_by (is_of app) no_areas ≡ 0
unfolding no_areas
none_counted app = refl

all_none : length no_areas ≡ 128
unfolding no_areas
all_none = refl

formatted : ℕ → List (List ℕ)
formatted n = set (replicate n zero_block) 0 (superblock n)

made_table : (n : ℕ) → 130 ≤ n → n ≤ 1048576 → HasTable no_areas (formatted n)
unfolding formatted
made_table n low high = record {
  device = (λ i. nat_le 130 (long i) && (nat_le (long i) 1048576 && bytes_eq (first i) (superblock (long i))))
      ∙ (λ i. le-leb 130 n low i && (le-leb n 1048576 high i && (bytes_eq-Decides (superblock n) (superblock n)).1 refl i));
  size = counted;
  says = λ i lt. subst (λ (o : Option Area). IsSlotBlock (length (formatted n)) (block (formatted n) (i + 1)) o) (sym (none_there i)) (ap is_free (zero_at i lt));
  together = λ i k a b ne is_a is_b. absurd (no_area i a is_a);
  few = λ app. omega (arith, none_counted app);
}
  where
    long : length (set (replicate n zero_block) 0 (superblock n)) ≡ n
    long = length-set (replicate n zero_block) 0 (superblock n) ∙ length-replicate n zero_block

    first : block (set (replicate n zero_block) 0 (superblock n)) 0 ≡ superblock n
    first = get_or-set_same (replicate n zero_block) 0 (superblock n) [] (omega (arith, length-replicate n zero_block, low))

    zero_at : (i : ℕ) → i < 128 → block (set (replicate n zero_block) 0 (superblock n)) (i + 1) ≡ zero_block
    zero_at i lt = get_or-set_other (replicate n zero_block) 0 (i + 1) (superblock n) [] (λ e. omega (arith, e)) ∙ get_or-replicate n (i + 1) zero_block [] (omega (arith, lt, low))

    counted : length no_areas ≡ 128
    counted = all_none

no_slots : slots_in 1 no_areas ≡ []
unfolding no_areas
no_slots = refl

-- a formatted device has no slot in use
pub fresh_is_empty : (n : ℕ) → 130 ≤ n → n ≤ 1048576 → slots_of (set (replicate n zero_block) 0 (superblock n)) ≡ Ok []
unfolding formatted
fresh_is_empty n low high = table_is_read no_areas (formatted n) (made_table n low high) ∙ ap (λ l. Ok l) no_slots

-- its table is empty
pub fresh_table : (n : ℕ) → 130 ≤ n → n ≤ 1048576 → HasTable (replicate 128 None) (set (replicate n zero_block) 0 (superblock n))
unfolding no_areas formatted
fresh_table n low high = made_table n low high

never : (x y b : Bool) → b ≡ false → (x && (y && b)) ≡ false
never true true b is = is
never true false b is = refl
never false y b is = refl

no_superblock : (n : ℕ) → bytes_eq zero_block (superblock n) ≡ false
unfolding superblock
no_superblock n = refl

-- and one of zeros none at all
pub zeros_are_damaged : (n : ℕ) → slots_of (replicate n zero_block) ≡ Err 0
zeros_are_damaged zero = refl
zeros_are_damaged (suc n) =
    ap (λ d. as_slots (held_if d (replicate (suc n) zero_block)))
    (never (nat_le 130 (length (replicate (suc n) zero_block))) (nat_le (length (replicate (suc n) zero_block)) 1048576) (bytes_eq zero_block (superblock (length (replicate (suc n) zero_block)))) (no_superblock (length (replicate (suc n) zero_block))))
