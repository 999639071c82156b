-- The fields of a slot's block, as they are read one by one.
use Rattle.std.proofs.Common.{◌≡◌, ◌≤◌, ◌<◌, ℕ, zero, suc, ◌+◌, ◌-◌, ◌*◌, List, [], ◌∷◌, ◌++◌, Bool, true, false, ◌&&◌, length, take, drop, set, refl, sym, ◌∙◌, ap, arith, slice_range, subst, Option, None}
use Rattle.std.specs.Prelude.{nat_le, bytes_eq, IsSome}
use Rattle.std.specs.Int.{w32, from_be_bytes}
use Rattle.std.specs.List.{list_all}
use Rattle.std.proofs.lemmas.Bool.{and_parts, leb-true, false≢true}
use Rattle.std.proofs.lemmas.List.{take_more_set}
use Rattle.std.proofs.lemmas.Slice.Eq.{bytes_eq-Decides}
use Rattle.ark_base.specs.declared.block.Span.{Span}
use Rattle.ark_extents.specs.Runs.{are_spans, are_longest, share_none, is_count, fits}
use Rattle.ark_table.specs.declared.slot.Slot.{Slot}
use Rattle.ark_table.specs.Area.{runs_in, is_area, is_used, area_in, area_bytes}
use Rattle.ark_table.specs.Stated.{stated}
use Rattle.ark_table.proofs.Laying.{drop_twice}

pub length-runs_in : (n : ℕ) (bytes : List ℕ) → length (runs_in n bytes) ≡ n
length-runs_in zero bytes = refl
length-runs_in (suc n) bytes = ap (λ k. suc k) (length-runs_in n (drop 8 bytes))

-- the runs of an area are at most 16
pub few_runs : (runs : List Span) → are_spans runs ≡ true → length runs ≤ 16
few_runs runs spans =
    let outer = and_parts _ (are_longest runs) spans in
    let middle = and_parts _ (share_none runs) outer.0 in
    let inner = and_parts (is_count (length runs)) (list_all fits runs) middle.0 in
    leb-true (length runs) 16 (and_parts (nat_le 1 (length runs)) (nat_le (length runs) 16) inner.0).1

-- the next run stands behind those before it
runs_in_more : (i : ℕ) (bytes : List ℕ) (run : Span) → run.start ≡ from_be_bytes w32 (take 4 (drop (8 * i) bytes)) → run.len ≡ from_be_bytes w32 (take 4 (drop (8 * i + 4) bytes))
    → runs_in (i + 1) bytes ≡ runs_in i bytes ++ run ∷ []
runs_in_more zero bytes run start len = λ j. record { start = sym start j; len = sym len j } ∷ []
runs_in_more (suc i) bytes run start len =
    let count : suc i + 1 ≡ suc (i + 1) = omega arith in
    let first : 8 * suc i ≡ 8 + 8 * i = omega arith in
    let second : 8 * suc i + 4 ≡ 8 + (8 * i + 4) = omega arith in
    ap (λ k. runs_in k bytes) count
    ∙ ap (λ (l : List Span). record { start = from_be_bytes w32 (slice_range bytes 0 4); len = from_be_bytes w32 (slice_range bytes 4 8) } ∷ l)
    (runs_in_more i (drop 8 bytes) run
    (start ∙ ap (λ k. from_be_bytes w32 (take 4 (drop k bytes))) first ∙ ap (λ t. from_be_bytes w32 (take 4 t)) (sym (drop_twice 8 (8 * i) bytes)))
    (len ∙ ap (λ k. from_be_bytes w32 (take 4 (drop k bytes))) second ∙ ap (λ t. from_be_bytes w32 (take 4 t)) (sym (drop_twice 8 (8 * i + 4) bytes))))

-- so one run more is read
pub run_read : (runs : List Span) (block : List ℕ) (i : ℕ) (run : Span) → i < length runs → take i runs ≡ runs_in i (drop 38 block)
    → run.start ≡ from_be_bytes w32 (slice_range block (38 + 8 * i) (38 + 8 * i + 4)) → run.len ≡ from_be_bytes w32 (slice_range block (38 + 8 * i + 4) (38 + 8 * i + 8))
    → take (i + 1) (set runs i run) ≡ runs_in (i + 1) (drop 38 block)
run_read runs block i run lt before start len =
    let size1 : 38 + 8 * i + 4 - (38 + 8 * i) ≡ 4 = omega arith in
    let size2 : 38 + 8 * i + 8 - (38 + 8 * i + 4) ≡ 4 = omega arith in
    let place : 38 + 8 * i + 4 ≡ 38 + (8 * i + 4) = omega arith in
    take_more_set runs i run lt ∙ ap (λ (l : List Span). l ++ run ∷ []) before ∙ sym (runs_in_more i (drop 38 block) run
    (start ∙ ap (λ k. from_be_bytes w32 (take k (drop (38 + 8 * i) block))) size1 ∙ ap (λ t. from_be_bytes w32 (take 4 t)) (sym (drop_twice 38 (8 * i) block)))
    (len ∙ ap (λ k. from_be_bytes w32 (take k (drop (38 + 8 * i + 4) block))) size2 ∙ ap (λ k. from_be_bytes w32 (take 4 (drop k block))) place
    ∙ ap (λ t. from_be_bytes w32 (take 4 t)) (sym (drop_twice 38 (8 * i + 4) block))))

-- a block whose fields break a rule by themselves is none of a slot in use
pub unkept : (size : ℕ) (block : List ℕ) (read : Option Slot) → read ≡ None → (is_area size (area_in block) ≡ true → IsSome read) → is_used size block ≡ false
unkept size block read none some = by (is_area size (area_in block)) refl
  where
    by : (b : Bool) → is_area size (area_in block) ≡ b → (b && bytes_eq block (area_bytes (area_in block))) ≡ false
    by false is = refl
    by true is = absurd (cc (subst (λ (o : Option Slot). IsSome o) none (some is)))

-- nor is one that is another than the spelling of its fields
pub unspelled : (size : ℕ) (block : List ℕ) (slot : Slot) (spelling : List ℕ) → stated slot ≡ area_in block → spelling ≡ area_bytes (stated slot) → bytes_eq spelling block ≡ false → is_used size block ≡ false
unspelled size block slot spelling fields spelled other = by (is_area size (area_in block)) (bytes_eq block (area_bytes (area_in block))) refl
  where
    by : (a b : Bool) → bytes_eq block (area_bytes (area_in block)) ≡ b → (a && b) ≡ false
    by false b is = refl
    by true false is = refl
    by true true is = absurd (false≢true (sym other ∙ (bytes_eq-Decides spelling block).1 (spelled ∙ ap area_bytes fields ∙ sym ((bytes_eq-Decides block (area_bytes (area_in block))).0 is))))
