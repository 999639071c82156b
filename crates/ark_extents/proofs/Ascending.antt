-- The blocks of runs in rising order ascend.
use Rattle.std.proofs.Common.{◌≡◌, ◌≤◌, ◌<◌, ◌-◌, ◌+◌, ◌^◌, inl, inr, ℕ, zero, suc, List, [], ◌∷◌, ◌++◌, length, get_or, true, arith, refl, ap, subst}
use Rattle.std.specs.Prelude.{All, nat_le}
use Rattle.std.specs.List.{range_with_len, list_all}
use Rattle.std.specs.List.Sorted.{IsStrictlyIncreasing}
use Rattle.std.proofs.lemmas.Bool.{and_from, le-leb}
use Rattle.std.proofs.lemmas.List.Elements.{Contains-get_or}
use Rattle.ark_base.specs.declared.block.Span.{Span}
use Rattle.ark_extents.specs.Blocks.{blocks_of, AreDistinct}
use Rattle.ark_extents.specs.Runs.{fits}
use Rattle.ark_extents.specs.Free.{AreRising, AnyHas}
use Rattle.ark_extents.proofs.RunLemmas.{AreLongest, BeginsNotAt, length-blocks_of}
use Rattle.ark_extents.proofs.Holding.{has_contained}

-- numbers from n on, each below the next
abbrev pub Ascend : ℕ → List ℕ → Type 0
Ascend n [] = Unit {0}
Ascend n (x ∷ xs) = (n ≤ x) × Ascend (x + 1) xs

ascend_weaker : (m n : ℕ) (xs : List ℕ) → n ≤ m → Ascend m xs → Ascend n xs
ascend_weaker m n [] le h = tt
ascend_weaker m n (x ∷ xs) le h = (omega (arith, h.0), h.1)

ascend_range : (s n : ℕ) (rest : List ℕ) → Ascend (s + n) rest → Ascend s (range_with_len s n ++ rest)
ascend_range s zero rest h = ascend_weaker (s + zero) s rest (omega arith) h
ascend_range s (suc n) rest h =
    let same : s + suc n ≡ (s + 1) + n = omega arith in
    (omega arith, ascend_range (s + 1) n rest (subst (λ k. Ascend k rest) same h))

pub ascend_blocks : (n : ℕ) (runs : List Span) → AreRising n runs → Ascend n (blocks_of runs)
ascend_blocks n [] h = tt
ascend_blocks n (run ∷ runs) h = ascend_weaker run.start n (blocks_of (run ∷ runs)) h.0
    (ascend_range run.start run.len (blocks_of runs) (ascend_weaker (run.start + run.len + 1) (run.start + run.len) (blocks_of runs) (omega arith) (ascend_blocks (run.start + run.len + 1) runs h.3)))

pub increasing : (n : ℕ) (xs : List ℕ) → Ascend n xs → IsStrictlyIncreasing xs
increasing n [] h k lt = absurd (omega arith)
increasing n (x ∷ []) h k lt = absurd (omega arith)
increasing n (x ∷ y ∷ xs) h zero lt = omega (arith, h.1)
increasing n (x ∷ y ∷ xs) h (suc k) lt = let e : suc k + 1 ≡ suc (k + 1) = omega arith in rw e (increasing (x + 1) (y ∷ xs) h.1 k (omega arith))

ascend_low : (n : ℕ) (xs : List ℕ) (k : ℕ) → Ascend n xs → k < length xs → n ≤ get_or xs k 0
ascend_low n [] k h lt = absurd (omega arith)
ascend_low n (x ∷ xs) zero h lt = h.0
ascend_low n (x ∷ xs) (suc k) h lt = let low = ascend_low (x + 1) xs k h.1 (omega arith) in omega (arith, h.0, low)

pub ascend_distinct : (n : ℕ) (xs : List ℕ) → Ascend n xs → AreDistinct xs
ascend_distinct n [] h i k li lk e = absurd (omega arith)
ascend_distinct n (x ∷ xs) h zero zero li lk e = refl
ascend_distinct n (x ∷ xs) h zero (suc k) li lk e = let low = ascend_low (x + 1) xs k h.1 (omega arith) in absurd (omega (arith, e, low))
ascend_distinct n (x ∷ xs) h (suc i) zero li lk e = let low = ascend_low (x + 1) xs i h.1 (omega arith) in absurd (omega (arith, e, low))
ascend_distinct n (x ∷ xs) h (suc i) (suc k) li lk e = ap (λ m. suc m) (ascend_distinct (x + 1) xs h.1 i k (omega arith) (omega arith) e)

begins_above : (m n : ℕ) (runs : List Span) → AreRising m runs → n < m → BeginsNotAt n runs
begins_above m n [] h lt = tt
begins_above m n (run ∷ runs) h lt = λ e. omega (arith, h.0, e, lt)

pub longest_rising : (n : ℕ) (runs : List Span) → AreRising n runs → AreLongest runs
longest_rising n [] h = tt
longest_rising n (run ∷ runs) h =
    (h.1, begins_above (run.start + run.len + 1) (run.start + run.len) runs h.3 (omega arith), longest_rising (run.start + run.len + 1) runs h.3)

pub rising_below : (m : ℕ) (runs : List Span) (n : ℕ) → AreRising m runs → AnyHas runs n → n < 2 ^ 32 - 1
rising_below m [] n h a = absurd a
rising_below m (run ∷ runs) n h (inl a) = omega (arith, h.2, a.1)
rising_below m (run ∷ runs) n h (inr a) = rising_below (run.start + run.len + 1) runs n h.3 a

pub rising_fits : (m : ℕ) (runs : List Span) → AreRising m runs → list_all fits runs ≡ true
rising_fits m [] h = refl
rising_fits m (run ∷ runs) h = and_from (fits run) (list_all fits runs)
    (and_from (nat_le 1 run.len) (nat_le (run.start + run.len) (2 ^ 32 - 1)) (le-leb 1 run.len h.1) (le-leb (run.start + run.len) (2 ^ 32 - 1) h.2))
    (rising_fits (run.start + run.len + 1) runs h.3)

length_from : (n : ℕ) (runs : List Span) → n ≤ 2 ^ 32 → AreRising n runs → n + length (blocks_of runs) ≤ 2 ^ 32
length_from n [] le h = omega arith
length_from n (run ∷ runs) le h =
    let rest = length_from (run.start + run.len + 1) runs (omega (arith, h.2)) h.3 in
    omega (arith, length-blocks_of run runs, rest, h.0)

-- there are fewer than 2 ^ 32
pub length_rising : (n : ℕ) (runs : List Span) → AreRising n runs → length (blocks_of runs) < 2 ^ 32
length_rising n [] h = omega arith
length_rising n (run ∷ runs) h =
    let rest = length_from (run.start + run.len + 1) runs (omega (arith, h.2)) h.3 in
    omega (arith, length-blocks_of run runs, rest)

pub blocks_below : (m : ℕ) (runs : List Span) → AreRising m runs → All (λ n. n < 2 ^ 32 - 1) (blocks_of runs)
blocks_below m runs h k d lt = rising_below m runs (get_or (blocks_of runs) k d) h (has_contained runs (get_or (blocks_of runs) k d) (Contains-get_or (blocks_of runs) k d lt))
