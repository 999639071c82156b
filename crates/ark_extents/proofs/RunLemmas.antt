-- Runs, and the blocks that they are.
use Rattle.std.proofs.Common.{◌≡◌, ◌≤◌, ◌<◌, ◌-◌, ◌+◌, ℕ, zero, suc, Bool, List, [], ◌∷◌, ◌++◌, length, take, drop, true, false, ◌==◌, arith, refl, sym, ◌∙◌, ap, subst, Some, slice_get, get_or, set, length-append, append_assoc, append-nil, if◌then◌else◌}
use Rattle.std.specs.List.{range_with_len, list_all}
use Rattle.std.proofs.Math.Seq.{take-append_seam}
use Rattle.std.proofs.lemmas.List.{drop-replicate, take_more}
use Rattle.std.proofs.lemmas.List.FromFn.{length-range_with_len}
use Rattle.std.proofs.lemmas.Bool.{and_parts, not-true, eqb-false, eqb-true, leb-true, eq-eqb, ne_eqb}
use Rattle.ark_base.specs.declared.block.Span.{Span}
use Rattle.ark_extents.specs.Blocks.{blocks_of, runs_of, with_block}
use Rattle.ark_extents.specs.Runs.{are_spans, are_longest, ends_before, fits, padded, no_run}

range_at : (s n k : ℕ) (rest : List ℕ) → k < n → slice_get (range_with_len s n ++ rest) k ≡ Some (s + k)
range_at s zero k rest h = absurd (omega arith)
range_at s (suc n) zero rest h = let e : s ≡ s + zero = omega arith in ap (λ (x : ℕ). Some x) e
range_at s (suc n) (suc k) rest h = let e : (s + 1) + k ≡ s + suc k = omega arith in range_at (s + 1) n k rest (omega arith) ∙ ap (λ (x : ℕ). Some x) e

range_past : (s n k : ℕ) (rest : List ℕ) → n ≤ k → slice_get (range_with_len s n ++ rest) k ≡ slice_get rest (k - n)
range_past s zero k rest h = let e : k ≡ k - zero = omega arith in ap (slice_get rest) e
range_past s (suc n) zero rest h = absurd (omega arith)
range_past s (suc n) (suc k) rest h = let e : k - n ≡ suc k - suc n = omega arith in range_past (s + 1) n k rest (omega arith) ∙ ap (slice_get rest) e

-- a place within the first run, and one past it
pub at_first : (rs : List Span) (r : Span) (others : List Span) (k : ℕ) → rs ≡ r ∷ others → k < r.len → Some (r.start + k) ≡ slice_get (blocks_of rs) k
at_first rs r others k e h = sym (ap (λ l. slice_get (blocks_of l) k) e ∙ range_at r.start r.len k (blocks_of others) h)

pub past_first : (rs : List Span) (r : Span) (others : List Span) (k : ℕ) → rs ≡ r ∷ others → r.len ≤ k → slice_get (blocks_of others) (k - r.len) ≡ slice_get (blocks_of rs) k
past_first rs r others k e h = sym (ap (λ l. slice_get (blocks_of l) k) e ∙ range_past r.start r.len k (blocks_of others) h)

-- the first of these runs does not begin at block n
abbrev pub BeginsNotAt : ℕ → List Span → Type 0
BeginsNotAt n [] = Unit {0}
BeginsNotAt n (run ∷ runs) = n ≡ run.start → ⊥

-- no run is empty, and none begins where the one before it ends
abbrev pub AreLongest : List Span → Type 0
AreLongest [] = Unit {0}
AreLongest (run ∷ runs) = (1 ≤ run.len) × BeginsNotAt (run.start + run.len) runs × AreLongest runs

begins_not : (n : ℕ) (runs : List Span) → BeginsNotAt (n + 1) runs → with_block n runs ≡ record { start = n; len = 1 } ∷ runs
begins_not n [] h = refl
begins_not n (run ∷ runs) h = ap (λ b. if b then record { start = n; len = suc run.len } ∷ runs else record { start = n; len = 1 } ∷ (run ∷ runs)) (ne_eqb (n + 1) run.start h)

begins_at : (n m len : ℕ) (runs : List Span) → n + 1 ≡ m → with_block n (record { start = m; len = len } ∷ runs) ≡ record { start = n; len = suc len } ∷ runs
begins_at n m len runs h = ap (λ b. if b then record { start = n; len = suc len } ∷ runs else record { start = n; len = 1 } ∷ (record { start = m; len = len } ∷ runs)) (eq-eqb (n + 1) m h)

-- a run of n + 1 blocks before other runs
runs_of-range : (s n : ℕ) (rest : List ℕ) (runs : List Span) → runs_of rest ≡ runs → BeginsNotAt (s + suc n) runs
    → runs_of (range_with_len s (suc n) ++ rest) ≡ record { start = s; len = suc n } ∷ runs
runs_of-range s zero rest runs e h =
    let same : s + suc zero ≡ s + 1 = omega arith in
    ap (with_block s) e ∙ begins_not s runs (subst (λ k. BeginsNotAt k runs) same h)
runs_of-range s (suc n) rest runs e h =
    let same : s + suc (suc n) ≡ (s + 1) + suc n = omega arith in
    ap (with_block s) (runs_of-range (s + 1) n rest runs e (subst (λ k. BeginsNotAt k runs) same h)) ∙ begins_at s (s + 1) (suc n) runs refl

cons_run : (s n : ℕ) (rest : List ℕ) (runs : List Span) → 1 ≤ n → runs_of rest ≡ runs → BeginsNotAt (s + n) runs
    → runs_of (range_with_len s n ++ rest) ≡ record { start = s; len = n } ∷ runs
cons_run s zero rest runs some e h = absurd (omega arith)
cons_run s (suc n) rest runs some e h = runs_of-range s n rest runs e h

-- the longest runs of the blocks of longest runs are these
pub runs_of-blocks_of : (runs : List Span) → AreLongest runs → runs_of (blocks_of runs) ≡ runs
runs_of-blocks_of [] h = refl
runs_of-blocks_of (run ∷ runs) h = cons_run run.start run.len (blocks_of runs) runs h.0 (runs_of-blocks_of runs h.2) h.1

begins_not_from : (run : Span) (runs : List Span) → ends_before run runs ≡ true → BeginsNotAt (run.start + run.len) runs
begins_not_from run [] h = tt
begins_not_from run (next ∷ runs) h = eqb-false (run.start + run.len) next.start (not-true (run.start + run.len == next.start) h)

pub longest_from : (runs : List Span) → list_all fits runs ≡ true → are_longest runs ≡ true → AreLongest runs
longest_from [] f l = tt
longest_from (run ∷ runs) f l =
    let fs = and_parts (fits run) (list_all fits runs) f in
    let ls = and_parts (ends_before run runs) (are_longest runs) l in
    (leb-true 1 run.len (and_parts _ _ fs.0).0, begins_not_from run runs ls.0, longest_from runs fs.1 ls.1)

abbrev none : List Span
none = no_run ∷ no_run ∷ no_run ∷ no_run ∷ no_run ∷ no_run ∷ no_run ∷ no_run ∷ no_run ∷ no_run ∷ no_run ∷ no_run ∷ no_run ∷ no_run ∷ no_run ∷ no_run ∷ []

pub spans_longest : (runs : List Span) → are_spans runs ≡ true → AreLongest runs
spans_longest runs h =
    let outer = and_parts _ (are_longest runs) h in
    let middle = and_parts _ _ outer.0 in
    let inner = and_parts _ (list_all fits runs) middle.0 in
    longest_from runs inner.1 outer.1

-- runs, put at the start of 16 empty ones, keep the facts of `Spans`
pub built : (t b : List Span) → b ≡ t → are_spans t ≡ true
    → let w = b ++ drop {A = Span} (length t) none in
    (length t ≡ length (take (length t) w)) × (w ≡ padded (take (length t) w)) × (are_spans (take (length t) w) ≡ true) × (runs_of (blocks_of (take (length t) w)) ≡ take (length t) w)
built t b e h = rw (e, take-append_seam t (drop (length t) none)) (refl, ap (λ z. t ++ z) (drop-replicate (length t) 16 no_run), h, runs_of-blocks_of t (spans_longest t h))

pub built_runs : (t b : List Span) → b ≡ t → are_spans t ≡ true → runs_of (blocks_of (take (length t) (b ++ drop {A = Span} (length t) none))) ≡ t
built_runs t b e h = rw (e, take-append_seam t (drop (length t) none)) (runs_of-blocks_of t (spans_longest t h))

pub length-blocks_of : (run : Span) (runs : List Span) → length (blocks_of (run ∷ runs)) ≡ run.len + length (blocks_of runs)
length-blocks_of run runs =
    length-append (range_with_len run.start run.len) (blocks_of runs) ∙ ap (λ n. n + length (blocks_of runs)) (length-range_with_len run.start run.len)

-- the blocks from place i on
pub length-rest : (runs : List Span) (i : ℕ) (d : Span) → i < length runs
    → length (blocks_of (drop i runs)) ≡ (get_or runs i d).len + length (blocks_of (drop (i + 1) runs))
length-rest [] i d lt = absurd (omega arith)
length-rest (run ∷ runs) zero d lt = length-blocks_of run runs
length-rest (run ∷ runs) (suc i) d lt = let e : suc i + 1 ≡ suc (i + 1) = omega arith in rw e (length-rest runs i d (omega arith))

pub length-none_left : (runs : List Span) (i : ℕ) → length runs ≤ i → length (blocks_of (drop i runs)) ≡ 0
length-none_left [] zero lt = refl
length-none_left [] (suc i) lt = refl
length-none_left (run ∷ runs) zero lt = absurd (omega arith)
length-none_left (run ∷ runs) (suc i) lt = length-none_left runs i (omega arith)

pub range-append : (s a b : ℕ) → range_with_len s (a + b) ≡ range_with_len s a ++ range_with_len (s + a) b
range-append s zero b = let e : zero + b ≡ b = omega arith in let f : s + zero ≡ s = omega arith in rw (e, f) refl
range-append s (suc a) b =
    let e : suc a + b ≡ suc (a + b) = omega arith in
    let f : s + suc a ≡ (s + 1) + a = omega arith in
    rw (e, f) (ap (λ t. s ∷ t) (range-append (s + 1) a b))

pub blocks_of-append : (xs ys : List Span) → blocks_of (xs ++ ys) ≡ blocks_of xs ++ blocks_of ys
blocks_of-append [] ys = refl
blocks_of-append (x ∷ xs) ys = ap (λ t. range_with_len x.start x.len ++ t) (blocks_of-append xs ys) ∙ sym (append_assoc (range_with_len x.start x.len) (blocks_of xs) (blocks_of ys))

pub blocks_of-one : (run : Span) → blocks_of (run ∷ []) ≡ range_with_len run.start run.len
blocks_of-one run = append-nil (range_with_len run.start run.len)

pub blocks_of-more : (runs : List Span) (i : ℕ) (d : Span) → i < length runs
    → blocks_of (take (i + 1) runs) ≡ blocks_of (take i runs) ++ range_with_len (get_or runs i d).start (get_or runs i d).len
blocks_of-more runs i d lt =
    ap blocks_of (take_more runs i d lt) ∙ blocks_of-append (take i runs) (get_or runs i d ∷ []) ∙ ap (λ t. blocks_of (take i runs) ++ t) (blocks_of-one (get_or runs i d))

-- a block before runs
blocks_of-with_block : (n : ℕ) (runs : List Span) → blocks_of (with_block n runs) ≡ n ∷ blocks_of runs
blocks_of-with_block n [] = refl
blocks_of-with_block n (run ∷ runs) = by (n + 1 == run.start) refl
  where
    by : (b : Bool) → (n + 1 == run.start) ≡ b
        → blocks_of (if b then record { start = n; len = suc run.len } ∷ runs else record { start = n; len = 1 } ∷ (run ∷ runs)) ≡ n ∷ blocks_of (run ∷ runs)
    by true e = ap (λ s. n ∷ (range_with_len s run.len ++ blocks_of runs)) (eqb-true (n + 1) run.start e)
    by false e = refl

-- the runs of blocks have these blocks
pub blocks_of-runs_of : (blocks : List ℕ) → blocks_of (runs_of blocks) ≡ blocks
blocks_of-runs_of [] = refl
blocks_of-runs_of (n ∷ blocks) = blocks_of-with_block n (runs_of blocks) ∙ ap (λ t. n ∷ t) (blocks_of-runs_of blocks)

longest-with_block : (n : ℕ) (runs : List Span) → AreLongest runs → AreLongest (with_block n runs)
longest-with_block n [] h = (omega arith, tt, tt)
longest-with_block n (run ∷ runs) h = by (n + 1 == run.start) refl
  where
    by : (b : Bool) → (n + 1 == run.start) ≡ b
        → AreLongest (if b then record { start = n; len = suc run.len } ∷ runs else record { start = n; len = 1 } ∷ (run ∷ runs))
    by true e =
        let at = eqb-true (n + 1) run.start e in
        let same : run.start + run.len ≡ n + suc run.len = omega (arith, at) in
        (omega arith, subst (λ k. BeginsNotAt k runs) same h.1, h.2)
    by false e = (omega arith, eqb-false (n + 1) run.start e, h)

-- and are the longest
pub longest-runs_of : (blocks : List ℕ) → AreLongest (runs_of blocks)
longest-runs_of [] = tt
longest-runs_of (n ∷ blocks) = longest-with_block n (runs_of blocks) (longest-runs_of blocks)

pub longest_kept : (runs : List Span) → runs_of (blocks_of runs) ≡ runs → AreLongest runs
longest_kept runs e = subst AreLongest e (longest-runs_of (blocks_of runs))

-- the last run, made longer
pub blocks_of-longer : (runs : List Span) (k n : ℕ) (d : Span) → suc k ≡ length runs
    → blocks_of (set runs k (record { start = (get_or runs k d).start; len = (get_or runs k d).len + n })) ≡ blocks_of runs ++ range_with_len ((get_or runs k d).start + (get_or runs k d).len) n
blocks_of-longer [] k n d e = absurd (omega arith)
blocks_of-longer (x ∷ []) zero n d e =
    append-nil (range_with_len x.start (x.len + n)) ∙ range-append x.start x.len n ∙ ap (λ t. t ++ range_with_len (x.start + x.len) n) (sym (append-nil (range_with_len x.start x.len)))
blocks_of-longer (x ∷ []) (suc k) n d e = absurd (omega arith)
blocks_of-longer (x ∷ y ∷ xs) zero n d e = absurd (omega arith)
blocks_of-longer (x ∷ y ∷ xs) (suc k) n d e =
    ap (λ t. range_with_len x.start x.len ++ t) (blocks_of-longer (y ∷ xs) k n d (omega arith))
    ∙ sym (append_assoc (range_with_len x.start x.len) (blocks_of (y ∷ xs)) (range_with_len ((get_or (y ∷ xs) k d).start + (get_or (y ∷ xs) k d).len) n))

begins_longer : (m k n : ℕ) (runs : List Span) (d : Span) → BeginsNotAt m runs → BeginsNotAt m (set runs k (record { start = (get_or runs k d).start; len = (get_or runs k d).len + n }))
begins_longer m k n [] d h = tt
begins_longer m zero n (x ∷ xs) d h = h
begins_longer m (suc k) n (x ∷ xs) d h = h

pub longest_longer : (runs : List Span) (k n : ℕ) (d : Span) → suc k ≡ length runs → AreLongest runs
    → AreLongest (set runs k (record { start = (get_or runs k d).start; len = (get_or runs k d).len + n }))
longest_longer [] k n d e h = absurd (omega arith)
longest_longer (x ∷ []) zero n d e h = (omega (arith, h.0), tt, tt)
longest_longer (x ∷ []) (suc k) n d e h = absurd (omega arith)
longest_longer (x ∷ y ∷ xs) zero n d e h = absurd (omega arith)
longest_longer (x ∷ y ∷ xs) (suc k) n d e h = (h.0, begins_longer (x.start + x.len) k n (y ∷ xs) d h.1, longest_longer (y ∷ xs) k n d (omega arith) h.2)

-- a run that does not go on with the last one
pub longest_more : (runs : List Span) (run : Span) → AreLongest runs → 1 ≤ run.len
    → ((k : ℕ) (d : Span) → suc k ≡ length runs → (get_or runs k d).start + (get_or runs k d).len ≡ run.start → ⊥) → AreLongest (runs ++ run ∷ [])
longest_more [] run h some ends = (some, tt, tt)
longest_more (x ∷ []) run h some ends = (h.0, ends 0 x refl, (some, tt, tt))
longest_more (x ∷ y ∷ xs) run h some ends = (h.0, h.1, longest_more (y ∷ xs) run h.2 some (λ k d e. ends (suc k) d (omega arith)))
