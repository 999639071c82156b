-- How many blocks spans have.
use Rattle.std.proofs.Common.{◌≡◌, ◌≤◌, ◌<◌, ◌-◌, ◌+◌, ◌^◌, inl, inr, ⊎_elim, ℕ, List, [], ◌∷◌, ◌++◌, length, get_or, not, true, length-append, arith, refl, sym, ◌∙◌, ap, subst, Contains}
use Rattle.std.specs.Prelude.{All, nat_le, ◌==◌}
use Rattle.std.specs.List.{range_with_len, list_all, IsDistinct}
use Rattle.std.proofs.lemmas.Map.Steps.{length-le_from_distinct_below}
use Rattle.std.proofs.lemmas.Bool.{and_parts, and_from, or_left, or_right, leb-true, le-leb, ne_eqb, cases_lt}
use Rattle.std.proofs.lemmas.Bool.Decides.{Decides-eqb}
use Rattle.std.proofs.lemmas.Map.Made.{is_member-Decides}
use Rattle.std.proofs.lemmas.Map.Keys.{IsDistinct-from_apart}
use Rattle.std.proofs.lemmas.List.{get_or_default}
use Rattle.std.proofs.lemmas.List.Elements.{Contains-get_or, Contains-append_cases}
use Rattle.std.proofs.Math.ListN.{get_or-append}
use Rattle.std.proofs.Math.Seq.{get_or-append_right}
use Rattle.ark_base.specs.declared.block.Span.{Span}
use Rattle.ark_extents.specs.Blocks.{blocks_of, runs_of, AreDistinct, ShareNoBlock}
use Rattle.ark_extents.specs.Runs.{are_spans, are_apart, share_none, are_longest, ends_before, is_count, fits}
use Rattle.ark_extents.proofs.RunLemmas.{AreLongest, blocks_of-runs_of, longest-runs_of, length-blocks_of}
use Rattle.ark_extents.specs.Free.{HasBlock, AnyHas}
use Rattle.ark_extents.proofs.Holding.{has_contained, contains_had, range_contains, distinct_from, distinct_append}

-- distinct numbers below a bound are no more than it
pub length-below : (bound : ℕ) (ns : List ℕ) → AreDistinct ns → ((n : ℕ) → Contains ns n → n < bound) → length ns ≤ bound
length-below bound ns distinct below =
    let apart : IsDistinct (λ x y. x == y) ns = IsDistinct-from_apart (λ x y. x == y) ns (λ i j d lt in_list. ne_eqb (get_or ns i d) (get_or ns j d)
    (λ e. let same : i ≡ j = distinct i j (omega arith) in_list (get_or_default ns i 0 d (omega arith) ∙ e ∙ get_or_default ns j d 0 in_list) in omega arith)) in
    length-le_from_distinct_below ns bound apart (λ q h. below q ((is_member-Decides Decides-eqb ns q).0 h))

-- the parts of the test
pub record AreSpans (runs : List Span) : Type 0 where
  pub count : is_count (length runs) ≡ true
  pub fit : list_all fits runs ≡ true
  pub shared : share_none runs ≡ true
  pub longest : are_longest runs ≡ true

pub spans_parts : (runs : List Span) → are_spans runs ≡ true → AreSpans runs
spans_parts runs h =
    let outer = and_parts _ (are_longest runs) h in
    let middle = and_parts _ (share_none runs) outer.0 in
    let inner = and_parts (is_count (length runs)) (list_all fits runs) middle.0 in
    record { count = inner.0; fit = inner.1; shared = middle.1; longest = outer.1 }

fit_below : (runs : List Span) (n : ℕ) → list_all fits runs ≡ true → AnyHas runs n → n < 2 ^ 32 - 1
fit_below [] n h a = absurd a
fit_below (run ∷ runs) n h (inl a) =
    let p = and_parts (fits run) (list_all fits runs) h in
    let e = leb-true (run.start + run.len) (2 ^ 32 - 1) (and_parts (nat_le 1 run.len) (nat_le (run.start + run.len) (2 ^ 32 - 1)) p.0).1 in
    omega (arith, a.1, e)
fit_below (run ∷ runs) n h (inr a) = fit_below runs n (and_parts (fits run) (list_all fits runs) h).1 a

pub distinct_blocks : (runs : List Span) → are_spans runs ≡ true → AreDistinct (blocks_of runs)
distinct_blocks runs h = distinct_from runs (spans_parts runs h).shared

pub below_end : (runs : List Span) (n : ℕ) → are_spans runs ≡ true → Contains (blocks_of runs) n → n < 2 ^ 32 - 1
below_end runs n h has = fit_below runs n (spans_parts runs h).fit (has_contained runs n has)

pub blocks_within : (runs : List Span) → are_spans runs ≡ true → All (λ n. n < 2 ^ 32 - 1) (blocks_of runs)
blocks_within runs h k d lt = below_end runs (get_or (blocks_of runs) k d) h (Contains-get_or (blocks_of runs) k d lt)

pub count_below : (runs : List Span) → are_spans runs ≡ true → length (blocks_of runs) ≤ 2 ^ 32 - 1
count_below runs h = length-below (2 ^ 32 - 1) (blocks_of runs) (distinct_blocks runs h) (λ n has. below_end runs n h has)

longest_true : (runs : List Span) → AreLongest runs → are_longest runs ≡ true
longest_true [] h = refl
longest_true (run ∷ []) h = refl
longest_true (run ∷ next ∷ runs) h =
    and_from (ends_before run (next ∷ runs)) (are_longest (next ∷ runs)) (ap not (ne_eqb (run.start + run.len) next.start h.1)) (longest_true (next ∷ runs) h.2)

fit_true : (runs : List Span) → AreLongest runs → ((n : ℕ) → AnyHas runs n → n < 2 ^ 32 - 1) → list_all fits runs ≡ true
fit_true [] h below = refl
fit_true (run ∷ runs) h below =
    let last : run.start + run.len - 1 < 2 ^ 32 - 1 = below (run.start + run.len - 1) (inl (omega (arith, h.0), omega (arith, h.0))) in
    and_from (fits run) (list_all fits runs)
    (and_from (nat_le 1 run.len) (nat_le (run.start + run.len) (2 ^ 32 - 1)) (le-leb 1 run.len h.0) (le-leb (run.start + run.len) (2 ^ 32 - 1) (omega (arith, last))))
    (fit_true runs h.2 (λ n has. below n (inr has)))

apart_true : (r s : Span) → 1 ≤ r.len → 1 ≤ s.len → ((n : ℕ) → HasBlock r n → HasBlock s n → ⊥) → are_apart r s ≡ true
apart_true r s lr ls none = elim (cases_lt s.start (r.start + r.len)) [
  | inr before ↦ or_left (nat_le (r.start + r.len) s.start) (nat_le (s.start + s.len) r.start) (le-leb (r.start + r.len) s.start before)
  | inl reaches ↦ elim (cases_lt r.start (s.start + s.len)) [
    | inr after ↦ or_right (nat_le (r.start + r.len) s.start) (nat_le (s.start + s.len) r.start) (le-leb (s.start + s.len) r.start after)
    | inl back ↦ absurd (elim (cases_lt r.start s.start) [
      | inl a ↦ none s.start (omega arith, reaches) (omega arith, omega arith)
      | inr a ↦ none r.start (omega arith, omega arith) (a, back)
    ])
  ]
]

all_apart : (run : Span) (runs : List Span) → 1 ≤ run.len → AreLongest runs → ((n : ℕ) → HasBlock run n → AnyHas runs n → ⊥) → list_all (λ s. are_apart run s) runs ≡ true
all_apart run [] some h none = refl
all_apart run (s ∷ runs) some h none =
    and_from (are_apart run s) (list_all (λ s. are_apart run s) runs) (apart_true run s some h.0 (λ n a b. none n a (inl b))) (all_apart run runs some h.2 (λ n a b. none n a (inr b)))

-- of a list with no block twice, the first part and the rest
pub distinct_apart : (xs ys : List ℕ) → AreDistinct (xs ++ ys) → ShareNoBlock xs ys
distinct_apart xs ys d n a b =
    let i : a.0 < length (xs ++ ys) = omega (arith, length-append xs ys, a.1) in
    let k : length xs + b.0 < length (xs ++ ys) = omega (arith, length-append xs ys, b.1) in
    let back : length xs + b.0 - length xs ≡ b.0 = omega arith in
    let left : get_or (xs ++ ys) a.0 0 ≡ n = get_or-append xs ys 0 a.0 a.1 ∙ get_or_default xs a.0 0 n a.1 ∙ a.2 in
    let right : get_or (xs ++ ys) (length xs + b.0) 0 ≡ n = get_or-append_right xs ys (length xs + b.0) 0 (omega arith) ∙ ap (λ m. get_or ys m 0) back ∙ get_or_default ys b.0 0 n b.1 ∙ b.2 in
    let same : a.0 ≡ length xs + b.0 = d a.0 (length xs + b.0) i k (left ∙ sym right) in
    omega (arith, same, a.1)

distinct_rest : (xs ys : List ℕ) → AreDistinct (xs ++ ys) → AreDistinct ys
distinct_rest xs ys d i k li lk e =
    let bi : length xs + i - length xs ≡ i = omega arith in
    let bk : length xs + k - length xs ≡ k = omega arith in
    let same : length xs + i ≡ length xs + k = d (length xs + i) (length xs + k) (omega (arith, length-append xs ys, li)) (omega (arith, length-append xs ys, lk))
    (get_or-append_right xs ys (length xs + i) 0 (omega arith) ∙ ap (λ m. get_or ys m 0) bi ∙ e ∙ sym (get_or-append_right xs ys (length xs + k) 0 (omega arith) ∙ ap (λ m. get_or ys m 0) bk)) in
    omega (arith, same)

shared_true : (runs : List Span) → AreLongest runs → AreDistinct (blocks_of runs) → share_none runs ≡ true
shared_true [] h d = refl
shared_true (run ∷ runs) h d =
    let apart = distinct_apart (range_with_len run.start run.len) (blocks_of runs) d in
    and_from (list_all (λ s. are_apart run s) runs) (share_none runs)
    (all_apart run runs h.0 h.2 (λ n a b. apart n (range_contains run.start run.len n a.0 a.1) (contains_had runs n b)))
    (shared_true runs h.2 (distinct_rest (range_with_len run.start run.len) (blocks_of runs) d))

some_runs : (blocks : List ℕ) → 1 ≤ length blocks → 1 ≤ length (runs_of blocks)
some_runs blocks some = by (runs_of blocks) (blocks_of-runs_of blocks)
  where
    by : (runs : List Span) → blocks_of runs ≡ blocks → 1 ≤ length runs
    by [] e = let none : length {A = ℕ} [] ≡ length blocks = ap length e in absurd (omega (arith, none))
    by (run ∷ runs) e = omega arith

-- the longest runs of blocks are spans, where they are at most 16 and no block is there twice
pub spans_from : (blocks : List ℕ) → 1 ≤ length blocks → AreDistinct blocks → ((n : ℕ) → Contains blocks n → n < 2 ^ 32 - 1) → length (runs_of blocks) ≤ 16 → are_spans (runs_of blocks) ≡ true
spans_from blocks some distinct below few =
    let runs = runs_of blocks in
    let longest = longest-runs_of blocks in
    let same = blocks_of-runs_of blocks in
    and_from _ (are_longest runs)
    (and_from _ (share_none runs)
    (and_from (is_count (length runs)) (list_all fits runs)
    (and_from (nat_le 1 (length runs)) (nat_le (length runs) 16) (le-leb 1 (length runs) (some_runs blocks some)) (le-leb (length runs) 16 few))
    (fit_true runs longest (λ n has. below n (subst (λ (bs : List ℕ). Contains bs n) same (contains_had runs n has)))))
    (shared_true runs longest (subst AreDistinct (sym same) distinct)))
    (longest_true runs longest)

pub spans_few : (runs : List Span) → are_spans runs ≡ true → length runs ≤ 16
spans_few runs h = leb-true (length runs) 16 (and_parts (nat_le 1 (length runs)) (nat_le (length runs) 16) (spans_parts runs h).count).1

pub spans_some : (runs : List Span) → are_spans runs ≡ true → 1 ≤ length (blocks_of runs)
spans_some runs h =
    let s = spans_parts runs h in
    by runs (leb-true 1 (length runs) (and_parts (nat_le 1 (length runs)) (nat_le (length runs) 16) s.count).0) s.fit
  where
    by : (rs : List Span) → 1 ≤ length rs → list_all fits rs ≡ true → 1 ≤ length (blocks_of rs)
    by [] some fit = absurd (omega arith)
    by (r ∷ rs) some fit =
        let one = leb-true 1 r.len (and_parts (nat_le 1 r.len) (nat_le (r.start + r.len) (2 ^ 32 - 1)) (and_parts (fits r) (list_all fits rs) fit).0).0 in
        omega (arith, length-blocks_of r rs, one)

-- spans one after the other
pub joined_spans : (xs ys : List Span) → are_spans xs ≡ true → are_spans ys ≡ true → ShareNoBlock (blocks_of xs) (blocks_of ys) → length (runs_of (blocks_of xs ++ blocks_of ys)) ≤ 16
    → are_spans (runs_of (blocks_of xs ++ blocks_of ys)) ≡ true
joined_spans xs ys hx hy apart few =
    spans_from (blocks_of xs ++ blocks_of ys) (omega (arith, length-append (blocks_of xs) (blocks_of ys), spans_some xs hx))
    (distinct_append (blocks_of xs) (blocks_of ys) (distinct_blocks xs hx) (distinct_blocks ys hy) apart)
    (λ n has. ⊎_elim (λ a. below_end xs n hx a) (λ b. below_end ys n hy b) (Contains-append_cases (blocks_of xs) (blocks_of ys) n has))
    few
