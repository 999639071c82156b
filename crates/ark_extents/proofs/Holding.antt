-- Which blocks runs have.
use Rattle.std.proofs.Common.{◌≡◌, ◌≤◌, ◌<◌, ◌-◌, ◌+◌, inl, inr, ⊎_elim, ℕ, List, [], ◌∷◌, ◌++◌, length, get_or, true, arith, sym, ◌∙◌, subst, Contains, length-append}
use Rattle.std.specs.Prelude.{nat_le, nat_lt}
use Rattle.std.specs.List.{range_with_len, list_all, list_any}
use Rattle.std.proofs.lemmas.Bool.{and_parts, and_from, or_cases, or_left, or_right, leb-true, ltb-true, le-leb, lt-ltb, cases_lt}
use Rattle.std.proofs.lemmas.List.FromFn.{length-range_with_len, get_or-range_with_len}
use Rattle.std.proofs.lemmas.List.Elements.{Contains-append_left, Contains-append_right, Contains-append_cases, Contains-get_or}
use Rattle.std.proofs.Math.ListN.{get_or-append}
use Rattle.std.proofs.Math.Seq.{get_or-append_right}
use Rattle.ark_base.specs.declared.block.Span.{Span}
use Rattle.ark_extents.specs.Blocks.{blocks_of, AreDistinct, ShareNoBlock}
use Rattle.ark_extents.specs.Runs.{share_none, are_apart, has}
use Rattle.ark_extents.specs.Free.{HasBlock, AnyHas}

pub range_contains : (s len n : ℕ) → s ≤ n → n < s + len → Contains (range_with_len s len) n
range_contains s len n low high =
    let k : n - s < len = omega arith in
    let is : s + (n - s) ≡ n = omega arith in
    (n - s, omega (arith, length-range_with_len s len), get_or-range_with_len s len (n - s) n k ∙ is)

pub contains_range : (s len n : ℕ) → Contains (range_with_len s len) n → (s ≤ n) × (n < s + len)
contains_range s len n h =
    let k : h.0 < len = omega (arith, h.1, length-range_with_len s len) in
    let is : s + h.0 ≡ n = sym (get_or-range_with_len s len h.0 n k) ∙ h.2 in
    (omega arith, omega arith)

pub has_contained : (runs : List Span) (n : ℕ) → Contains (blocks_of runs) n → AnyHas runs n
has_contained [] n h = absurd (omega (arith, h.1))
has_contained (run ∷ runs) n h =
    ⊎_elim (λ a. inl (contains_range run.start run.len n a)) (λ b. inr (has_contained runs n b)) (Contains-append_cases (range_with_len run.start run.len) (blocks_of runs) n h)

pub contains_had : (runs : List Span) (n : ℕ) → AnyHas runs n → Contains (blocks_of runs) n
contains_had [] n h = absurd h
contains_had (run ∷ runs) n (inl h) = Contains-append_left (range_with_len run.start run.len) (blocks_of runs) n (range_contains run.start run.len n h.0 h.1)
contains_had (run ∷ runs) n (inr h) = Contains-append_right (range_with_len run.start run.len) (blocks_of runs) n (contains_had runs n h)

has_true : (run : Span) (n : ℕ) → has run n ≡ true → HasBlock run n
has_true run n h = let p = and_parts (nat_le run.start n) (nat_lt n (run.start + run.len)) h in (leb-true run.start n p.0, ltb-true n (run.start + run.len) p.1)

true_has : (run : Span) (n : ℕ) → HasBlock run n → has run n ≡ true
true_has run n h = and_from (nat_le run.start n) (nat_lt n (run.start + run.len)) (le-leb run.start n h.0) (lt-ltb n (run.start + run.len) h.1)

any_true : (runs : List Span) (n : ℕ) → list_any (λ run. has run n) runs ≡ true → AnyHas runs n
any_true [] n h = absurd (cc (h))
any_true (run ∷ runs) n h = ⊎_elim (λ a. inl (has_true run n a)) (λ b. inr (any_true runs n b)) (or_cases (has run n) (list_any (λ run. has run n) runs) h)

true_any : (runs : List Span) (n : ℕ) → AnyHas runs n → list_any (λ run. has run n) runs ≡ true
true_any [] n h = absurd h
true_any (run ∷ runs) n (inl h) = or_left (has run n) (list_any (λ run. has run n) runs) (true_has run n h)
true_any (run ∷ runs) n (inr h) = or_right (has run n) (list_any (λ run. has run n) runs) (true_any runs n h)

-- the test on runs is membership in their blocks
pub any_contains : (runs : List Span) (n : ℕ) → list_any (λ run. has run n) runs ≡ true → Contains (blocks_of runs) n
any_contains runs n h = contains_had runs n (any_true runs n h)

pub contains_any : (runs : List Span) (n : ℕ) → Contains (blocks_of runs) n → list_any (λ run. has run n) runs ≡ true
contains_any runs n h = true_any runs n (has_contained runs n h)

-- runs apart from one have none of its blocks
pub none_shared : (run : Span) (runs : List Span) → list_all (λ s. are_apart run s) runs ≡ true → (n : ℕ) → HasBlock run n → AnyHas runs n → ⊥
none_shared run [] h n a b = b
none_shared run (s ∷ runs) h n a (inl b) =
    let p = and_parts (are_apart run s) (list_all (λ s. are_apart run s) runs) h in
    ⊎_elim (λ l. let e : run.start + run.len ≤ s.start = leb-true (run.start + run.len) s.start l in omega (arith, a.1, b.0, e))
    (λ r. let e : s.start + s.len ≤ run.start = leb-true (s.start + s.len) run.start r in omega (arith, a.0, b.1, e))
    (or_cases (nat_le (run.start + run.len) s.start) (nat_le (s.start + s.len) run.start) p.0)
none_shared run (s ∷ runs) h n a (inr b) =
    let p = and_parts (are_apart run s) (list_all (λ s. are_apart run s) runs) h in none_shared run runs p.1 n a b

-- two lists with no block in both, each with none twice
pub distinct_append : (xs ys : List ℕ) → AreDistinct xs → AreDistinct ys → ShareNoBlock xs ys → AreDistinct (xs ++ ys)
distinct_append xs ys dx dy apart i k li lk e = elim (cases_lt i (length xs)) [
  | inl a ↦ elim (cases_lt k (length xs)) [
    | inl b ↦ dx i k a b (sym (get_or-append xs ys 0 i a) ∙ e ∙ get_or-append xs ys 0 k b)
    | inr b ↦ absurd (apart (get_or xs i 0) (Contains-get_or xs i 0 a)
        (subst (λ (n : ℕ). Contains ys n) (sym (sym (get_or-append xs ys 0 i a) ∙ e ∙ get_or-append_right xs ys k 0 b)) (Contains-get_or ys (k - length xs) 0 (omega (arith, lk, length-append xs ys, b)))))
  ]
  | inr a ↦ elim (cases_lt k (length xs)) [
    | inl b ↦ absurd (apart (get_or xs k 0) (Contains-get_or xs k 0 b)
        (subst (λ (n : ℕ). Contains ys n) (sym (get_or-append_right xs ys i 0 a) ∙ e ∙ get_or-append xs ys 0 k b) (Contains-get_or ys (i - length xs) 0 (omega (arith, li, length-append xs ys, a)))))
    | inr b ↦
        let same : i - length xs ≡ k - length xs = dy (i - length xs) (k - length xs) (omega (arith, li, length-append xs ys, a)) (omega (arith, lk, length-append xs ys, b))
        (sym (get_or-append_right xs ys i 0 a) ∙ e ∙ get_or-append_right xs ys k 0 b) in
        omega (arith, a, b, same)
  ]
]

range_distinct : (s len : ℕ) → AreDistinct (range_with_len s len)
range_distinct s len i k li lk e =
    let a : s + i ≡ s + k = sym (get_or-range_with_len s len i 0 (omega (arith, li, length-range_with_len s len))) ∙ e ∙ get_or-range_with_len s len k 0 (omega (arith, lk, length-range_with_len s len)) in
    omega arith

-- runs of which no two share a block have none twice
pub distinct_from : (runs : List Span) → share_none runs ≡ true → AreDistinct (blocks_of runs)
distinct_from [] h = λ i k li lk e. absurd (omega arith)
distinct_from (run ∷ runs) h =
    let p = and_parts (list_all (λ s. are_apart run s) runs) (share_none runs) h in
    distinct_append (range_with_len run.start run.len) (blocks_of runs) (range_distinct run.start run.len) (distinct_from runs p.1)
    (λ n a b. none_shared run runs p.0 n (contains_range run.start run.len n a) (has_contained runs n b))
