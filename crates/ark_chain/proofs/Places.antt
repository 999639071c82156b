-- Places that a survey looks at, one behind another.
use Rattle.std.proofs.Common.{◌≡◌, ℕ, zero, suc, ◌+◌, ◌-◌, ◌≤◌, List, [], ◌∷◌, ◌++◌, take, refl, sym, ◌∙◌, ap, subst, arith, append_assoc, append-nil}
use Rattle.std.proofs.lemmas.List.Sums.{sum_by_push, sum_by-cons}
use Rattle.ark_entry.specs.Entry.{entry_blocks}
use Rattle.ark_entry.proofs.Readings.{some_block}
use Rattle.ark_chain.specs.Survey.{last_of, ends_of, all_ends, blocks_used, Rise}

rise_from : (u m : ℕ) (places : List ℕ) (end : ℕ) → u ≤ m → Rise m places end → Rise u places end
rise_from u m [] end le r = omega (arith, le, r)
rise_from u m (v ∷ places) end le r = (omega (arith, le, r.0), r.1)

pub rise_more : (u : ℕ) (xs ys : List ℕ) (m end : ℕ) → Rise u xs m → Rise m ys end → Rise u (xs ++ ys) end
rise_more u [] ys m end first rest = rise_from u m ys end first rest
rise_more u (v ∷ xs) ys m end first rest = (first.0, rise_more (v + 1) xs ys m end first.1 rest)

pub rise_wide : (u : ℕ) (places : List ℕ) (end far : ℕ) → end ≤ far → Rise u places end → Rise u places far
rise_wide u [] end far le r = omega (arith, le, r)
rise_wide u (v ∷ places) end far le r = (r.0, rise_wide (v + 1) places end far le r.1)

last_rises : (u n : ℕ) → Rise (u + 1) (last_of u n) (u + suc n)
last_rises u zero = omega arith
last_rises u (suc n) = (omega arith, omega arith)

pub ends_rise : (u len : ℕ) → Rise u (ends_of u len) (u + entry_blocks len)
ends_rise u len =
    let b : 1 ≤ entry_blocks len = some_block len in
    let e : suc (entry_blocks len - 1) ≡ entry_blocks len = omega (arith, b) in
    (omega arith, subst (λ (n : ℕ). Rise (u + 1) (last_of u (entry_blocks len - 1)) (u + n)) e (last_rises u (entry_blocks len - 1)))

pub last_none : (u n : ℕ) → n ≡ 0 → last_of u n ≡ []
last_none u zero is = refl
last_none u (suc n) is = absurd (omega (arith, is))

pub last_some : (u n : ℕ) → 1 ≤ n → last_of u n ≡ (u + n) ∷ []
last_some u zero le = absurd (omega (arith, le))
last_some u (suc n) le = refl

two_last : (u n : ℕ) → take 1 (last_of u n) ≡ last_of u n
two_last u zero = refl
two_last u (suc n) = refl

-- an entry has no more than two ends
pub two_ends : (u len : ℕ) → take 2 (ends_of u len) ≡ ends_of u len
two_ends u len = ap (λ (l : List ℕ). u ∷ l) (two_last u (entry_blocks len - 1))

pub ends_more : (u : ℕ) (lengths : List ℕ) (len : ℕ) → all_ends u (lengths ++ len ∷ []) ≡ all_ends u lengths ++ ends_of (u + blocks_used lengths) len
ends_more u [] len =
    let e : u ≡ u + blocks_used [] = omega arith in
    append-nil (ends_of u len) ∙ ap (λ v. ends_of v len) e
ends_more u (l ∷ ls) len =
    let e : u + entry_blocks l + blocks_used ls ≡ u + blocks_used (l ∷ ls) = omega (arith, sum_by-cons entry_blocks l ls) in
    ap (λ (t : List ℕ). ends_of u l ++ t) (ends_more (u + entry_blocks l) ls len)
    ∙ sym (append_assoc (ends_of u l) (all_ends (u + entry_blocks l) ls) (ends_of (u + entry_blocks l + blocks_used ls) len))
    ∙ ap (λ v. (ends_of u l ++ all_ends (u + entry_blocks l) ls) ++ ends_of v len) e

-- the same from the start on
pub all_ends_more : (lengths : List ℕ) (len used : ℕ) → used ≡ blocks_used lengths → all_ends 0 (lengths ++ len ∷ []) ≡ all_ends 0 lengths ++ ends_of used len
all_ends_more lengths len used is =
    let e : 0 + blocks_used lengths ≡ used = omega (arith, is) in
    ends_more 0 lengths len ∙ ap (λ v. all_ends 0 lengths ++ ends_of v len) e

pub blocks_more : (lengths : List ℕ) (len : ℕ) → blocks_used (lengths ++ len ∷ []) ≡ blocks_used lengths + entry_blocks len
blocks_more lengths len = sum_by_push entry_blocks lengths len
