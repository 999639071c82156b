-- The blocks that no slot has stand in few runs: each run of a slot ends one of them at most.
use Rattle.std.proofs.Common.{◌≡◌, inl, inr, ℕ, zero, suc, ◌+◌, ◌*◌, ◌-◌, ◌<◌, ◌≤◌, Bool, true, false, not, cond, ◌&&◌, ◌||◌, ◌==◌, List, [], ◌∷◌, length, refl, sym, ◌∙◌, ap, subst, arith, Contains}
use Rattle.std.specs.Prelude.{nat_le, nat_lt, filter as select}
use Rattle.std.specs.List.{range_with_len}
use Rattle.std.proofs.lemmas.Bool.{cases_lt}
use Rattle.std.proofs.lemmas.Bool.Decides.{nat_tests}
use Rattle.std.proofs.lemmas.List.Folds.{list_any-append}
use Rattle.ark_base.specs.declared.block.Span.{Span}
use Rattle.ark_extents.specs.Blocks.{blocks_of, runs_of, with_block}
use Rattle.ark_extents.proofs.RunLemmas.{blocks_of-runs_of}
use Rattle.ark_table.specs.Slots.{Slot}
use Rattle.ark_machine.specs.Plane.{is_granted, free_blocks, max_runs}
use Rattle.ark_machine.specs.Grants.{has_block, SlotsAgree}
use Rattle.ark_held.specs.Totals.{bit}
use Rattle.ark_plane.specs.Shared.{slots_on}
use Rattle.ark_plane.specs.Tables.{table_of}
use Rattle.ark_plane.proofs.Tests.{by_test}
use Rattle.ark_plane.proofs.Freeing.{eq_same}
use Rattle.ark_plane.proofs.Tabling.{slots_counted, slots_most, table_size}

-- at how many of the n numbers from s on a test does not hold that holds at the next
abbrev stops : (ℕ → Bool) → ℕ → ℕ → ℕ
stops g s zero = 0
stops g s (suc n) = bit (not (g s) && g (s + 1)) + stops g (s + 1) n

abbrev left_of : (ℕ → Bool) → ℕ → ℕ → List ℕ
left_of g s n = select (λ k. not (g k)) (range_with_len s n)

abbrev span : ℕ → ℕ → Span
span start len = record { start = start; len = len }

-- one block more makes one run more at most
one_more : (x : ℕ) (runs : List Span) → length (with_block x runs) ≤ length runs + 1
one_more x [] = omega arith
one_more x (run ∷ runs) = by_test (x + 1 == run.start) (λ b. length (cond b (span x (suc run.len) ∷ runs) (span x 1 ∷ run ∷ runs)) ≤ length (run ∷ runs) + 1)
    (λ _. omega arith) (λ _. omega arith)

-- and none where the next block comes behind it
no_more : (x : ℕ) (runs : List Span) → length (with_block x (with_block (x + 1) runs)) ≡ length (with_block (x + 1) runs)
no_more x [] = ap (λ b. length (cond b (span x 2 ∷ []) (span x 1 ∷ span (x + 1) 1 ∷ []))) (eq_same (x + 1))
no_more x (run ∷ runs) = by_test (x + 1 + 1 == run.start)
    (λ b. length (with_block x (cond b (span (x + 1) (suc run.len) ∷ runs) (span (x + 1) 1 ∷ run ∷ runs))) ≡ length (cond b (span (x + 1) (suc run.len) ∷ runs) (span (x + 1) 1 ∷ run ∷ runs)))
    (λ _. ap (λ b. length (cond b (span x (suc (suc run.len)) ∷ runs) (span x 1 ∷ span (x + 1) (suc run.len) ∷ runs))) (eq_same (x + 1)))
    (λ _. ap (λ b. length (cond b (span x 2 ∷ run ∷ runs) (span x 1 ∷ span (x + 1) 1 ∷ run ∷ runs))) (eq_same (x + 1)))

few_left : (g : ℕ → Bool) (s n : ℕ) → length (runs_of (left_of g s n)) ≤ stops g s n + 1
few_left g s zero = omega arith
few_left g s (suc zero) = by_test (g s) (λ b. length (runs_of (cond (not b) (s ∷ []) [])) ≤ bit (not b && g (s + 1)) + 0 + 1) (λ _. omega arith) (λ _. omega arith)
few_left g s (suc (suc n)) = by (g s) (g (s + 1)) refl (few_left g (s + 1) (suc n))
  where
    by : (b c : Bool) → g (s + 1) ≡ c → length (runs_of (left_of g (s + 1) (suc n))) ≤ stops g (s + 1) (suc n) + 1
        → length (runs_of (cond (not b) (s ∷ left_of g (s + 1) (suc n)) (left_of g (s + 1) (suc n)))) ≤ (bit (not b && c) + stops g (s + 1) (suc n)) + 1
    by true c is rest = omega (arith, rest)
    by false true is rest = let more = one_more s (runs_of (left_of g (s + 1) (suc n))) in omega (arith, more, rest)
    by false false is rest =
        let front : left_of g (s + 1) (suc n) ≡ (s + 1) ∷ left_of g (s + 1 + 1) n = ap (λ b. cond (not b) ((s + 1) ∷ left_of g (s + 1 + 1) n) (left_of g (s + 1 + 1) n)) is in
        let same : length (with_block s (runs_of (left_of g (s + 1) (suc n)))) ≡ length (runs_of (left_of g (s + 1) (suc n))) =
        subst (λ (xs : List ℕ). length (with_block s (runs_of xs)) ≡ length (runs_of xs)) (sym front) (no_more s (runs_of (left_of g (s + 1 + 1) n))) in
        omega (arith, same, rest)

-- Of two tests together there are no more than of both.

both_bits : (a b c d : Bool) → bit (not (a || b) && (c || d)) ≤ bit (not a && c) + bit (not b && d)
both_bits true b c d = omega arith
both_bits false true c d = omega arith
both_bits false false true d = omega arith
both_bits false false false d = omega arith

stops_both : (g h : ℕ → Bool) (s n : ℕ) → stops (λ k. g k || h k) s n ≤ stops g s n + stops h s n
stops_both g h s zero = omega arith
stops_both g h s (suc n) = let here = both_bits (g s) (h s) (g (s + 1)) (h (s + 1)) in let rest = stops_both g h (s + 1) n in omega (arith, here, rest)

stops_same : (g h : ℕ → Bool) (s n : ℕ) → ((k : ℕ) → g k ≡ h k) → stops g s n ≡ stops h s n
stops_same g h s zero same = refl
stops_same g h s (suc n) same = let here : bit (not (g s) && g (s + 1)) ≡ bit (not (h s) && h (s + 1)) = ap (λ b. bit (not b && g (s + 1))) (same s) ∙ ap (λ b. bit (not (h s) && b)) (same (s + 1)) in
    let rest = stops_same g h (s + 1) n same in omega (arith, here, rest)

-- A run ends one at most.

module _ (start len : ℕ) where
  abbrev has : ℕ → Bool
  has k = nat_le start k && nat_lt k (start + len)

  none_behind : (s : ℕ) → start ≤ s → (not (has s) && has (s + 1)) ≡ false
  none_behind s le = grind (arith, nat_tests)

  none_before : (s : ℕ) → s + 1 < start → (not (has s) && has (s + 1)) ≡ false
  none_before s lt = grind (arith, nat_tests)

  none_later : (s n : ℕ) → start ≤ s → stops has s n ≡ 0
  none_later s zero le = refl
  none_later s (suc n) le = let here : bit (not (has s) && has (s + 1)) ≡ 0 = ap bit (none_behind s le) in let rest = none_later (s + 1) n (omega (arith, le)) in omega (arith, here, rest)

  one_bit : (b : Bool) → bit b ≤ 1
  one_bit true = omega arith
  one_bit false = omega arith

  one_stop : (s n : ℕ) → stops has s n ≤ 1
  one_stop s zero = omega arith
  one_stop s (suc n) = elim (cases_lt (s + 1) start) [
    | inl lt ↦ let here : bit (not (has s) && has (s + 1)) ≡ 0 = ap bit (none_before s lt) in let rest = one_stop (s + 1) n in omega (arith, here, rest)
    | inr le ↦ let here = one_bit (not (has s) && has (s + 1)) in let rest = none_later (s + 1) n le in omega (arith, here, rest)
  ]

has_range : (s len k : ℕ) → has_block (range_with_len s len) k ≡ has s len k
has_range s zero k = grind (arith, nat_tests)
has_range s (suc len) k = ap (λ b. (s == k) || b) (has_range (s + 1) len k) ∙ here s len k
  where
    here : (s len k : ℕ) → ((s == k) || (nat_le (s + 1) k && nat_lt k (s + 1 + len))) ≡ (nat_le s k && nat_lt k (s + suc len))
    here s len k = grind (arith, nat_tests)

none_stops : (s n : ℕ) → stops (λ k. false) s n ≡ 0
none_stops s zero = refl
none_stops s (suc n) = let rest = none_stops (s + 1) n in omega (arith, rest)

runs_stop : (runs : List Span) (s n : ℕ) → stops (has_block (blocks_of runs)) s n ≤ length runs
runs_stop [] s n = let none = none_stops s n in omega (arith, none)
runs_stop (run ∷ runs) s n =
    let same = stops_same (has_block (blocks_of (run ∷ runs))) (λ k. has run.start run.len k || has_block (blocks_of runs) k) s n
    (λ k. list_any-append (λ b. b == k) (range_with_len run.start run.len) (blocks_of runs) ∙ ap (λ b. b || has_block (blocks_of runs) k) (has_range run.start run.len k)) in
    let both = stops_both (has run.start run.len) (has_block (blocks_of runs)) s n in
    let one = one_stop run.start run.len s n in
    let rest = runs_stop runs s n in
    omega (arith, same, both, one, rest)

slots_stop : (slots : List Slot) (s n : ℕ) → ((t : Slot) → Contains slots t → length (runs_of t.blocks) ≤ max_runs) → stops (is_granted slots) s n ≤ 16 * length slots
slots_stop [] s n few = let none = none_stops s n in omega (arith, none)
slots_stop (t ∷ slots) s n few =
    let both = stops_both (has_block t.blocks) (is_granted slots) s n in
    let its : stops (has_block t.blocks) s n ≤ length (runs_of t.blocks) = subst (λ (bs : List ℕ). stops (has_block bs) s n ≤ length (runs_of t.blocks)) (blocks_of-runs_of t.blocks) (runs_stop (runs_of t.blocks) s n) in
    let most : length (runs_of t.blocks) ≤ 16 = few t (0, omega arith, refl) in
    let rest = slots_stop slots s n (λ u has. few u (suc has.0, omega (arith, has.1), has.2)) in
    omega (arith, both, its, most, rest)

-- there are no more slots than the table has entries
few_slots : (size : ℕ) (slots : List Slot) → SlotsAgree size slots → length slots ≤ 128
few_slots size slots agree = let counted = slots_counted size slots agree.fit agree.apart in let most = slots_most (table_of slots) 1 in omega (arith, counted, most, table_size slots)

pub few_free : (size : ℕ) (slots : List Slot) → SlotsAgree size slots → ((t : Slot) → Contains slots t → length (runs_of t.blocks) ≤ max_runs) → length (runs_of (free_blocks (slots_on size slots))) + 16 ≤ 4096
few_free size slots agree few =
    let runs = few_left (is_granted slots) 129 (size - 129) in
    let stop = slots_stop slots 129 (size - 129) few in
    omega (arith, runs, stop, few_slots size slots agree)
