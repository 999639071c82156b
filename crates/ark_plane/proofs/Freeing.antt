-- Free blocks, and a slot that takes the lowest of them.
use Rattle.std.proofs.Common.{◌≡◌, ℕ, zero, suc, ◌+◌, ◌-◌, ◌<◌, ◌≤◌, Bool, true, false, cond, not, ◌||◌, ◌==◌, List, [], ◌∷◌, ◌++◌, take, drop, refl, ◌∙◌, ap, subst, arith}
use Rattle.std.specs.Prelude.{filter as select}
use Rattle.std.specs.List.{list_any, range_with_len}
use Rattle.std.proofs.lemmas.Bool.Decides.{nat_tests}
use Rattle.std.proofs.lemmas.List.Folds.{list_any-append}
use Rattle.std.proofs.Math.Bool.{or-false}
use Rattle.ark_table.specs.Slots.{Slot}
use Rattle.ark_machine.specs.Plane.{Plane, is_granted, free_blocks}
use Rattle.ark_plane.proofs.Tests.{by_test}

-- in rising order, from a number on
abbrev pub Rises : ℕ → List ℕ → Type 0
Rises s [] = Unit {0}
Rises s (x ∷ xs) = (s ≤ x) × Rises (suc x) xs

weaker : (s r : ℕ) (xs : List ℕ) → s ≤ r → Rises r xs → Rises s xs
weaker s r [] le h = tt
weaker s r (x ∷ xs) le h = (omega (arith, h.0), h.1)

pub rising : (q : ℕ → Bool) (s n : ℕ) → Rises s (select q (range_with_len s n))
rising q s zero = tt
rising q s (suc n) = by_test (q s) (λ b. Rises s (cond b (s ∷ select q (range_with_len (s + 1) n)) (select q (range_with_len (s + 1) n))))
    (λ yes. (omega arith, subst (λ (m : ℕ). Rises m (select q (range_with_len (s + 1) n))) (omega arith) (rising q (s + 1) n)))
    (λ no. weaker s (s + 1) (select q (range_with_len (s + 1) n)) (omega arith) (rising q (s + 1) n))

abbrev without : List ℕ → List ℕ → List ℕ
without taken xs = select (λ k. not (list_any (λ b. b == k) taken)) xs

-- a lower number takes none of them away
without_lower : (y : ℕ) (taken xs : List ℕ) (s : ℕ) → y < s → Rises s xs → without (y ∷ taken) xs ≡ without taken xs
without_lower y taken [] s lt h = refl
without_lower y taken (x ∷ xs) s lt h =
    let apart : (y == x) ≡ false = grind (arith, nat_tests) in
    ap (λ b. cond (not (b || list_any (λ c. c == x) taken)) (x ∷ without (y ∷ taken) xs) (without (y ∷ taken) xs)) apart
    ∙ ap (λ (zs : List ℕ). cond (not (list_any (λ c. c == x) taken)) (x ∷ zs) zs) (without_lower y taken xs (suc x) (omega (arith, h.0)) h.1)

without_none : (xs : List ℕ) → without [] xs ≡ xs
without_none [] = refl
without_none (x ∷ xs) = ap (λ (l : List ℕ). x ∷ l) (without_none xs)

-- without its first ones it is the rest
without_first : (n : ℕ) (xs : List ℕ) (s : ℕ) → Rises s xs → without (take n xs) xs ≡ drop n xs
without_first zero xs s h = without_none xs
without_first (suc n) [] s h = refl
without_first (suc n) (x ∷ xs) s h =
    let same : (x == x) ≡ true = grind (arith, nat_tests) in
    ap (λ b. cond (not (b || list_any (λ c. c == x) (take n xs))) (x ∷ without (x ∷ take n xs) xs) (without (x ∷ take n xs) xs)) same
    ∙ without_lower x (take n xs) xs (suc x) (omega arith) h.1
    ∙ without_first n xs (suc x) h.1

twice : (g h : ℕ → Bool) (xs : List ℕ) → select (λ k. not (g k || h k)) xs ≡ select (λ k. not (h k)) (select (λ k. not (g k)) xs)
twice g h [] = refl
twice g h (x ∷ xs) = by_test (g x) (λ b. g x ≡ b → cond (not (b || h x)) (x ∷ select (λ k. not (g k || h k)) xs) (select (λ k. not (g k || h k)) xs) ≡ select (λ k. not (h k)) (cond (not b) (x ∷ select (λ k. not (g k)) xs) (select (λ k. not (g k)) xs)))
    (λ yes q. twice g h xs) (λ no q. ap (λ (l : List ℕ). cond (not (h x)) (x ∷ l) l) (twice g h xs)) refl

same_tests : (g h : ℕ → Bool) (xs : List ℕ) → ((k : ℕ) → g k ≡ h k) → select (λ k. not (g k)) xs ≡ select (λ k. not (h k)) xs
same_tests g h [] same = refl
same_tests g h (x ∷ xs) same = ap (λ b. cond (not b) (x ∷ select (λ k. not (g k)) xs) (select (λ k. not (g k)) xs)) (same x) ∙ ap (λ (l : List ℕ). cond (not (h x)) (x ∷ l) l) (same_tests g h xs same)

-- slots that have the lowest free blocks beside those that they had leave the others
pub free_without : (p : Plane) (slots : List Slot) (taken : List ℕ) (n : ℕ) → ((k : ℕ) → is_granted slots k ≡ (is_granted p.slots k || list_any (λ b. b == k) taken)) → taken ≡ take n (free_blocks p) → free_blocks (record p { slots = slots }) ≡ drop n (free_blocks p)
free_without p slots taken n granted is =
    same_tests (is_granted slots) (λ k. is_granted p.slots k || list_any (λ b. b == k) taken) (range_with_len 129 (p.size - 129)) granted
    ∙ twice (is_granted p.slots) (λ k. list_any (λ b. b == k) taken) (range_with_len 129 (p.size - 129))
    ∙ ap (λ (bs : List ℕ). without bs (free_blocks p)) is
    ∙ without_first n (free_blocks p) 129 (rising (λ k. not (is_granted p.slots k)) 129 (p.size - 129))

-- a slot with the lowest free blocks takes just these
pub free_after : (p : Plane) (t : Slot) (n : ℕ) → t.blocks ≡ take n (free_blocks p) → free_blocks (record p { slots = p.slots ++ t ∷ [] }) ≡ drop n (free_blocks p)
free_after p t n is = free_without p (p.slots ++ t ∷ []) t.blocks n
    (λ k. list_any-append (λ (u : Slot). list_any (λ b. b == k) u.blocks) p.slots (t ∷ []) ∙ ap (λ b. is_granted p.slots k || b) (or-false (list_any (λ b. b == k) t.blocks))) is

pub eq_same : (n : ℕ) → (n == n) ≡ true
eq_same n = grind (arith, nat_tests)

-- without slots all are free
pub free_none : (xs : List ℕ) → select (λ n. not (list_any (λ (t : Slot). list_any (λ b. b == n) t.blocks) [])) xs ≡ xs
free_none [] = refl
free_none (x ∷ xs) = ap (λ (l : List ℕ). x ∷ l) (free_none xs)
