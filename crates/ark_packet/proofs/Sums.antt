-- Laws of one's complement sums.
use Rattle.std.proofs.Common.{◌≡◌, ℕ, ◌+◌, ◌-◌, ◌<◌, ◌≤◌, List, [], ◌∷◌, ◌++◌, length, take, drop, get_or, arith, refl, sym, ap, ◌∙◌, length-drop, take_all, suc, get_or-drop, zero, ◌*◌}
use Rattle.std.proofs.lemmas.Bool.Decides.{nat_tests}
use Rattle.ark_packet.specs.Wire.{word}
use Rattle.ark_packet.specs.Sum.{plus, ones_sum}

pub plus_below : (a b : ℕ) → a < 65536 → b < 65536 → plus a b < 65536
plus_below a b ha hb = grind (arith, nat_tests)

pub plus_assoc : (a b c : ℕ) → a < 65536 → b < 65536 → c < 65536 → plus (plus a b) c ≡ plus a (plus b c)
plus_assoc a b c ha hb hc = grind (arith, nat_tests)

pub plus_comm : (a b : ℕ) → plus a b ≡ plus b a
plus_comm a b = grind (arith, nat_tests)

pub zero_plus : (a : ℕ) → a < 65536 → plus 0 a ≡ a
zero_plus a h = grind (arith, nat_tests)

-- the octets are octets
pub ones_sum_below : (bs : List ℕ) → ((k : ℕ) → get_or bs k 0 < 256) → ones_sum bs < 65536
ones_sum_below [] h = omega arith
ones_sum_below (last ∷ []) h = omega (arith, h 0)
ones_sum_below (high ∷ (low ∷ rest)) h =
    plus_below (word high low) (ones_sum rest) (omega (arith, h 0, h 1)) (ones_sum_below rest (λ k. h (suc (suc k))))

-- one pair of octets more
pub pair_added : (sum next : ℕ) (rest after : List ℕ) → 2 ≤ length rest → ((k : ℕ) → get_or rest k 0 < 256) → sum < 65536
    → next ≡ plus sum (word (get_or rest 0 0) (get_or rest 1 0)) → after ≡ drop 2 rest
    → plus next (ones_sum after) ≡ plus sum (ones_sum rest)
pair_added sum next [] after two h fits e cut = absurd (omega arith)
pair_added sum next (last ∷ []) after two h fits e cut = absurd (omega arith)
pair_added sum next (high ∷ (low ∷ rest)) after two h fits e cut =
    ap (λ n. plus n (ones_sum after)) e ∙ ap (λ t. plus (plus sum (word high low)) (ones_sum t)) cut
    ∙ plus_assoc sum (word high low) (ones_sum rest) fits (omega (arith, h 0, h 1)) (ones_sum_below rest (λ k. h (suc (suc k))))

-- what is left after the last pair: one octet or none
pub last_added : (sum : ℕ) (rest : List ℕ) → length rest ≡ 1 → plus sum (word (get_or rest 0 0) 0) ≡ plus sum (ones_sum rest)
last_added sum [] one = absurd (omega arith)
last_added sum (last ∷ []) one = refl
last_added sum (a ∷ (b ∷ rest)) one = absurd (omega arith)

pub none_added : (sum : ℕ) (rest : List ℕ) → length rest ≡ 0 → sum < 65536 → sum ≡ plus sum (ones_sum rest)
none_added sum [] none fits = grind (arith, nat_tests)
none_added sum (a ∷ rest) none fits = absurd (omega arith)

-- `&xs[n..]`
pub rest_from : (xs : List ℕ) (n : ℕ) → take (length xs - n) (drop n xs) ≡ drop n xs
rest_from xs n = take_all (length xs - n) (drop n xs) (omega (arith, length-drop n xs))

pub octets_from : (xs : List ℕ) (n : ℕ) → ((k : ℕ) → get_or xs k 0 < 256) → (k : ℕ) → get_or (take (length xs - n) (drop n xs)) k 0 < 256
octets_from xs n h k = rw (rest_from xs n, get_or-drop n xs k 0) (h (n + k))

-- the sum of an even number of octets and of more after them
pub ones_sum-append : (k : ℕ) (xs ys : List ℕ) → length xs ≡ 2 * k → ((i : ℕ) → get_or xs i 0 < 256) → ((i : ℕ) → get_or ys i 0 < 256)
    → ones_sum (xs ++ ys) ≡ plus (ones_sum xs) (ones_sum ys)
ones_sum-append k [] ys even hx hy = sym (zero_plus (ones_sum ys) (ones_sum_below ys hy))
ones_sum-append k (last ∷ []) ys even hx hy = absurd (omega arith)
ones_sum-append zero (high ∷ (low ∷ rest)) ys even hx hy = absurd (omega arith)
ones_sum-append (suc k) (high ∷ (low ∷ rest)) ys even hx hy =
    ap (plus (word high low)) (ones_sum-append k rest ys (omega arith) (λ i. hx (suc (suc i))) hy)
    ∙ sym (plus_assoc (word high low) (ones_sum rest) (ones_sum ys) (omega (arith, hx 0, hx 1)) (ones_sum_below rest (λ i. hx (suc (suc i)))) (ones_sum_below ys hy))
