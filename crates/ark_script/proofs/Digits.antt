-- Hex digits and the bytes that they spell.
use Rattle.std.proofs.Common.{◌≡◌, ℕ, ◌+◌, ◌*◌, ◌/◌, ◌%◌, ◌==◌, true, false, List, [], ◌∷◌, length, Some, Ok, refl, ap, ◌∙◌, arith, ◌-◌}
use Rattle.std.specs.List.{list_all}
use Rattle.std.proofs.lemmas.Bool.{and_parts, eq-eqb, ne_eqb}
use Rattle.std.proofs.lemmas.Bool.Decides.{nat_tests}
use Rattle.hex.specs.Hex.{decode_pairs, decode_sized, hex_digit_value, is_hex_digit, pair_value}
use Rattle.hex.proofs.Pairs.{cons_byte, decode_pairs-ok_pair}
use Rattle.ark_script.specs.Line.{digit, spelled}

-- the value of a hex digit
pub value_of_digit : (c : ℕ) → is_hex_digit c ≡ true → hex_digit_value c ≡ Some (digit c)
value_of_digit c h = grind (arith, nat_tests)

pub pairs_spelled : (i : ℕ) (s : List ℕ) → list_all is_hex_digit s ≡ true → length s % 2 ≡ 0 → decode_pairs i s ≡ Ok (spelled s)
unfolding decode_pairs
pairs_spelled i [] h even = refl
pairs_spelled i (a ∷ []) h even = absurd (omega arith)
pairs_spelled i (a ∷ b ∷ rest) h even =
    let first = and_parts (is_hex_digit a) (list_all is_hex_digit (b ∷ rest)) h in
    let second = and_parts (is_hex_digit b) (list_all is_hex_digit rest) first.1 in
    let pair : pair_value a b i ≡ Ok (digit a * 16 + digit b) = rw (value_of_digit a first.0, value_of_digit b second.0) refl in
    let byte : digit a * 16 + digit b ≡ 16 * digit a + digit b = omega arith in
    decode_pairs-ok_pair i a b _ rest pair
    ∙ ap (cons_byte (digit a * 16 + digit b)) (pairs_spelled (i + 2) rest second.1 (omega arith))
    ∙ ap (λ (v : ℕ). Ok (v ∷ spelled rest)) byte

-- what decoding gives, where there is room for just so many bytes
pub sized_spelled : (s : List ℕ) (n : ℕ) → list_all is_hex_digit s ≡ true → length s ≡ 2 * n → decode_sized s n ≡ Ok (spelled s)
sized_spelled s n h len =
    let even : (length s % 2 == 1) ≡ false = ne_eqb _ _ (λ e. omega arith) in
    let fits : (length s / 2 == n) ≡ true = eq-eqb _ _ (omega arith) in
    rw (even, fits) (pairs_spelled 0 s h (omega arith))

pub length-spelled : (s : List ℕ) (n : ℕ) → length s ≡ 2 * n → length (spelled s) ≡ n
length-spelled [] n h = omega arith
length-spelled (a ∷ []) n h = absurd (omega arith)
length-spelled (a ∷ b ∷ rest) n h =
    let more : length (spelled rest) ≡ n - 1 = length-spelled rest (n - 1) (omega arith) in
    omega (arith, more)

pub length-spelled_half : (s : List ℕ) → length (spelled s) ≡ length s / 2
length-spelled_half [] = omega arith
length-spelled_half (a ∷ []) = omega arith
length-spelled_half (a ∷ b ∷ rest) = let more = length-spelled_half rest in omega (arith, more)
