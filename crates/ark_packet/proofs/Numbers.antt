-- Numbers as `byteorder` reads and writes them.
use Rattle.std.proofs.Common.{◌≡◌, ℕ, ◌-◌, List, length, take, drop, get_or, arith, refl, ap, ◌∙◌, get_or-drop}
use Rattle.byteorder.specs.Endian.{big_number}
use Rattle.ark_packet.specs.Wire.{word_at}
use Rattle.ark_packet.proofs.Sums.{rest_from}

-- the number in the first two octets
pub number_first : (xs : List ℕ) → big_number 2 xs ≡ word_at xs 0
number_first xs = omega arith

-- the number in the first two octets of `&xs[n..]`
pub number_from : (xs : List ℕ) (n : ℕ) → big_number 2 (take (length xs - n) (drop n xs)) ≡ word_at xs n
number_from xs n =
    let high : get_or (drop n xs) 0 0 ≡ get_or xs n 0 = get_or-drop n xs 0 0 ∙ ap (λ k. get_or xs k 0) (omega arith) in
    ap (big_number 2) (rest_from xs n) ∙ number_first (drop n xs) ∙ rw (high, get_or-drop n xs 1 0) refl
