-- The Internet checksum (RFC 1071, section 1).
use Rattle.std.specs.Prelude.{ℕ, ◌+◌, ◌-◌, List, [], ◌∷◌, Bool, if◌then◌else◌, nat_lt, nat_eq}
use Rattle.ark_packet.specs.Wire.{word}

-- the one's complement sum of two words: a carry out of the top bit is added at the bottom (RFC 1071, section 1)
abbrev pub plus : ℕ → ℕ → ℕ
plus a b = if nat_lt (a + b) 65536 then a + b else a + b - 65535

-- the one's complement sum of the 16-bit words of these octets; an odd last octet is padded by a zero (RFC 1071,
-- section 1)
abbrev pub ones_sum : List ℕ → ℕ
ones_sum [] = 0
ones_sum (last ∷ []) = word last 0
ones_sum (high ∷ (low ∷ rest)) = plus (word high low) (ones_sum rest)

-- Octets that hold their own checksum are right where their sum is all ones (RFC 1071, section 1, step 3).
abbrev pub is_right : List ℕ → Bool
is_right octets = nat_eq (ones_sum octets) 65535
