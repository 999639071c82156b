-- What a name is.
use Rattle.std.specs.Prelude.{ℕ, List, [], ◌∷◌, ◌++◌, Bool, false, ◌&&◌, ◌||◌, ◌==◌, ◌-◌, nat_le, length, replicate}
use Rattle.std.specs.List.{list_all}

abbrev pub is_letter : ℕ → Bool
is_letter b = nat_le 97 b && nat_le b 122

abbrev pub is_digit : ℕ → Bool
is_digit b = nat_le 48 b && nat_le b 57

-- a small letter, a digit or `_`
abbrev pub is_name_byte : ℕ → Bool
is_name_byte b = is_letter b || (is_digit b || (b == 95))

-- 1 to 15 bytes: a small letter, and then small letters, digits and `_`
abbrev pub is_name : List ℕ → Bool
is_name [] = false
is_name (b ∷ bs) = is_letter b && (nat_le (length bs) 14 && list_all is_name_byte bs)

-- 15 bytes: these, and then zeros
abbrev pub padded : List ℕ → List ℕ
padded bytes = bytes ++ replicate (15 - length bytes) 0
