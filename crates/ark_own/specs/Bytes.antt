-- Bytes of a block.
use Rattle.std.specs.Prelude.{◌≡◌, ℕ, Bool, List, ◌++◌, ◌/◌, ◌-◌, length, drop, slice_range, nat_eq}
use Rattle.std.specs.List.{list_all}
use Rattle.ark_script.specs.Line.{spelled}

abbrev pub are_zero : List ℕ → Bool
are_zero bytes = list_all (λ b. nat_eq b 0) bytes

-- whether so many bytes before a place are zero
abbrev pub are_zero_before : List ℕ → ℕ → ℕ → Bool
are_zero_before bytes count end = are_zero (slice_range bytes (end - count) end)

-- a room begins with the bytes that these digits spell, and is as it was behind them
abbrev pub Spells : List ℕ → List ℕ → List ℕ → Type 0
Spells digits old new = new ≡ spelled digits ++ drop (length digits / 2) old
