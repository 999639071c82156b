-- Blocks, bytes of buffers, and places in a region.
use Rattle.std.specs.Prelude.{ℕ, Bool, zero, suc, ◌+◌, ◌-◌, ◌*◌, ◌&&◌, ◌||◌, List, [], ◌∷◌, ◌++◌, length, take, drop, replicate, nat_le, if◌then◌else◌, Option, Some, None}
use Rattle.std.specs.List.{list_all}

-- a block that begins with these bytes, and is zero behind them
abbrev pub padded : List ℕ → List ℕ
padded bytes = bytes ++ replicate (512 - length bytes) 0

abbrev pub before_zeros : ℕ → List ℕ → List ℕ
before_zeros zero [] = []
before_zeros (suc x) [] = suc x ∷ []
before_zeros zero (y ∷ ys) = zero ∷ y ∷ ys
before_zeros (suc x) (y ∷ ys) = suc x ∷ y ∷ ys

-- the bytes without the zeros at their end
abbrev pub trimmed : List ℕ → List ℕ
trimmed [] = []
trimmed (x ∷ xs) = before_zeros x (trimmed xs)

-- block k of a buffer's bytes
abbrev pub block_of : List ℕ → ℕ → List ℕ
block_of bytes k = take 512 (drop (512 * k) bytes)

-- the bytes with these written at a place inside them
abbrev pub written : List ℕ → ℕ → List ℕ → List ℕ
written bytes at new = take at bytes ++ new ++ drop (at + length new) bytes

-- so many neighbouring frames, from a first one on
abbrev pub Frames : Type 0
Frames = ℕ × ℕ

-- none of the frames is one of the k frames from s on
abbrev pub are_free : List Frames → ℕ → ℕ → Bool
are_free live s k = list_all (λ f. nat_le (s + k) f.0 || nat_le (f.0 + f.1) s) live

-- the least of the next n starts from s on at which k frames, inside so many, meet no live ones
abbrev pub place_from : List Frames → ℕ → ℕ → ℕ → ℕ → Option ℕ
place_from live k frames s zero = None
place_from live k frames s (suc n) = if nat_le (s + k) frames && are_free live s k then Some s else place_from live k frames (s + 1) n

-- the least start at which k neighbouring frames inside a region of so many meet no live ones, or none
abbrev pub place : List Frames → ℕ → ℕ → Option ℕ
place live k frames = place_from live k frames 0 frames
