-- Bytes as blocks, and blocks as bytes.
use Rattle.std.specs.Prelude.{◌≡◌, ℕ, zero, suc, ◌/◌, List, [], ◌∷◌, ◌++◌, length, take, drop}

-- the first n blocks of the bytes
unfoldable pub blocks_in : ℕ → List ℕ → List (List ℕ)
blocks_in zero bytes = []
blocks_in (suc n) bytes = take 512 bytes ∷ blocks_in n (drop 512 bytes)

-- all whole blocks of the bytes
abbrev pub whole_blocks : List ℕ → List (List ℕ)
whole_blocks bytes = blocks_in (length bytes / 512) bytes

-- the blocks, one after another
unfoldable pub flat : List (List ℕ) → List ℕ
flat [] = []
flat (block ∷ blocks) = block ++ flat blocks

-- each of the blocks has 512 bytes
unfoldable pub AllWhole : List (List ℕ) → Type 0
AllWhole [] = Unit {0}
AllWhole (block ∷ blocks) = (length block ≡ 512) × AllWhole blocks
