-- What an opening makes of a ring: the blocks outside the list that was found become zero.
use Rattle.std.specs.Prelude.{◌≡◌, ◌⊎◌, ◌<◌, ◌≤◌, ℕ, zero, suc, ◌+◌, List, [], ◌∷◌, length}
use Rattle.ark_media.specs.Journal.{zero_block}
use Rattle.ark_entry.specs.Entry.{entry_blocks}

-- the blocks of entries with these payloads
abbrev pub used_by : List (List ℕ) → ℕ
used_by [] = 0
used_by (x ∷ xs) = entry_blocks (length x) + used_by xs

-- n blocks of a reading, from place u on
abbrev pub blocks_read : (ℕ → List ℕ) → ℕ → ℕ → List (List ℕ)
blocks_read r u zero = []
blocks_read r u (suc n) = r u ∷ blocks_read r (u + 1) n

-- the first blocks are the same in both readings, and each block behind them is the same or was made zero
pub record Zeroes (room used : ℕ) (r s : ℕ → List ℕ) : Type 0 where
  pub kept : (v : ℕ) → v < used → s v ≡ r v
  pub rest : (v : ℕ) → used ≤ v → v < room → (s v ≡ r v) ⊎ (s v ≡ zero_block)
