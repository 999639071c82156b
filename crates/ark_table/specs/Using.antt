-- Which slots are free, and which may get more blocks.
use Rattle.std.specs.Prelude.{◌≡◌, ◌<◌, ◌≤◌, ◌++◌, ℕ, List, length, Some, None}
use Rattle.ark_extents.specs.Blocks.{blocks_of, runs_of, ShareNoBlock}
use Rattle.ark_table.specs.Area.{Area}
use Rattle.ark_table.specs.Standing.{Table, slot_in}

pub record IsLeastFree (table : Table) (i : ℕ) : Type 0 where
  pub low : 1 ≤ i
  pub high : i ≤ 128
  pub free : slot_in table i ≡ None
  pub least : (k : ℕ) → 1 ≤ k → k < i → slot_in table k ≡ None → ⊥

-- no slot is free
abbrev pub IsFull : Table → Type 0
IsFull table = (k : ℕ) → 1 ≤ k → k ≤ 128 → slot_in table k ≡ None → ⊥

-- Slot i is in use, and these blocks may stand behind its own: none of them is its own, and all form no more than 16 runs.
pub record MayJoin (table : Table) (i : ℕ) (more : List ℕ) : Type 0 where
  pub low : 1 ≤ i
  pub high : i ≤ 128
  pub area : Area
  pub used : slot_in table i ≡ Some area
  pub apart : ShareNoBlock (blocks_of area.runs) more
  pub few : length (runs_of (blocks_of area.runs ++ more)) ≤ 16
