-- A set of free blocks, as the ascending list of them, and the runs in which they are kept.
use Rattle.std.specs.Prelude.{◌≡◌, ◌≤◌, ◌<◌, ◌+◌, ◌-◌, ◌^◌, ◌↔◌, ◌⊎◌, ◌==◌, ℕ, List, [], ◌∷◌, length, take, get_or, Contains, if◌then◌else◌}
use Rattle.std.specs.List.{range_with_len}
use Rattle.ark_base.specs.declared.block.Span.{Span}
use Rattle.ark_extents.specs.Blocks.{blocks_of}
use Rattle.ark_extents.specs.Runs.{no_run}

-- the free blocks of a fresh disk of this size: all behind its first 129
abbrev pub free_at_first : ℕ → List ℕ
free_at_first size = range_with_len 129 (size - 129)

-- these blocks are free no more, and nothing else changed
abbrev pub Loses : List ℕ → List ℕ → List ℕ → Type 0
Loses old new blocks = (n : ℕ) → Contains new n ↔ (Contains old n × (Contains blocks n → ⊥))

-- these blocks are free too, and nothing else changed
abbrev pub Gains : List ℕ → List ℕ → List ℕ → Type 0
Gains old new blocks = (n : ℕ) → Contains new n ↔ (Contains old n ⊎ Contains blocks n)

-- Runs from block n on, in rising order, with a block that is not theirs between each two. None is empty or passes block
-- 2 ^ 32 - 2.
abbrev pub AreRising : ℕ → List Span → Type 0
AreRising n [] = Unit {0}
AreRising n (run ∷ runs) = (n ≤ run.start) × (1 ≤ run.len) × (run.start + run.len ≤ 2 ^ 32 - 1) × AreRising (run.start + run.len + 1) runs

-- no run has block n or one behind it
abbrev pub EndBy : List Span → ℕ → Type 0
EndBy [] n = Unit {0}
EndBy (run ∷ runs) n = (run.start + run.len ≤ n) × EndBy runs n

-- the block is one of the run's
abbrev pub HasBlock : Span → ℕ → Type 0
HasBlock run n = (run.start ≤ n) × (n < run.start + run.len)

-- one of the runs has the block
abbrev pub AnyHas : List Span → ℕ → Type 0
AnyHas [] n = ⊥
AnyHas (run ∷ runs) n = HasBlock run n ⊎ AnyHas runs n

-- the place of the first of these runs that ends behind block n, or their number where none does
pub record IsRunPlace (runs : List Span) (n i : ℕ) : Type 0 where
  pub within : i ≤ length runs
  pub before : EndBy (take i runs) n
  pub here : i < length runs → n < (get_or runs i no_run).start + (get_or runs i no_run).len

-- the run before the others, unless it is empty
abbrev pub with_run : Span → List Span → List Span
with_run run runs = if run.len == 0 then runs else run ∷ runs

-- The first n blocks of these runs are the runs before place `whole`, and `rest` blocks of the run there.
pub record IsFront (runs : List Span) (n whole rest : ℕ) : Type 0 where
  pub inside : whole < length runs
  pub some : 1 ≤ rest
  pub fits : rest ≤ (get_or runs whole no_run).len
  pub total : n ≡ length (blocks_of (take whole runs)) + rest
