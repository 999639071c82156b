-- Blocks, by their numbers, and the runs in which they stand.
use Rattle.std.specs.Prelude.{◌≡◌, ◌<◌, ◌+◌, ◌==◌, ℕ, suc, List, [], ◌∷◌, ◌++◌, length, get_or, Contains, if◌then◌else◌}
use Rattle.std.specs.List.{range_with_len}
use Rattle.ark_base.specs.declared.block.Span.{Span}

-- the blocks of runs, one after another
abbrev pub blocks_of : List Span → List ℕ
blocks_of [] = []
blocks_of (run ∷ runs) = range_with_len run.start run.len ++ blocks_of runs

-- a block before runs: it makes the first one longer, or is a run of its own
abbrev pub with_block : ℕ → List Span → List Span
with_block n [] = record { start = n; len = 1 } ∷ []
with_block n (run ∷ runs) =
    if n + 1 == run.start then record { start = n; len = suc run.len } ∷ runs else record { start = n; len = 1 } ∷ (run ∷ runs)

-- the longest runs of a list of blocks
abbrev pub runs_of : List ℕ → List Span
runs_of [] = []
runs_of (n ∷ blocks) = with_block n (runs_of blocks)

-- no block stands there twice
abbrev pub AreDistinct : List ℕ → Type 0
AreDistinct blocks = (i k : ℕ) → i < length blocks → k < length blocks → get_or blocks i 0 ≡ get_or blocks k 0 → i ≡ k

-- no block is in both
abbrev pub ShareNoBlock : List ℕ → List ℕ → Type 0
ShareNoBlock xs ys = (n : ℕ) → Contains xs n → Contains ys n → ⊥

-- each of these blocks is among those
abbrev pub AreAmong : List ℕ → List ℕ → Type 0
AreAmong xs ys = (n : ℕ) → Contains xs n → Contains ys n
