-- Which runs are the spans of an area.
use Rattle.std.specs.Prelude.{◌+◌, ◌-◌, ◌^◌, ◌&&◌, ◌||◌, ◌==◌, ◌++◌, ℕ, Bool, true, not, List, [], ◌∷◌, length, nat_le, nat_lt, replicate}
use Rattle.std.specs.List.{list_all}
use Rattle.ark_base.specs.declared.block.Span.{Span}

-- the run has a block, and passes no block 2 ^ 32 - 2
abbrev pub fits : Span → Bool
fits run = nat_le 1 run.len && nat_le (run.start + run.len) (2 ^ 32 - 1)

-- the block is one of the run's
abbrev pub has : Span → ℕ → Bool
has run n = nat_le run.start n && nat_lt n (run.start + run.len)

-- one ends before the other begins
abbrev pub are_apart : Span → Span → Bool
are_apart r s = nat_le (r.start + r.len) s.start || nat_le (s.start + s.len) r.start

-- no two runs share a block
abbrev pub share_none : List Span → Bool
share_none [] = true
share_none (run ∷ runs) = list_all (λ s. are_apart run s) runs && share_none runs

-- the next run does not begin where this one ends
abbrev pub ends_before : Span → List Span → Bool
ends_before run [] = true
ends_before run (next ∷ runs) = not (run.start + run.len == next.start)

-- no run begins where the one before it ends
abbrev pub are_longest : List Span → Bool
are_longest [] = true
are_longest (run ∷ runs) = ends_before run runs && are_longest runs

-- 1 to 16
abbrev pub is_count : ℕ → Bool
is_count n = nat_le 1 n && nat_le n 16

-- 1 to 16 runs that are the longest of their blocks, and no block twice
abbrev pub are_spans : List Span → Bool
are_spans runs = ((is_count (length runs) && list_all fits runs) && share_none runs) && are_longest runs

abbrev pub no_run : Span
no_run = record { start = 0; len = 0 }

-- 16 runs: these, then empty ones
abbrev pub padded : List Span → List Span
padded runs = runs ++ replicate (16 - length runs) no_run
