-- The script that the command `work` runs.
use Rattle.std.specs.Prelude.{ℕ, zero, suc, ◌+◌, ◌*◌, ◌/◌, ◌%◌, ◌^◌, List, [], ◌∷◌, ◌++◌, get_or, codes, decimal, ◌==◌, if◌then◌else◌}
use Rattle.std.specs.Int.{w32, to_be_bytes}
use Rattle.hex.specs.Hex.{encode_lower}

-- the state of the generator after a draw
abbrev pub next : ℕ → ℕ
next x = (x * 6364136223846793005 + 1442695040888963407) % 2 ^ 64

-- what the draw gives that set this state
abbrev pub drawn : ℕ → ℕ
drawn x = x / 2 ^ 33

-- 8 hex digits
abbrev pub hex : ℕ → List ℕ
hex n = encode_lower (to_be_bytes w32 n)

-- the lines of application a, for a third draw
abbrev pub lines_of_a : ℕ → List (List ℕ)
lines_of_a s =
    (codes "put a v r " ++ decimal (s % 31) ++ codes " 2 m")
    ∷ (codes "get a v r " ++ decimal (s % 31) ++ codes " 2 m")
    ∷ codes "flush a v"
    ∷ codes "dev a v"
    ∷ codes "reap a v"
    ∷ (codes "append a l " ++ hex s)
    ∷ codes "settle a l"
    ∷ (codes "trim a l " ++ decimal (1 + s % 64))
    ∷ []

-- and of application b
abbrev pub lines_of_b : ℕ → List (List ℕ)
lines_of_b s =
    (codes "put b v r " ++ decimal (s % 31) ++ codes " 2 m")
    ∷ (codes "get b v r " ++ decimal (s % 31) ++ codes " 2 m")
    ∷ codes "flush b v"
    ∷ codes "dev b v"
    ∷ codes "reap b v"
    ∷ (codes "push b q " ++ hex s)
    ∷ codes "settle b q"
    ∷ codes "pop b q"
    ∷ []

-- the line of three draws: whose it is, which one, and what stands in it
abbrev pub line_of : ℕ → ℕ → ℕ → List ℕ
line_of p t s = get_or (if p % 2 == 0 then lines_of_a s else lines_of_b s) (t % 8) []

-- so many lines, from a state on
abbrev pub lines_from : ℕ → ℕ → List (List ℕ)
lines_from x zero = []
lines_from x (suc n) = line_of (drawn (next x)) (drawn (next (next x))) (drawn (next (next (next x)))) ∷ lines_from (next (next (next x))) n

abbrev pub prelude : List (List ℕ)
prelude =
    codes "app a"
    ∷ codes "app b"
    ∷ codes "vsic a v 8"
    ∷ codes "vsic b v 8"
    ∷ codes "vsa a r 32 raw"
    ∷ codes "vsa b r 32 raw"
    ∷ codes "bind a v r"
    ∷ codes "bind b v r"
    ∷ codes "buf a m 1024"
    ∷ codes "buf b m 1024"
    ∷ codes "vsic a w 4"
    ∷ codes "vsa a l 64 log"
    ∷ codes "log a l w"
    ∷ codes "vsic b w 4"
    ∷ codes "vsa b q 64 queue"
    ∷ codes "queue b q w"
    ∷ []

-- the script of a seed and a number of lines
abbrev pub generated : ℕ → ℕ → List (List ℕ)
generated seed lines = prelude ++ lines_from seed lines
