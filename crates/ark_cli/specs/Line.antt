-- What is kept of a script as it comes.
use Rattle.std.specs.Prelude.{ℕ, List, take}

-- of a line, as many bytes as tell that it is too long
unfoldable pub kept : List ℕ → List ℕ
kept line = take 66001 line

-- no more than these bytes of a script are run
abbrev pub limit : ℕ
limit = 1073741824

-- the first bytes of a script, up to the limit
unfoldable pub within_limit : List ℕ → List ℕ
within_limit script = take limit script
