-- A label table as the list of its pairs, in the order of adding.
use Rattle.std.specs.Prelude.{ℕ, List, Option, Contains, filter, not}
use Rattle.std.specs.Str.{bytes_eq}
use Rattle.std.specs.Map.{lookup, keys_of}

-- the first value under the label
abbrev pub value_at : {V : Type 0} → List (List ℕ × V) → List ℕ → Option V
value_at pairs label = lookup (bytes_eq label) pairs

-- a pair has the label
abbrev pub HasLabel : {V : Type 0} → List (List ℕ × V) → List ℕ → Type 0
HasLabel pairs label = Contains (keys_of pairs) label

-- the pairs under other labels, in their order
abbrev pub others : {V : Type 0} → List ℕ → List (List ℕ × V) → List (List ℕ × V)
others label pairs = filter (λ pair. not (bytes_eq label pair.0)) pairs
