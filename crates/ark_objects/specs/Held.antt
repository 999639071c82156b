-- Objects by key.
use Rattle.std.specs.Prelude.{◌≡◌, ◌≢◌, ℕ, List, Option, None, is_some, slice_index_or}
use Rattle.std.specs.List.{count_by}

module _ {T : Type 0} where
  -- the object at a key
  abbrev pub at : List (Option T) → ℕ → Option T
  at slots key = slice_index_or slots key None

  -- how many objects there are
  abbrev pub held : List (Option T) → ℕ
  held slots = count_by is_some slots

  -- the key has this now, and each other key what it had
  pub record Changes (old new : List (Option T)) (key : ℕ) (now : Option T) : Type 0 where
    pub changed : at new key ≡ now
    pub others : (other : ℕ) → other ≢ key → at new other ≡ at old other
