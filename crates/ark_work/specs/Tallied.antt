-- What the command `work` tells of the replies to its script.
use Rattle.std.specs.Prelude.{◌≡◌, ℕ, ◌+◌, ◌-◌, List, ◌++◌, length, filter, codes, decimal, ◌==◌, ◌||◌, bytes_eq, Bool, take}
use Rattle.std.specs.List.{position_or_len}
use Rattle.ark_work.specs.declared.tally.Tally.{Tally}

-- a space or a newline
abbrev pub ends_word : ℕ → Bool
ends_word b = (b == 32) || (b == 10)

-- the bytes up to the first of these
abbrev pub first_word : List ℕ → List ℕ
first_word reply = take (position_or_len ends_word reply) reply

-- so many of the replies begin with this word
abbrev pub replies_with : List ℕ → List (List ℕ) → ℕ
replies_with word replies = length (filter (λ reply. bytes_eq (first_word reply) word) replies)

-- the line of so many lines with these replies, those of the prelude too
abbrev pub summary : ℕ → List (List ℕ) → List ℕ
summary lines replies =
    codes "work " ++ decimal lines
    ++ codes " ok " ++ decimal (replies_with (codes "ok") replies)
    ++ codes " refused " ++ decimal (replies_with (codes "refused") replies)
    ++ codes " other " ++ decimal (length replies - replies_with (codes "ok") replies - replies_with (codes "refused") replies)

-- the tally is of these replies
pub record Tells (t : Tally) (replies : List (List ℕ)) : Type 0 where
  pub ok : t.ok ≡ replies_with (codes "ok") replies
  pub refused : t.refused ≡ replies_with (codes "refused") replies
  pub all : t.ok + t.refused + t.other ≡ length replies
