-- Which numbers a list has, and which commands can be given to it.
use Rattle.std.specs.Prelude.{◌≡◌, ℕ, ◌<◌, ◌≤◌, ◌-◌, List, [], ◌∷◌, length, get_or}
use Rattle.ark_entry.specs.Found.{Entries}
use Rattle.ark_caladan.specs.Chain.{Command, append, trim, pop, after_command, next_number}

-- the list has an entry of this number
abbrev pub HasEntry : Entries → ℕ → Type 0
HasEntry l i = (l.first ≤ i) × (i < next_number l)

-- the payload of a number that the list has
abbrev pub payload_of : Entries → ℕ → List ℕ
payload_of l i = get_or l.payloads (i - l.first) []

-- an append has the next number, a trim drops at least one entry and none that is not there, a pop drops the first
abbrev pub CanFollow : Entries → Command → Type 0
CanFollow l (append n payload) = n ≡ next_number l
CanFollow l (trim n) = (l.first < n) × (n ≤ next_number l)
CanFollow l (pop n) = (n ≡ l.first) × (0 < length l.payloads)

abbrev pub AllFit : Entries → List Command → Type 0
AllFit l [] = Unit {0}
AllFit l (c ∷ cs) = CanFollow l c × AllFit (after_command l c) cs

-- From one list to a later one: numbers go on, and an entry that both have is the same.
pub record GoesOn (l m : Entries) : Type 0 where
  pub first : l.first ≤ m.first
  pub next : next_number l ≤ next_number m
  pub kept : (i : ℕ) → HasEntry l i → HasEntry m i → payload_of m i ≡ payload_of l i
