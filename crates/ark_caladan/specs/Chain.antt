-- Logs and queues: lists of entries, commands, and what a command still has to do.
use Rattle.std.specs.Prelude.{ℕ, ◌+◌, ◌-◌, Bool, true, false, List, [], ◌∷◌, ◌++◌, length, take, drop, map, sum_by, if◌then◌else◌, Option, Some, None}
use Rattle.ark_base.specs.declared.kind.Kind.{Kind}
use Rattle.ark_entry.specs.Entry.{entry_blocks}
use Rattle.ark_entry.specs.Found.{Entries, Found, found, damaged}

-- a command with its number: of the new entry, the first that stays, or the entry that is dropped
pub data Command : Type 0 where
  append : ℕ → List ℕ → Command
  trim : ℕ → Command
  pop : ℕ → Command

abbrev pub after_command : Entries → Command → Entries
after_command l (append n payload) = record l { payloads = l.payloads ++ payload ∷ [] }
after_command l (trim n) = record { first = n; payloads = drop (n - l.first) l.payloads }
after_command l (pop n) = record { first = l.first + 1; payloads = drop 1 l.payloads }

abbrev pub after_all : Entries → List Command → Entries
after_all l [] = l
after_all l (c ∷ cs) = after_all (after_command l c) cs

abbrev pub next_number : Entries → ℕ
next_number l = l.first + length l.payloads

abbrev pub blocks_of : List (List ℕ) → ℕ
blocks_of payloads = sum_by (λ p. entry_blocks (length p)) payloads

-- what one device call of a phase does
pub data Verb : Type 0 where
  reading : Verb
  writing : Verb
  syncing : Verb

pub record Phase : Type 0 where
  pub verb : Verb
  pub count : ℕ
  -- whether it holds the deciding write
  pub decides : Bool

abbrev pub phase : Verb → ℕ → Phase
phase v n = record { verb = v; count = n; decides = false }

abbrev pub deciding : Phase
deciding = record { verb = writing; count = 1; decides = true }

-- the phases of a command on the acknowledged list
abbrev pub phases_of : Entries → Command → List Phase
phases_of l (append n payload) = phase writing (entry_blocks (length payload)) ∷ phase syncing 1 ∷ deciding ∷ phase syncing 1 ∷ []
phases_of l (trim n) = deciding ∷ phase syncing 1 ∷ phase writing (blocks_of (take (n - l.first) l.payloads)) ∷ phase syncing 1 ∷ []
phases_of l (pop n) = phase reading (blocks_of (take 1 l.payloads)) ∷ deciding ∷ phase syncing 1 ∷ phase writing (blocks_of (take 1 l.payloads)) ∷ phase syncing 1 ∷ []

-- so many moves of the card's ring the phases take
abbrev pub moves_of : List Phase → ℕ
moves_of phases = sum_by (λ p. p.count) phases

-- a command that waits, and where its buffer begins, for an append or a pop
pub record Waiting : Type 0 where
  pub command : Command
  pub room : List (ℕ × ℕ)

pub record Opened : Type 0 where
  pub card : List ℕ
  pub failed : Bool
  -- the frame of the application's region in which the header's block stands
  pub header_frame : ℕ
  pub waiting : List Waiting
  -- how many phases of the oldest are finished and polled
  pub done : ℕ
  -- whether its deciding write took
  pub decided : Bool

pub record Log : Type 0 where
  pub kind : Kind
  -- of its area, with the header's
  pub blocks : ℕ
  pub list : Found
  pub opened : Option Opened
  -- the command that closing a failed log left over, and whether its deciding write took
  pub left : Option (Command × Bool)

-- the list as entries; of a damaged log none
abbrev pub entries : Found → Entries
entries (found l) = l
entries (damaged n) = record { first = 1; payloads = [] }

abbrev pub commands : Opened → List Command
commands o = map (λ w. w.command) o.waiting

-- The command in progress or left over, and whether its deciding write took.
abbrev pub oldest_of : List Waiting → Bool → Option (Command × Bool)
oldest_of [] took = None
oldest_of (w ∷ ws) took = Some (w.command, took)

abbrev pub pending : Option Opened → Option (Command × Bool) → Option (Command × Bool)
pending (Some o) left = oldest_of o.waiting o.decided
pending None left = left

abbrev pub in_progress : Log → Option (Command × Bool)
in_progress g = pending g.opened g.left

abbrev pub stored_after : Found → Option (Command × Bool) → Found
stored_after (found l) (Some c) = found (if c.1 then after_command l c.0 else l)
stored_after (found l) None = found l
stored_after (damaged n) c = damaged n

-- what an opening finds
abbrev pub stored : Log → Found
stored g = stored_after g.list (in_progress g)

abbrev pub list_choices : Found → Option (Command × Bool) → List Found
list_choices (found l) (Some c) = found l ∷ found (after_command l c.0) ∷ []
list_choices (found l) None = found l ∷ []
list_choices (damaged n) c = damaged n ∷ []

-- what a stop may leave of the log
abbrev pub lists : Log → List Found
lists g = list_choices g.list (in_progress g)
