-- An open log or queue as its code keeps it.
use Rattle.std.specs.Prelude.{◌≡◌, ◌≤◌, ◌<◌, ℕ, ◌+◌, ◌*◌, ◌^◌, Bool, false, List, [], ◌∷◌, All, length, take, sum_by, Option, Some, IfSome}
use Rattle.ark_base.specs.declared.kind.Kind.{Kind}
use Rattle.ark_region.specs.Frames.{Piece}
use Rattle.ark_entry.specs.Entry.{entry_blocks}
use Rattle.ark_log.specs.declared.command.Command.{Command}
use Rattle.ark_log.specs.declared.command.Command.TheVariants.{Append, Trim, Pop}
use Rattle.ark_log.specs.declared.command.Waiting.{Waiting}

-- What contracts see of it. Its ring has so many blocks. The list that is acknowledged has so many entries from a number on, and begins
-- at a block of the ring. `coming` is the number of the first entry once all commands that wait are acknowledged. The lengths are those
-- of the entries of the list, whose blocks are stored, and of those that wait to be appended; with these so many blocks are used.
pub record OpenChain : Type 0 where
  pub kind : Kind
  pub grant : ℕ
  pub room : ℕ
  pub first : ℕ
  pub start : ℕ
  pub count : ℕ
  pub coming : ℕ
  pub lengths : List ℕ
  pub stored : ℕ
  pub used : ℕ
  pub header_at : ℕ
  pub header : Option Piece
  pub waiting : List Waiting
  -- so many stages of the oldest command are whole
  pub done : ℕ
  pub failed : Bool

-- the log or queue of an area of zeros, whose ring has so many blocks
abbrev pub new_chain : Kind → ℕ → ℕ → Piece → OpenChain
new_chain kind grant room header = record {
  kind = kind;
  grant = grant;
  room = room;
  first = 1;
  start = 0;
  count = 0;
  coming = 1;
  lengths = [];
  stored = 0;
  used = 0;
  header_at = header.start;
  header = Some header;
  waiting = [];
  done = 0;
  failed = false;
}

-- a command can be given to a list of entries from one number on up to another
abbrev pub CanCome : Command → ℕ → ℕ → Type 0
CanCome (Append n) first next = n ≡ next
CanCome (Trim n) first next = (first < n) × (n ≤ next)
CanCome (Pop n) first next = (n ≡ first) × (first < next)

-- these numbers after it
abbrev pub first_after : Command → ℕ → ℕ
first_after (Append n) first = first
first_after (Trim n) first = n
first_after (Pop n) first = n + 1

abbrev pub next_after : Command → ℕ → ℕ
next_after (Append n) next = next + 1
next_after (Trim n) next = next
next_after (Pop n) next = next

-- the commands can be given one after another, and lead from the one list to the other
abbrev pub LeadTo : ℕ → ℕ → List Waiting → ℕ → ℕ → Type 0
LeadTo first next [] coming end = (first ≡ coming) × (next ≡ end)
LeadTo first next (w ∷ ws) coming end = CanCome w.command first next × LeadTo (first_after w.command first) (next_after w.command next) ws coming end

-- its entry is short, and its buffer is where it says, and has the entry's blocks
abbrev pub HasBuffer : Waiting → Type 0
HasBuffer w = (w.len ≤ 32768) × IfSome w.buf (λ b. (b.start ≡ w.start) × (b.len ≡ 512 * entry_blocks w.len))

-- what is so of every open log
pub record IsRight (v : OpenChain) : Type 0 where
  pub some : v.start < v.room
  pub few : v.room + 1 < 2 ^ 32
  pub used_is : v.used ≡ sum_by entry_blocks v.lengths
  pub fits : v.used ≤ v.room
  pub all_short : All (λ len. len ≤ 32768) v.lengths
  pub counted : v.count ≤ length v.lengths
  pub stored_is : v.stored ≡ sum_by entry_blocks (take v.count v.lengths)
  pub from_one : 1 ≤ v.first
  pub last : v.first + length v.lengths ≤ 2 ^ 62 + 1
  pub short : length v.waiting ≤ 8
  pub in_turn : LeadTo v.first (v.first + v.count) v.waiting v.coming (v.first + length v.lengths)
  pub buffers : All HasBuffer v.waiting
  pub header_is : IfSome v.header (λ b. (b.start ≡ v.header_at) × (b.len ≡ 512))
