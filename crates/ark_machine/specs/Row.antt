-- What one line does to its application's machine: the row of its word.
use Rattle.std.specs.Prelude.{ℕ, Bool, true, false, not, ◌&&◌, List, [], ◌∷◌, map, Option, Some, None}
use Rattle.std.specs.List.{list_any}
use Rattle.ark_base.specs.Conditions.{Conditions, early, late}
use Rattle.ark_base.specs.declared.refusal.Refusal.{Refusal}
use Rattle.ark_packet.specs.declared.own.Own.{Own}
use Rattle.ark_caladan.specs.Chain.{Verb, reading, writing, syncing}
use Rattle.ark_script.specs.declared.said.Said.{Said}
use Rattle.ark_script.specs.declared.said.Said.TheVariants as said
use Rattle.ark_machine.specs.Objects
use Rattle.ark_machine.specs.Objects.{Object}
use Rattle.ark_machine.specs.Machine.{Machine, each_object}

-- what a device call was, whether it succeeded, and whether it took effect
pub record Ended : Type 0 where
  pub verb : Verb
  pub ok : Bool
  pub took : Bool

-- What a line is given beside its machine: what the plane records of it, how its device calls ended, and whether memory
-- was wanting.
pub record Given : Type 0 where
  -- a count over all applications stands at its limit
  pub limit : Bool
  -- this end has no addresses yet
  pub no_nic : Bool
  -- fewer blocks are free than are asked for
  pub no_space : Bool
  -- the blocks would stand in too many runs
  pub scattered : Bool
  -- the earliest live receive filter that the new one overlaps, by its owner and label
  pub overlap : Option (List ℕ × List ℕ)
  -- the line changes the table of grants, and a change of it has failed in this run
  pub table_failed : Bool
  pub own : Option Own
  pub ended : List Ended
  pub no_memory : Bool

-- Device calls, at places of the application's own areas, which are named by their labels.
pub data Call : Type 0 where
  -- of block k of the area
  reads : List ℕ → ℕ → Call
  writes : List ℕ → ℕ → List ℕ → Call
  syncs : Call
  -- one read, or one write of any content, anywhere in the area
  reads_in : List ℕ → Call
  writes_in : List ℕ → Call
  -- one write of any content to the area's first block
  writes_first : List ℕ → Call
  -- any number of reads in the area, or of zero writes to any of its blocks but the first
  reads_some : List ℕ → Call
  zeroes_some : List ℕ → Call
  -- a zero write to new block k
  zeroes_new : ℕ → Call
  -- the write of the line's slot in the table of grants
  writes_slot : Call

pub record Row : Type 0 where
  pub machine : Machine
  pub said : Said
  -- the bytes that the reply shows
  pub bytes : List ℕ
  -- the calls, as far as none fails
  pub calls : List Call

-- a reply with no bytes and no device call
abbrev pub says : Machine → Said → Row
says m s = record { machine = m; said = s; bytes = []; calls = [] }

-- whether a device call failed
abbrev pub has_fault : List Ended → Bool
has_fault ends = list_any (λ e. not e.ok) ends

abbrev pub is_sync : Verb → Bool
is_sync reading = false
is_sync writing = false
is_sync syncing = true

-- an area after a sync that succeeded: what a stop may leave is its content alone
abbrev pub settled : Object → Object
settled (Objects.raw r) = Objects.raw (record r { maybe = map (λ b. b ∷ []) r.content })
settled o = o

abbrev pub synced : Bool → Machine → Machine
synced true m = each_object settled m
synced false m = m

-- the machine after a line's calls, one of which may be a sync that succeeded
abbrev pub synced_by : List Ended → Machine → Machine
synced_by ends m = synced (list_any (λ e. e.ok && is_sync e.verb) ends) m

abbrev pub unless_refused : Option Refusal → Option Refusal → Machine → Row → Row
unless_refused (Some r) later m row = says m (said.Refused r)
unless_refused None (Some r) m row = record row { said = said.Refused r; bytes = [] }
unless_refused None None m row = row

-- The row where no condition holds, else the first refusal. One that comes before any device call leaves the machine;
-- one that only device calls tell leaves the row's machine and calls.
unfoldable pub answer : Machine → Conditions → Row → Row
answer m c row = unless_refused (early c) (late c) m row
