-- The control plane: what is granted, as sets and lists of names, blocks and filters.
use Rattle.std.specs.Prelude.{ℕ, zero, suc, ◌+◌, ◌-◌, Bool, true, false, not, ◌&&◌, List, [], ◌++◌, length, take, nat_le, nat_lt, ◌==◌, if◌then◌else◌, Option, Some, None, is_some, is_none, option_map, find, filter as select, unwrap_or, bytes_eq}
use Rattle.std.specs.List.{list_any, range_with_len}
use Rattle.ark_extents.specs.Blocks.{runs_of}
use Rattle.ark_filters.specs.Overlap.{meets}
use Rattle.ark_filters.specs.declared.filter.Direction.{Direction}
use Rattle.ark_filters.specs.declared.filter.Direction.TheVariants as direction
use Rattle.ark_filters.specs.declared.filter.Filter.{Filter}
use Rattle.ark_packet.specs.declared.own.Own.{Own}
use Rattle.ark_table.specs.Slots.{Slot}
use Rattle.ark_script.specs.Line as w
use Rattle.ark_script.specs.Line.{Line}
use Rattle.ark_machine.specs.Objects.{Object}
use Rattle.ark_machine.specs.Row.{Given, Ended}

-- a live filter: who holds it under which label, and the card that it is assigned to
pub record LiveFilter : Type 0 where
  pub owner : List ℕ
  pub label : List ℕ
  pub rule : Filter
  pub card : Option (List ℕ)

-- a change of the table of grants: a new slot, more blocks of a slot, or a slot that goes, with what its area held
pub data Change : Type 0 where
  makes : Slot → Change
  grows : Slot → List ℕ → Change
  drops : Slot → Option Object → Change

pub record Plane : Type 0 where
  -- the device's number of blocks
  pub size : ℕ
  -- this end's addresses, once they are given
  pub own : Option Own
  -- the applications made in this run, in order
  pub apps : List (List ℕ)
  -- the slots that are held
  pub slots : List Slot
  -- the live filters, in the order of granting
  pub filters : List LiveFilter
  -- whether a change of the table has failed in this run, and that change
  pub failed : Bool
  pub unsettled : Option Change

-- the plane of a device with no grant
abbrev pub empty_plane : ℕ → Plane
empty_plane size = record { size = size; own = None; apps = []; slots = []; filters = []; failed = false; unsettled = None }

-- Slots and blocks.

abbrev pub is_slot_of : List ℕ → List ℕ → Slot → Bool
is_slot_of a l s = bytes_eq a s.app && bytes_eq l s.label

abbrev pub slot_of : Plane → List ℕ → List ℕ → Option Slot
slot_of p a l = find (λ s. is_slot_of a l s) p.slots

-- the blocks of an application's area at a label
abbrev pub blocks_at : Plane → List ℕ → List ℕ → List ℕ
blocks_at p a l = unwrap_or (option_map (λ s. s.blocks) (slot_of p a l)) []

-- the block is in a slot
abbrev pub is_granted : List Slot → ℕ → Bool
is_granted slots n = list_any (λ s. list_any (λ b. b == n) s.blocks) slots

-- the data blocks in no slot, in rising order
abbrev pub free_blocks : Plane → List ℕ
free_blocks p = select (λ n. not (is_granted p.slots n)) (range_with_len 129 (p.size - 129))

-- the least slot from i on, of the next n, that is free
abbrev pub free_slot_from : List Slot → ℕ → ℕ → ℕ
free_slot_from slots i zero = i
free_slot_from slots i (suc n) = if list_any (λ s. s.index == i) slots then free_slot_from slots (i + 1) n else i

abbrev pub max_slots : ℕ
max_slots = 128

abbrev pub free_slot : Plane → ℕ
free_slot p = free_slot_from p.slots 1 max_slots

-- Grants, as they are recorded for a line.

-- how many blocks the line asks for
abbrev pub asked : Line → Option ℕ
asked (w.vsa a s n k) = Some n
asked (w.grow a s n) = Some n
asked _ = None

-- the n lowest free blocks
abbrev pub lowest : Plane → ℕ → List ℕ
lowest p n = take n (free_blocks p)

-- the blocks that the line asks for
abbrev pub asked_blocks : Plane → Line → List ℕ
asked_blocks p line = unwrap_or (option_map (λ n. lowest p n) (asked line)) []

-- the blocks that stand before them in their area
abbrev pub before_them : Plane → Line → List ℕ
before_them p (w.grow a s n) = blocks_at p a s
before_them p _ = []

-- no area has more runs of blocks than these
abbrev pub max_runs : ℕ
max_runs = 16

-- at most so many applications are made in a run
abbrev pub max_apps : ℕ
max_apps = 16

-- whether a count over all applications stands at its limit for this line
abbrev pub is_at_limit : Plane → Line → Bool
is_at_limit p (w.app a frames) = nat_le max_apps (length p.apps)
is_at_limit p (w.vsa a s n k) = nat_le max_slots (length p.slots)
is_at_limit p _ = false

-- whether the line changes the table, so that it is refused once a change of the table has failed
abbrev pub is_change : Plane → Line → Bool
is_change p (w.vsa a s n k) = true
is_change p (w.grow a s n) = true
is_change p (w.drop a x) = is_some (slot_of p a x)
is_change p _ = false

abbrev pub is_receive : Direction → Bool
is_receive direction.Rx = true
is_receive direction.Tx = false

-- a receive filter that shares a frame with this one
abbrev pub is_overlapped : Filter → LiveFilter → Bool
is_overlapped rule f = is_receive rule.direction && (is_receive f.rule.direction && meets rule f.rule)

-- the earliest live receive filter that the line's filter overlaps
abbrev pub overlapped : Plane → Line → Option (List ℕ × List ℕ)
overlapped p (w.filter a f rule) = option_map (λ x. (x.owner, x.label)) (find (λ x. is_overlapped rule x) p.filters)
overlapped p _ = None

-- what is recorded for a line, with how its device calls ended and whether it found no memory
abbrev pub recorded : Plane → Line → List Ended → Bool → Given
recorded p line ends memory = record {
  limit = is_at_limit p line;
  no_nic = is_none p.own;
  no_space = unwrap_or (option_map (λ n. nat_lt (length (free_blocks p)) n) (asked line)) false;
  scattered = nat_lt max_runs (length (runs_of (before_them p line ++ asked_blocks p line)));
  overlap = overlapped p line;
  table_failed = is_change p line && p.failed;
  own = p.own;
  ended = ends;
  no_memory = memory;
}
