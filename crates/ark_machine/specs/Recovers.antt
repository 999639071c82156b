-- What a stop leaves of every grant: the table, each log and queue, and each block of a raw area. `Recovers` takes any change of the
-- table for the one that was begun; `RunRecovers` says it of a run, with the change that its next line began.
use Rattle.std.specs.Prelude.{◌≡◌, ◌⊎◌, ℕ, Bool, false, ◌||◌, List, [], ◌∷◌, ◌++◌, slice_get, slice_index_or, ◌==◌, if◌then◌else◌, Option, Some, None, option_map, option_and_then, unwrap_or, Ok, Err, Contains, Any}
use Rattle.std.specs.List.{list_any}
use Rattle.ark_base.specs.declared.kind.Kind.{Kind}
use Rattle.ark_base.specs.declared.kind.Kind.TheVariants as kind
use Rattle.ark_media.specs.Journal.{Event, Read, Write, Sync, Out, zero_block, block}
use Rattle.ark_table.specs.Slots.{Slot, slots_of}
use Rattle.ark_entry.specs.Found.{Found, found, found_of}
use Rattle.ark_caladan.specs.Chain.{lists}
use Rattle.ark_script.specs.Line.{Line}
use Rattle.ark_script.specs.Lines.{Meaning}
use Rattle.ark_machine.specs.Objects.{Object, as_raw, as_log}
use Rattle.ark_machine.specs.Machine.{object_at}
use Rattle.ark_machine.specs.Row.{Call}
use Rattle.ark_machine.specs.Plane.{Change, makes, grows, drops}
use Rattle.ark_machine.specs.Granting.{change_of, with_more}
use Rattle.ark_machine.specs.Start.{contents_at}
use Rattle.ark_machine.specs.System.{System, machine_of, owner, line_turn}

-- The change of the table that the line of the unfinished part began: a line that makes no device call begins none.
abbrev pub begun_with : System → Line → List ℕ → List Call → Option Change
begun_with s line a [] = None
begun_with s line a (c ∷ cs) = change_of s.plane (machine_of s a) line

abbrev pub begun_by : System → Line → Option (List ℕ) → Option Change
begun_by s line (Some a) = begun_with s line a (line_turn s line [] false).calls
begun_by s line None = None

abbrev pub begun : System → Option Meaning → Option Change
begun s None = None
begun s (Some (Err refusal)) = None
begun s (Some (Ok line)) = begun_by s line (owner line)

-- Slots. A change is one that a line began, or that failed.

-- the blocks that a change adds to a slot that is held
abbrev pub added_to : Slot → Option Change → List ℕ
added_to t (Some (grows u more)) = if u.index == t.index then more else []
added_to t _ = []

-- the slot is found as it is held, or with the new blocks behind its own
abbrev pub IsFound : Slot → Option Change → Slot → Type 0
IsFound t c seen = (seen ≡ t) ⊎ (seen ≡ with_more t (added_to t c))

abbrev pub IsDropped : Slot → Option Change → Type 0
IsDropped t (Some (drops u o)) = u ≡ t
IsDropped t _ = ⊥

abbrev pub IsMade : Slot → Option Change → Type 0
IsMade t (Some (makes u)) = u ≡ t
IsMade t _ = ⊥

-- a slot that is held stands in the image; one that is being dropped may be gone
abbrev pub HeldStands : List Slot → Option Change → Option Change → Slot → Type 0
HeldStands slots c unsettled t = ((u : Slot) × Contains slots u × (IsFound t c u ⊎ IsFound t unsettled u)) ⊎ IsDropped t c

-- a slot of the image is one that is held, one that a line was making, or one whose drop failed
abbrev pub IsKnown : List Slot → Option Change → Option Change → Slot → Type 0
IsKnown held c unsettled t =
    Any (λ h. IsFound h c t ⊎ IsFound h unsettled t) held ⊎ IsMade t c ⊎ IsMade t unsettled ⊎ IsDropped t unsettled

-- Contents.

abbrev pub object_lists : Option Object → List Found
object_lists o = unwrap_or (option_map lists (option_and_then as_log o)) []

abbrev pub object_maybe : ℕ → Option Object → List (List ℕ)
object_maybe k o = unwrap_or (option_map (λ r. slice_index_or r.maybe k []) (option_and_then as_raw o)) []

-- the object of a slot: of a drop that failed as it was at that line, else the machine's
abbrev pub dropped_object : Slot → Option Change → Option (Option Object)
dropped_object t (Some (drops u o)) = if u.index == t.index then Some o else None
dropped_object t _ = None

abbrev pub object_of : System → Slot → Option Object
object_of s t = unwrap_or (dropped_object t s.plane.unsettled) (object_at (machine_of s t.app) t.label)

-- the contents that events wrote to block n
abbrev pub written_to : ℕ → List Event → List (List ℕ)
written_to n [] = []
written_to n (Write k content took ok ∷ es) = if k == n then content ∷ written_to n es else written_to n es
written_to n (Read k ok ∷ es) = written_to n es
written_to n (Sync ok ∷ es) = written_to n es
written_to n (Out bytes ∷ es) = written_to n es

-- the change adds the block
abbrev pub is_new_block : ℕ → Option Change → Bool
is_new_block n (Some (makes u)) = list_any (λ b. b == n) u.blocks
is_new_block n (Some (grows u more)) = list_any (λ b. b == n) more
is_new_block n _ = false

-- the change makes the slot
abbrev pub is_new : Slot → Option Change → Bool
is_new t (Some (makes u)) = u.index == t.index
is_new t _ = false

-- what block n, at place k of the area of a slot, may hold; `rest` are the events of the unfinished part
abbrev pub block_choices : System → Option Change → List Event → Slot → ℕ → ℕ → List (List ℕ)
block_choices s c rest t k n =
    if is_new_block n c || is_new_block n s.plane.unsettled then zero_block ∷ []
    else object_maybe k (object_of s t) ++ written_to n rest

-- what may be found of the log or queue of a slot
abbrev pub log_choices : System → Option Change → Slot → List Found
log_choices s c t =
    if is_new t c || is_new t s.plane.unsettled then found (record { first = 1; payloads = [] }) ∷ []
    else object_lists (object_of s t)

abbrev pub LogStands : System → Option Change → List (List ℕ) → Slot → Type 0
LogStands s c image t = Contains (log_choices s c t) (found_of t.kind (contents_at image t.blocks))

abbrev pub BlocksStand : System → Option Change → List Event → List (List ℕ) → Slot → Type 0
BlocksStand s c rest image t = (k n : ℕ) → slice_get t.blocks k ≡ Some n → Contains (block_choices s c rest t k n) (block image n)

abbrev pub ContentStands : System → Option Change → List Event → List (List ℕ) → Slot → Kind → Type 0
ContentStands s c rest image t kind.Raw = BlocksStand s c rest image t
ContentStands s c rest image t kind.Log = LogStands s c image t
ContentStands s c rest image t kind.Queue = LogStands s c image t

-- An image that a stop leaves, by the system after the whole parts, the change that is said to have begun, and the events of the
-- unfinished part.
pub record Recovers (s : System) (c : Option Change) (rest : List Event) (image : List (List ℕ)) : Type 0 where
  pub slots : List Slot
  pub readable : slots_of image ≡ Ok slots
  pub held : (t : Slot) → Contains s.plane.slots t → HeldStands slots c s.plane.unsettled t
  pub others : (t : Slot) → Contains slots t → IsKnown s.plane.slots c s.plane.unsettled t
  pub contents : (t : Slot) → Contains slots t → ContentStands s c rest image t t.kind
