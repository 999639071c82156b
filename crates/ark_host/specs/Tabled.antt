-- The table of grants that a plane's slots stand for, on the device and in whatever image a stop may leave of it.
use Rattle.std.specs.Prelude.{◌≡◌, ℕ, ◌<◌, ◌≤◌, true, false, List, [], ◌∷◌, length, get_or, Option, Some, None, Contains}
use Rattle.ark_base.specs.declared.kind.Kind.{Kind}
use Rattle.ark_base.specs.declared.kind.Kind.TheVariants as kind
use Rattle.ark_media.specs.Journal.{History}
use Rattle.ark_table.specs.Slots.{Slot, area_of}
use Rattle.ark_table.specs.Standing.{IsTableOf, IsUnsettled, creates, grows as adds, removes}
use Rattle.ark_entry.specs.Found.{found_of}
use Rattle.ark_machine.specs.Objects.{Object}
use Rattle.ark_machine.specs.Plane.{Change, makes, grows, drops, is_granted}
use Rattle.ark_machine.specs.Grants.{SlotsAgree, has_block}
use Rattle.ark_machine.specs.Recovers.{object_lists, object_maybe}
use Rattle.ark_media.specs.Standing.{MayStand}
use Rattle.ark_held.specs.Areas.{MayShow}
use Rattle.ark_plane.specs.Tables.{table_of, with_longer}

-- Whatever a stop leaves of these blocks is what the object may have there: of a raw area block by block, of a log or queue one of
-- its lists.
abbrev pub LeavesAs : History → List ℕ → Kind → Option Object → Type 0
LeavesAs h blocks kind.Raw o = (k : ℕ) → k < length blocks → (c : List ℕ) → MayStand h (get_or blocks k 0) c → Contains (object_maybe k o) c
LeavesAs h blocks kind.Log o = (contents : List (List ℕ)) → MayShow h blocks contents → Contains (object_lists o) (found_of kind.Log contents)
LeavesAs h blocks kind.Queue o = (contents : List (List ℕ)) → MayShow h blocks contents → Contains (object_lists o) (found_of kind.Queue contents)

-- The device has the blocks of a slot, and a stop leaves of them what the object may have.
pub record LeavesObject (h : History) (t : Slot) (o : Option Object) : Type 0 where
  pub inside : (n : ℕ) → Contains t.blocks n → n < length h.base
  pub left : LeavesAs h t.blocks t.kind o

-- The device has the table of these slots; where a change of it failed in this run, a stop decides whether it came about.
abbrev pub TableStands : History → List Slot → Option Change → Type 0
TableStands h slots None = IsTableOf h (table_of slots)
TableStands h slots (Some (makes t)) = IsUnsettled h (table_of slots) (creates t.index (area_of t))
TableStands h slots (Some (grows t more)) = IsUnsettled h (table_of slots) (adds t.index (area_of t) more)
TableStands h slots (Some (drops t o)) = IsUnsettled h (table_of (t ∷ slots)) (removes t.index) × LeavesObject h t o

-- A slot whose making or removal failed goes with those that are held: none of its blocks is in another. One that was to be made
-- has a block. Where a raw area failed to grow, no slot has a block that was to be added.
abbrev pub StandsBeside : ℕ → List Slot → Option Change → Type 0
StandsBeside size slots None = Unit {0}
StandsBeside size slots (Some (makes t)) = SlotsAgree size (t ∷ slots) × (1 ≤ length t.blocks)
StandsBeside size slots (Some (grows t more)) = Contains slots t × (t.kind ≡ kind.Raw) × SlotsAgree size (with_longer t more slots) × ((n : ℕ) → has_block more n ≡ true → is_granted slots n ≡ false)
StandsBeside size slots (Some (drops t o)) = SlotsAgree size (t ∷ slots)

-- the blocks that a change is to add, or to give back: no later line writes them
abbrev pub unsettled_blocks : Option Change → List ℕ
unsettled_blocks None = []
unsettled_blocks (Some (makes t)) = t.blocks
unsettled_blocks (Some (grows t more)) = more
unsettled_blocks (Some (drops t o)) = t.blocks
