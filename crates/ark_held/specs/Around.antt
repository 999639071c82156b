-- What is looked at to say what an application's labels stand for.
use Rattle.std.specs.Prelude.{◌≡◌, ℕ, List, [], ◌∷◌, length, find, Option, Some, None, option_map, unwrap_or}
use Rattle.ark_media.specs.Journal.{History}
use Rattle.ark_table.specs.Slots.{Slot}
use Rattle.ark_filters.specs.declared.live.Live.{Live}
use Rattle.ark_caps.specs.Labels.{value_at}
use Rattle.ark_caps.specs.declared.capability.CapKind.{CapKind}
use Rattle.ark_caps.specs.declared.capability.Capability.{Capability}
use Rattle.ark_region.specs.Frames.{Piece}
use Rattle.ark_machine.specs.Objects.{Buffer}
use Rattle.ark_machine.specs.Machine.{Machine}
use Rattle.ark_machine.specs.Plane.{is_slot_of}
use Rattle.ark_held.specs.Words.{Labels, AreaList}
use Rattle.ark_held.specs.Kept.{Tables}

-- all that one label's object is compared with
pub record Around : Type 0 where
  -- the application
  pub name : List ℕ
  -- the tick
  pub now : ℕ
  -- the grant numbers of the machine's objects: that of object i is at place i
  pub numbers : List ℕ
  pub labels : Labels
  pub areas : AreaList
  pub tables : Tables
  -- the slots that are held, and the live filters of all applications
  pub slots : List Slot
  pub rules : List Live
  -- what the disk went through
  pub history : History
  -- the private machine that it is compared with, for what stands under other labels
  pub machine : Machine

-- the slot of the application's area at a label
abbrev pub slot_at : Around → List ℕ → Option Slot
slot_at x l = find (λ t. is_slot_of x.name l t) x.slots

-- the blocks of that area, if it has one
abbrev pub blocks_under : Around → List ℕ → List ℕ
blocks_under x l = unwrap_or (option_map (λ s. s.blocks) (slot_at x l)) []

-- a label stands for the object of this kind under this key
pub record Names (x : Around) (l : List ℕ) (kind : CapKind) (key : ℕ) : Type 0 where
  pub cap : Capability
  pub there : value_at x.labels l ≡ Some cap
  pub its_kind : cap.kind ≡ kind
  pub its_key : cap.key ≡ key

-- a label stands for the object of this kind and grant
pub record IsGranted (x : Around) (l : List ℕ) (kind : CapKind) (grant : ℕ) : Type 0 where
  pub cap : Capability
  pub there : value_at x.labels l ≡ Some cap
  pub its_kind : cap.kind ≡ kind
  pub its_grant : cap.grant ≡ grant

-- the members of two lists stand for one another, in order
abbrev pub Each : {X Y : Type 0} → (X → Y → Type 0) → List X → List Y → Type 0
Each P [] [] = Unit {0}
Each P (x ∷ xs) (y ∷ ys) = P x y × Each P xs ys
Each P _ _ = ⊥

-- neither is there, or what is there stands for one another
abbrev pub Both : {X Y : Type 0} → (X → Y → Type 0) → Option X → Option Y → Type 0
Both P None None = Unit {0}
Both P (Some x) (Some y) = P x y
Both P _ _ = ⊥

-- where a buffer's bytes lie
abbrev pub piece_of : Buffer → Piece
piece_of b = record { start = b.start; len = length b.bytes }
