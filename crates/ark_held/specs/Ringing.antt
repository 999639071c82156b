-- Cards and doors by key, where one of them changes.
use Rattle.std.specs.Prelude.{◌≡◌, ℕ, Option, Some, None, IfSome, IsSome}
use Rattle.ark_vic.specs.Bells.{one_more}
use Rattle.ark_vic.specs.declared.door.Bell.{Bell}
use Rattle.ark_vic.specs.declared.door.Bell.TheVariants as bell
use Rattle.ark_vic.specs.declared.door.Counts.{Counts}
use Rattle.ark_vnic.specs.declared.arrived.Arrived.{Arrived}
use Rattle.ark_vnic.specs.declared.arrived.Arrived.TheVariants as arrived
use Rattle.ark_vsic.specs.declared.due.Moved.{Moved}
use Rattle.ark_vsic.specs.declared.due.Moved.TheVariants as moved

-- this key has this now, and each other one what it had
pub record Sets {X : Type 0} (key : ℕ) (now : X) (old new : ℕ → Option X) : Type 0 where
  pub here : new key ≡ Some now
  pub others : (k : ℕ) → (k ≡ key → ⊥) → new k ≡ old k

-- this bell rang once more at the door that watches, if one does
abbrev pub RingsBell : Bell → Option ℕ → (ℕ → Option Counts) → (ℕ → Option Counts) → Type 0
RingsBell b None old new = new ≡ old
RingsBell b (Some key) old new = (counts : Counts) × (old key ≡ Some counts) × Sets key (one_more counts b) old new

-- the bell of a storage card rang once more
abbrev pub Rings : Option ℕ → (ℕ → Option Counts) → (ℕ → Option Counts) → Type 0
Rings door old new = RingsBell bell.Io door old new

-- a descriptor that has ended rings
abbrev pub RingsAt : Moved → Option ℕ → (ℕ → Option Counts) → (ℕ → Option Counts) → Type 0
RingsAt (moved.Done o) door old new = Rings door old new
RingsAt _ door old new = new ≡ old

-- a frame that is delivered rings
abbrev pub RingsFor : Arrived → Option ℕ → (ℕ → Option Counts) → (ℕ → Option Counts) → Type 0
RingsFor arrived.Into door old new = RingsBell bell.Rx door old new
RingsFor _ door old new = new ≡ old

-- the door that watches a card, if one does, is there
abbrev pub IsWatching : Option ℕ → (ℕ → Option Counts) → Type 0
IsWatching door doors = IfSome door (λ key. IsSome (doors key))
