-- A write to a block of an application's own.
use Rattle.std.specs.Prelude.{◌≡◌, ℕ, ◌<◌, Bool, false, List, [], ◌∷◌, length, get_or, Some, bytes_eq, Contains}
use Rattle.ark_media.specs.Journal.{Write}
use Rattle.ark_extents.specs.Blocks.{AreDistinct}
use Rattle.ark_table.specs.Slots.{Slot}
use Rattle.ark_machine.specs.Objects
use Rattle.ark_machine.specs.Objects.{Raw}
use Rattle.ark_machine.specs.Machine.{Held, at, with_object}
use Rattle.ark_machine.specs.Areas.{raw_written}
use Rattle.ark_media.specs.Standing.{after}
use Rattle.ark_held.specs.Around.{Around, slot_at}

-- Block n is at place off of the raw area under a label, and no other area of the application has it.
pub record IsOwnWrite (x : Around) (l : List ℕ) (r : Raw) (off n : ℕ) : Type 0 where
  pub held : Held
  pub there : at x.machine l ≡ Some held
  pub object : held.object ≡ Objects.raw r
  pub slot : Slot
  pub placed : slot_at x l ≡ Some slot
  pub distinct : AreDistinct slot.blocks
  pub near : off < length slot.blocks
  pub block : n ≡ get_or slot.blocks off 0
  pub others : (k : List ℕ) (u : Slot) → bytes_eq l k ≡ false → slot_at x k ≡ Some u → Contains u.blocks n → ⊥
  pub inside : (k : List ℕ) (u : Slot) (m : ℕ) → slot_at x k ≡ Some u → Contains u.blocks m → m < length x.history.base

-- what is around the application after a write of it, which may have taken effect and may have succeeded
abbrev pub with_write : Around → List ℕ → Raw → ℕ → ℕ → List ℕ → Bool → Bool → Around
with_write x l r off n b took ok = record x {
  history = after x.history (Write n b took ok ∷ []);
  machine = with_object x.machine l (Objects.raw (raw_written off b took r));
}
