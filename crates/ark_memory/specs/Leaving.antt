-- Which bytes a stop may leave of a device, at a front of its events.
use Rattle.std.specs.Prelude.{◌≡◌, ℕ, ◌%◌, List, [], length, take}
use Rattle.ark_media.specs.Journal.{Event, onto}
use Rattle.ark_media.specs.Stops.{MayLeave, Whole}
use Rattle.ark_media.specs.Blocks.{whole_blocks}
use Rattle.ark_memory.specs.Reels.{Reel}

-- the journal of the first events
abbrev pub front_of : Reel → ℕ → List Event
front_of r front = onto (take front r.events) []

-- Whole blocks, each of which the base or a write of the front may leave there. Blocks are left whole.
pub record MayLeaveBytes (r : Reel) (front : ℕ) (bytes : List ℕ) : Type 0 where
  pub whole : length bytes % 512 ≡ 0
  pub blocks : MayLeave Whole r.base (front_of r front) (whole_blocks bytes)
