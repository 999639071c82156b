-- The blocks that a card may touch.
use Rattle.std.specs.Prelude.{◌≡◌, ◌≤◌, ℕ, true, List, length, Some, slice_get, Contains}
use Rattle.ark_vic.specs.Pace.{Pace, Pass, IsPaceOf}
use Rattle.ark_vic.specs.declared.descriptor.Descriptor.{Descriptor}
use Rattle.ark_vsic.specs.Card.{Card, Areas, is_bound, head_of}
use Rattle.ark_vsic.specs.Places.{place_after}

-- block n of the device is that of the oldest descriptor's next place, in an area that is bound to the card and held
pub record IsItsOwn (card : Card) (held : Areas) (n : ℕ) : Type 0 where
  pub head : Descriptor
  pub oldest : head_of card.ring ≡ Some head
  pub bound : is_bound head.grant card.bound ≡ true
  pub blocks : List ℕ
  pub area : Contains held (head.grant, blocks)
  pub place : slice_get blocks (place_after (length blocks) head.wrap head.first card.ring.moved) ≡ Some n

-- the rate that paces the card stands for these passes, none of them later than this tick
pub record IsPacedFor (card : Card) (r : Pace) (p : List Pass) (now : ℕ) : Type 0 where
  pub rate : card.pace ≡ Some r
  pub stands : IsPaceOf r p
  pub later : r.tick ≤ now
