-- Moves in a row, each of which succeeds.
use Rattle.std.specs.Prelude.{◌≡◌, ◌≢◌, ℕ, zero, suc, ◌≤◌, ◌<◌, true, List, length, Some, None, slice_get, IsSome}
use Rattle.ark_vic.specs.declared.descriptor.Descriptor.{Descriptor}
use Rattle.ark_vic.specs.declared.descriptor.Job.TheVariants as job
use Rattle.ark_vsic.specs.Card.{Card, Areas, head_of}
use Rattle.ark_vsic.specs.Places.{place_of}
use Rattle.ark_vsic.specs.Moves.{due_of, area_of, answer_of, ring_after, pace_after}

-- the card after a move at a tick
abbrev pub moved_on : Card → Areas → ℕ → Card
moved_on card held now = record {
  ring = ring_after card.ring (answer_of card (due_of card held now) true);
  bound = card.bound;
  pace = pace_after card.pace (due_of card held now) now;
}

abbrev pub after_moves : ℕ → Card → Areas → ℕ → Card
after_moves zero card held now = card
after_moves (suc n) card held now = moved_on (after_moves n card held now) held now

-- with so many blocks moved
abbrev pub with_moved : Card → ℕ → Card
with_moved card k = record card { ring = record card.ring { moved = k } }

-- nothing paces the card, and each block of its oldest descriptor that has not moved yet has a place in an area that is
-- bound and held
pub record CanTransfer (card : Card) (held : Areas) (d : Descriptor) (blocks : List ℕ) : Type 0 where
  pub oldest : head_of card.ring ≡ Some d
  pub moves : d.job ≢ job.Sync
  pub area : area_of d.grant card.bound held ≡ Some blocks
  pub unpaced : card.pace ≡ None
  pub inside : (k : ℕ) → card.ring.moved ≤ k → k < d.count → IsSome (slice_get blocks (place_of (length blocks) d.wrap d.first k))
