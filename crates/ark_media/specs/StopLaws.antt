-- Laws on what a stop may leave of a disk, in one model of a disk.
use Rattle.std.specs.Prelude.{◌≡◌, ◌≢◌, ◌<◌, ℕ, Bool, true, List, ◌∷◌, length}
use Rattle.ark_media.specs.Journal.{Event, Write, Sync, current}
use Rattle.ark_media.specs.Stops.{MayHold, MayLeave, LeftInWords}

pub record StopLaws (Torn : List ℕ → List ℕ → Type 0) : Type 0 where
  -- the recursion over a journal says what the words say, both ways
  pub in_words : (base : List (List ℕ)) (j : List Event) (image : List (List ℕ))
      → MayLeave Torn base j image → LeftInWords Torn base j image
  pub by_recursion : (base : List (List ℕ)) (j : List Event) (image : List (List ℕ))
      → LeftInWords Torn base j image → MayLeave Torn base j image
  -- a write adds only to what may be left of its own block
  pub write_adds : (base : List (List ℕ)) (j : List Event) (m n : ℕ) (c : List ℕ) (took ok : Bool) (b : List ℕ)
      → n ≢ m → MayHold Torn base (Write m c took ok ∷ j) n b → MayHold Torn base j n b
  -- a sync, failed or not, adds nothing
  pub sync_narrows : (base : List (List ℕ)) (j : List Event) (ok : Bool) (n : ℕ) (b : List ℕ)
      → n < length base → MayHold Torn base (Sync ok ∷ j) n b → MayHold Torn base j n b
  -- what stands is among what may be left, and after a sync that succeeded it is all
  pub now_may : (base : List (List ℕ)) (j : List Event) → MayLeave Torn base j (current base j)
  pub synced : (base : List (List ℕ)) (j : List Event) (image : List (List ℕ))
      → MayLeave Torn base (Sync true ∷ j) image → image ≡ current base j
