-- Buffers that commands take.
use Rattle.std.specs.Prelude.{◌≡◌, ℕ, List, Bool, true, length, replicate}
use Rattle.ark_region.specs.Frames.{Piece, Space, Apart, IsTaken, IsFreeRun, IsLeastPlace, LiesInRegion, bytes_of, frames_of, put}

-- no place in a region for a buffer of so many bytes
abbrev pub HasNoPlace : List Bool → ℕ → Type 0
HasNoPlace taken len = (s : ℕ) → ¬ IsFreeRun (IsTaken taken) (length taken) (frames_of len) s

-- a buffer is taken at the least place, and has these bytes; no other buffer's bytes changed
pub record IsNewBuffer (old new : Space) (bytes : List ℕ) (b : Piece) : Type 0 where
  pub place : IsLeastPlace (IsTaken old.taken) (length old.taken) (frames_of b.len) b.start
  pub lies : LiesInRegion new.taken b
  pub taken : new.taken ≡ put old.taken b.start (replicate (frames_of b.len) true)
  pub here : bytes_of new b ≡ bytes
  pub others : (a : Piece) → Apart b a → bytes_of new a ≡ bytes_of old a
