-- A region as frames of 512 bytes, and the buffers that lie in it.
use Rattle.std.specs.List.{AllByRecursion}
use Rattle.std.specs.Prelude.{◌≡◌, ◌+◌, ◌*◌, ◌/◌, ◌<◌, ◌≤◌, ◌⊎◌, ◌↔◌, ℕ, Bool, true, false, List, [], ◌∷◌, ◌++◌, length, take, drop, slice_range, slice_index_or}

-- what contracts see of a region: which of its frames are taken, and its bytes, 512 to a frame
pub record Space : Type 0 where
  pub taken : List Bool
  pub bytes : List ℕ

-- what contracts see of a buffer: the frame where it starts, and its length in bytes
pub record Piece : Type 0 where
  pub start : ℕ
  pub len : ℕ

-- how many frames hold len bytes
abbrev pub frames_of : ℕ → ℕ
frames_of len = (len + 511) / 512

-- The place of a new buffer: k neighbouring frames from frame s on, inside n frames, of which none is occupied;
pub record IsFreeRun (IsOccupied : ℕ → Type 0) (n k s : ℕ) : Type 0 where
  pub inside : s + k ≤ n
  pub free : (j : ℕ) → s ≤ j → j < s + k → ¬ IsOccupied j

-- the least such place.
pub record IsLeastPlace (IsOccupied : ℕ → Type 0) (n k s : ℕ) : Type 0 where
  pub here : IsFreeRun IsOccupied n k s
  pub least : (j : ℕ) → j < s → ¬ IsFreeRun IsOccupied n k j

-- frame j is taken
abbrev pub IsTaken : List Bool → ℕ → Type 0
IsTaken taken j = slice_index_or taken j false ≡ true

-- frame j is one of the buffer's
abbrev pub Covers : Piece → ℕ → Type 0
Covers b j = (b.start ≤ j) × (j < b.start + frames_of b.len)

-- two buffers share no frame
abbrev pub Apart : Piece → Piece → Type 0
Apart a b = (j : ℕ) → Covers a j → ¬ Covers b j

-- frame j is one of a live buffer's
abbrev pub IsLive : List Piece → ℕ → Type 0
IsLive [] j = ⊥
IsLive (b ∷ live) j = Covers b j ⊎ IsLive live j

-- no frame is in two of the buffers
abbrev pub ShareNoFrame : List Piece → Type 0
ShareNoFrame [] = Unit {0}
ShareNoFrame (b ∷ live) = ((j : ℕ) → Covers b j → ¬ IsLive live j) × ShareNoFrame live

-- the buffer's frames are inside the region
abbrev pub LiesInRegion : List Bool → Piece → Type 0
LiesInRegion taken b = b.start + frames_of b.len ≤ length taken

-- the taken frames are those of the live buffers, which lie inside the region and share none
pub record AreFramesOf (taken : List Bool) (live : List Piece) : Type 0 where
  pub same : (j : ℕ) → IsTaken taken j ↔ IsLive live j
  pub inside : AllByRecursion (LiesInRegion taken) live
  pub apart : ShareNoFrame live

-- the bytes of a buffer
abbrev pub bytes_of : Space → Piece → List ℕ
bytes_of r b = slice_range r.bytes (512 * b.start) (512 * b.start + b.len)

-- xs, with ys from place i on
abbrev pub put : {X : Type 0} → List X → ℕ → List X → List X
put xs i ys = take i xs ++ (ys ++ drop (i + length ys) xs)

-- ys, cut or filled up from xs to the length of xs
abbrev pub fitted : {X : Type 0} → List X → List X → List X
fitted xs ys = take (length xs) (ys ++ drop (length ys) xs)

-- xs, with ys from place i on, fitted to the length of xs
abbrev pub written : {X : Type 0} → List X → ℕ → List X → List X
written xs i ys = fitted xs (take i xs ++ (ys ++ drop (length ys) (drop i xs)))

-- these bytes were written into a buffer from its byte at on; all others are as they were
pub record Wrote (old new : Space) (b : Piece) (at : ℕ) (bytes : List ℕ) : Type 0 where
  pub taken : new.taken ≡ old.taken
  pub here : bytes_of new b ≡ put (bytes_of old b) at bytes
  pub others : (a : Piece) → Apart b a → bytes_of new a ≡ bytes_of old a
