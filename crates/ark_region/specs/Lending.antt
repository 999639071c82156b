-- Parts of a region that are lent.
use Rattle.std.specs.Prelude.{ℕ, List, ◌*◌}
use Rattle.std.specs.Borrow.{Lends, LendsBoth, MutBor, Fml, Array, u8}
use Rattle.ark_region.specs.Frames.{Space, Piece, written, fitted, put}
use Rattle.ark_region.specs.contracts.region.Region.{the_row}

-- the region ends with what was last written to the piece in its place
abbrev pub LendsPiece : MutBor Space → ℕ → MutBor (List ℕ) → Fml
LendsPiece m at r = Lends the_row (Array u8 0) m r (λ w. record m.now { bytes = written m.now.bytes at w })

-- the region ends with what was last written to all of its bytes
abbrev pub LendsWhole : MutBor Space → MutBor (List ℕ) → Fml
LendsWhole m r = Lends the_row (Array u8 0) m r (λ w. record m.now { bytes = fitted m.now.bytes w })

-- the region ends with what was last written to each of two buffers, in its place, and is else as it was
abbrev pub LendsPieces : MutBor Space → Piece → Piece → (MutBor (List ℕ) × MutBor (List ℕ)) → Fml
LendsPieces m a b r = LendsBoth the_row (Array u8 0) (Array u8 0) m r (λ x y. record m.now { bytes = fitted m.now.bytes (put (put m.now.bytes (512 * a.start) x) (512 * b.start) y) })
