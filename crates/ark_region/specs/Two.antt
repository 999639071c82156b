-- Two parts of a slice that are lent at once.
use Rattle.std.specs.Prelude.{ℕ, List}
use Rattle.std.specs.Borrow.{LendsBoth, MutBor, Fml, Array, u8}
use Rattle.ark_region.specs.Frames.{put}

-- the slice ends with what was last written to each part, in its place, and is else as it was
abbrev pub LendsTwo : MutBor (List ℕ) → ℕ → ℕ → (MutBor (List ℕ) × MutBor (List ℕ)) → Fml
LendsTwo s i j r = LendsBoth (Array u8 0) (Array u8 0) (Array u8 0) s r (λ x y. put (put s.now i x) j y)
