-- The buffer of a reply after it was lent.
use Rattle.std.proofs.Common.{◌≡◌, ℕ, List, length, drop}
use Rattle.std.proofs.Math.Seq.{take-append_seam}
use Rattle.ark_script.specs.Lending.{fitted}

-- as many bytes as it has are its bytes
pub fitted_same : (xs ys : List ℕ) → length ys ≡ length xs → fitted xs ys ≡ ys
fitted_same xs ys h = rw (← h) (take-append_seam ys (drop (length ys) xs))
