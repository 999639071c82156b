-- The words of a refusal begin with its number and a space.
use Rattle.std.specs.Prelude.{◌≡◌, ◌∷◌, ◌++◌, List, ℕ, decimal, refl}
use Rattle.std.specs.Fmt.{digits}
use Rattle.ark_base.specs.declared.refusal.Refusal.{Refusal}
use Rattle.ark_base.specs.declared.refusal.Refusal.TheVariants as r
use Rattle.ark_base.specs.Refusal.{number_of, words_of}

-- what stands behind the number, for a witness
pub numbered : (refusal : Refusal) → (rest : List ℕ) × (words_of refusal ≡ decimal (number_of refusal) ++ 32 ∷ rest)
unfolding digits
numbered r.Syntax = (_, refl)
numbered r.UnknownWord = (_, refl)
numbered r.NoApplication = (_, refl)
numbered r.NameTaken = (_, refl)
numbered (r.NoGrant label) = (_, refl)
numbered r.WrongKind = (_, refl)
numbered r.Limit = (_, refl)
numbered r.NoNic = (_, refl)
numbered r.OutOfRange = (_, refl)
numbered r.NoSpace = (_, refl)
numbered r.Scattered = (_, refl)
numbered (r.Overlap app label) = (_, refl)
numbered r.RingFull = (_, refl)
numbered r.NoBuffer = (_, refl)
numbered r.Lent = (_, refl)
numbered r.Busy = (_, refl)
numbered r.LogFailed = (_, refl)
numbered r.LogFull = (_, refl)
numbered r.NoEntry = (_, refl)
numbered r.NoMemory = (_, refl)
numbered r.DeviceFault = (_, refl)
numbered r.TableFailed = (_, refl)
numbered (r.Damaged entry) = (_, refl)
numbered r.TooLong = (_, refl)
