-- Objects by key, where one of them changes.
use Rattle.std.proofs.Common.{◌≡◌, ℕ, zero, suc, ◌<◌, List, [], ◌∷◌, length, set, ap, arith}
use Rattle.std.specs.Prelude.{Option, Some, None, is_some}
use Rattle.std.proofs.lemmas.Bool.{false≢true}
use Rattle.std.proofs.lemmas.List.{get_or-set_same, get_or-set_other}
use Rattle.ark_objects.specs.Held.{at, Changes}

in_range : {T : Type 0} (xs : List (Option T)) (key : ℕ) (one : T) → at xs key ≡ Some one → key < length xs
in_range [] key one is = absurd (false≢true (ap is_some is))
in_range (x ∷ xs) zero one is = omega arith
in_range (x ∷ xs) (suc key) one is = let r = in_range xs key one is in omega (arith, r)

-- a key that has an object has another one
pub changes_set : {T : Type 0} (xs : List (Option T)) (key : ℕ) (one now : T) → at xs key ≡ Some one → Changes xs (set xs key (Some now)) key (Some now)
changes_set xs key one now there = record { changed = get_or-set_same xs key (Some now) None (in_range xs key one there); others = λ other apart. get_or-set_other xs key other (Some now) None apart }
