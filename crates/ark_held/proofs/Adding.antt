-- Areas by their grants.
use Rattle.std.proofs.Common.{◌≡◌, ℕ, [], ◌∷◌, ◌++◌, ap, nat_eq}
use Rattle.std.specs.Prelude.{None}
use Rattle.std.specs.Map.{lookup}
use Rattle.ark_held.specs.declared.areas.Area.{Area}
use Rattle.ark_held.specs.Words.{AreaList, with_area, added_to}

-- an area of a new grant goes last
pub added_last : (g : ℕ) (area : Area) (es : AreaList) → lookup (nat_eq g) es ≡ None → with_area es g area ≡ es ++ (g, area) ∷ []
added_last g area es none = ap (λ o. added_to es g area o) none
