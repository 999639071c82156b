-- Areas that are left as they are, or with more blocks.
use Rattle.std.proofs.Common.{◌≡◌, ℕ, nat_eq, refl, sym, subst, arith}
use Rattle.std.specs.Prelude.{Option, Some}
use Rattle.std.specs.Map.{lookup}
use Rattle.ark_held.specs.Words.{AreaList}
use Rattle.ark_held.specs.Keeps.{IsSpread}
use Rattle.ark_held.specs.declared.areas.Area.{Area}

-- the area that was there
pub spread_same : (areas : AreaList) (g : ℕ) (a : Area) → lookup (nat_eq g) areas ≡ Some a → IsSpread (lookup (nat_eq g) areas) a
spread_same areas g a is = subst (λ (o : Option Area). IsSpread o a) (sym is) (refl, omega arith)
