-- The areas that are bound to the cards of an application.
use Rattle.std.specs.Prelude.{◌≡◌, ◌<◌, ◌⊎◌, ℕ, true, false, List, [], ◌∷◌, length, nat_eq, Option, Some, is_some}
use Rattle.std.specs.List.{AllByRecursion}
use Rattle.std.specs.Map.{lookup}
use Rattle.ark_objects.specs.Held.{at}
use Rattle.ark_vsic.specs.Card.{is_bound, bound_with}
use Rattle.ark_held.specs.Words.{AreaList}
use Rattle.ark_held.specs.declared.card.StorageCard.{StorageCard}

-- k is none of these numbers
abbrev pub IsNoneOf : ℕ → List ℕ → Type 0
IsNoneOf k ks = AllByRecursion (λ z. nat_eq k z ≡ false) ks

-- no two of them are the same
abbrev pub AreApart : List ℕ → Type 0
AreApart [] = Unit {0}
AreApart (k ∷ ks) = IsNoneOf k ks × AreApart ks

-- the area of each of these grants is held
abbrev pub AreAreasOf : AreaList → List ℕ → Type 0
AreAreasOf areas ks = AllByRecursion (λ k. is_some (lookup (nat_eq k) areas) ≡ true) ks

-- the areas that are bound to a card are held, each of them once
pub record IsBoundTo (areas : AreaList) (bound : List ℕ) : Type 0 where
  pub apart : AreApart bound
  pub held : AreAreasOf areas bound

-- so it is at each card
abbrev pub AreBound : AreaList → List (Option StorageCard) → Type 0
AreBound areas cards = (key : ℕ) (c : StorageCard) → at cards key ≡ Some c → IsBoundTo areas c.vsic.bound

-- the card of a key has room for a binding to the area of a grant
pub record HasRoomToBind (cards : List (Option StorageCard)) (key grant : ℕ) : Type 0 where
  pub one : StorageCard
  pub there : at cards key ≡ Some one
  pub room : (length one.vsic.bound < 8) ⊎ (is_bound grant one.vsic.bound ≡ true)

-- with the area of a grant bound
abbrev pub with_bound : ℕ → StorageCard → StorageCard
with_bound grant c = record c { vsic = record c.vsic { bound = bound_with grant c.vsic.bound } }
