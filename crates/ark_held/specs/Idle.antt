-- Cards on which no log is open, and those that have nothing in their rings.
use Rattle.std.specs.Prelude.{◌≡◌, ◌==◌, ◌&&◌, ℕ, true, List, length, Option, Some, None}
use Rattle.ark_objects.specs.Held.{at}
use Rattle.ark_held.specs.declared.card.StorageCard.{StorageCard}

-- no log is open on the card of a key
abbrev pub IsShut : List (Option StorageCard) → ℕ → Type 0
IsShut cards key = (c : StorageCard) → at cards key ≡ Some c → c.log ≡ None

-- nothing is posted or unreaped on the card of a key
abbrev pub IsUnused : List (Option StorageCard) → ℕ → Type 0
IsUnused cards key = (c : StorageCard) → at cards key ≡ Some c → (length c.vsic.ring.posted == 0) && (length c.vsic.ring.unreaped == 0) ≡ true
