-- Events that leave some blocks as they are.
use Rattle.std.specs.Prelude.{ℕ, List, [], ◌∷◌, Contains}
use Rattle.ark_media.specs.Journal.{Event, Read, Write, Sync, Out}

-- none of the events writes one of these blocks
abbrev pub AreBeside : List ℕ → List Event → Type 0
AreBeside blocks [] = Unit {0}
AreBeside blocks (Write n content took ok ∷ es) = (Contains blocks n → ⊥) × AreBeside blocks es
AreBeside blocks (Read n ok ∷ es) = AreBeside blocks es
AreBeside blocks (Sync ok ∷ es) = AreBeside blocks es
AreBeside blocks (Out bytes ∷ es) = AreBeside blocks es
