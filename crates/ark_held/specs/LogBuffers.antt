-- Where the buffers of open logs lie.
use Rattle.std.specs.Prelude.{◌≡◌, ℕ, Bool, List, length, Option, Some, IfSome}
use Rattle.ark_objects.specs.Held.{at}
use Rattle.ark_log.specs.Closed.{HasBuffersIn}
use Rattle.ark_log.specs.Open.{OpenChain}
use Rattle.ark_held.specs.declared.card.StorageCard.{StorageCard}

-- in a memory of so many frames, if a log is open
abbrev pub LiesIn : ℕ → Option OpenChain → Type 0
LiesIn frames log = (taken : List Bool) → length taken ≡ frames → IfSome log (HasBuffersIn taken)

-- so do those of the log of each card
abbrev pub AllLie : ℕ → List (Option StorageCard) → Type 0
AllLie frames cards = (key : ℕ) (c : StorageCard) → at cards key ≡ Some c → LiesIn frames c.log
