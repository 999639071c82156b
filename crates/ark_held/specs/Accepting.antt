-- A log that is given a command, on the card on which it is open.
use Rattle.std.specs.Prelude.{◌≡◌, ◌≤◌, ◌<◌, ℕ, List, length, Option, Some, None}
use Rattle.ark_entry.specs.Entry.{entry_blocks}
use Rattle.ark_objects.specs.Held.{Changes}
use Rattle.ark_region.specs.Frames.{Space}
use Rattle.ark_log.specs.declared.command.Command.TheVariants.{Trim}
use Rattle.ark_log.specs.Open.{OpenChain}
use Rattle.ark_log.specs.Refused.{Admits, IsFull, next_number}
use Rattle.ark_log.specs.Waits.{WaitsToAppend, WaitsToPop, waits}
use Rattle.ark_held.specs.declared.card.StorageCard.{StorageCard}

-- the log that is open on a card goes on as another
abbrev pub GoesOnAs : List (Option StorageCard) → List (Option StorageCard) → ℕ → StorageCard → OpenChain → Type 0
GoesOnAs old new key one log = Changes old new key (Some (record one { log = Some log }))

-- An entry of this number waits to be appended.
pub record HasAppended (old new : List (Option StorageCard)) (key : ℕ) (one : StorageCard) (v : OpenChain) (payload : List ℕ) (before after : Space) (n : ℕ) : Type 0 where
  pub number : n ≡ next_number v
  pub admitted : Admits v
  pub room : ¬ IsFull v (entry_blocks (length payload))
  pub log : OpenChain
  pub card : GoesOnAs old new key one log
  pub waits : WaitsToAppend payload v log before after

-- The entries below this number wait to be dropped.
pub record HasTrimmed (old new : List (Option StorageCard)) (key : ℕ) (one : StorageCard) (v : OpenChain) (n : ℕ) : Type 0 where
  pub admitted : Admits v
  pub some : v.coming < n
  pub there : n ≤ next_number v
  pub card : GoesOnAs old new key one (waits v (record { command = Trim n; len = 0; start = 0; buf = None }) n)

-- The entry of this number waits to be popped.
pub record HasPopped (old new : List (Option StorageCard)) (key : ℕ) (one : StorageCard) (v : OpenChain) (before after : Space) (n : ℕ) : Type 0 where
  pub number : n ≡ v.coming
  pub admitted : Admits v
  pub some : v.coming < next_number v
  pub log : OpenChain
  pub card : GoesOnAs old new key one log
  pub waits : WaitsToPop v log before after
