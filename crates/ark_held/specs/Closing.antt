-- A log that is closed on the card on which it was open.
use Rattle.std.specs.Prelude.{◌≡◌, ◌<◌, ◌⊎◌, ℕ, true, false, List, [], length, Option, Some, None}
use Rattle.ark_objects.specs.Held.{at, Changes}
use Rattle.ark_region.specs.Frames.{Space}
use Rattle.ark_log.specs.Closed.{space_closed}
use Rattle.ark_log.specs.Open.{OpenChain}
use Rattle.ark_held.specs.Rings.{unbound}
use Rattle.ark_held.specs.declared.card.StorageCard.{StorageCard}

-- a log is open on the card of a key
pub record IsOpenAt (cards : List (Option StorageCard)) (key : ℕ) : Type 0 where
  pub one : StorageCard
  pub there : at cards key ≡ Some one
  pub chain : OpenChain
  pub log : one.log ≡ Some chain

-- it has failed, or no command waits
abbrev pub CanClose : OpenChain → Type 0
CanClose chain = (chain.failed ≡ true) ⊎ (chain.waiting ≡ [])

-- it has not failed, and a command waits
pub record IsWaiting (chain : OpenChain) : Type 0 where
  pub going : chain.failed ≡ false
  pub some : 0 < length chain.waiting

-- without a log, and without the area of a grant among those that are bound
abbrev pub closed : ℕ → StorageCard → StorageCard
closed grant c = record (unbound grant c) { log = None }

-- The log is open on the card no more, nor its area bound there, and its buffers are given back.
pub record HasClosed (old new : List (Option StorageCard)) (key : ℕ) (one : StorageCard) (chain : OpenChain) (before after : Space) : Type 0 where
  pub can : CanClose chain
  pub card : Changes old new key (Some (closed chain.grant one))
  pub space : after ≡ space_closed chain before

-- what is so of the log that is open on the card of a key
abbrev pub OfLogAt : List (Option StorageCard) → ℕ → (StorageCard → OpenChain → Type 0) → Type 0
OfLogAt cards key P = (one : StorageCard) (chain : OpenChain) → at cards key ≡ Some one → one.log ≡ Some chain → P one chain
