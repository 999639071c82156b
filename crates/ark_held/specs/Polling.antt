-- A log that is polled on the card on which it is open.
use Rattle.std.specs.Prelude.{◌≤◌, ℕ, List, Option, Some}
use Rattle.ark_objects.specs.Held.{Changes}
use Rattle.ark_region.specs.Frames.{Space}
use Rattle.ark_vic.specs.Queue.{Queue}
use Rattle.ark_log.specs.declared.polling.Polled.{Polled}
use Rattle.ark_log.specs.declared.polling.Polled.TheVariants.{Nothing, Posted, Acked, Fault}
use Rattle.ark_log.specs.Open.{IsRight, OpenChain}
use Rattle.ark_log.specs.Polled.{HasPolled}
use Rattle.ark_held.specs.declared.card.StorageCard.{StorageCard}

-- a card goes on with this ring, and its log as another
abbrev pub with_polled : Queue → OpenChain → StorageCard → StorageCard
with_polled ring log c = record c { vsic = record c.vsic { ring = ring }; log = Some log }

-- One poll brought the log on, on the ring of its card, in the memory and the bytes that it may fill.
pub record HasPolledOn (old new : List (Option StorageCard)) (key : ℕ) (one : StorageCard) (v : OpenChain) (before after : Space) (given out : List ℕ) (result : Polled) : Type 0 where
  pub ring : Queue
  pub log : OpenChain
  pub right : IsRight log
  pub card : Changes old new key (Some (with_polled ring log one))
  pub polled : HasPolled
      (record { chain = v; ring = one.vsic.ring; space = before; out = given })
      (record { chain = log; ring = ring; space = after; out = out })
      result

-- the payload that an acknowledged command gives is as short as one may be
abbrev pub IsShortIfAcked : Polled → Type 0
IsShortIfAcked (Acked c len) = len ≤ 32768
IsShortIfAcked Nothing = Unit {0}
IsShortIfAcked Posted = Unit {0}
IsShortIfAcked (Fault o) = Unit {0}
