-- What the rings of cards have of the logs that are open on them.
use Rattle.std.specs.Prelude.{◌≡◌, ◌≤◌, ◌<◌, ℕ, Bool, List, length, slice_get, Option, Some, IfSome}
use Rattle.ark_objects.specs.Held.{at}
use Rattle.ark_region.specs.Frames.{Piece}
use Rattle.ark_vic.specs.Queue.{Queue, members}
use Rattle.ark_vic.specs.declared.descriptor.Descriptor.{Descriptor}
use Rattle.ark_vic.specs.declared.descriptor.Completion.{Completion}
use Rattle.ark_log.specs.Open.{OpenChain}
use Rattle.ark_log.specs.Polled.{MayEnd}
use Rattle.ark_log.specs.Stages.{IsWhole}
use Rattle.ark_held.specs.declared.card.StorageCard.{StorageCard}

-- a command waits, and its stage under way may end with this buffer
pub record IsWithStage (taken : List Bool) (v : OpenChain) (buf : Option Piece) : Type 0 where
  pub some : 0 < length v.waiting
  pub ends : MayEnd v taken buf

-- The ring has nothing of the log, whose buffers are all there; or the one descriptor of its stage under way, or the completion
-- of that.
pub record IsLogRing (taken : List Bool) (v : OpenChain) (q : Queue) : Type 0 where
  pub alone : members q ≤ 1
  pub whole : members q ≡ 0 → IsWhole v
  pub posted : (d : Descriptor) → slice_get q.posted 0 ≡ Some d → IsWithStage taken v d.buf
  pub unreaped : (c : Completion) → slice_get q.unreaped 0 ≡ Some c → IsWithStage taken v c.buf

-- so it is if a log is open, in any memory of so many frames
abbrev pub HasLogRing : ℕ → Option OpenChain → Queue → Type 0
HasLogRing frames log q = (taken : List Bool) → length taken ≡ frames → IfSome log (λ v. IsLogRing taken v q)

-- each card is so, and has room for a descriptor
abbrev pub IsCardRing : ℕ → StorageCard → Type 0
IsCardRing frames c = (0 < c.vsic.ring.size) × HasLogRing frames c.log c.vsic.ring

abbrev pub AreLogRings : ℕ → List (Option StorageCard) → Type 0
AreLogRings frames cards = (key : ℕ) (c : StorageCard) → at cards key ≡ Some c → IsCardRing frames c
