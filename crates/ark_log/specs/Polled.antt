-- What a poll comes to.
use Rattle.std.specs.Prelude.{◌≡◌, ◌⊎◌, ◌<◌, ℕ, ◌+◌, Bool, true, List, [], ◌∷◌, ◌++◌, drop, length, slice_get, slice_range, Option, Some, None, IfSome}
use Rattle.ark_base.specs.declared.kind.Outcome.TheVariants as outcome
use Rattle.ark_region.specs.Frames.{Piece, Space, bytes_of}
use Rattle.ark_vic.specs.Queue.{Queue}
use Rattle.ark_vic.specs.declared.descriptor.Completion.{Completion}
use Rattle.ark_log.specs.declared.command.Command.{Command}
use Rattle.ark_log.specs.declared.command.Command.TheVariants.{Append, Trim, Pop}
use Rattle.ark_log.specs.declared.command.Waiting.{Waiting}
use Rattle.ark_log.specs.declared.stage.Stage.{Stage}
use Rattle.ark_log.specs.declared.polling.Polled.{Polled}
use Rattle.ark_log.specs.declared.polling.Polled.TheVariants.{Nothing, Posted, Acked, Fault}
use Rattle.ark_log.specs.Open.{OpenChain}
use Rattle.ark_log.specs.Acked.{acknowledged}
use Rattle.ark_log.specs.Closed.{HasBuffersIn, given_back}
use Rattle.ark_log.specs.Stages.{IsOfStage, IsPrepared, IsWhole, oldest, posting_of, stage_with, stages_of}

-- a chain, the ring of its card, the memory, and the bytes that a poll may fill
pub record Around : Type 0 where
  pub chain : OpenChain
  pub ring : Queue
  pub space : Space
  pub out : List ℕ

-- the stage of the command in progress that is next or under way
abbrev pub stage_of : OpenChain → Option Stage
stage_of v = slice_get (stages_of (oldest v).command) v.done

-- so long is the payload that a command gives
abbrev pub given_len : Command → ℕ → ℕ
given_len (Append n) len = 0
given_len (Trim n) len = 0
given_len (Pop n) len = len

-- of a pop the payload stands at the front of the bytes
abbrev pub GivesPayload : Waiting → Space → List ℕ → List ℕ → Type 0
GivesPayload w space before after = IfSome w.buf (λ b. after ≡ slice_range (bytes_of space b) 20 (20 + w.len) ++ drop w.len before)

abbrev pub Gives : Command → Waiting → Space → List ℕ → List ℕ → Type 0
Gives (Append n) w space before after = after ≡ before
Gives (Trim n) w space before after = after ≡ before
Gives (Pop n) w space before after = GivesPayload w space before after

-- the next stage is posted; or the command has no more, and is acknowledged
pub record IsPosted (stage : Stage) (old new : Around) (result : Polled) : Type 0 where
  pub answer : result ≡ Posted
  pub chain : new.chain ≡ stage_with old.chain stage None
  pub ring : new.ring ≡ record old.ring { posted = old.ring.posted ++ posting_of old.chain stage ∷ [] }
  pub space : IsPrepared old.chain stage old.space new.space
  pub out : new.out ≡ old.out

pub record IsAcked (old new : Around) (result : Polled) : Type 0 where
  pub answer : result ≡ Acked (oldest old.chain).command (given_len (oldest old.chain).command (oldest old.chain).len)
  pub chain : new.chain ≡ acknowledged old.chain (oldest old.chain).command
  pub ring : new.ring ≡ old.ring
  pub space : new.space ≡ record old.space { taken = given_back old.space.taken (oldest old.chain).buf }
  pub out : Gives (oldest old.chain).command (oldest old.chain) old.space old.out new.out

abbrev pub GoesOn : Option Stage → Around → Around → Polled → Type 0
GoesOn (Some stage) old new result = IsPosted stage old new result
GoesOn None old new result = IsAcked old new result

-- the buffer of the stage that is under way is this one
abbrev pub returned_at : OpenChain → Option Stage → Option Piece → OpenChain
returned_at v (Some stage) buf = stage_with v stage buf
returned_at v None buf = v

abbrev pub returned : OpenChain → Option Piece → OpenChain
returned v buf = returned_at v (stage_of v) buf

-- once its descriptor has ended, well or badly, with this buffer
abbrev pub ended : OpenChain → Option Piece → OpenChain
ended v buf = record (returned v buf) { done = v.done + 1 }

abbrev pub failed_with : OpenChain → Option Piece → OpenChain
failed_with v buf = record (returned v buf) { failed = true }

-- a descriptor of its stage may end with this buffer, which lies in the region
pub record MayEnd (v : OpenChain) (taken : List Bool) (buf : Option Piece) : Type 0 where
  pub stage : Stage
  pub is : stage_of v ≡ Some stage
  pub its : IsOfStage v stage buf
  pub whole : IsWhole (stage_with v stage buf)
  pub lies : HasBuffersIn taken (stage_with v stage buf)

-- no command waits, or its descriptor has not ended
pub record IsNothing (old new : Around) (result : Polled) : Type 0 where
  pub answer : result ≡ Nothing
  pub same : new ≡ old
  pub why : (old.chain.waiting ≡ []) ⊎ (0 < length old.ring.posted)

-- the oldest command goes on, of which nothing is posted
pub record IsBegun (old new : Around) (result : Polled) : Type 0 where
  pub some : 0 < length old.chain.waiting
  pub posted : old.ring.posted ≡ []
  pub unreaped : old.ring.unreaped ≡ []
  pub goes : GoesOn (stage_of old.chain) old new result

-- a completion is reaped
abbrev pub reaped : Queue → Queue
reaped q = record q { unreaped = drop 1 q.unreaped }

-- its descriptor has ended well, and it goes on; or badly, and it has failed
pub record EndsWell (ending : Completion) (old new : Around) (result : Polled) : Type 0 where
  pub well : ending.outcome ≡ outcome.Ok
  pub goes : GoesOn (stage_of (ended old.chain ending.buf)) (record old { chain = ended old.chain ending.buf; ring = reaped old.ring }) new result

pub record EndsBadly (ending : Completion) (old new : Around) (result : Polled) : Type 0 where
  pub badly : ending.outcome ≡ outcome.Ok → ⊥
  pub answer : result ≡ Fault ending.outcome
  pub failed : new ≡ record old { chain = failed_with old.chain ending.buf; ring = reaped old.ring }

pub record HasEnded (old new : Around) (result : Polled) : Type 0 where
  pub some : 0 < length old.chain.waiting
  pub posted : old.ring.posted ≡ []
  pub ending : Completion
  pub first : slice_get old.ring.unreaped 0 ≡ Some ending
  pub ends : EndsWell ending old new result ⊎ EndsBadly ending old new result

-- one poll does one of these
abbrev pub HasPolled : Around → Around → Polled → Type 0
HasPolled old new result = IsNothing old new result ⊎ (IsBegun old new result ⊎ HasEnded old new result)
