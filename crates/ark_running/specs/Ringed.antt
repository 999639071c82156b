-- What the ring of its card has of an open log.
use Rattle.std.specs.Prelude.{◌≡◌, ◌<◌, ℕ, Bool, true, false, List, [], ◌∷◌, length, Option, Some}
use Rattle.ark_base.specs.declared.kind.Outcome.{Outcome}
use Rattle.ark_base.specs.declared.kind.Outcome.TheVariants as outcome
use Rattle.ark_region.specs.Frames.{Piece, Space, bytes_of}
use Rattle.ark_vic.specs.Queue.{Queue}
use Rattle.ark_vic.specs.declared.descriptor.Descriptor.{Descriptor}
use Rattle.ark_vic.specs.declared.descriptor.Completion.{Completion}
use Rattle.ark_entry.specs.Header as head
use Rattle.ark_caladan.specs.Standing.{Progress, idle, posted, ended}
use Rattle.ark_log.specs.declared.stage.Stage.{Stage}
use Rattle.ark_log.specs.declared.stage.Stage.TheVariants.{Load, Draft, Mark, Header, Clear, Flush}
use Rattle.ark_log.specs.Open.{OpenChain}
use Rattle.ark_log.specs.Polled.{stage_of}
use Rattle.ark_log.specs.Stages.{IsOfStage, IsWhole, header_after, oldest, posting_of, stage_with}
use Rattle.ark_running.specs.Buffers.{header_piece}

abbrev pub is_well : Outcome → Bool
is_well outcome.Ok = true
is_well _ = false

-- how far its descriptor has come
abbrev pub progress_by : List Descriptor → List Completion → ℕ → Progress
progress_by (d ∷ ds) us moved = posted moved
progress_by [] (u ∷ us) moved = ended (is_well u.outcome)
progress_by [] [] moved = idle

abbrev pub progress_of : Queue → Progress
progress_of q = progress_by q.posted q.unreaped q.moved

-- a stage of the oldest command is under way, and its descriptor has this buffer
pub record IsUnderWay (v : OpenChain) (stage : Stage) (buf : Option Piece) : Type 0 where
  pub some : 0 < length v.waiting
  pub is : stage_of v ≡ Some stage
  pub going : v.failed ≡ false
  pub its : IsOfStage v stage buf
  pub whole : IsWhole (stage_with v stage buf)

-- while a header is to be written, its buffer has that behind the command
abbrev pub HasHeaderFor : Stage → OpenChain → Space → Type 0
HasHeaderFor Header v space = bytes_of space (header_piece v) ≡ head.bytes_of v.kind (header_after v (oldest v).command)
HasHeaderFor Load v space = Unit {0}
HasHeaderFor Draft v space = Unit {0}
HasHeaderFor Mark v space = Unit {0}
HasHeaderFor Clear v space = Unit {0}
HasHeaderFor Flush v space = Unit {0}

-- the descriptor is that of the stage under way, and has a block that has not moved yet
pub record IsPostedFor (v : OpenChain) (space : Space) (stage : Stage) (buf : Option Piece) (d : Descriptor) (moved : ℕ) : Type 0 where
  pub way : IsUnderWay v stage buf
  pub its : d ≡ posting_of (stage_with v stage buf) stage
  pub header : HasHeaderFor stage v space
  pub more : moved < d.count

-- no descriptor has a buffer of it, and of the oldest command no stage is whole
pub record IsFree (v : OpenChain) : Type 0 where
  pub whole : IsWhole v
  pub begins : v.failed ≡ false → v.done ≡ 0

-- The ring has nothing of the log; or the one descriptor of its stage under way, or the
-- completion of that.
abbrev pub IsRingBy : OpenChain → Space → ℕ → List Descriptor → List Completion → Type 0
IsRingBy v space moved [] [] = (moved ≡ 0) × IsFree v
IsRingBy v space moved (d ∷ []) [] = (stage : Stage) × (buf : Option Piece) × IsPostedFor v space stage buf d moved
IsRingBy v space moved [] (u ∷ []) = (moved ≡ 0) × ((stage : Stage) × IsUnderWay v stage u.buf)
IsRingBy v space moved _ _ = ⊥

abbrev pub IsRingOf : OpenChain → Space → Queue → Type 0
IsRingOf v space q = IsRingBy v space q.moved q.posted q.unreaped
