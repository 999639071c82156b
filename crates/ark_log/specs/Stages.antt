-- The stages of commands, and the descriptor of each.
use Rattle.std.specs.Prelude.{◌≡◌, ℕ, ◌+◌, ◌-◌, ◌*◌, ◌%◌, List, [], ◌∷◌, All, Option, None, IfSome, IsSome}
use Rattle.ark_region.specs.Frames.{Piece, Space, Wrote, bytes_of}
use Rattle.ark_vic.specs.declared.descriptor.Job.{Job}
use Rattle.ark_vic.specs.declared.descriptor.Job.TheVariants as job
use Rattle.ark_vic.specs.declared.descriptor.Descriptor.{Descriptor}
use Rattle.ark_entry.specs.Header as head
use Rattle.ark_entry.specs.Entry.{entry_blocks, marked}
use Rattle.ark_chain.specs.Survey.{block_at}
use Rattle.ark_log.specs.declared.command.Command.{Command}
use Rattle.ark_log.specs.declared.command.Command.TheVariants.{Append, Trim, Pop}
use Rattle.ark_log.specs.declared.command.Waiting.{Waiting}
use Rattle.ark_log.specs.declared.stage.Stage.{Stage}
use Rattle.ark_log.specs.declared.stage.Stage.TheVariants.{Load, Draft, Mark, Header, Clear, Flush}
use Rattle.ark_log.specs.Open.{OpenChain, first_after}
use Rattle.ark_log.specs.Walked.{blocks_before}

abbrev pub stages_of : Command → List Stage
stages_of (Append n) = Draft ∷ Flush ∷ Mark ∷ Flush ∷ []
stages_of (Trim n) = Header ∷ Flush ∷ Clear ∷ Flush ∷ []
stages_of (Pop n) = Load ∷ Header ∷ Flush ∷ Clear ∷ Flush ∷ []

-- the command in progress, where one waits
abbrev pub oldest_in : List Waiting → Waiting
oldest_in [] = record { command = Trim 0; len = 0; start = 0; buf = None }
oldest_in (w ∷ ws) = w

abbrev pub oldest : OpenChain → Waiting
oldest v = oldest_in v.waiting

-- so many blocks it frees
abbrev pub freed : OpenChain → Command → ℕ
freed v c = blocks_before v (first_after c v.first - v.first)

-- the header of the list after it
abbrev pub header_after : OpenChain → Command → head.Header
header_after v c = record {
  first = first_after c v.first;
  start = (v.start + freed v c) % v.room;
  count = v.count - (first_after c v.first - v.first);
  end = (v.start + v.stored) % v.room;
}

-- a descriptor on an area, whose block 1 follows its last
abbrev pub described : ℕ → Job → ℕ → ℕ → ℕ → Option Piece → Descriptor
described grant job first count from buf = record { job = job; grant = grant; first = first; count = count; wrap = 1; from = from; len = 0; tag = 0; buf = buf }

-- what the command in progress posts at a stage
abbrev pub posting_of : OpenChain → Stage → Descriptor
posting_of v Load = described v.grant job.Read (block_at v.room v.start 0) (entry_blocks (oldest v).len) 0 (oldest v).buf
posting_of v Draft = described v.grant job.Write (block_at v.room v.start v.stored) (entry_blocks (oldest v).len) 0 (oldest v).buf
posting_of v Mark = described v.grant job.Write (block_at v.room v.start (v.stored + (entry_blocks (oldest v).len - 1))) 1 (512 * (entry_blocks (oldest v).len - 1)) (oldest v).buf
posting_of v Header = described v.grant job.Write 0 1 0 v.header
posting_of v Clear = described v.grant job.Zero (block_at v.room v.start 0) (freed v (oldest v).command) 0 None
posting_of v Flush = described v.grant job.Sync 0 1 0 None

-- the oldest command has this buffer
abbrev pub first_with : Option Piece → List Waiting → List Waiting
first_with buf [] = []
first_with buf (w ∷ ws) = record w { buf = buf } ∷ ws

abbrev pub entry_with : Option Piece → OpenChain → OpenChain
entry_with buf v = record v { waiting = first_with buf v.waiting }

abbrev pub header_with : Option Piece → OpenChain → OpenChain
header_with buf v = record v { header = buf }

-- the buffer of a stage is this one, or it is away
abbrev pub stage_with : OpenChain → Stage → Option Piece → OpenChain
stage_with v Load buf = entry_with buf v
stage_with v Draft buf = entry_with buf v
stage_with v Mark buf = entry_with buf v
stage_with v Header buf = header_with buf v
stage_with v Clear buf = v
stage_with v Flush buf = v

-- what is written into the buffer of a stage before it is posted
abbrev pub IsPrepared : OpenChain → Stage → Space → Space → Type 0
IsPrepared v Load before after = after ≡ before
IsPrepared v Draft before after = after ≡ before
IsPrepared v Mark before after = IfSome (oldest v).buf (λ b. Wrote before after b 0 (marked (bytes_of before b)))
IsPrepared v Header before after = IfSome v.header (λ b. Wrote before after b 0 (head.bytes_of v.kind (header_after v (oldest v).command)))
IsPrepared v Clear before after = after ≡ before
IsPrepared v Flush before after = after ≡ before

-- the buffers that a stage and a command need are there
abbrev pub HasStageBuffer : OpenChain → Stage → Type 0
HasStageBuffer v Load = Unit {0}
HasStageBuffer v Draft = Unit {0}
HasStageBuffer v Mark = IsSome (oldest v).buf
HasStageBuffer v Header = IsSome v.header
HasStageBuffer v Clear = Unit {0}
HasStageBuffer v Flush = Unit {0}

abbrev pub HasEntryBuffer : Command → Option Piece → Type 0
HasEntryBuffer (Append n) buf = IsSome buf
HasEntryBuffer (Trim n) buf = Unit {0}
HasEntryBuffer (Pop n) buf = IsSome buf

-- no descriptor has a buffer of it
pub record IsWhole (v : OpenChain) : Type 0 where
  pub header : IsSome v.header
  pub entries : All (λ w. HasEntryBuffer w.command w.buf) v.waiting

-- a buffer is that of a stage, or is none
abbrev pub IsOfStage : OpenChain → Stage → Option Piece → Type 0
IsOfStage v Load buf = IfSome buf (λ b. (b.start ≡ (oldest v).start) × (b.len ≡ 512 * entry_blocks (oldest v).len))
IsOfStage v Draft buf = IfSome buf (λ b. (b.start ≡ (oldest v).start) × (b.len ≡ 512 * entry_blocks (oldest v).len))
IsOfStage v Mark buf = IfSome buf (λ b. (b.start ≡ (oldest v).start) × (b.len ≡ 512 * entry_blocks (oldest v).len))
IsOfStage v Header buf = IfSome buf (λ b. (b.start ≡ v.header_at) × (b.len ≡ 512))
IsOfStage v Clear buf = Unit {0}
IsOfStage v Flush buf = Unit {0}
