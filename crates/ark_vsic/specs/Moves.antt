-- The move of a storage card: what is due, the device call, the answer, and what is left.
use Rattle.std.specs.Prelude.{◌≡◌, ◌≢◌, IfSome, ℕ, ◌+◌, ◌*◌, ◌≤◌, ◌<◌, ◌==◌, ◌&&◌, Bool, true, false, not, nat_le, nat_lt, List, [], ◌∷◌, length, replicate, Option, Some, None, option_map, unwrap_or, find, slice_get, slice_range, if◌then◌else◌, MatchOption}
use Rattle.ark_base.specs.declared.kind.Outcome.{Outcome}
use Rattle.ark_base.specs.declared.kind.Outcome.TheVariants as outcome
use Rattle.ark_media.specs.Journal.{History}
use Rattle.ark_media.specs.Calls.{Call, Reads, Writes, Syncs, GivesBlock}
use Rattle.ark_region.specs.Frames.{Piece, Space, bytes_of, LiesInRegion, Wrote}
use Rattle.ark_vic.specs.Pace.{Pace, fill_at, with_fill}
use Rattle.ark_vic.specs.Queue.{Queue, finished}
use Rattle.ark_vic.specs.declared.descriptor.Descriptor.{Descriptor}
use Rattle.ark_vic.specs.declared.descriptor.Job.{Job}
use Rattle.ark_vic.specs.declared.descriptor.Job.TheVariants as job
use Rattle.ark_vsic.specs.Card.{Card, Areas, is_bound, head_of}
use Rattle.ark_vsic.specs.Places.{place_of}
use Rattle.ark_vsic.specs.declared.due.Due.{Due}
use Rattle.ark_vsic.specs.declared.due.Due.TheVariants as due
use Rattle.ark_vsic.specs.declared.due.Moved.{Moved}
use Rattle.ark_vsic.specs.declared.due.Moved.TheVariants as moved

-- What is due.

-- the blocks of the area of a grant, where it is bound and held
abbrev pub area_of : ℕ → List ℕ → Areas → Option (List ℕ)
area_of grant bound held = if is_bound grant bound then option_map (λ a. a.1) (find (λ a. a.0 == grant) held) else None

-- a block whose place is in the area, by the card's pace
abbrev pub due_paced : Option Pace → ℕ → ℕ → Due
due_paced None now n = due.Block n
due_paced (Some p) now n =
    if nat_lt p.burst 512 then due.Ends outcome.OverBurst
    else if nat_le (fill_at p now + 512) p.burst then due.Block n
    else due.Waits

abbrev pub due_at : Option ℕ → Option Pace → ℕ → Due
due_at None pace now = due.Ends outcome.OutOfRange
due_at (Some n) pace now = due_paced pace now n

-- block k of a descriptor, in the blocks of its area
abbrev pub due_in : Option (List ℕ) → Descriptor → ℕ → Option Pace → ℕ → Due
due_in None d k pace now = due.Ends outcome.NoGrant
due_in (Some blocks) d k pace now = due_at (slice_get blocks (place_of (length blocks) d.wrap d.first k)) pace now

abbrev pub due_by : Job → Due → Due
due_by job.Sync block = due.Sync
due_by _ block = block

abbrev pub due_for : Option Descriptor → Card → Areas → ℕ → Due
due_for None card held now = due.Nothing
due_for (Some d) card held now = due_by d.job (due_in (area_of d.grant card.bound held) d card.ring.moved card.pace now)

-- what the card does next at a tick, for an application that holds these areas
abbrev pub due_of : Card → Areas → ℕ → Due
due_of card held now = due_for (head_of card.ring) card held now

-- The device call.

-- the bytes of block k of a descriptor in its buffer
abbrev pub buffered : Descriptor → ℕ → Space → List ℕ
buffered d k space = unwrap_or (option_map (λ b. slice_range (bytes_of space b) (d.from + 512 * k) (d.from + 512 * k + 512)) d.buf) []

abbrev pub call_by : Job → ℕ → List ℕ → Call
call_by job.Read n content = Reads n
call_by job.Zero n content = Writes n (replicate 512 0)
call_by _ n content = Writes n content

-- block k of a descriptor, which is block n of the device
abbrev pub block_call : Descriptor → ℕ → ℕ → Space → Call
block_call d k n space = call_by d.job n (buffered d k space)

abbrev pub calls_for : Option Descriptor → Due → ℕ → Space → List Call
calls_for None _ k space = []
calls_for (Some d) due.Sync k space = Syncs ∷ []
calls_for (Some d) (due.Block n) k space = block_call d k n space ∷ []
calls_for (Some d) _ k space = []

-- the device calls of what is due, one or none
abbrev pub calls_of : Card → Due → Space → List Call
calls_of card x space = calls_for (head_of card.ring) x card.ring.moved space

-- The answer.

-- whether no device call failed, by the answer
abbrev pub worked : Moved → Bool
worked (moved.Done outcome.DeviceFault) = false
worked _ = true

abbrev pub outcome_of : Bool → Outcome
outcome_of true = outcome.Ok
outcome_of false = outcome.DeviceFault

abbrev pub count_of : Option Descriptor → ℕ
count_of None = 0
count_of (Some d) = d.count

-- a block was tried, the last of its descriptor or not
abbrev pub answer_tried : Bool → Bool → Moved
answer_tried is_last ok = if ok && not is_last then moved.Block else moved.Done (outcome_of ok)

abbrev pub answer_for : Due → Bool → Bool → Moved
answer_for due.Nothing is_last ok = moved.Idle
answer_for due.Waits is_last ok = moved.Held
answer_for (due.Ends o) is_last ok = moved.Done o
answer_for due.Sync is_last ok = moved.Done (outcome_of ok)
answer_for (due.Block n) is_last ok = answer_tried is_last ok

-- whether the block that is due is the last of its descriptor
abbrev pub is_last : Queue → Bool
is_last q = nat_le (count_of (head_of q)) (q.moved + 1)

abbrev pub answer_of : Card → Due → Bool → Moved
answer_of card x ok = answer_for x (is_last card.ring) ok

-- What is left.

abbrev pub ended : Queue → Option Descriptor → Outcome → Queue
ended q None o = q
ended q (Some d) o = finished q d o 0

-- the ring after a move with this answer
abbrev pub ring_after : Queue → Moved → Queue
ring_after q moved.Idle = q
ring_after q moved.Held = q
ring_after q moved.Block = record q { moved = q.moved + 1 }
ring_after q (moved.Done o) = ended q (head_of q) o

-- a block that is tried passes 512 bytes
abbrev pub pace_after : Option Pace → Due → ℕ → Option Pace
pace_after pace (due.Block n) now = option_map (λ p. with_fill p 512 now) pace
pace_after pace _ now = pace

-- block n of the disk was read into a buffer, from its byte `at` on; no other byte of a buffer changed
pub record Got (after : Option History) (n : ℕ) (b : Piece) (at : ℕ) (old new : Space) : Type 0 where
  pub bytes : List ℕ
  pub whole : length bytes ≡ 512
  pub honest : GivesBlock after n bytes
  pub wrote : Wrote old new b at bytes

-- only a read that succeeded leaves the region otherwise than it was
abbrev pub LeavesBlock : Job → Bool → Option Piece → ℕ → Option History → ℕ → Space → Space → Type 0
LeavesBlock job.Read true buf at after n old new = MatchOption buf ⊥ (λ b. Got after n b at old new)
LeavesBlock _ _ buf at after n old new = new ≡ old

abbrev pub LeavesFor : Option Descriptor → Due → Bool → ℕ → Option History → Space → Space → Type 0
LeavesFor (Some d) (due.Block n) ok k after old new = LeavesBlock d.job ok d.buf (d.from + 512 * k) after n old new
LeavesFor _ _ ok k after old new = new ≡ old

-- the region after a move
abbrev pub Leaves : Card → Due → Bool → Option History → Space → Space → Type 0
Leaves card x ok after old new = LeavesFor (head_of card.ring) x ok card.ring.moved after old new

-- What a move asks.

-- the buffer is one of the region, and has the blocks of the descriptor from byte `from` on
abbrev pub HasRoom : List Bool → Descriptor → Type 0
HasRoom taken d = MatchOption d.buf ⊥ (λ b. LiesInRegion taken b × (d.from + 512 * d.count ≤ b.len))

-- The oldest descriptor is one of a storage card, and has a block that has not moved yet, with room in its buffer.
abbrev pub IsSoundBy : Job → List Bool → Descriptor → ℕ → Type 0
IsSoundBy job.Read taken d k = (k < d.count) × HasRoom taken d
IsSoundBy job.Write taken d k = (k < d.count) × HasRoom taken d
IsSoundBy job.Zero taken d k = k < d.count
IsSoundBy job.Sync taken d k = Unit {0}
IsSoundBy _ taken d k = ⊥

abbrev pub CanMove : List Bool → ℕ → Descriptor → Type 0
CanMove taken k d = IsSoundBy d.job taken d k

-- the oldest descriptor is one that moves blocks
abbrev pub MovesBlocks : Option Descriptor → Type 0
MovesBlocks None = ⊥
MovesBlocks (Some d) = d.job ≢ job.Sync

-- a block may pass at a tick
abbrev pub MayPass : ℕ → Option Pace → Type 0
MayPass now pace = IfSome pace (λ p. fill_at p now + 512 ≤ p.burst)
