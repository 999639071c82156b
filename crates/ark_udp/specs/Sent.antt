-- Buffers that are given back, and datagrams that are posted to be sent.
use Rattle.std.specs.Prelude.{◌≡◌, ℕ, Bool, true, false, List, [], ◌∷◌, ◌++◌, length, replicate, Option, Some, None, IfSome}
use Rattle.ark_packet.specs.Written.{frame_of}
use Rattle.ark_packet.specs.declared.own.Own.{Own}
use Rattle.ark_region.specs.Frames.{Piece, Space, Apart, IsTaken, IsFreeRun, IsLeastPlace, LiesInRegion, bytes_of, frames_of, put}
use Rattle.ark_vic.specs.Queue.{Queue}
use Rattle.ark_vic.specs.declared.descriptor.Descriptor.{Descriptor}
use Rattle.ark_vic.specs.declared.descriptor.Completion.{Completion}
use Rattle.ark_vic.specs.declared.descriptor.Job.TheVariants as job
use Rattle.ark_udp.specs.declared.peer.Peer.{Peer}

-- its buffer, if it has one, is one of the region
abbrev pub LiesIn : List Bool → Completion → Type 0
LiesIn taken c = IfSome c.buf (LiesInRegion taken)

-- the taken frames once a buffer is given back
abbrev pub given_back : List Bool → Option Piece → List Bool
given_back taken None = taken
given_back taken (Some b) = put taken b.start (replicate (frames_of b.len) false)

-- once those of all these completions are
abbrev pub all_given_back : List Bool → List Completion → List Bool
all_given_back taken [] = taken
all_given_back taken (c ∷ cs) = all_given_back (given_back taken c.buf) cs

-- the region once a ring is reaped to its end, and the buffers are given back
abbrev pub space_reaped : Queue → Space → Space
space_reaped q space = record space { taken = all_given_back space.taken q.unreaped }

abbrev pub reaped : Queue → Queue
reaped q = record q { unreaped = [] }

-- the frame of a datagram from a port of this end
abbrev pub frame_from : Own → ℕ → Peer → List ℕ → List ℕ
frame_from own port to payload =
    frame_of own (record { from = own.ip; to = to.ip; from_port = port; to_port = to.port; payload = payload })

-- a buffer of a frame to be sent
abbrev pub sending : Piece → Descriptor
sending b = record { job = job.Send; grant = 0; first = 0; count = 0; wrap = 0; from = 0; len = b.len; tag = 0; buf = Some b }

-- no place in a region for a buffer of so many bytes
abbrev pub HasNoPlace : List Bool → ℕ → Type 0
HasNoPlace taken len = (s : ℕ) → ¬ IsFreeRun (IsTaken taken) (length taken) (frames_of len) s

-- a frame is posted last in a new buffer at the least place, which has it and nothing else; no other buffer's bytes changed
pub record IsPosted (frame : List ℕ) (old new : Space) (before after : Queue) : Type 0 where
  pub buffer : Piece
  pub whole : buffer.len ≡ length frame
  pub place : IsLeastPlace (IsTaken old.taken) (length old.taken) (frames_of buffer.len) buffer.start
  pub lies : LiesInRegion new.taken buffer
  pub taken : new.taken ≡ put old.taken buffer.start (replicate (frames_of buffer.len) true)
  pub bytes : bytes_of new buffer ≡ frame
  pub others : (a : Piece) → Apart buffer a → bytes_of new a ≡ bytes_of old a
  pub posted : after ≡ record before { posted = before.posted ++ sending buffer ∷ [] }

abbrev pub in_front : Option Piece → List Piece → List Piece
in_front None buffers = buffers
in_front (Some b) buffers = b ∷ buffers

-- the buffers of completions
abbrev pub buffers_of : List Completion → List Piece
buffers_of [] = []
buffers_of (c ∷ cs) = in_front c.buf (buffers_of cs)
