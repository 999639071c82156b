-- What sockets keep of the frames that are received.
use Rattle.std.specs.Prelude.{ℕ, ◌≤◌, Bool, ◌&&◌, List, [], ◌∷◌, ◌++◌, length, take, map, nat_eq, nat_lt, if◌then◌else◌, bytes_eq, Option, option_map, unwrap_or, MatchOption, Result, Ok, Err}
use Rattle.ark_packet.specs.Frame.{packet_in}
use Rattle.ark_packet.specs.Udp as udp
use Rattle.ark_packet.specs.Udp.{datagram_in}
use Rattle.ark_packet.specs.declared.own.Own.{Own}
use Rattle.ark_packet.specs.declared.udp.Bad.{Bad}
use Rattle.ark_region.specs.Frames.{Piece, Space, LiesInRegion, bytes_of}
use Rattle.ark_vic.specs.Queue.{Queue}
use Rattle.ark_vic.specs.declared.descriptor.Descriptor.{Descriptor}
use Rattle.ark_vic.specs.declared.descriptor.Completion.{Completion}
use Rattle.ark_vic.specs.declared.descriptor.Job.TheVariants as job
use Rattle.ark_udp.specs.Socket.{Datagram, Socket}

-- a socket keeps a datagram to its port unless it keeps 8 already
abbrev pub delivered : ℕ → Datagram → Socket → Socket
delivered port d s =
    if nat_eq s.port port && nat_lt (length s.datagrams) 8 then record s { datagrams = s.datagrams ++ d ∷ [] } else s

-- to the own address; any other is dropped
abbrev pub with_datagram : Own → Result udp.Datagram Bad → List Socket → List Socket
with_datagram own (Err e) sockets = sockets
with_datagram own (Ok d) sockets =
    if bytes_eq d.to own.ip then map (delivered d.to_port (record { ip = d.from; port = d.from_port; payload = d.payload })) sockets
    else sockets

-- a frame whose datagram can be taken goes to the socket at its port; any other is dropped
abbrev pub with_received : Own → List ℕ → List Socket → List Socket
with_received own frame sockets = with_datagram own (datagram_in (packet_in frame)) sockets

-- oldest first
abbrev pub all_received : Own → List (List ℕ) → List Socket → List Socket
all_received own [] sockets = sockets
all_received own (frame ∷ frames) sockets = all_received own frames (with_received own frame sockets)

-- the frame that was received into a buffer: its first bytes
abbrev pub frame_in : Space → Completion → List ℕ
frame_in space c = unwrap_or (option_map (λ b. take c.len (bytes_of space b)) c.buf) []

-- a frame of 14 to 1,514 bytes in a buffer of the region
pub record IsReceived (taken : List Bool) (c : Completion) : Type 0 where
  pub at_least : 14 ≤ c.len
  pub at_most : c.len ≤ 1514
  pub inside : MatchOption c.buf ⊥ (λ b. LiesInRegion taken b × (c.len ≤ b.len))

-- a buffer for a frame to be received
abbrev pub receiving : ℕ → Option Piece → Descriptor
receiving tag buf = record { job = job.Receive; grant = 0; first = 0; count = 0; wrap = 0; from = 0; len = 0; tag = tag; buf = buf }

abbrev pub again : Completion → Descriptor
again c = receiving c.tag c.buf

-- the ring once all that was received is reaped, and each buffer posted again
abbrev pub posted_again : Queue → Queue
posted_again q = record q { posted = q.posted ++ map again q.unreaped; unreaped = [] }
