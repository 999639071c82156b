-- Sockets at the ports of a card, and the datagrams that they keep.
use Rattle.std.specs.Prelude.{ℕ, List, [], ◌∷◌, ◌++◌, length, drop, nat_eq, if◌then◌else◌, Option, Some, None, option_map, unwrap_or, find}
use Rattle.ark_udp.specs.declared.peer.Peer.{Peer}

-- a datagram that was received: the sender's address and port, and the payload
pub record Datagram : Type 0 where
  pub ip : List ℕ
  pub port : ℕ
  pub payload : List ℕ

-- what contracts see of a socket: its port, and the datagrams that it keeps, oldest first
pub record Socket : Type 0 where
  pub port : ℕ
  pub datagrams : List Datagram

-- the datagrams of the first socket at a port
abbrev pub datagrams_at : ℕ → List Socket → List Datagram
datagrams_at port sockets = unwrap_or (option_map (λ s. s.datagrams) (find (λ s. nat_eq s.port port) sockets)) []

-- without the oldest of them
abbrev pub without_oldest : ℕ → List Socket → List Socket
without_oldest port [] = []
without_oldest port (s ∷ sockets) =
    if nat_eq s.port port then record s { datagrams = drop 1 s.datagrams } ∷ sockets else s ∷ without_oldest port sockets

-- who sent a datagram, and the length of its payload
abbrev pub heading : Datagram → Peer × ℕ
heading d = (record { ip = d.ip; port = d.port }, length d.payload)

-- the oldest datagram's payload, before the rest as it was
abbrev pub shown_before : Option Datagram → List ℕ → List ℕ
shown_before None out = out
shown_before (Some d) out = d.payload ++ drop (length d.payload) out
