-- The datagrams of a socket as they are kept: who sent each and its length, and their payloads one after another.
use Rattle.std.specs.Prelude.{◌≡◌, ℕ, ◌+◌, ◌≤◌, List, [], ◌∷◌, length, take, drop}
use Rattle.std.specs.List.{AllByRecursion}
use Rattle.ark_udp.specs.declared.peer.Head.{Head}
use Rattle.ark_udp.specs.Socket.{Datagram}

-- the bytes, cut at the lengths of the heads
abbrev pub cut : List Head → List ℕ → List Datagram
cut [] bytes = []
cut (h ∷ heads) bytes = record { ip = h.from.ip; port = h.from.port; payload = take h.len bytes } ∷ cut heads (drop h.len bytes)

abbrev pub total : List Head → ℕ
total [] = 0
total (h ∷ heads) = h.len + total heads

-- the bytes are those of the heads, at most 8, each with at most 1,472
pub record IsKept (heads : List Head) (bytes : List ℕ) : Type 0 where
  pub few : length heads ≤ 8
  pub short : AllByRecursion (λ h. h.len ≤ 1472) heads
  pub whole : length bytes ≡ total heads
