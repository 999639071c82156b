-- What network cards, filters and sockets stand for.
use Rattle.std.specs.Prelude.{◌≡◌, ℕ, ◌<◌, true, List, length, nat_eq, find, Option, Some, is_some, unwrap_or}
use Rattle.ark_base.specs.declared.kind.Outcome.{Outcome}
use Rattle.ark_caps.specs.declared.capability.CapKind.TheVariants as cap_kind
use Rattle.ark_caps.specs.declared.capability.Capability.{Capability}
use Rattle.ark_filters.specs.declared.filter.Filter.{Filter}
use Rattle.ark_filters.specs.declared.live.Live.{Live}
use Rattle.ark_region.specs.Frames.{Piece, bytes_of, LiesInRegion}
use Rattle.ark_vic.specs.declared.descriptor.Descriptor.{Descriptor}
use Rattle.ark_vic.specs.declared.descriptor.Completion.{Completion}
use Rattle.ark_vic.specs.declared.descriptor.Job.TheVariants as vic
use Rattle.ark_machine.specs.Objects.{Vnic, Place, named, taken, Socket}
use Rattle.ark_held.specs.Totals.{socket_count}
use Rattle.ark_held.specs.Kept.{NetKept, SocketKept}
use Rattle.ark_held.specs.Around.{Around, Names, IsGranted, Each, Both, piece_of}
use Rattle.ark_held.specs.Cards.{IsPaced, IsWatched, HasBuffer}

-- the frame of a descriptor with this tag and buffer stands in this place; only a card with sockets took buffers
abbrev pub IsFramePlace : Around → Option ℕ → ℕ → Option Piece → Place → Type 0
IsFramePlace x ports tag given (named b) = HasBuffer x tag given b
IsFramePlace x ports tag given (taken b) = (is_some ports ≡ true) × (0 < length b.bytes) × (given ≡ Some (piece_of b)) × LiesInRegion x.tables.memory.taken (piece_of b) × (b.bytes ≡ bytes_of x.tables.memory (piece_of b))

abbrev pub IsReceiving : Around → Option ℕ → Descriptor → Place → Type 0
IsReceiving x ports d p = (d.job ≡ vic.Receive) × IsFramePlace x ports d.tag d.buf p

abbrev pub IsReceived : Around → Option ℕ → Completion → Place × ℕ → Type 0
IsReceived x ports c (p, len) = (c.len ≡ len) × IsFramePlace x ports c.tag c.buf p

abbrev pub IsSending : Around → Option ℕ → Descriptor → Place × ℕ → Type 0
IsSending x ports d (p, len) = (d.job ≡ vic.Send) × (d.len ≡ len) × IsFramePlace x ports d.tag d.buf p

abbrev pub IsSent : Around → Option ℕ → Completion → Place × Outcome → Type 0
IsSent x ports c (p, o) = (c.outcome ≡ o) × IsFramePlace x ports c.tag c.buf p

-- a network card
pub record IsNet (x : Around) (l : List ℕ) (c : Capability) (v : Vnic) : Type 0 where
  pub its_kind : c.kind ≡ cap_kind.Vnic
  pub net : NetKept
  pub kept : x.tables.nets c.key ≡ Some net
  pub rx_size : v.rx_size ≡ net.rx.size
  pub tx_size : v.tx_size ≡ net.tx.size
  pub rx_posted : Each (IsReceiving x net.ports) net.rx.posted v.rx.posted
  pub rx_unreaped : Each (IsReceived x net.ports) net.rx.unreaped v.rx.unreaped
  pub rx_moved : v.rx.moved ≡ net.rx.moved
  pub tx_posted : Each (IsSending x net.ports) net.tx.posted v.tx.posted
  pub tx_unreaped : Each (IsSent x net.ports) net.tx.unreaped v.tx.unreaped
  pub tx_moved : v.tx.moved ≡ net.tx.moved
  pub rx_pace : Both (IsPaced x) net.rx_pace v.rx_pace
  pub tx_pace : Both (IsPaced x) net.tx_pace v.tx_pace
  pub rx_door : Both (IsWatched x) net.rx_door v.rx_door
  pub tx_door : Both (IsWatched x) net.tx_door v.tx_door
  pub socketed : is_some net.ports ≡ v.socketed
  pub sockets : unwrap_or net.ports 0 ≡ socket_count x.machine l

-- a filter, and the card that it is assigned to
pub record IsFilterOf (x : Around) (c : Capability) (f : Filter) (on : Option (List ℕ)) : Type 0 where
  pub its_kind : c.kind ≡ cap_kind.Filter
  pub live : Live
  pub kept : find (λ r. nat_eq r.grant c.grant) x.rules ≡ Some live
  pub rule : live.filter ≡ f
  pub card : Both (λ g v. IsGranted x v cap_kind.Vnic g) live.vnic on

-- a socket at a port of a card, with its datagrams
pub record IsSocket (x : Around) (c : Capability) (k : Socket) : Type 0 where
  pub its_kind : c.kind ≡ cap_kind.Sock
  pub socket : SocketKept
  pub kept : x.tables.sockets c.key ≡ Some socket
  pub card : Names x k.card cap_kind.Vnic socket.card
  pub port : k.port ≡ socket.port
  pub datagrams : k.datagrams ≡ socket.datagrams
