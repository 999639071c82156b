-- The filters that a line can give. Addresses and services have the sizes of IEEE 802.3, RFC 791, RFC 768 and RFC 9293.
use Rattle.std.specs.Prelude.{◌≡◌, ℕ, ◌-◌, ◌<◌, ◌≤◌, List, take, drop, length, replicate, slice_index}
use Rattle.std.specs.List.{All}
use Rattle.ark_packet.specs.Wire.{IsAddress}
use Rattle.ark_packet.specs.declared.own.Own.{Own}
use Rattle.ark_filters.specs.declared.filter.Filter.{Filter}
use Rattle.ark_filters.specs.declared.filter.Direction.TheVariants.{Rx}
use Rattle.ark_filters.specs.declared.filter.Proto.{Proto}
use Rattle.ark_filters.specs.declared.layer.Layer.{Layer}
use Rattle.ark_filters.specs.declared.layer.Layer.TheVariants.{Types, Protocols, Ports}
use Rattle.ark_filters.specs.Layer.{layer_of}

-- an address of Ethernet: six octets
pub record IsMac (mac : List ℕ) : Type 0 where
  pub six : length mac ≡ 6
  pub octets : (i : ℕ) → slice_index mac i < 256

-- an address of IPv4 with two zeros after it
pub record IsPadded (peer : List ℕ) : Type 0 where
  pub mac : IsMac peer
  pub fifth : slice_index peer 4 ≡ 0
  pub sixth : slice_index peer 5 ≡ 0

-- a peer that a filter of this layer can have
abbrev pub IsPeerUnder : Layer → List ℕ → Type 0
IsPeerUnder Types = IsMac
IsPeerUnder Protocols = IsPadded
IsPeerUnder (Ports number least) = IsPadded

abbrev pub IsPeerOf : Proto → List ℕ → Type 0
IsPeerOf proto = IsPeerUnder (layer_of proto)

-- the largest service
abbrev pub last_service : Layer → ℕ
last_service Types = 65535
last_service Protocols = 255
last_service (Ports number least) = 65535

-- ports come in ranges, types and protocols one by one
abbrev pub IsRangeUnder : Layer → ℕ × ℕ → Type 0
IsRangeUnder Types range = range.0 ≡ range.1
IsRangeUnder Protocols range = range.0 ≡ range.1
IsRangeUnder (Ports number least) range = range.0 ≤ range.1

-- a service that a filter for this can have
pub record IsServiceOf (proto : Proto) (range : ℕ × ℕ) : Type 0 where
  pub rising : IsRangeUnder (layer_of proto) range
  pub most : range.1 ≤ last_service (layer_of proto)

-- Up to 8 peers and services of its protocol, and zeros after them.
pub record IsRule (f : Filter) : Type 0 where
  pub few_peers : f.peers.count ≤ 8
  pub few_services : f.services.count ≤ 8
  pub room_peers : length f.peers.items ≡ 8
  pub room_services : length f.services.items ≡ 8
  pub peers : All (IsPeerOf f.proto) (take f.peers.count f.peers.items)
  pub services : All (IsServiceOf f.proto) (take f.services.count f.services.items)
  pub no_peers : drop f.peers.count f.peers.items ≡ replicate (8 - f.peers.count) (replicate 6 0)
  pub no_services : drop f.services.count f.services.items ≡ replicate (8 - f.services.count) (0, 0)

-- of frames that come in
abbrev pub IsReceive : Filter → Type 0
IsReceive f = f.direction ≡ Rx

-- both
pub record IsReceiveRule (f : Filter) : Type 0 where
  pub rule : IsRule f
  pub direction : IsReceive f

-- the addresses of an end
pub record IsOwn (own : Own) : Type 0 where
  pub mac : IsMac own.mac
  pub ip : IsAddress own.ip
