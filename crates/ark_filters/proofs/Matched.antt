-- What a frame that matches a receive filter has.
use Rattle.std.proofs.Common.{◌≡◌, ℕ, List, [], ◌∷◌, ◌++◌, length, Bool, true, false, not, ◌&&◌, nat_eq, nat_le, bytes_eq, Option, Some, None, if◌then◌else◌, refl}
use Rattle.std.proofs.lemmas.Bool.{and_parts, eqb-true}
use Rattle.ark_packet.specs.Wire.{word_at}
use Rattle.ark_packet.specs.Ip.{Packet, packet_of}
use Rattle.ark_packet.specs.Frame.{target_of, source_of, proto_of, packet_under, packet_in}
use Rattle.ark_packet.specs.declared.own.Own.{Own}
use Rattle.ark_filters.specs.declared.filter.Filter.{Filter}
use Rattle.ark_filters.specs.declared.filter.Peers.{Peers}
use Rattle.ark_filters.specs.declared.filter.Services.{Services}
use Rattle.ark_filters.specs.declared.filter.Proto.{Proto}
use Rattle.ark_filters.specs.declared.layer.Layer.{Layer}
use Rattle.ark_filters.specs.declared.layer.Layer.TheVariants.{Types, Protocols, Ports}
use Rattle.ark_filters.specs.Filter.{is_peer, is_service}
use Rattle.ark_filters.specs.In.{packet_matches, some_packet_matches}
use Rattle.ark_filters.proofs.Receive.{receive, in_under}

-- the sender's address as a peer
abbrev pub sender : Packet → List ℕ
sender p = p.from ++ (0 ∷ (0 ∷ []))

abbrev pub port : Packet → ℕ
port p = word_at p.payload 2

-- a receive filter, whatever its layer
module _ (proto : Proto) (peers : Peers) (services : Services) (own : Own) where
  abbrev filter : Filter
  filter = receive proto peers services

  pub by_type : (bytes : List ℕ) → in_under Types filter bytes own ≡ true → (is_peer peers (source_of bytes) ≡ true) × (is_service services (proto_of bytes) ≡ true)
  by_type bytes h =
      and_parts (is_peer peers (source_of bytes)) (is_service services (proto_of bytes))
      (and_parts (bytes_eq (target_of bytes) own.mac) (is_peer peers (source_of bytes) && is_service services (proto_of bytes)) h).1

  -- the test of the IPv4 part
  pub protocols_seen : (bytes : List ℕ) → in_under Protocols filter bytes own ≡ true → some_packet_matches filter Protocols (packet_in bytes) own ≡ true
  protocols_seen bytes h = (and_parts (bytes_eq (target_of bytes) own.mac) (some_packet_matches filter Protocols (packet_in bytes) own) h).1

  pub ports_seen : (number least : ℕ) (bytes : List ℕ) → in_under (Ports number least) filter bytes own ≡ true → some_packet_matches filter (Ports number least) (packet_in bytes) own ≡ true
  ports_seen number least bytes h = (and_parts (bytes_eq (target_of bytes) own.mac) (some_packet_matches filter (Ports number least) (packet_in bytes) own) h).1

  pub by_protocol : (p : Packet) → packet_matches filter Protocols p own ≡ true → (is_peer peers (sender p) ≡ true) × (is_service services p.protocol ≡ true)
  by_protocol p h =
      let parts = and_parts (bytes_eq p.to own.ip && is_peer peers (sender p)) (is_service services p.protocol) h in
      ((and_parts (bytes_eq p.to own.ip) (is_peer peers (sender p)) parts.0).1, parts.1)

  -- of this protocol, from such a peer to such a port
  pub by_port : (number least : ℕ) (p : Packet) → packet_matches filter (Ports number least) p own ≡ true
      → (is_peer peers (sender p) ≡ true) × (p.protocol ≡ number) × (is_service services (port p) ≡ true)
  by_port number least p h =
      let peer = is_peer peers (sender p) in
      let service = is_service services (port p) in
      let parts = and_parts (bytes_eq p.to own.ip && peer) (nat_eq p.protocol number && (not p.fragment && (nat_le least (length p.payload) && service))) h in
      let ports = and_parts (nat_eq p.protocol number) (not p.fragment && (nat_le least (length p.payload) && service)) parts.1 in
      let whole = and_parts (not p.fragment) (nat_le least (length p.payload) && service) ports.1 in
      ((and_parts (bytes_eq p.to own.ip) peer parts.0).1, eqb-true p.protocol number ports.0, (and_parts (nat_le least (length p.payload)) service whole.1).1)

-- what two filters look at is one part
pub one_packet : (f g : Filter) (l m : Layer) (own : Own) (packet : Option Packet) → some_packet_matches f l packet own ≡ true → some_packet_matches g m packet own ≡ true
    → (p : Packet) × (packet_matches f l p own ≡ true) × (packet_matches g m p own ≡ true)
one_packet f g l m own None hf hg = cc
one_packet f g l m own (Some p) hf hg = (p, hf, hg)

-- where there is one, the type is that of IPv4
pub type_of_packet : (f : Filter) (l : Layer) (own : Own) (type : ℕ) (rest : List ℕ) → some_packet_matches f l (packet_under type rest) own ≡ true → type ≡ 2048
type_of_packet f l own type rest h = eqb-true type 2048 (by (nat_eq type 2048) h)
  where
    by : (b : Bool) → some_packet_matches f l (if b then packet_of rest else None) own ≡ true → b ≡ true
    by true k = refl
    by false k = cc
