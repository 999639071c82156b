-- Which frames match a filter, over fields of Ethernet (IEEE 802.3), IPv4 (RFC 791), UDP (RFC 768) and TCP (RFC 9293).
use Rattle.std.specs.Prelude.{ℕ, List, [], ◌∷◌, ◌++◌, length, Bool, not, false, ◌&&◌, nat_eq, nat_le, bytes_eq, Option, Some, None}
use Rattle.ark_packet.specs.Wire.{word_at}
use Rattle.ark_packet.specs.Ip.{Packet, seen}
use Rattle.ark_packet.specs.Frame.{target_of, source_of, proto_of, packet_in}
use Rattle.ark_packet.specs.declared.frame.Frame.{Frame}
use Rattle.ark_packet.specs.declared.own.Own.{Own}
use Rattle.ark_filters.specs.declared.filter.Filter.{Filter}
use Rattle.ark_filters.specs.declared.filter.Direction.{Direction}
use Rattle.ark_filters.specs.declared.filter.Direction.TheVariants.{Rx, Tx}
use Rattle.ark_filters.specs.declared.layer.Layer.{Layer}
use Rattle.ark_filters.specs.declared.layer.Layer.TheVariants.{Types, Protocols, Ports}
use Rattle.ark_filters.specs.Layer.{layer_of}
use Rattle.ark_filters.specs.Filter.{is_peer, is_service}

-- The own side of a frame that comes in is its destination, of one that goes out its source. The peer is the other side.
abbrev pub own_side : {A : Type 0} → Direction → A → A → A
own_side Rx from to = to
own_side Tx from to = from

abbrev pub peer_side : {A : Type 0} → Direction → A → A → A
peer_side Rx from to = from
peer_side Tx from to = to

-- the own side's address is the own one, and the peer's is one of the peers
abbrev pub addresses_match : Filter → Packet → Own → Bool
addresses_match f p own =
    bytes_eq (own_side f.direction p.from p.to) own.ip && is_peer f.peers (peer_side f.direction p.from p.to ++ (0 ∷ (0 ∷ [])))

-- of this protocol, whole, with its header, and the own side's port is one of the services
abbrev pub ports_match : Filter → Packet → ℕ → ℕ → Bool
ports_match f p protocol header =
    nat_eq p.protocol protocol
    && (not p.fragment
    && (nat_le header (length p.payload)
    && is_service f.services (own_side f.direction (word_at p.payload 0) (word_at p.payload 2))))

abbrev pub packet_matches : Filter → Layer → Packet → Own → Bool
packet_matches f Types p own = false
packet_matches f Protocols p own = addresses_match f p own && is_service f.services p.protocol
packet_matches f (Ports number least) p own = addresses_match f p own && ports_match f p number least

abbrev pub some_packet_matches : Filter → Layer → Option Packet → Own → Bool
some_packet_matches f layer None own = false
some_packet_matches f layer (Some p) own = packet_matches f layer p own

-- what a filter looks for beside the own MAC address
abbrev pub rest_matches : Filter → Layer → List ℕ → ℕ → Option Packet → Own → Bool
rest_matches f Types peer type packet own = is_peer f.peers peer && is_service f.services type
rest_matches f Protocols peer type packet own = some_packet_matches f Protocols packet own
rest_matches f (Ports number least) peer type packet own = some_packet_matches f (Ports number least) packet own

abbrev pub match_under : Filter → Layer → List ℕ → List ℕ → ℕ → Option Packet → Own → Bool
match_under f layer from to type packet own =
    bytes_eq (own_side f.direction from to) own.mac && rest_matches f layer (peer_side f.direction from to) type packet own

abbrev pub parts_match : Filter → List ℕ → List ℕ → ℕ → Option Packet → Own → Bool
parts_match f = match_under f (layer_of f.proto)

-- the frame, as it was read, matches the filter
abbrev pub frame_matches : Filter → Frame → Own → Bool
frame_matches f frame own = parts_match f frame.from frame.to frame.proto (seen frame.ip) own

-- The frame of these bytes matches the filter.
abbrev pub is_in : Filter → List ℕ → Own → Bool
is_in f bytes own = parts_match f (source_of bytes) (target_of bytes) (proto_of bytes) (packet_in bytes) own
