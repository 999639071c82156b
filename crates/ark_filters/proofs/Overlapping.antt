-- Two receive filters overlap exactly where their lists meet.
use Rattle.std.proofs.Common.{◌≡◌, ℕ, ◌<◌, ◌≤◌, List, [], ◌∷◌, ◌++◌, length, take, slice_index, replicate, true, ◌&&◌, nat_eq, refl, sym, ap, ◌∙◌, subst, arith}
use Rattle.std.specs.List.{All}
use Rattle.std.proofs.lemmas.Bool.{and_parts, eqb-true}
use Rattle.std.proofs.lemmas.List.Elements.{All-weaker}
use Rattle.ark_packet.specs.Wire.{IsAddress}
use Rattle.ark_packet.specs.declared.own.Own.{Own}
use Rattle.ark_packet.proofs.Reading.{octets-each}
use Rattle.ark_filters.specs.declared.filter.Filter.{Filter}
use Rattle.ark_filters.specs.declared.filter.Peers.{Peers}
use Rattle.ark_filters.specs.declared.filter.Services.{Services}
use Rattle.ark_filters.specs.declared.filter.Direction.TheVariants.{Rx}
use Rattle.ark_filters.specs.declared.filter.Proto.{Proto}
use Rattle.ark_filters.specs.declared.filter.Proto.TheVariants.{Eth, Ip, Udp, Tcp}
use Rattle.ark_filters.specs.Filter.{is_peer, is_service}
use Rattle.ark_filters.specs.declared.layer.Layer.{Layer}
use Rattle.ark_filters.specs.declared.layer.Layer.TheVariants.{Types, Protocols, Ports}
use Rattle.ark_filters.specs.Layer.{layer_of}
use Rattle.ark_filters.specs.Overlap.{Overlaps, peers_meet, services_meet, meets_under, meets}
use Rattle.ark_filters.specs.Rule.{IsMac, IsPadded, IsServiceOf, IsPeerUnder, last_service, IsRule, IsOwn}
use Rattle.ark_filters.proofs.Meeting.{IsRange, some_peer, common_peer, some_service, common_service}
use Rattle.ark_filters.proofs.Receive.{receive, is_receive, in_under}
use Rattle.ark_filters.proofs.Padded.{is_padded, address_of}
use Rattle.ark_filters.proofs.Witness.{witness, octets_are}
use Rattle.ark_filters.proofs.Passing.{type_passes, protocol_passes, port_passes}

-- any peer at all
abbrev zeros : List ℕ
zeros = replicate 6 0

zeros_mac : IsMac zeros
zeros_mac = record { six = refl; octets = octets-each zeros (omega arith, (omega arith, (omega arith, (omega arith, (omega arith, (omega arith, tt)))))) }

zeros_padded : IsPadded zeros
zeros_padded = record { mac = zeros_mac; fifth = refl; sixth = refl }

-- any end at all
abbrev pub some_own : Own
some_own = record { mac = zeros; ip = replicate 4 0; gateway = zeros }

pub some_is_own : IsOwn some_own
some_is_own = record {
  mac = zeros_mac;
  ip = record { four = refl; octets = octets-each (replicate 4 0) (omega arith, (omega arith, (omega arith, (omega arith, tt)))) };
}

-- the lists of a filter of this layer
record Lists (l : Layer) (a : Peers) (b : Services) : Type 0 where
  room_peers : length a.items ≡ 8
  room_services : length b.items ≡ 8
  peers : All (IsPeerUnder l) (take a.count a.items)
  services : All (IsRange (last_service l)) (take b.count b.items)

is_range : (proto : Proto) (r : ℕ × ℕ) → IsServiceOf proto r → IsRange (last_service (layer_of proto)) r
is_range Eth r h = record { rising = omega (arith, h.rising); most = h.most }
is_range Ip r h = record { rising = omega (arith, h.rising); most = h.most }
is_range Udp r h = record { rising = h.rising; most = h.most }
is_range Tcp r h = record { rising = h.rising; most = h.most }

lists_of : (f : Filter) → IsRule f → Lists (layer_of f.proto) f.peers f.services
lists_of f h = record {
  room_peers = h.room_peers;
  room_services = h.room_services;
  peers = h.peers;
  services = All-weaker (IsServiceOf f.proto) (IsRange (last_service (layer_of f.proto))) (is_range f.proto) (take f.services.count f.services.items) h.services;
}

-- a number of one octet, and a header that the frame has room for
abbrev IsKnown : Layer → Type 0
IsKnown Types = Unit {0}
IsKnown Protocols = Unit {0}
IsKnown (Ports number least) = (number < 256) × (least ≤ 20)

known : (proto : Proto) → IsKnown (layer_of proto)
known Eth = tt
known Ip = tt
known Udp = (omega arith, omega arith)
known Tcp = (omega arith, omega arith)

pub turned : (f g : Filter) (own : Own) → Overlaps f g own → Overlaps g f own
turned f g own h = record { frame = h.frame; at_least = h.at_least; at_most = h.at_most; octets = h.octets; first = h.second; second = h.first }

-- the same address for both
as_peer : (peers : Peers) (peer : List ℕ) → IsPadded peer → is_peer peers peer ≡ true → is_peer peers (take 4 peer ++ (0 ∷ (0 ∷ []))) ≡ true
as_peer peers peer h is = ap (is_peer peers) (is_padded peer h) ∙ is

-- the one frame that both let through, as filters of these layers
record Both (l m : Layer) (f g : Filter) (own : Own) : Type 0 where
  frame : List ℕ
  at_least : 14 ≤ length frame
  at_most : length frame ≤ 1514
  octets : (i : ℕ) → slice_index frame i < 256
  first : in_under l f frame own ≡ true
  second : in_under m g frame own ≡ true

both_turned : (l m : Layer) (f g : Filter) (own : Own) → Both l m f g own → Both m l g f own
both_turned l m f g own h = record { frame = h.frame; at_least = h.at_least; at_most = h.at_most; octets = h.octets; first = h.second; second = h.first }

module _ (p q : Proto) (a c : Peers) (b d : Services) (own : Own) (is : IsOwn own) where
  abbrev f : Filter
  f = receive p a b

  abbrev g : Filter
  g = receive q c d

  by_frame : (l m : Layer) (source from : List ℕ) (type protocol port : ℕ) → IsMac source → IsAddress from → protocol < 256
      → in_under l f (witness own.mac source type protocol from own.ip port) own ≡ true → in_under m g (witness own.mac source type protocol from own.ip port) own ≡ true → Both l m f g own
  by_frame l m source from type protocol port hs hf hp first second = record {
    frame = witness own.mac source type protocol from own.ip port;
    at_least = omega arith;
    at_most = omega arith;
    octets = octets_are own.mac source from own.ip type protocol port is.mac.octets hs.octets hf.octets is.ip.octets hp;
    first = first;
    second = second;
  }

  types_types : Lists Types a b → Lists Types c d → (peers_meet a c && services_meet b d) ≡ true → Both Types Types f g own
  types_types hf hg met =
      let parts = and_parts (peers_meet a c) (services_meet b d) met in
      let peer = common_peer IsMac zeros a c zeros_mac hf.room_peers hg.room_peers hf.peers hg.peers parts.0 in
      let type = common_service 65535 b d hf.room_services hg.room_services hf.services hg.services parts.1 in
      by_frame Types Types peer.0 own.ip type.0 0 0 peer.1 is.ip (omega arith)
      (type_passes p a b own peer.0 own.ip is peer.1.six type.0 0 0 (omega (arith, type.1)) peer.2 type.2)
      (type_passes q c d own peer.0 own.ip is peer.1.six type.0 0 0 (omega (arith, type.1)) peer.3 type.3)

  types_protocols : Lists Types a b → Lists Protocols c d → is_service b 2048 ≡ true → Both Types Protocols f g own
  types_protocols hf hg met =
      let mac = some_peer IsMac zeros a zeros_mac hf.room_peers hf.peers in
      let peer = some_peer IsPadded zeros c zeros_padded hg.room_peers hg.peers in
      let protocol = some_service 255 d hg.room_services hg.services in
      let from : List ℕ = take 4 peer.0 in
      let address : IsAddress from = address_of peer.0 peer.1 in
      by_frame Types Protocols mac.0 from 2048 protocol.0 0 mac.1 address (omega (arith, protocol.1))
      (type_passes p a b own mac.0 from is mac.1.six 2048 protocol.0 0 (omega arith) mac.2 met)
      (protocol_passes q c d own mac.0 from is mac.1.six protocol.0 0 address.four (as_peer c peer.0 peer.1 peer.2) protocol.2)

  types_ports : (number least : ℕ) → number < 256 → least ≤ 20 → Lists Types a b → Lists (Ports number least) c d → is_service b 2048 ≡ true → Both Types (Ports number least) f g own
  types_ports number least octet short hf hg met =
      let mac = some_peer IsMac zeros a zeros_mac hf.room_peers hf.peers in
      let peer = some_peer IsPadded zeros c zeros_padded hg.room_peers hg.peers in
      let port = some_service 65535 d hg.room_services hg.services in
      let from : List ℕ = take 4 peer.0 in
      let address : IsAddress from = address_of peer.0 peer.1 in
      by_frame Types (Ports number least) mac.0 from 2048 number port.0 mac.1 address octet
      (type_passes p a b own mac.0 from is mac.1.six 2048 number port.0 (omega arith) mac.2 met)
      (port_passes q c d own mac.0 from is mac.1.six number least port.0 address.four short (omega (arith, port.1)) (as_peer c peer.0 peer.1 peer.2) port.2)

  protocols_protocols : Lists Protocols a b → Lists Protocols c d → (peers_meet a c && services_meet b d) ≡ true → Both Protocols Protocols f g own
  protocols_protocols hf hg met =
      let parts = and_parts (peers_meet a c) (services_meet b d) met in
      let peer = common_peer IsPadded zeros a c zeros_padded hf.room_peers hg.room_peers hf.peers hg.peers parts.0 in
      let protocol = common_service 255 b d hf.room_services hg.room_services hf.services hg.services parts.1 in
      let from : List ℕ = take 4 peer.0 in
      let address : IsAddress from = address_of peer.0 peer.1 in
      by_frame Protocols Protocols zeros from 2048 protocol.0 0 zeros_mac address (omega (arith, protocol.1))
      (protocol_passes p a b own zeros from is refl protocol.0 0 address.four (as_peer a peer.0 peer.1 peer.2) protocol.2)
      (protocol_passes q c d own zeros from is refl protocol.0 0 address.four (as_peer c peer.0 peer.1 peer.3) protocol.3)

  protocols_ports : (number least : ℕ) → number < 256 → least ≤ 20 → Lists Protocols a b → Lists (Ports number least) c d
      → (peers_meet a c && is_service b number) ≡ true → Both Protocols (Ports number least) f g own
  protocols_ports number least octet short hf hg met =
      let parts = and_parts (peers_meet a c) (is_service b number) met in
      let peer = common_peer IsPadded zeros a c zeros_padded hf.room_peers hg.room_peers hf.peers hg.peers parts.0 in
      let port = some_service 65535 d hg.room_services hg.services in
      let from : List ℕ = take 4 peer.0 in
      let address : IsAddress from = address_of peer.0 peer.1 in
      by_frame Protocols (Ports number least) zeros from 2048 number port.0 zeros_mac address octet
      (protocol_passes p a b own zeros from is refl number port.0 address.four (as_peer a peer.0 peer.1 peer.2) parts.1)
      (port_passes q c d own zeros from is refl number least port.0 address.four short (omega (arith, port.1)) (as_peer c peer.0 peer.1 peer.3) port.2)

  ports_ports : (number least header : ℕ) → number < 256 → least ≤ 20 → header ≤ 20 → Lists (Ports number least) a b → Lists (Ports number header) c d
      → (peers_meet a c && services_meet b d) ≡ true → Both (Ports number least) (Ports number header) f g own
  ports_ports number least header octet short brief hf hg met =
      let parts = and_parts (peers_meet a c) (services_meet b d) met in
      let peer = common_peer IsPadded zeros a c zeros_padded hf.room_peers hg.room_peers hf.peers hg.peers parts.0 in
      let port = common_service 65535 b d hf.room_services hg.room_services hf.services hg.services parts.1 in
      let from : List ℕ = take 4 peer.0 in
      let address : IsAddress from = address_of peer.0 peer.1 in
      by_frame (Ports number least) (Ports number header) zeros from 2048 number port.0 zeros_mac address octet
      (port_passes p a b own zeros from is refl number least port.0 address.four short (omega (arith, port.1)) (as_peer a peer.0 peer.1 peer.2) port.2)
      (port_passes q c d own zeros from is refl number header port.0 address.four brief (omega (arith, port.1)) (as_peer c peer.0 peer.1 peer.3) port.3)

  -- of one protocol
  of_number : (number least other header : ℕ) → number ≡ other → number < 256 → least ≤ 20 → header ≤ 20 → Lists (Ports number least) a b → Lists (Ports other header) c d
      → (peers_meet a c && services_meet b d) ≡ true → Both (Ports number least) (Ports other header) f g own
  of_number number least other header same octet short brief hf hg met =
      subst (λ (n : ℕ). Lists (Ports n header) c d → Both (Ports number least) (Ports n header) f g own) same
      (λ lists. ports_ports number least header octet short brief hf lists met) hg

frame_of : (l m : Layer) (p q : Proto) (a c : Peers) (b d : Services) (own : Own) → IsOwn own → IsKnown l → IsKnown m → Lists l a b → Lists m c d
    → meets_under l m (receive p a b) (receive q c d) ≡ true → Both l m (receive p a b) (receive q c d) own
frame_of Types Types p q a c b d own is k j hf hg met = types_types p q a c b d own is hf hg met
frame_of Types Protocols p q a c b d own is k j hf hg met = types_protocols p q a c b d own is hf hg met
frame_of Types (Ports n l) p q a c b d own is k j hf hg met = types_ports p q a c b d own is n l j.0 j.1 hf hg met
frame_of Protocols Types p q a c b d own is k j hf hg met = both_turned Types Protocols (receive q c d) (receive p a b) own (types_protocols q p c a d b own is hg hf met)
frame_of Protocols Protocols p q a c b d own is k j hf hg met = protocols_protocols p q a c b d own is hf hg met
frame_of Protocols (Ports n l) p q a c b d own is k j hf hg met = protocols_ports p q a c b d own is n l j.0 j.1 hf hg met
frame_of (Ports n l) Types p q a c b d own is k j hf hg met = both_turned Types (Ports n l) (receive q c d) (receive p a b) own (types_ports q p c a d b own is n l k.0 k.1 hg hf met)
frame_of (Ports n l) Protocols p q a c b d own is k j hf hg met = both_turned Protocols (Ports n l) (receive q c d) (receive p a b) own (protocols_ports q p c a d b own is n l k.0 k.1 hg hf met)
frame_of (Ports n l) (Ports m h) p q a c b d own is k j hf hg met =
    let parts = and_parts (nat_eq n m) (peers_meet a c && services_meet b d) met in
    of_number p q a c b d own is n l m h (eqb-true n m parts.0) k.0 k.1 j.1 hf hg parts.1

-- where the lists meet, some frame matches both
pub meets_overlap : (f g : Filter) (own : Own) → f.direction ≡ Rx → g.direction ≡ Rx → IsRule f → IsRule g → IsOwn own → meets f g ≡ true → Overlaps f g own
meets_overlap f g own hf hg rf rg is met =
    let h : Filter = receive f.proto f.peers f.services in
    let k : Filter = receive g.proto g.peers g.services in
    let both : meets h k ≡ true = subst (λ (x : Filter). meets h x ≡ true) (sym (is_receive g hg)) (subst (λ (x : Filter). meets x g ≡ true) (sym (is_receive f hf)) met) in
    let both_of = frame_of (layer_of f.proto) (layer_of g.proto) f.proto g.proto f.peers g.peers f.services g.services own is (known f.proto) (known g.proto) (lists_of f rf) (lists_of g rg) both in
    let found : Overlaps h k own = record { frame = both_of.frame; at_least = both_of.at_least; at_most = both_of.at_most; octets = both_of.octets; first = both_of.first; second = both_of.second } in
    subst (λ (x : Filter). Overlaps f x own) (is_receive g hg) (subst (λ (x : Filter). Overlaps x k own) (is_receive f hf) found)
