-- Where one frame matches two receive filters, their lists meet.
use Rattle.std.proofs.Common.{◌≡◌, ℕ, List, drop, true, ◌&&◌, nat_eq, sym, ◌∙◌, subst}
use Rattle.std.proofs.lemmas.Bool.{and_from, eq-eqb}
use Rattle.ark_packet.specs.Frame.{source_of, proto_of, packet_in}
use Rattle.ark_packet.specs.declared.own.Own.{Own}
use Rattle.ark_filters.specs.declared.filter.Filter.{Filter}
use Rattle.ark_filters.specs.declared.filter.Peers.{Peers}
use Rattle.ark_filters.specs.declared.filter.Services.{Services}
use Rattle.ark_filters.specs.declared.filter.Direction.TheVariants.{Rx}
use Rattle.ark_filters.specs.declared.filter.Proto.{Proto}
use Rattle.ark_filters.specs.declared.layer.Layer.{Layer}
use Rattle.ark_filters.specs.declared.layer.Layer.TheVariants.{Types, Protocols, Ports}
use Rattle.ark_filters.specs.Layer.{layer_of}
use Rattle.ark_filters.specs.Filter.{is_peer, is_service}
use Rattle.ark_filters.specs.In.{some_packet_matches, is_in}
use Rattle.ark_filters.specs.Overlap.{Overlaps, peers_meet, services_meet, meets_under, meets}
use Rattle.ark_filters.specs.Rule.{IsReceiveRule}
use Rattle.ark_filters.proofs.Overlapping.{some_own, some_is_own, turned, meets_overlap}
use Rattle.ark_filters.proofs.Meeting.{peers_share, services_share}
use Rattle.ark_filters.proofs.Receive.{receive, is_receive, in_under}
use Rattle.ark_filters.proofs.Matched.{sender, port, by_type, protocols_seen, ports_seen, one_packet, type_of_packet, by_protocol, by_port}

both_share : (a c : Peers) (b d : Services) (peer : List ℕ) (service : ℕ) → is_peer a peer ≡ true → is_peer c peer ≡ true → is_service b service ≡ true
    → is_service d service ≡ true → (peers_meet a c && services_meet b d) ≡ true
both_share a c b d peer service pa pc sb sd = and_from (peers_meet a c) (services_meet b d) (peers_share a c peer pa pc) (services_share b d service sb sd)

-- the type of Ethernet is that of IPv4
of_type : (proto : Proto) (a : Peers) (b : Services) (g : Filter) (l : Layer) (own : Own) (bytes : List ℕ) → in_under Types (receive proto a b) bytes own ≡ true
    → some_packet_matches g l (packet_in bytes) own ≡ true → is_service b 2048 ≡ true
of_type proto a b g l own bytes h seen =
    subst (λ (n : ℕ). is_service b n ≡ true) (type_of_packet g l own (proto_of bytes) (drop 14 bytes) seen) (by_type proto a b own bytes h).1

-- peers of one address and a protocol of one number
protocol_shares : (a c : Peers) (b : Services) (peer : List ℕ) (protocol n : ℕ) → is_peer a peer ≡ true → is_peer c peer ≡ true → is_service b protocol ≡ true
    → protocol ≡ n → (peers_meet a c && is_service b n) ≡ true
protocol_shares a c b peer protocol n pa pc sb e =
    and_from (peers_meet a c) (is_service b n) (peers_share a c peer pa pc) (subst (λ (x : ℕ). is_service b x ≡ true) e sb)

share : (l m : Layer) (p q : Proto) (a c : Peers) (b d : Services) (own : Own) (bytes : List ℕ) → in_under l (receive p a b) bytes own ≡ true → in_under m (receive q c d) bytes own ≡ true
    → meets_under l m (receive p a b) (receive q c d) ≡ true
share Types Types p q a c b d own bytes hf hg =
    let f = by_type p a b own bytes hf in
    let g = by_type q c d own bytes hg in
    both_share a c b d (source_of bytes) (proto_of bytes) f.0 g.0 f.1 g.1
share Types Protocols p q a c b d own bytes hf hg = of_type p a b (receive q c d) Protocols own bytes hf (protocols_seen q c d own bytes hg)
share Types (Ports n l) p q a c b d own bytes hf hg = of_type p a b (receive q c d) (Ports n l) own bytes hf (ports_seen q c d own n l bytes hg)
share Protocols Types p q a c b d own bytes hf hg = of_type q c d (receive p a b) Protocols own bytes hg (protocols_seen p a b own bytes hf)
share (Ports n l) Types p q a c b d own bytes hf hg = of_type q c d (receive p a b) (Ports n l) own bytes hg (ports_seen p a b own n l bytes hf)
share Protocols Protocols p q a c b d own bytes hf hg =
    let one = one_packet (receive p a b) (receive q c d) Protocols Protocols own (packet_in bytes) (protocols_seen p a b own bytes hf) (protocols_seen q c d own bytes hg) in
    let f = by_protocol p a b own one.0 one.1 in
    let g = by_protocol q c d own one.0 one.2 in
    both_share a c b d (sender one.0) one.0.protocol f.0 g.0 f.1 g.1
share Protocols (Ports n l) p q a c b d own bytes hf hg =
    let one = one_packet (receive p a b) (receive q c d) Protocols (Ports n l) own (packet_in bytes) (protocols_seen p a b own bytes hf) (ports_seen q c d own n l bytes hg) in
    let f = by_protocol p a b own one.0 one.1 in
    let g = by_port q c d own n l one.0 one.2 in
    protocol_shares a c b (sender one.0) one.0.protocol n f.0 g.0 f.1 g.1
share (Ports n l) Protocols p q a c b d own bytes hf hg =
    let one = one_packet (receive p a b) (receive q c d) (Ports n l) Protocols own (packet_in bytes) (ports_seen p a b own n l bytes hf) (protocols_seen q c d own bytes hg) in
    let f = by_port p a b own n l one.0 one.1 in
    let g = by_protocol q c d own one.0 one.2 in
    protocol_shares c a d (sender one.0) one.0.protocol n g.0 f.0 g.1 f.1
share (Ports n l) (Ports m h) p q a c b d own bytes hf hg =
    let one = one_packet (receive p a b) (receive q c d) (Ports n l) (Ports m h) own (packet_in bytes) (ports_seen p a b own n l bytes hf) (ports_seen q c d own m h bytes hg) in
    let f = by_port p a b own n l one.0 one.1 in
    let g = by_port q c d own m h one.0 one.2 in
    and_from (nat_eq n m) (peers_meet a c && services_meet b d) (eq-eqb n m (sym f.1 ∙ g.1)) (both_share a c b d (sender one.0) (port one.0) f.0 g.0 f.2 g.2)

pub both_match : (f g : Filter) (own : Own) (bytes : List ℕ) → f.direction ≡ Rx → g.direction ≡ Rx → is_in f bytes own ≡ true → is_in g bytes own ≡ true → meets f g ≡ true
both_match f g own bytes hf hg first second =
    let h : Filter = receive f.proto f.peers f.services in
    let k : Filter = receive g.proto g.peers g.services in
    let one : is_in h bytes own ≡ true = subst (λ (x : Filter). is_in x bytes own ≡ true) (sym (is_receive f hf)) first in
    let two : is_in k bytes own ≡ true = subst (λ (x : Filter). is_in x bytes own ≡ true) (sym (is_receive g hg)) second in
    let met : meets h k ≡ true = share (layer_of f.proto) (layer_of g.proto) f.proto g.proto f.peers g.peers f.services g.services own bytes one two in
    subst (λ (x : Filter). meets f x ≡ true) (is_receive g hg) (subst (λ (x : Filter). meets x k ≡ true) (is_receive f hf) met)

pub overlap_meets : (f g : Filter) (own : Own) → f.direction ≡ Rx → g.direction ≡ Rx → Overlaps f g own → meets f g ≡ true
overlap_meets f g own hf hg both = both_match f g own both.frame hf hg both.first both.second

-- so the order of the two does not matter
pub both_ways : (f g : Filter) → IsReceiveRule f → IsReceiveRule g → meets f g ≡ true → meets g f ≡ true
both_ways f g hf hg met =
    overlap_meets g f some_own hg.direction hf.direction (turned f g some_own (meets_overlap f g some_own hf.direction hg.direction hf.rule hg.rule some_is_own met))
