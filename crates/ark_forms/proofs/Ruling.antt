-- What the words of a filter spell is a rule.
use Rattle.std.proofs.Common.{◌≡◌, ℕ, zero, suc, ◌+◌, ◌-◌, ◌*◌, ◌<◌, ◌≤◌, List, [], ◌∷◌, ◌++◌, length, take, drop, get_or, replicate, true, refl, sym, ap, ◌∙◌, subst, inl, inr, arith, length-append}
use Rattle.std.specs.List.{All, list_all}
use Rattle.std.proofs.Math.Seq.{take-append_seam, drop-append_seam}
use Rattle.std.proofs.lemmas.Bool.{and_parts}
use Rattle.std.proofs.lemmas.Bool.Decides.{nat_tests}
use Rattle.std.proofs.lemmas.List.{length-replicate}
use Rattle.std.proofs.lemmas.List.Elements.{All-nil, All-cons}
use Rattle.hex.specs.Hex.{is_hex_digit}
use Rattle.ark_packet.proofs.Reading.{octets-each}
use Rattle.ark_filters.specs.Rule as rule
use Rattle.ark_filters.specs.Rule.{IsPadded, IsPeerOf, IsServiceOf, IsRule}
use Rattle.ark_filters.specs.declared.filter.Filter.{Filter}
use Rattle.ark_filters.specs.declared.filter.Peers.{Peers}
use Rattle.ark_filters.specs.declared.filter.Services.{Services}
use Rattle.ark_filters.specs.declared.filter.Proto.{Proto}
use Rattle.ark_filters.specs.declared.filter.Proto.TheVariants as proto
use Rattle.ark_script.specs.Arguments.{IsHex, IsMacWord, AreOctets}
use Rattle.ark_script.specs.Line.{digit, spelled}
use Rattle.ark_script.specs.Lists.{EachIs, eight_places, no_peer, IsPeer, ArePeers, ArePorts, IsService, AreServices}
use Rattle.ark_script.specs.Words.{parts_of}

-- Octets.

digit_below : (c : ℕ) → is_hex_digit c ≡ true → digit c < 16
digit_below c h = grind (arith, nat_tests)

spelled_octets : (s : List ℕ) → list_all is_hex_digit s ≡ true → (i : ℕ) → get_or (spelled s) i 0 < 256
spelled_octets [] h i = omega arith
spelled_octets (a ∷ []) h i = omega arith
spelled_octets (a ∷ b ∷ rest) h zero =
    let first = and_parts (is_hex_digit a) (list_all is_hex_digit (b ∷ rest)) h in
    let second = and_parts (is_hex_digit b) (list_all is_hex_digit rest) first.1 in
    omega (arith, digit_below a first.0, digit_below b second.0)
spelled_octets (a ∷ b ∷ rest) h (suc i) =
    let first = and_parts (is_hex_digit a) (list_all is_hex_digit (b ∷ rest)) h in
    spelled_octets rest (and_parts (is_hex_digit b) (list_all is_hex_digit rest) first.1).1 i

hex_octets : (low high : ℕ) (bytes word : List ℕ) → IsHex low high bytes word → (i : ℕ) → get_or bytes i 0 < 256
hex_octets low high bytes word h i = subst (λ (xs : List ℕ). get_or xs i 0 < 256) h.2 (spelled_octets word h.0 i)

-- Peers.

mac_is : (mac word : List ℕ) → IsMacWord mac word → rule.IsMac mac
mac_is mac word h = record { six = omega (arith, h.3, h.4); octets = hex_octets 6 6 mac word h }

ip_is : (ip : List ℕ) (words : List (List ℕ)) → AreOctets ip words → IsPadded (ip ++ (0 ∷ (0 ∷ [])))
ip_is (a ∷ b ∷ c ∷ d ∷ []) (w ∷ x ∷ y ∷ z ∷ []) h = record {
  mac = record {
    six = refl;
    octets = octets-each (a ∷ b ∷ c ∷ d ∷ 0 ∷ 0 ∷ [])
        (omega (arith, h.0.2), (omega (arith, h.1.2), (omega (arith, h.2.2), (omega (arith, h.3.2), (omega arith, (omega arith, tt))))));
  };
  fifth = refl;
  sixth = refl;
}
ip_is [] words h = absurd h
ip_is (a ∷ []) words h = absurd h
ip_is (a ∷ b ∷ []) words h = absurd h
ip_is (a ∷ b ∷ c ∷ []) words h = absurd h
ip_is (a ∷ b ∷ c ∷ d ∷ e ∷ es) words h = absurd h
ip_is (a ∷ b ∷ c ∷ d ∷ []) [] h = absurd h
ip_is (a ∷ b ∷ c ∷ d ∷ []) (w ∷ []) h = absurd h
ip_is (a ∷ b ∷ c ∷ d ∷ []) (w ∷ x ∷ []) h = absurd h
ip_is (a ∷ b ∷ c ∷ d ∷ []) (w ∷ x ∷ y ∷ []) h = absurd h
ip_is (a ∷ b ∷ c ∷ d ∷ []) (w ∷ x ∷ y ∷ z ∷ v ∷ vs) h = absurd h

padded_is : (peer word : List ℕ) → IsPeer proto.Ip peer word → IsPadded peer
padded_is peer word h = subst IsPadded (sym h.2) (ip_is h.0 (parts_of 46 word) h.1)

peer_is : (p : Proto) (peer word : List ℕ) → IsPeer p peer word → IsPeerOf p peer
peer_is proto.Eth peer word h = mac_is peer word h
peer_is proto.Ip peer word h = padded_is peer word h
peer_is proto.Udp peer word h = padded_is peer word h
peer_is proto.Tcp peer word h = padded_is peer word h

-- Services.

type_below : (high low n : ℕ) (word : List ℕ) → IsHex 2 2 (high ∷ low ∷ []) word → n ≡ 256 * high + low → n ≤ 65535
type_below high low n word h e =
    let first : high < 256 = hex_octets 2 2 (high ∷ low ∷ []) word h 0 in
    let second : low < 256 = hex_octets 2 2 (high ∷ low ∷ []) word h 1 in
    omega (arith, first, second, e)

ports_are : (range : ℕ × ℕ) (words : List (List ℕ)) → ArePorts range words → (range.0 ≤ range.1) × (range.1 ≤ 65535)
ports_are range [] h = absurd h
ports_are range (word ∷ []) h = (omega (arith, h.1), omega (arith, h.0.2, h.1))
ports_are range (first ∷ last ∷ []) h = (h.1.1, h.1.2)
ports_are range (first ∷ last ∷ w ∷ ws) h = absurd h

service_is : (p : Proto) (range : ℕ × ℕ) (word : List ℕ) → IsService p range word → IsServiceOf p range
service_is proto.Eth range word h = record { rising = sym h.1; most = omega (arith, h.1, type_below h.0.0 h.0.1 range.0 word h.0.2 h.0.3) }
service_is proto.Ip range word h = record { rising = sym h.1; most = omega (arith, h.1, h.0.2) }
service_is proto.Udp range word h = let ports = ports_are range (parts_of 45 word) h in record { rising = ports.0; most = ports.1 }
service_is proto.Tcp range word h = let ports = ports_are range (parts_of 45 word) h in record { rising = ports.0; most = ports.1 }

-- Lists of up to eight.

each_all : {A : Type 0} (P : A → List ℕ → Type 0) (Q : A → Type 0) → ((x : A) (word : List ℕ) → P x word → Q x)
    → (items : List A) (words : List (List ℕ)) → EachIs P items words → All Q items
each_all P Q each [] words h = All-nil Q
each_all P Q each (x ∷ xs) [] h = absurd h
each_all P Q each (x ∷ xs) (word ∷ words) h = All-cons Q x xs (each x word h.0) (each_all P Q each xs words h.1)

-- so many places of eight are used, and the others hold nothing
record Places {A : Type 0} (Q : A → Type 0) (none : A) (count : ℕ) (items : List A) : Type 0 where
  few : count ≤ 8
  room : length items ≡ 8
  used : All Q (take count items)
  free : drop count items ≡ replicate (8 - count) none

places_of : {A : Type 0} (Q : A → Type 0) (none : A) (items : List A) → All Q items → length items ≤ 8 → Places Q none (length items) (eight_places none items)
places_of Q none items all few = record {
  few = few;
  room = length-append items (replicate (8 - length items) none) ∙ ap (λ n. length items + n) (length-replicate (8 - length items) none) ∙ omega (arith, few);
  used = subst (λ xs. All Q xs) (sym (take-append_seam items (replicate (8 - length items) none))) all;
  free = drop-append_seam items (replicate (8 - length items) none);
}

peers_placed : (p : Proto) (peers : Peers) (word : List ℕ) → ArePeers p peers word → Places (IsPeerOf p) no_peer peers.count peers.items
peers_placed p peers word (inl all) = subst (λ x. Places (IsPeerOf p) no_peer x.count x.items) (sym all.1) (places_of (IsPeerOf p) no_peer [] (All-nil (IsPeerOf p)) (omega arith))
peers_placed p peers word (inr some) =
    let each : All (IsPeerOf p) some.0 = each_all (IsPeer p) (IsPeerOf p) (peer_is p) some.0 (parts_of 44 word) some.1 in
    subst (λ x. Places (IsPeerOf p) no_peer x.count x.items) (sym some.3) (places_of (IsPeerOf p) no_peer some.0 each some.2)

services_placed : (p : Proto) (services : Services) (word : List ℕ) → AreServices p services word → Places (IsServiceOf p) (0, 0) services.count services.items
services_placed p services word (inl all) =
    subst (λ x. Places (IsServiceOf p) (0, 0) x.count x.items) (sym all.1) (places_of (IsServiceOf p) (0, 0) [] (All-nil (IsServiceOf p)) (omega arith))
services_placed p services word (inr some) =
    let each : All (IsServiceOf p) some.0 = each_all (IsService p) (IsServiceOf p) (service_is p) some.0 (parts_of 44 word) some.1 in
    subst (λ x. Places (IsServiceOf p) (0, 0) x.count x.items) (sym some.3) (places_of (IsServiceOf p) (0, 0) some.0 each some.2)

-- the filter of two such words
pub is_rule : (f : Filter) (peers services : List ℕ) → ArePeers f.proto f.peers peers → AreServices f.proto f.services services → IsRule f
is_rule f peers services h k =
    let p : Places (IsPeerOf f.proto) no_peer f.peers.count f.peers.items = peers_placed f.proto f.peers peers h in
    let s : Places (IsServiceOf f.proto) (0, 0) f.services.count f.services.items = services_placed f.proto f.services services k in
    record {
      few_peers = p.few;
      few_services = s.few;
      room_peers = p.room;
      room_services = s.room;
      peers = p.used;
      services = s.used;
      no_peers = p.free;
      no_services = s.free;
    }
