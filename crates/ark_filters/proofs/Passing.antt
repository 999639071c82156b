-- The frame that is laid out passes the tests of a receive filter whose lists let its parts through.
use Rattle.std.proofs.Common.{◌≡◌, ℕ, ◌<◌, ◌≤◌, List, [], ◌∷◌, ◌++◌, length, Bool, true, ◌&&◌, nat_eq, nat_le, bytes_eq, Option, Some, refl, ap, ◌∙◌}
use Rattle.std.proofs.lemmas.Bool.{and_from, le-leb, eq-eqb}
use Rattle.ark_packet.specs.Wire.{word_at}
use Rattle.ark_packet.specs.Ip.{Packet}
use Rattle.ark_packet.specs.Frame.{target_of, source_of, proto_of, packet_in}
use Rattle.ark_packet.specs.declared.own.Own.{Own}
use Rattle.ark_filters.specs.declared.filter.Filter.{Filter}
use Rattle.ark_filters.specs.declared.filter.Peers.{Peers}
use Rattle.ark_filters.specs.declared.filter.Services.{Services}
use Rattle.ark_filters.specs.declared.filter.Proto.{Proto}
use Rattle.ark_filters.specs.declared.layer.Layer.{Layer}
use Rattle.ark_filters.specs.declared.layer.Layer.TheVariants.{Types, Protocols, Ports}
use Rattle.ark_filters.specs.Filter.{is_peer, is_service}
use Rattle.ark_filters.specs.In.{match_under}
use Rattle.ark_filters.specs.Rule.{IsOwn}
use Rattle.ark_base.proofs.Basics.{bytes_eq-same}
use Rattle.ark_filters.proofs.Receive.{receive, in_under}
use Rattle.ark_filters.proofs.Witness.{witness, part, target_is, source_is, type_is, packet_is, port_is}

in_by : (l : Layer) (f : Filter) (own : Own) (bytes from to : List ℕ) (type : ℕ) (packet : Option Packet) → source_of bytes ≡ from → target_of bytes ≡ to → proto_of bytes ≡ type
    → packet_in bytes ≡ packet → match_under f l from to type packet own ≡ true → in_under l f bytes own ≡ true
in_by l f own bytes from to type packet hf ht hn hp h =
    ap (λ x. match_under f l x (target_of bytes) (proto_of bytes) (packet_in bytes) own) hf ∙ ap (λ x. match_under f l from x (proto_of bytes) (packet_in bytes) own) ht
    ∙ ap (λ x. match_under f l from to x (packet_in bytes) own) hn ∙ ap (λ x. match_under f l from to type x own) hp ∙ h

-- where the IPv4 part matches
packet_passes : (l : Layer) (f : Filter) (own : Own) (source from : List ℕ) (protocol port : ℕ) → IsOwn own → length source ≡ 6 → length from ≡ 4
    → match_under f l source own.mac 2048 (Some (part protocol from own.ip port)) own ≡ true → in_under l f (witness own.mac source 2048 protocol from own.ip port) own ≡ true
packet_passes l f own source from protocol port is six four h =
    in_by l f own (witness own.mac source 2048 protocol from own.ip port) source own.mac 2048 (Some (part protocol from own.ip port))
    (source_is own.mac source from own.ip 2048 protocol port six) (target_is own.mac source from own.ip 2048 protocol port is.mac.six) refl
    (packet_is own.mac source from own.ip protocol port four is.ip.four) h

-- a receive filter, whatever its layer
module _ (proto : Proto) (peers : Peers) (services : Services) (own : Own) (source from : List ℕ) (is : IsOwn own) (six : length source ≡ 6) where
  abbrev filter : Filter
  filter = receive proto peers services

  pub type_passes : (type protocol port : ℕ) → type < 65536 → is_peer peers source ≡ true → is_service services type ≡ true
      → in_under Types filter (witness own.mac source type protocol from own.ip port) own ≡ true
  type_passes type protocol port small peer service =
      let frame : List ℕ = witness own.mac source type protocol from own.ip port in
      in_by Types filter own frame source own.mac type (packet_in frame) (source_is own.mac source from own.ip type protocol port six)
      (target_is own.mac source from own.ip type protocol port is.mac.six) (type_is own.mac source from own.ip type protocol port small) refl
      (and_from (bytes_eq own.mac own.mac) (is_peer peers source && is_service services type) (bytes_eq-same own.mac) (and_from (is_peer peers source) (is_service services type) peer service))

  -- the addresses pass
  pass : (rest : Bool) → is_peer peers (from ++ (0 ∷ (0 ∷ []))) ≡ true → rest ≡ true → (bytes_eq own.mac own.mac && (bytes_eq own.ip own.ip && is_peer peers (from ++ (0 ∷ (0 ∷ []))) && rest)) ≡ true
  pass rest peer passed =
      let sender : Bool = is_peer peers (from ++ (0 ∷ (0 ∷ []))) in
      and_from (bytes_eq own.mac own.mac) (bytes_eq own.ip own.ip && sender && rest) (bytes_eq-same own.mac)
      (and_from (bytes_eq own.ip own.ip && sender) rest (and_from (bytes_eq own.ip own.ip) sender (bytes_eq-same own.ip) peer) passed)

  pub protocol_passes : (protocol port : ℕ) → length from ≡ 4 → is_peer peers (from ++ (0 ∷ (0 ∷ []))) ≡ true → is_service services protocol ≡ true
      → in_under Protocols filter (witness own.mac source 2048 protocol from own.ip port) own ≡ true
  protocol_passes protocol port four peer service =
      packet_passes Protocols filter own source from protocol port is six four (pass (is_service services protocol) peer service)

  -- of this protocol, with a header of at most 20 octets
  pub port_passes : (number least port : ℕ) → length from ≡ 4 → least ≤ 20 → port < 65536 → is_peer peers (from ++ (0 ∷ (0 ∷ []))) ≡ true → is_service services port ≡ true
      → in_under (Ports number least) filter (witness own.mac source 2048 number from own.ip port) own ≡ true
  port_passes number least port four short small peer service =
      let target : Bool = is_service services (word_at (part number from own.ip port).payload 2) in
      let there : target ≡ true = ap (is_service services) (port_is number port from own.ip small) ∙ service in
      let long : (nat_le least 20 && target) ≡ true = and_from (nat_le least 20) target (le-leb least 20 short) there in
      packet_passes (Ports number least) filter own source from number port is six four
      (pass (nat_eq number number && (nat_le least 20 && target)) peer (and_from (nat_eq number number) (nat_le least 20 && target) (eq-eqb number number refl) long))
