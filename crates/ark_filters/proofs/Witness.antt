-- A frame for each pair of sides: destination, source and type, a header of IPv4 with two addresses, and a payload of 20 octets with the port.
use Rattle.std.proofs.Common.{◌≡◌, ℕ, zero, suc, ◌<◌, ◌/◌, ◌%◌, List, [], ◌∷◌, ◌++◌, length, get_or, take, replicate, false, Some, refl, ap, ◌∙◌, arith, append-nil}
use Rattle.ark_packet.specs.Wire.{word_at}
use Rattle.ark_packet.specs.Ip.{Packet, packet_of}
use Rattle.ark_packet.specs.Frame.{target_of, source_of, proto_of, packet_in}
use Rattle.ark_packet.proofs.Heads.{four_before, six_before}
use Rattle.ark_packet.proofs.Reading.{EachOctet, octets-each, word_back}

-- from byte 14 on: a header with no options, and 20 octets that begin with a port of 0 and the port
abbrev pub ip_part : ℕ → List ℕ → List ℕ → ℕ → List ℕ
ip_part protocol from to port =
    69 ∷ (0 ∷ (0 ∷ (40 ∷ (0 ∷ (0 ∷ (0 ∷ (0 ∷ (64 ∷ (protocol ∷ (0 ∷ (0 ∷
    (get_or from 0 0 ∷ (get_or from 1 0 ∷ (get_or from 2 0 ∷ (get_or from 3 0 ∷
    (get_or to 0 0 ∷ (get_or to 1 0 ∷ (get_or to 2 0 ∷ (get_or to 3 0 ∷
    (0 ∷ (0 ∷ ((port / 256 % 256) ∷ ((port % 256) ∷ replicate 16 0)))))))))))))))))))))))

abbrev pub witness : List ℕ → List ℕ → ℕ → ℕ → List ℕ → List ℕ → ℕ → List ℕ
witness target source type protocol from to port =
    get_or target 0 0 ∷ (get_or target 1 0 ∷ (get_or target 2 0 ∷ (get_or target 3 0 ∷ (get_or target 4 0 ∷ (get_or target 5 0 ∷
    (get_or source 0 0 ∷ (get_or source 1 0 ∷ (get_or source 2 0 ∷ (get_or source 3 0 ∷ (get_or source 4 0 ∷ (get_or source 5 0 ∷
    ((type / 256 % 256) ∷ ((type % 256) ∷ ip_part protocol from to port)))))))))))))

-- the part as plain data
abbrev pub part : ℕ → List ℕ → List ℕ → ℕ → Packet
part protocol from to port = record {
  from = from;
  to = to;
  protocol = protocol;
  fragment = false;
  header = take 20 (ip_part protocol from to port);
  payload = 0 ∷ (0 ∷ ((port / 256 % 256) ∷ ((port % 256) ∷ replicate 16 0)));
}

pub target_is : (target source from to : List ℕ) (type protocol port : ℕ) → length target ≡ 6
    → target_of (witness target source type protocol from to port) ≡ target
target_is target source from to type protocol port six = six_before target [] six ∙ append-nil target

pub source_is : (target source from to : List ℕ) (type protocol port : ℕ) → length source ≡ 6
    → source_of (witness target source type protocol from to port) ≡ source
source_is target source from to type protocol port six = six_before source [] six ∙ append-nil source

pub type_is : (target source from to : List ℕ) (type protocol port : ℕ) → type < 65536
    → proto_of (witness target source type protocol from to port) ≡ type
type_is target source from to type protocol port h = word_back type h

pub part_is : (protocol port : ℕ) (from to : List ℕ) → length from ≡ 4 → length to ≡ 4
    → packet_of (ip_part protocol from to port) ≡ Some (part protocol from to port)
part_is protocol port from to hf ht =
    ap (λ x. Some (record {
      from = x;
      to = get_or to 0 0 ∷ (get_or to 1 0 ∷ (get_or to 2 0 ∷ (get_or to 3 0 ∷ [])));
      protocol = protocol;
      fragment = false;
      header = take 20 (ip_part protocol from to port);
      payload = 0 ∷ (0 ∷ ((port / 256 % 256) ∷ ((port % 256) ∷ replicate 16 0)));
    })) (four_before from [] hf ∙ append-nil from)
    ∙ ap (λ x. Some (part protocol from x port)) (four_before to [] ht ∙ append-nil to)

pub port_is : (protocol port : ℕ) (from to : List ℕ) → port < 65536 → word_at (part protocol from to port).payload 2 ≡ port
port_is protocol port from to h = word_back port h

pub packet_is : (target source from to : List ℕ) (protocol port : ℕ) → length from ≡ 4 → length to ≡ 4
    → packet_in (witness target source 2048 protocol from to port) ≡ Some (part protocol from to port)
packet_is target source from to protocol port hf ht = part_is protocol port from to hf ht

pub length_is : (target source from to : List ℕ) (type protocol port : ℕ) → length (witness target source type protocol from to port) ≡ 54
length_is target source from to type protocol port = refl

octet : (n : ℕ) → n % 256 < 256
octet n = omega arith

each_four : (xs rest : List ℕ) → ((i : ℕ) → get_or xs i 0 < 256) → EachOctet rest → EachOctet (get_or xs 0 0 ∷ (get_or xs 1 0 ∷ (get_or xs 2 0 ∷ (get_or xs 3 0 ∷ rest))))
each_four xs rest h after = (h 0, (h 1, (h 2, (h 3, after))))

each_six : (xs rest : List ℕ) → ((i : ℕ) → get_or xs i 0 < 256) → EachOctet rest
    → EachOctet (get_or xs 0 0 ∷ (get_or xs 1 0 ∷ (get_or xs 2 0 ∷ (get_or xs 3 0 ∷ (get_or xs 4 0 ∷ (get_or xs 5 0 ∷ rest))))))
each_six xs rest h after = (h 0, (h 1, (h 2, (h 3, (h 4, (h 5, after))))))

each_zero : (n : ℕ) (rest : List ℕ) → EachOctet rest → EachOctet (replicate n 0 ++ rest)
each_zero zero rest after = after
each_zero (suc n) rest after = (omega arith, each_zero n rest after)

-- up to the protocol and the sum
each_start : (protocol : ℕ) (rest : List ℕ) → protocol < 256 → EachOctet rest
    → EachOctet (69 ∷ (0 ∷ (0 ∷ (40 ∷ (0 ∷ (0 ∷ (0 ∷ (0 ∷ (64 ∷ (protocol ∷ (0 ∷ (0 ∷ rest))))))))))))
each_start protocol rest h after =
    let sums : EachOctet (0 ∷ (0 ∷ rest)) = each_zero 2 rest after in
    let life : EachOctet (64 ∷ (protocol ∷ (0 ∷ (0 ∷ rest)))) = (omega arith, (h, sums)) in
    (omega arith, (omega arith, (omega arith, (omega arith, each_zero 4 (64 ∷ (protocol ∷ (0 ∷ (0 ∷ rest)))) life))))

part_octets : (protocol port : ℕ) (from to : List ℕ) → ((i : ℕ) → get_or from i 0 < 256) → ((i : ℕ) → get_or to i 0 < 256) → protocol < 256
    → EachOctet (ip_part protocol from to port)
part_octets protocol port from to hf ht hp =
    let ports : List ℕ = 0 ∷ (0 ∷ ((port / 256 % 256) ∷ ((port % 256) ∷ replicate 16 0))) in
    let each : EachOctet ports = (omega arith, (omega arith, (octet (port / 256), (octet port, each_zero 16 [] tt)))) in
    let target : List ℕ = get_or to 0 0 ∷ (get_or to 1 0 ∷ (get_or to 2 0 ∷ (get_or to 3 0 ∷ ports))) in
    let source : List ℕ = get_or from 0 0 ∷ (get_or from 1 0 ∷ (get_or from 2 0 ∷ (get_or from 3 0 ∷ target))) in
    each_start protocol source hp (each_four from target hf (each_four to ports ht each))

pub octets_are : (target source from to : List ℕ) (type protocol port : ℕ) → ((i : ℕ) → get_or target i 0 < 256) → ((i : ℕ) → get_or source i 0 < 256)
    → ((i : ℕ) → get_or from i 0 < 256) → ((i : ℕ) → get_or to i 0 < 256) → protocol < 256
    → (i : ℕ) → get_or (witness target source type protocol from to port) i 0 < 256
octets_are target source from to type protocol port ht hs hf hd hp =
    let rest : List ℕ = (type / 256 % 256) ∷ ((type % 256) ∷ ip_part protocol from to port) in
    let each : EachOctet rest = (octet (type / 256), (octet type, part_octets protocol port from to hf hd hp)) in
    let senders : List ℕ = get_or source 0 0 ∷ (get_or source 1 0 ∷ (get_or source 2 0 ∷ (get_or source 3 0 ∷ (get_or source 4 0 ∷ (get_or source 5 0 ∷ rest))))) in
    octets-each (witness target source type protocol from to port) (each_six target senders ht (each_six source rest hs each))
