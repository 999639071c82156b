-- The frame of a UDP datagram as it is written.
use Rattle.std.specs.Prelude.{ℕ, ◌+◌, ◌-◌, List, [], ◌∷◌, ◌++◌, length, if◌then◌else◌, nat_eq}
use Rattle.std.specs.Int.{w16, to_be_bytes}
use Rattle.ark_packet.specs.Sum.{ones_sum}
use Rattle.ark_packet.specs.Udp.{Datagram, covered}
use Rattle.ark_packet.specs.declared.own.Own.{Own}

-- Octets whose checksum field is zero get this one: with it their sum is all ones (RFC 1071, section 1, step 2).
abbrev pub checksum : List ℕ → ℕ
checksum octets = 65535 - ones_sum octets

-- A header of 20 octets: its fields and their places (RFC 791, section 3.1), with protocol 17 (RFC 768, Protocol Number). No
-- options, service and identification 0, no flags, and a time to live of 64.
abbrev pub ip_header : ℕ → ℕ → List ℕ → List ℕ → List ℕ
ip_header total sum from to =
    (69 ∷ (0 ∷ to_be_bytes w16 total)) ++ ((0 ∷ (0 ∷ (0 ∷ (0 ∷ (64 ∷ (17 ∷ to_be_bytes w16 sum)))))) ++ (from ++ to))

-- with its checksum, which covers the header alone (RFC 791, section 3.1)
abbrev pub right_ip_header : ℕ → List ℕ → List ℕ → List ℕ
right_ip_header total from to = ip_header total (checksum (ip_header total 0 from to)) from to

-- source port, destination port, length, checksum (RFC 768, Format)
abbrev pub udp_header : ℕ → ℕ → ℕ → ℕ → List ℕ
udp_header from_port to_port len sum =
    to_be_bytes w16 from_port ++ (to_be_bytes w16 to_port ++ (to_be_bytes w16 len ++ to_be_bytes w16 sum))

-- A computed zero is sent as all ones, since a zero says that there is no checksum (RFC 768, Fields).
abbrev pub sent : ℕ → ℕ
sent sum = if nat_eq sum 0 then 65535 else sum

-- the checksum of a datagram with this header, whose own field is zero (RFC 768, Fields)
abbrev pub udp_sum : List ℕ → List ℕ → List ℕ → List ℕ → ℕ
udp_sum from to header payload = sent (checksum (covered from to 17 (header ++ payload)))

-- its length counts 8 octets of header and the data (RFC 768, Fields)
abbrev pub right_udp_header : Datagram → List ℕ
right_udp_header d =
    udp_header d.from_port d.to_port (8 + length d.payload)
    (udp_sum d.from d.to (udp_header d.from_port d.to_port (8 + length d.payload) 0) d.payload)

-- the datagram's IPv4 part: its total length counts 20 octets of header, and what follows (RFC 791, section 3.1)
abbrev pub ip_part : Datagram → List ℕ
ip_part d = right_ip_header (28 + length d.payload) d.from d.to ++ (right_udp_header d ++ d.payload)

-- Destination, source, the type 0800 of IPv4, and the IPv4 part (IEEE 802.3, clause 3; RFC 894, Frame Format). The destination
-- is the gateway, always, and a short frame is not padded.
abbrev pub frame_of : Own → Datagram → List ℕ
frame_of own d = own.gateway ++ (own.mac ++ ((8 ∷ (0 ∷ [])) ++ ip_part d))
