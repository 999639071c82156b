-- UDP datagrams (RFC 768).
use Rattle.std.specs.Prelude.{ℕ, List, ◌∷◌, ◌++◌, length, take, drop, slice_range, Bool, not, ◌&&◌, ◌||◌, nat_le, nat_eq, if◌then◌else◌, Option, Some, None, Result, Ok, Err}
use Rattle.ark_packet.specs.Wire.{word_at}
use Rattle.ark_packet.specs.Sum.{is_right}
use Rattle.ark_packet.specs.Ip.{Packet}
use Rattle.ark_packet.specs.declared.udp.Udp.{Udp}
use Rattle.ark_packet.specs.declared.udp.Bad.{Bad}
use Rattle.ark_packet.specs.declared.udp.Bad.TheVariants as bad

-- a datagram as plain data: which fields are kept is ours
pub record Datagram : Type 0 where
  pub from : List ℕ
  pub to : List ℕ
  pub from_port : ℕ
  pub to_port : ℕ
  pub payload : List ℕ

abbrev pub shown : Result Udp Bad → Result Datagram Bad
shown (Err e) = Err e
shown (Ok u) = Ok (record { from = u.from; to = u.to; from_port = u.from_port; to_port = u.to_port; payload = u.payload.now })

-- The header: source port, destination port, length, checksum, two octets each (RFC 768, Format). The length counts
-- header and data (RFC 768, Fields).
abbrev pub length_field : List ℕ → ℕ
length_field octets = word_at octets 4

-- The length is 8 at least (RFC 768, Fields), and its octets are there. That it may be below the payload's, what follows being
-- skipped, is ours.
abbrev pub has_length : List ℕ → Bool
has_length octets = nat_le 8 (length octets) && (nat_le 8 (length_field octets) && nat_le (length_field octets) (length octets))

-- header and data, as the length says (RFC 768, Fields)
abbrev pub octets_of : Packet → List ℕ
octets_of p = take (length_field p.payload) p.payload

-- What the checksum covers: source, destination, a zero, the protocol, the length, and then header and data (RFC 768, Fields).
abbrev pub covered : List ℕ → List ℕ → ℕ → List ℕ → List ℕ
covered from to protocol octets = from ++ (to ++ ((0 ∷ (protocol ∷ slice_range octets 4 6)) ++ octets))

-- A checksum field of zero says that there is none (RFC 768, Fields).
abbrev pub is_sum_right : List ℕ → List ℕ → ℕ → List ℕ → Bool
is_sum_right from to protocol octets = nat_eq (word_at octets 6) 0 || is_right (covered from to protocol octets)

-- ports by their places, and the data behind the header (RFC 768, Format)
abbrev pub datagram_of : Packet → Datagram
datagram_of p = record {
  from = p.from;
  to = p.to;
  from_port = word_at p.payload 0;
  to_port = word_at p.payload 2;
  payload = drop 8 (octets_of p);
}

-- The datagram of an IPv4 part of protocol 17 (RFC 768, Protocol Number), or the first of the refusals that holds. Their order is
-- ours, and that a fragment is refused and not put together.
abbrev pub datagram_in : Option Packet → Result Datagram Bad
datagram_in None = Err bad.Kind
datagram_in (Some p) =
    if not (nat_eq p.protocol 17) then Err bad.Kind
    else if not (is_right p.header) then Err bad.HeaderSum
    else if p.fragment then Err bad.Fragment
    else if not (has_length p.payload) then Err bad.Length
    else if not (is_sum_right p.from p.to p.protocol (octets_of p)) then Err bad.DataSum
    else Ok (datagram_of p)
