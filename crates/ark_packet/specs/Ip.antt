-- The IPv4 header (RFC 791, section 3.1). `rest` is what follows a frame's type field.
use Rattle.std.specs.Prelude.{ℕ, ◌*◌, ◌/◌, ◌%◌, List, length, take, slice_index, slice_range, Bool, not, ◌&&◌, ◌||◌, nat_le, nat_eq, if◌then◌else◌, Option, Some, None}
use Rattle.ark_packet.specs.Wire.{word_at}
use Rattle.ark_packet.specs.declared.frame.Ip.{Ip}

-- an IPv4 part as plain data: which fields are kept is ours
pub record Packet : Type 0 where
  pub from : List ℕ
  pub to : List ℕ
  pub protocol : ℕ
  pub fragment : Bool
  pub header : List ℕ
  pub payload : List ℕ

abbrev pub plain : Ip → Packet
plain ip = record {
  from = ip.from;
  to = ip.to;
  protocol = ip.protocol;
  fragment = ip.fragment;
  header = ip.header.now;
  payload = ip.payload.now;
}

abbrev pub seen : Option Ip → Option Packet
seen None = None
seen (Some ip) = Some (plain ip)

-- the version, the high 4 bits of the first octet (RFC 791, section 3.1)
abbrev pub version : List ℕ → ℕ
version rest = slice_index rest 0 / 16

-- the header length in octets: the low 4 bits say it in words of 32 bits (RFC 791, section 3.1)
abbrev pub header_length : List ℕ → ℕ
header_length rest = slice_index rest 0 % 16 * 4

-- the total length: header and payload, in octets (RFC 791, section 3.1)
abbrev pub total_length : List ℕ → ℕ
total_length rest = word_at rest 2

-- the third flag, More Fragments, is set, or the fragment offset, the low 13 bits, is not 0 (RFC 791, section 3.1)
abbrev pub is_fragment : List ℕ → Bool
is_fragment rest = nat_eq (word_at rest 6 / 8192 % 2) 1 || not (nat_eq (word_at rest 6 % 8192) 0)

-- Version 4, a header of at least 20 octets, and a total length that covers it (RFC 791, section 3.1) and stays in what there is.
-- That anything else is no IPv4 part, and that the checksum tells nothing here, is ours.
abbrev pub is_packet : List ℕ → Bool
is_packet rest =
    nat_le 20 (length rest)
    && (nat_eq (version rest) 4
    && (nat_le 20 (header_length rest)
    && (nat_le (header_length rest) (total_length rest)
    && nat_le (total_length rest) (length rest))))

-- Its fields, by their places (RFC 791, section 3.1). Octets after the total length are padding: RFC 894 pads short frames so, and
-- that all such octets are skipped, however many, is ours.
abbrev pub fields_of : List ℕ → Packet
fields_of rest = record {
  from = slice_range rest 12 16;
  to = slice_range rest 16 20;
  protocol = slice_index rest 9;
  fragment = is_fragment rest;
  header = take (header_length rest) rest;
  payload = slice_range rest (header_length rest) (total_length rest);
}

-- the IPv4 part, where there is one
abbrev pub packet_of : List ℕ → Option Packet
packet_of rest = if is_packet rest then Some (fields_of rest) else None
