-- A frame of Ethernet as IPv4 uses it (IEEE 802.3, clause 3; RFC 894): destination (6 octets), source (6), type (2), and the
-- rest. The frame check sequence is not part of it: ours.
use Rattle.std.specs.Prelude.{◌≡◌, ℕ, ◌≤◌, List, length, drop, slice_range, if◌then◌else◌, nat_eq, Option, None}
use Rattle.ark_packet.specs.Wire.{word_at}
use Rattle.ark_packet.specs.Ip.{Packet, packet_of, seen}
use Rattle.ark_packet.specs.declared.frame.Frame.{Frame}

-- the destination address (IEEE 802.3, clause 3)
abbrev pub target_of : List ℕ → List ℕ
target_of bytes = slice_range bytes 0 6

-- the source address (IEEE 802.3, clause 3)
abbrev pub source_of : List ℕ → List ℕ
source_of bytes = slice_range bytes 6 12

-- the type field (IEEE 802.3, clause 3)
abbrev pub proto_of : List ℕ → ℕ
proto_of bytes = word_at bytes 12

-- the IPv4 part in what follows this type: there is none where the type is not 0800 (RFC 894, Frame Format)
abbrev pub packet_under : ℕ → List ℕ → Option Packet
packet_under proto rest = if nat_eq proto 2048 then packet_of rest else None

-- the IPv4 part of a frame: it follows 14 octets of header (RFC 894, Frame Format)
abbrev pub packet_in : List ℕ → Option Packet
packet_in bytes = packet_under (proto_of bytes) (drop 14 bytes)

-- The frame is what these bytes say.
pub record ReadsFrame (bytes : List ℕ) (frame : Frame) : Type 0 where
  pub to : frame.to ≡ target_of bytes
  pub from : frame.from ≡ source_of bytes
  pub proto : frame.proto ≡ proto_of bytes
  pub ip : seen frame.ip ≡ packet_in bytes

-- The frame is what some 14 to 1,514 bytes say: its header and at most 1,500 octets (RFC 894, Frame Format). That no fewer octets
-- than 46 follow the header is not asked: ours.
pub record IsFrame (frame : Frame) : Type 0 where
  pub bytes : List ℕ
  pub at_least : 14 ≤ length bytes
  pub at_most : length bytes ≤ 1514
  pub says : ReadsFrame bytes frame
