-- The IPv4 part of a frame.
use Rattle.std.proofs.Common.{◌≡◌, ℕ, List, drop, Option, ap, ◌∙◌}
use Rattle.ark_packet.specs.Ip.{Packet}
use Rattle.ark_packet.specs.Frame.{packet_under, packet_in, proto_of}

pub packet_is : (proto : ℕ) (bytes rest : List ℕ) (found : Option Packet) → proto ≡ proto_of bytes → rest ≡ drop 14 bytes → found ≡ packet_under proto rest → found ≡ packet_in bytes
packet_is proto bytes rest found p r f = f ∙ ap (λ n. packet_under n rest) p ∙ ap (packet_under (proto_of bytes)) r
