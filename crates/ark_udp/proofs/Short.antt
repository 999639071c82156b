-- A datagram in a frame of at most 1,514 bytes has a payload of at most 1,472.
use Rattle.std.proofs.Common.{◌≡◌, ℕ, ◌-◌, ◌≤◌, ◌&&◌, true, not, nat_eq, nat_le, List, length, take, drop, Option, Some, None, Result, Ok, Err, arith, length-take, length-drop}
use Rattle.std.specs.Prelude.{IfSome, IfOk}
use Rattle.std.proofs.lemmas.Bool.{cond_both, and_parts}
use Rattle.std.proofs.lemmas.Bool.Decides.{nat_tests}
use Rattle.ark_packet.specs.Ip.{Packet, version, header_length, total_length, is_packet, fields_of, packet_of}
use Rattle.ark_packet.specs.Frame.{proto_of, packet_in}
use Rattle.ark_packet.specs.Sum.{is_right}
use Rattle.ark_packet.specs.Udp.{Datagram, length_field, has_length, octets_of, is_sum_right, datagram_in}
use Rattle.ark_packet.specs.declared.udp.Bad.{Bad}

long_header : (rest : List ℕ) → is_packet rest ≡ true → nat_le 20 (header_length rest) ≡ true
long_header rest is =
    let a = and_parts (nat_le 20 (length rest)) (nat_eq (version rest) 4 && (nat_le 20 (header_length rest) && (nat_le (header_length rest) (total_length rest) && nat_le (total_length rest) (length rest)))) is in
    let b = and_parts (nat_eq (version rest) 4) (nat_le 20 (header_length rest) && (nat_le (header_length rest) (total_length rest) && nat_le (total_length rest) (length rest))) a.1 in
    (and_parts (nat_le 20 (header_length rest)) (nat_le (header_length rest) (total_length rest) && nat_le (total_length rest) (length rest)) b.1).0

cut_short : (n h : ℕ) (xs : List ℕ) → length (take n (drop h xs)) ≤ length xs - h
cut_short n h xs = let t = length-take n (drop h xs) in let d = length-drop h xs in omega (arith, t, d)

abbrev IsShort : ℕ → Option Packet → Type 0
IsShort n packet = IfSome packet (λ p. length p.payload ≤ n - 34)

short_packet : (bytes : List ℕ) → IsShort (length bytes) (packet_in bytes)
short_packet bytes =
    let rest = drop 14 bytes in
    cond_both (nat_eq (proto_of bytes) 2048) (packet_of rest) None (IsShort (length bytes))
    (λ ipv4. cond_both (is_packet rest) (Some (fields_of rest)) None (IsShort (length bytes))
    (λ is.
    let head = long_header rest is in
    let far : 20 ≤ header_length rest = grind (arith, nat_tests, head) in
    let some = cut_short (total_length rest - header_length rest) (header_length rest) rest in
    let all = length-drop 14 bytes in
    omega (arith, far, some, all))
    (λ no. tt))
    (λ other. tt)

abbrev AreShort : ℕ → Result Datagram Bad → Type 0
AreShort n r = IfOk r (λ d. length d.payload ≤ n - 42)

short_in : (n : ℕ) (packet : Option Packet) → IsShort n packet → AreShort n (datagram_in packet)
short_in n None short = tt
short_in n (Some p) short =
    cond_both (not (nat_eq p.protocol 17)) _ _ (AreShort n) (λ kind. tt)
    (λ udp. cond_both (not (is_right p.header)) _ _ (AreShort n) (λ sum. tt)
    (λ right. cond_both p.fragment _ _ (AreShort n) (λ part. tt)
    (λ whole. cond_both (not (has_length p.payload)) _ _ (AreShort n) (λ long. tt)
    (λ there. cond_both (not (is_sum_right p.from p.to p.protocol (octets_of p))) _ _ (AreShort n) (λ wrong. tt)
    (λ good.
    let t = length-take (length_field p.payload) p.payload in
    let d = length-drop 8 (octets_of p) in
    omega (arith, t, d, short))))))

-- the datagram of a frame, if it can be taken
pub short_payload : (bytes : List ℕ) → length bytes ≤ 1514 → IfOk (datagram_in (packet_in bytes)) (λ d. length d.payload ≤ 1472)
short_payload bytes most = by (datagram_in (packet_in bytes)) (short_in (length bytes) (packet_in bytes) (short_packet bytes))
  where
    by : (r : Result Datagram Bad) → AreShort (length bytes) r → IfOk r (λ d. length d.payload ≤ 1472)
    by (Ok d) short = omega (arith, short, most)
    by (Err e) short = tt
