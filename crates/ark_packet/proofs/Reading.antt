-- What is written is read back.
use Rattle.std.proofs.Common.{◌≡◌, ℕ, ◌+◌, ◌-◌, ◌*◌, ◌/◌, ◌%◌, ◌<◌, ◌≤◌, List, [], ◌∷◌, ◌++◌, length, take, drop, get_or, zero, suc, Bool, true, false, ◌||◌, nat_eq, if◌then◌else◌, Some, None, Ok, arith, refl, sym, ap, ◌∙◌, take_all}
use Rattle.std.proofs.Math.Seq.{take-append_seam, drop-append_seam}
use Rattle.std.proofs.lemmas.Bool.Decides.{nat_tests}
use Rattle.ark_packet.specs.Wire.{word, word_at, IsAddress}
use Rattle.ark_packet.specs.Sum.{plus, ones_sum, is_right}
use Rattle.ark_packet.specs.Ip.{Packet, is_packet, fields_of, packet_of}
use Rattle.ark_packet.specs.Frame.{target_of, source_of, packet_in}
use Rattle.ark_packet.specs.Udp.{Datagram, covered, has_length, is_sum_right, octets_of, datagram_of, datagram_in}
use Rattle.ark_packet.specs.Written.{sent, checksum, ip_header, udp_header, udp_sum, ip_part, frame_of}
use Rattle.ark_packet.specs.declared.own.Own.{Own}
use Rattle.ark_packet.proofs.Sums.{ones_sum_below, ones_sum-append}
use Rattle.ark_packet.proofs.Heads.{four_elim, twelve_before}

pub word_back : (n : ℕ) → n < 65536 → word (n / 256 % 256) (n % 256) ≡ n
word_back n h = omega arith

-- a checksum makes the sum all ones
pub fills : (x y sum : ℕ) → x < 65536 → y < 65536 → sum ≡ 65535 - plus x (plus 0 y) → plus x (plus sum y) ≡ 65535
fills x y sum hx hy e = grind (arith, nat_tests)

pub fills_sent : (x y sum : ℕ) → x < 65536 → y < 65536 → sum ≡ sent (65535 - plus x (plus 0 y)) → plus x (plus sum y) ≡ 65535
fills_sent x y sum hx hy e = grind (arith, nat_tests)

pub octets-cons : (x : ℕ) (xs : List ℕ) → x < 256 → ((i : ℕ) → get_or xs i 0 < 256) → (i : ℕ) → get_or (x ∷ xs) i 0 < 256
octets-cons x xs h hs zero = h
octets-cons x xs h hs (suc i) = hs i

-- each is an octet
abbrev pub EachOctet : List ℕ → Type 0
EachOctet [] = Unit {0}
EachOctet (x ∷ xs) = (x < 256) × EachOctet xs

pub octets-each : (xs : List ℕ) → EachOctet xs → (i : ℕ) → get_or xs i 0 < 256
octets-each [] h i = omega arith
octets-each (x ∷ xs) h zero = h.0
octets-each (x ∷ xs) h (suc i) = octets-each xs h.1 i

sent_below : (n : ℕ) → sent (65535 - n) < 65536
sent_below n = grind (arith, nat_tests)

-- octets with a checksum in them
pub filled : (k : ℕ) (xs ys : List ℕ) (high low sum : ℕ) → length xs ≡ 2 * k → ((i : ℕ) → get_or xs i 0 < 256) → ((i : ℕ) → get_or ys i 0 < 256)
    → high < 256 → low < 256 → ones_sum (xs ++ (high ∷ (low ∷ ys))) ≡ plus (ones_sum xs) (plus (word high low) (ones_sum ys))
filled k xs ys high low sum even hx hy hh hl = ones_sum-append k xs (high ∷ (low ∷ ys)) even hx (octets-cons high (low ∷ ys) hh (octets-cons low ys hl hy))

-- octets with their checksum
pub right_with : (k : ℕ) (xs ys : List ℕ) (sum : ℕ) → length xs ≡ 2 * k → ((i : ℕ) → get_or xs i 0 < 256) → ((i : ℕ) → get_or ys i 0 < 256)
    → sum ≡ checksum (xs ++ (0 ∷ (0 ∷ ys))) → is_right (xs ++ ((sum / 256 % 256) ∷ ((sum % 256) ∷ ys))) ≡ true
right_with k xs ys sum even hx hy e =
    let bare : ones_sum (xs ++ (0 ∷ (0 ∷ ys))) ≡ plus (ones_sum xs) (plus 0 (ones_sum ys)) = filled k xs ys 0 0 0 even hx hy (omega arith) (omega arith) in
    let small : sum < 65536 = omega arith in
    ap (λ n. nat_eq n 65535) (filled k xs ys (sum / 256 % 256) (sum % 256) sum even hx hy (omega arith) (omega arith)
    ∙ ap (λ n. plus (ones_sum xs) (plus n (ones_sum ys))) (word_back sum small)
    ∙ fills (ones_sum xs) (ones_sum ys) sum (ones_sum_below xs hx) (ones_sum_below ys hy) (e ∙ ap (λ n. 65535 - n) bare))

pub right_with_sent : (k : ℕ) (xs ys : List ℕ) (sum : ℕ) → length xs ≡ 2 * k → ((i : ℕ) → get_or xs i 0 < 256) → ((i : ℕ) → get_or ys i 0 < 256)
    → sum ≡ sent (checksum (xs ++ (0 ∷ (0 ∷ ys)))) → is_right (xs ++ ((sum / 256 % 256) ∷ ((sum % 256) ∷ ys))) ≡ true
right_with_sent k xs ys sum even hx hy e =
    let bare : ones_sum (xs ++ (0 ∷ (0 ∷ ys))) ≡ plus (ones_sum xs) (plus 0 (ones_sum ys)) = filled k xs ys 0 0 0 even hx hy (omega arith) (omega arith) in
    let small : sum < 65536 = rw e (sent_below (ones_sum (xs ++ (0 ∷ (0 ∷ ys))))) in
    ap (λ n. nat_eq n 65535) (filled k xs ys (sum / 256 % 256) (sum % 256) sum even hx hy (omega arith) (omega arith)
    ∙ ap (λ n. plus (ones_sum xs) (plus n (ones_sum ys))) (word_back sum small)
    ∙ fills_sent (ones_sum xs) (ones_sum ys) sum (ones_sum_below xs hx) (ones_sum_below ys hy) (e ∙ ap (λ n. sent (65535 - n)) bare))

-- a header of 20 octets and what follows it
abbrev pub head : ℕ → ℕ → ℕ → ℕ → ℕ → ℕ → ℕ → ℕ → ℕ → ℕ → ℕ → ℕ → List ℕ → List ℕ
head t1 t2 s1 s2 f0 f1 f2 f3 d0 d1 d2 d3 body =
    69 ∷ (0 ∷ (t1 ∷ (t2 ∷ (0 ∷ (0 ∷ (0 ∷ (0 ∷ (64 ∷ (17 ∷ (s1 ∷ (s2 ∷ (f0 ∷ (f1 ∷ (f2 ∷ (f3 ∷ (d0 ∷ (d1 ∷ (d2 ∷ (d3 ∷ body)))))))))))))))))))

abbrev pub packet_with : List ℕ → List ℕ → List ℕ → List ℕ → Packet
packet_with from to header payload = record { from = from; to = to; protocol = 17; fragment = false; header = header; payload = payload }

-- the written header is read
pub packet_read : (t1 t2 s1 s2 f0 f1 f2 f3 d0 d1 d2 d3 : ℕ) (body : List ℕ) → word t1 t2 ≡ 20 + length body
    → packet_of (head t1 t2 s1 s2 f0 f1 f2 f3 d0 d1 d2 d3 body)
    ≡ Some (packet_with (f0 ∷ (f1 ∷ (f2 ∷ (f3 ∷ [])))) (d0 ∷ (d1 ∷ (d2 ∷ (d3 ∷ [])))) (head t1 t2 s1 s2 f0 f1 f2 f3 d0 d1 d2 d3 []) body)
packet_read t1 t2 s1 s2 f0 f1 f2 f3 d0 d1 d2 d3 body len =
    let is : is_packet (head t1 t2 s1 s2 f0 f1 f2 f3 d0 d1 d2 d3 body) ≡ true = grind (arith, nat_tests) in
    let cut : take (word t1 t2 - 20) body ≡ body = take_all (word t1 t2 - 20) body (omega arith) in
    ap (λ b. if b then Some (fields_of (head t1 t2 s1 s2 f0 f1 f2 f3 d0 d1 d2 d3 body)) else None) is
    ∙ ap (λ t. Some (packet_with (f0 ∷ (f1 ∷ (f2 ∷ (f3 ∷ [])))) (d0 ∷ (d1 ∷ (d2 ∷ (d3 ∷ [])))) (head t1 t2 s1 s2 f0 f1 f2 f3 d0 d1 d2 d3 []) t)) cut

pub accepted : (p : Packet) → nat_eq p.protocol 17 ≡ true → is_right p.header ≡ true → p.fragment ≡ false → has_length p.payload ≡ true
    → is_sum_right p.from p.to p.protocol (octets_of p) ≡ true → datagram_in (Some p) ≡ Ok (datagram_of p)
accepted p kind right whole long sum = rw (kind, right, whole, long, sum) refl

pub long : (p1 p2 q1 q2 l1 l2 c1 c2 : ℕ) (payload : List ℕ) → word l1 l2 ≡ 8 + length payload
    → has_length (p1 ∷ (p2 ∷ (q1 ∷ (q2 ∷ (l1 ∷ (l2 ∷ (c1 ∷ (c2 ∷ payload)))))))) ≡ true
long p1 p2 q1 q2 l1 l2 c1 c2 payload e = grind (arith, nat_tests)

or_true : (b : Bool) → (b || true) ≡ true
or_true true = refl
or_true false = refl

abbrev pub datagram_with : List ℕ → List ℕ → ℕ → ℕ → List ℕ → Datagram
datagram_with from to from_port to_port payload = record { from = from; to = to; from_port = from_port; to_port = to_port; payload = payload }

-- the datagram of a written IPv4 part
pub part_read : (f0 f1 f2 f3 d0 d1 d2 d3 from_port to_port : ℕ) (payload : List ℕ)
    → f0 < 256 → f1 < 256 → f2 < 256 → f3 < 256 → d0 < 256 → d1 < 256 → d2 < 256 → d3 < 256
    → from_port < 65536 → to_port < 65536 → ((i : ℕ) → get_or payload i 0 < 256) → length payload ≤ 1472
    → datagram_in (packet_of (ip_part (datagram_with (f0 ∷ (f1 ∷ (f2 ∷ (f3 ∷ [])))) (d0 ∷ (d1 ∷ (d2 ∷ (d3 ∷ [])))) from_port to_port payload)))
    ≡ Ok (datagram_with (f0 ∷ (f1 ∷ (f2 ∷ (f3 ∷ [])))) (d0 ∷ (d1 ∷ (d2 ∷ (d3 ∷ [])))) from_port to_port payload)
part_read f0 f1 f2 f3 d0 d1 d2 d3 from_port to_port payload hf0 hf1 hf2 hf3 hd0 hd1 hd2 hd3 hfp htp hp most =
    let from : List ℕ = f0 ∷ (f1 ∷ (f2 ∷ (f3 ∷ []))) in
    let to : List ℕ = d0 ∷ (d1 ∷ (d2 ∷ (d3 ∷ []))) in
    let total : ℕ = 28 + length payload in
    let len : ℕ = 8 + length payload in
    let sum : ℕ = checksum (ip_header total 0 from to) in
    let data_sum : ℕ = udp_sum from to (udp_header from_port to_port len 0) payload in
    let body : List ℕ = udp_header from_port to_port len data_sum ++ payload in
    let header : List ℕ = ip_header total sum from to in
    let total_back : word (total / 256 % 256) (total % 256) ≡ total = word_back total (omega arith) in
    let len_back : word (len / 256 % 256) (len % 256) ≡ len = word_back len (omega arith) in
    let read : packet_of (ip_part (datagram_with from to from_port to_port payload)) ≡ Some (packet_with from to header body) =
    packet_read (total / 256 % 256) (total % 256) (sum / 256 % 256) (sum % 256) f0 f1 f2 f3 d0 d1 d2 d3 body (total_back ∙ omega arith) in
    let octet : (n : ℕ) → n % 256 < 256 = λ n. omega arith in
    let front : List ℕ = 69 ∷ (0 ∷ ((total / 256 % 256) ∷ ((total % 256) ∷ (0 ∷ (0 ∷ (0 ∷ (0 ∷ (64 ∷ (17 ∷ []))))))))) in
    let right : is_right header ≡ true =
    right_with 5 front (from ++ to) sum refl
    (octets-each front (omega arith, (omega arith, (octet (total / 256), (octet total, (omega arith, (omega arith, (omega arith, (omega arith, (omega arith, (omega arith, tt)))))))))))
    (octets-each (from ++ to) (hf0, (hf1, (hf2, (hf3, (hd0, (hd1, (hd2, (hd3, tt))))))))) refl in
    let whole : take (word (len / 256 % 256) (len % 256)) body ≡ body = take_all _ body (omega arith) in
    let before : List ℕ = f0 ∷ (f1 ∷ (f2 ∷ (f3 ∷ (d0 ∷ (d1 ∷ (d2 ∷ (d3 ∷ (0 ∷ (17 ∷ ((len / 256 % 256) ∷ ((len % 256)
    ∷ ((from_port / 256 % 256) ∷ ((from_port % 256) ∷ ((to_port / 256 % 256) ∷ ((to_port % 256) ∷ ((len / 256 % 256) ∷ ((len % 256) ∷ []))))))))))))))))) in
    let data_right : is_right (covered from to 17 body) ≡ true =
    right_with_sent 9 before payload data_sum refl
    (octets-each before (
      hf0,
      (
        hf1,
        (
          hf2,
          (
            hf3,
            (
              hd0,
              (
                hd1,
                (
                  hd2,
                  (
                    hd3,
                    (
                      omega arith,
                      (
                        omega arith,
                        (
                          octet (len / 256),
                          (
                            octet len,
                            (octet (from_port / 256), (octet from_port, (octet (to_port / 256), (octet to_port, (octet (len / 256), (octet len, tt)))))),
                          ),
                        ),
                      ),
                    ),
                  ),
                ),
              ),
            ),
          ),
        ),
      ),
    )) hp refl in
    let sum_right : is_sum_right from to 17 (octets_of (packet_with from to header body)) ≡ true =
    ap (is_sum_right from to 17) whole ∙ ap (λ b. nat_eq (word_at body 6) 0 || b) data_right ∙ or_true (nat_eq (word_at body 6) 0) in
    ap datagram_in read
    ∙ accepted (packet_with from to header body) refl right refl (long (from_port / 256 % 256) (from_port % 256) (to_port / 256 % 256) (to_port % 256) (len / 256 % 256) (len % 256) (data_sum / 256 % 256) (data_sum % 256) payload len_back) sum_right
    ∙ ap (λ t. Ok (datagram_with from to (word (from_port / 256 % 256) (from_port % 256)) (word (to_port / 256 % 256) (to_port % 256)) (drop 8 t))) whole
    ∙ ap (λ n. Ok (datagram_with from to n (word (to_port / 256 % 256) (to_port % 256)) payload)) (word_back from_port hfp)
    ∙ ap (λ n. Ok (datagram_with from to from_port n payload)) (word_back to_port htp)

-- the same for addresses as lists
pub part_back : (from to : List ℕ) (from_port to_port : ℕ) (payload : List ℕ) → IsAddress from → IsAddress to
    → from_port < 65536 → to_port < 65536 → ((i : ℕ) → get_or payload i 0 < 256) → length payload ≤ 1472
    → datagram_in (packet_of (ip_part (datagram_with from to from_port to_port payload))) ≡ Ok (datagram_with from to from_port to_port payload)
part_back from to from_port to_port payload hf ht hfp htp hp most =
    four_elim (λ f. ((i : ℕ) → get_or f i 0 < 256)
    → datagram_in (packet_of (ip_part (datagram_with f to from_port to_port payload))) ≡ Ok (datagram_with f to from_port to_port payload))
    (λ f0 f1 f2 f3 small. four_elim (λ t. ((i : ℕ) → get_or t i 0 < 256)
    → datagram_in (packet_of (ip_part (datagram_with (f0 ∷ (f1 ∷ (f2 ∷ (f3 ∷ [])))) t from_port to_port payload)))
    ≡ Ok (datagram_with (f0 ∷ (f1 ∷ (f2 ∷ (f3 ∷ [])))) t from_port to_port payload))
    (λ d0 d1 d2 d3 below. part_read f0 f1 f2 f3 d0 d1 d2 d3 from_port to_port payload (small 0) (small 1) (small 2) (small 3)
    (below 0) (below 1) (below 2) (below 3) hfp htp hp most) to ht.four ht.octets)
    from hf.four hf.octets

pub target_is : (own : Own) (d : Datagram) → length own.gateway ≡ 6 → target_of (frame_of own d) ≡ own.gateway
target_is own d six = ap (λ n. take n (frame_of own d)) (sym six) ∙ take-append_seam own.gateway (own.mac ++ ((8 ∷ (0 ∷ [])) ++ ip_part d))

pub source_is : (own : Own) (d : Datagram) → length own.gateway ≡ 6 → length own.mac ≡ 6 → source_of (frame_of own d) ≡ own.mac
source_is own d six mac =
    ap (λ n. take 6 (drop n (frame_of own d))) (sym six) ∙ ap (take 6) (drop-append_seam own.gateway (own.mac ++ ((8 ∷ (0 ∷ [])) ++ ip_part d)))
    ∙ ap (λ n. take n (own.mac ++ ((8 ∷ (0 ∷ [])) ++ ip_part d))) (sym mac) ∙ take-append_seam own.mac ((8 ∷ (0 ∷ [])) ++ ip_part d)

pub part_is : (own : Own) (d : Datagram) → length own.gateway ≡ 6 → length own.mac ≡ 6 → packet_in (frame_of own d) ≡ packet_of (ip_part d)
part_is own d six mac = ap packet_in (sym (twelve_before own.gateway own.mac ((8 ∷ (0 ∷ [])) ++ ip_part d) six mac))
