-- Bytes laid one after another.
use Rattle.std.proofs.Common.{◌≡◌, ℕ, ◌+◌, ◌-◌, ◌≤◌, List, [], ◌∷◌, ◌++◌, length, take, drop, arith, sym, ap, ◌∙◌, append_assoc, drop-drop}
use Rattle.ark_packet.specs.Udp.{Datagram}
use Rattle.ark_packet.specs.Written.{right_ip_header, udp_header, udp_sum, ip_part, frame_of}
use Rattle.ark_packet.specs.declared.own.Own.{Own}

-- what is the same from a place on is the same from a later one on
later : (p q : ℕ) (xs ys : List ℕ) → p ≤ q → drop p xs ≡ drop p ys → drop q xs ≡ drop q ys
later p q xs ys h e =
    let k : p + (q - p) ≡ q = omega arith in
    ap (λ n. drop n xs) (sym k) ∙ sym (drop-drop (q - p) p xs) ∙ ap (drop (q - p)) e ∙ drop-drop (q - p) p ys ∙ ap (λ n. drop n ys) k

pub four_laid : (o0 o1 o2 o3 o4 a b c d : List ℕ) (p1 p2 p3 p4 : ℕ) → take p1 o1 ≡ take 0 o0 ++ a → take p2 o2 ≡ take p1 o1 ++ b
    → take p3 o3 ≡ take p2 o2 ++ c → take p4 o4 ≡ take p3 o3 ++ d → take p4 o4 ≡ a ++ (b ++ (c ++ d))
four_laid o0 o1 o2 o3 o4 a b c d p1 p2 p3 p4 e1 e2 e3 e4 =
    e4 ∙ ap (λ t. t ++ d) e3 ∙ ap (λ t. (t ++ c) ++ d) e2 ∙ ap (λ t. ((t ++ b) ++ c) ++ d) e1
    ∙ append_assoc (a ++ b) c d ∙ append_assoc a b (c ++ d)

pub four_left : (o0 o1 o2 o3 o4 : List ℕ) (p1 p2 p3 p4 : ℕ) → p1 ≤ p2 → p2 ≤ p3 → p3 ≤ p4 → drop p1 o1 ≡ drop p1 o0 → drop p2 o2 ≡ drop p2 o1
    → drop p3 o3 ≡ drop p3 o2 → drop p4 o4 ≡ drop p4 o3 → drop p4 o4 ≡ drop p4 o0
four_left o0 o1 o2 o3 o4 p1 p2 p3 p4 h1 h2 h3 e1 e2 e3 e4 =
    e4 ∙ later p3 p4 o3 o2 h3 e3 ∙ later p2 p4 o2 o1 (omega arith) e2 ∙ later p1 p4 o1 o0 (omega arith) e1

-- the four parts of a frame
pub frame_laid : (own : Own) (d : Datagram) (w link ip udp : List ℕ) → w ≡ link ++ (ip ++ (udp ++ d.payload)) → link ≡ own.gateway ++ (own.mac ++ (8 ∷ (0 ∷ [])))
    → ip ++ (udp ++ d.payload) ≡ ip_part d → w ≡ frame_of own d
frame_laid own d w link ip udp e l p =
    e ∙ ap (λ t. t ++ (ip ++ (udp ++ d.payload))) l ∙ ap (λ t. (own.gateway ++ (own.mac ++ (8 ∷ (0 ∷ [])))) ++ t) p
    ∙ append_assoc own.gateway (own.mac ++ (8 ∷ (0 ∷ []))) (ip_part d) ∙ ap (λ t. own.gateway ++ t) (append_assoc own.mac (8 ∷ (0 ∷ [])) (ip_part d))

-- the IPv4 part, header by header
pub part_laid : (d : Datagram) (ip bare udp : List ℕ) (sum : ℕ) → ip ≡ right_ip_header (28 + length d.payload) d.from d.to
    → bare ≡ udp_header d.from_port d.to_port (8 + length d.payload) 0 → sum ≡ udp_sum d.from d.to bare d.payload
    → udp ≡ udp_header d.from_port d.to_port (8 + length d.payload) sum → ip ++ (udp ++ d.payload) ≡ ip_part d
part_laid d ip bare udp sum i b s u =
    ap (λ t. t ++ (udp ++ d.payload)) i ∙ ap (λ t. right_ip_header (28 + length d.payload) d.from d.to ++ (t ++ d.payload))
    (u ∙ ap (udp_header d.from_port d.to_port (8 + length d.payload)) (s ∙ ap (λ t. udp_sum d.from d.to t d.payload) b))
