-- Frames and headers read by the definitions.
use Rattle.std.proofs.Common.{◌≡◌, ℕ, List, [], ◌∷◌, ◌++◌, true, false, Ok, refl}
use Rattle.ark_packet.specs.Sum.{is_right}
use Rattle.ark_packet.specs.Frame.{target_of, source_of, packet_in}
use Rattle.ark_packet.specs.Udp.{datagram_in}

-- 45000073000040004011b861c0a80001c0a800c7
header_of : ℕ → ℕ → List ℕ
header_of high low =
    69 ∷ (0 ∷ (0 ∷ (115 ∷ (0 ∷ (0 ∷ (64 ∷ (0 ∷ (64 ∷ (17 ∷ (high ∷ (low ∷ (192 ∷ (168 ∷ (0 ∷ (1 ∷ (192 ∷ (168 ∷ (0 ∷ (199 ∷ [])))))))))))))))))))

right_header : is_right (header_of 184 97) ≡ true
unfolding header_of
right_header = refl

wrong_header : is_right (header_of 184 98) ≡ false
unfolding header_of
wrong_header = refl

-- a datagram with the payload `hi`
datagram : List ℕ
datagram =
    2 ∷ (0 ∷ (0 ∷ (0 ∷ (0 ∷ (1 ∷ (2 ∷ (0 ∷ (0 ∷ (0 ∷ (0 ∷ (2 ∷ (8 ∷ (0 ∷ (69 ∷ (0 ∷ (0 ∷ (30 ∷ (0 ∷ (0 ∷ (0 ∷ (0 ∷ (64 ∷ (17 ∷ (102 ∷ (205 ∷ (10 ∷ (0 ∷ (0 ∷ (2 ∷
    (10 ∷ (0 ∷ (0 ∷ (1 ∷ (0 ∷ (7 ∷ (31 ∷ (144 ∷ (0 ∷ (10 ∷ (99 ∷ (215 ∷ (104 ∷ (105 ∷ [])))))))))))))))))))))))))))))))))))))))))))

read : datagram_in (packet_in datagram)
    ≡ Ok (record { from = 10 ∷ (0 ∷ (0 ∷ (2 ∷ []))); to = 10 ∷ (0 ∷ (0 ∷ (1 ∷ []))); from_port = 7; to_port = 8080; payload = 104 ∷ (105 ∷ []) })
unfolding datagram
read = refl

target : target_of datagram ≡ 2 ∷ (0 ∷ (0 ∷ (0 ∷ (0 ∷ (1 ∷ [])))))
unfolding datagram
target = refl

source : source_of datagram ≡ 2 ∷ (0 ∷ (0 ∷ (0 ∷ (0 ∷ (2 ∷ [])))))
unfolding datagram
source = refl

-- padding after the total length changes nothing
padded : datagram_in (packet_in (datagram ++ (1 ∷ (2 ∷ [])))) ≡ datagram_in (packet_in datagram)
unfolding datagram
padded = refl
