-- Worked scripts on the sockets of one card: which datagrams each of them gets, evaluated.
use Rattle.std.proofs.Common.{◌≡◌, ℕ, List, [], ◌∷◌, ◌++◌, map, codes, replicate, refl}
use Rattle.std.specs.Prelude.{decimal}
use Rattle.std.specs.Fmt.{digits}
use Rattle.std.specs.List.{range_with_len}
use Rattle.hex.specs.Hex.{encode_with}
use Rattle.ark_packet.specs.declared.own.Own.{Own}
use Rattle.ark_packet.specs.Written.{frame_of}
use Rattle.ark_filters.specs.declared.filter.Direction.TheVariants.{Rx}
use Rattle.ark_filters.specs.declared.filter.Proto.TheVariants.{Eth}
use Rattle.ark_script.specs.Line as w
use Rattle.ark_script.specs.Line.{spelled}
use Rattle.ark_machine.specs.Row.{answer}
use Rattle.ark_machine.specs.Step.{step}
use Rattle.ark_machine.specs.System.{fresh_system}
use Rattle.ark_worked.proofs.Playing.{Played, replies}
use Rattle.ark_worked.proofs.Scripts.{quiet, app}
use Rattle.ark_worked.proofs.Rules.{own_at, all_services, rule}
use Rattle.ark_worked.proofs.Labels.{a, f, j, k, n, ok}

abbrev nothing : List ℕ
nothing = codes "ok nothing"

abbrev delivered : List ℕ
delivered = codes "delivered a n"

abbrev here : List ℕ
here = 10 ∷ 0 ∷ 0 ∷ 1 ∷ []

abbrev there : List ℕ
there = 10 ∷ 0 ∷ 0 ∷ 2 ∷ []

-- the other end, whose gateway is this one
abbrev peer : Own
peer = record { mac = spelled (codes "020000000002"); ip = there; gateway = spelled (codes "020000000001") }

-- a datagram from port 5 of the other end to a port of an address
abbrev arrives_at : List ℕ → ℕ → List ℕ → Played
arrives_at ip port payload = quiet (w.wire (frame_of peer (record { from = there; to = ip; from_port = 5; to_port = port; payload = payload })))

abbrev arrives : ℕ → List ℕ → Played
arrives port payload = arrives_at here port payload

abbrev receives : List ℕ → Played
receives label = quiet (w.recv a label)

-- a card that takes all frames, with a ring of so many, and sockets at ports 7 and 8
abbrev socketed : ℕ → List Played
socketed size =
    quiet (w.nic (own_at here))
    ∷ app a
    ∷ quiet (w.vnic a n size 2)
    ∷ quiet (w.filter a f (rule Rx Eth all_services)) ∷ quiet (w.assign a n f)
    ∷ quiet (w.sock a k n 7) ∷ quiet (w.sock a j n 8)
    ∷ []

-- A socket gets the datagrams at its port, oldest first, and no more than eight that wait; all other frames are dropped.
abbrev sorted : List Played
sorted =
    socketed 16 ++ map (λ i. arrives 7 (i ∷ [])) (range_with_len 1 9)
    ++ arrives 8 (100 ∷ 101 ∷ []) ∷ arrives 9 (1 ∷ []) ∷ arrives_at there 8 (1 ∷ []) ∷ quiet (w.wire (spelled (codes "02000000000102000000000288b5")))
    ∷ receives j ∷ receives j ∷ map (λ i. receives k) (range_with_len 1 9)

pub sorted-replies : replies (fresh_system 200) sorted
    ≡ replicate 7 ok ++ replicate 13 delivered
    ++ codes "ok 10.0.0.2 5 6465" ∷ nothing ∷ map (λ i. codes "ok 10.0.0.2 5 0" ++ decimal i) (range_with_len 1 8) ++ nothing ∷ []
unfolding step answer encode_with digits
sorted-replies = refl

-- Receiving posts the card's buffers again. A datagram that waited for a socket is gone with it.
abbrev reposted : List Played
reposted =
    socketed 2 ++ arrives 7 [] ∷ arrives 8 (1 ∷ []) ∷ arrives 7 (2 ∷ [])
    ∷ receives k ∷ arrives 7 (3 ∷ []) ∷ arrives 7 (4 ∷ []) ∷ arrives 7 (5 ∷ []) ∷ receives j ∷ receives k
    ∷ quiet (w.drop a k) ∷ quiet (w.sock a k n 7) ∷ receives k ∷ arrives 7 (6 ∷ []) ∷ receives k
    ∷ []

pub reposted-replies : replies (fresh_system 200) reposted
    ≡ replicate 7 ok ++ delivered ∷ delivered ∷ codes "dropped no buffer a n"
    ∷ codes "ok 10.0.0.2 5 -" ∷ delivered ∷ delivered ∷ codes "dropped no buffer a n" ∷ codes "ok 10.0.0.2 5 01" ∷ codes "ok 10.0.0.2 5 03"
    ∷ ok ∷ ok ∷ nothing ∷ delivered ∷ codes "ok 10.0.0.2 5 06"
    ∷ []
unfolding step answer encode_with digits
reposted-replies = refl

-- two bytes for port 7 with this header checksum, and UDP length and checksum
abbrev frame : List ℕ → List ℕ → Played
frame header udp = quiet (w.wire (spelled (codes "02000000000102000000000208004500001e0000000040" ++ codes "11" ++ header ++ codes "0a0000020a00000100050007" ++ udp ++ codes "6869")))

abbrev right_header : List ℕ
right_header = codes "66cd"

-- A length of the datagram that is below the packet's is right, one above it or below eight is not. A checksum of zero is none.
abbrev checked : List Played
checked =
    socketed 8 ++ frame right_header (codes "000a0000") ∷ receives k
    ∷ frame (codes "66ce") (codes "000a0000") ∷ receives k
    ∷ frame right_header (codes "00090000") ∷ receives k
    ∷ frame right_header (codes "00080000") ∷ receives k
    ∷ frame right_header (codes "00070000") ∷ receives k
    ∷ frame right_header (codes "000b0000") ∷ receives k
    ∷ frame right_header (codes "000a0001") ∷ receives k
    ∷ frame right_header (codes "000a8362") ∷ receives k
    ∷ []

pub checked-replies : replies (fresh_system 200) checked
    ≡ replicate 7 ok ++ delivered ∷ codes "ok 10.0.0.2 5 6869"
    ∷ delivered ∷ nothing
    ∷ delivered ∷ codes "ok 10.0.0.2 5 68"
    ∷ delivered ∷ codes "ok 10.0.0.2 5 -"
    ∷ delivered ∷ nothing
    ∷ delivered ∷ nothing
    ∷ delivered ∷ nothing
    ∷ delivered ∷ codes "ok 10.0.0.2 5 6869"
    ∷ []
unfolding step answer encode_with digits
checked-replies = refl

-- Eight sockets to a card, one to a port, each with its card's busy rules.
abbrev eight : List Played
eight =
    quiet (w.nic (own_at here)) ∷ app a ∷ quiet (w.vnic a n 2 2) ∷ quiet (w.vnic a (codes "u") 2 2)
    ∷ quiet (w.buf a (codes "m") 14) ∷ quiet (w.post a (codes "u") (codes "m")) ∷ quiet (w.sock a k (codes "u") 7)
    ∷ map (λ i. quiet (w.sock a (codes "k" ++ decimal i) n i)) (range_with_len 1 7)
    ++ quiet (w.sock a k n 7) ∷ quiet (w.sock a k n 0) ∷ quiet (w.sock a j n 7) ∷ quiet (w.drop a k) ∷ quiet (w.sock a j n 7) ∷ quiet (w.sock a j n 65535)
    ∷ []

pub eight-replies : replies (fresh_system 200) eight
    ≡ replicate 6 ok ++ codes "refused 16 busy" ∷ replicate 7 ok
    ++ codes "refused 16 busy" ∷ ok ∷ codes "refused 7 limit" ∷ ok ∷ codes "refused 16 busy" ∷ ok
    ∷ []
unfolding step answer digits
eight-replies = refl
