-- Worked scripts on filters that overlap, and on those that share the frames of one port by their peers, evaluated.
use Rattle.std.proofs.Common.{◌≡◌, ℕ, true, List, [], ◌∷◌, ◌++◌, codes, replicate, refl}
use Rattle.std.specs.Fmt.{digits}
use Rattle.hex.specs.Hex.{encode_with}
use Rattle.ark_filters.specs.declared.filter.Direction.TheVariants.{Rx, Tx}
use Rattle.ark_filters.specs.declared.filter.Proto.TheVariants.{Eth, Udp, Tcp}
use Rattle.ark_packet.specs.Written.{frame_of}
use Rattle.ark_script.specs.Line as w
use Rattle.ark_script.specs.Line.{spelled}
use Rattle.ark_machine.specs.Row.{answer}
use Rattle.ark_machine.specs.Step.{step}
use Rattle.ark_machine.specs.System.{fresh_system}
use Rattle.ark_worked.proofs.Playing.{Played, replies, performed}
use Rattle.ark_worked.proofs.Scripts.{quiet, app}
use Rattle.ark_worked.proofs.Rules.{own_at, one_peer, between, rule, rule_from}
use Rattle.ark_worked.proofs.Labels.{a, f, g, h, n}

-- Receive filters share no frame: ports beside ports, a type that holds them, another protocol, another direction.
abbrev overlaps : List Played
overlaps =
    quiet (w.nic (own_at (10 ∷ 0 ∷ 0 ∷ 1 ∷ [])))
    ∷ app a
    ∷ quiet (w.filter a f (rule Rx Udp (between 100 200)))
    ∷ quiet (w.filter a g (rule Rx Udp (between 200 300)))
    ∷ quiet (w.filter a g (rule Rx Udp (between 201 300)))
    ∷ quiet (w.filter a h (rule Rx Eth (between 2048 2048)))
    ∷ quiet (w.filter a h (rule Rx Tcp (between 100 200)))
    ∷ quiet (w.filter a (codes "t") (rule Tx Udp (between 100 200)))
    ∷ []

pub overlaps-replies : replies (fresh_system 200) overlaps
    ≡ codes "ok"
    ∷ codes "ok"
    ∷ codes "ok"
    ∷ codes "refused 12 overlap a f"
    ∷ codes "ok"
    ∷ codes "refused 12 overlap a f"
    ∷ codes "ok"
    ∷ codes "ok"
    ∷ []
unfolding step answer
overlaps-replies = refl

pub overlaps-performed : performed (fresh_system 200) overlaps ≡ true
unfolding step answer
overlaps-performed = refl

-- Two applications receive at one port, each from its own peer.

abbrev here : List ℕ
here = 10 ∷ 0 ∷ 0 ∷ 1 ∷ []

abbrev host : ℕ → List ℕ
host last = 10 ∷ 0 ∷ 0 ∷ last ∷ []

-- a network card of an application, and a filter for port 7 of one host
abbrev served : List ℕ → ℕ → List Played
served owner last =
    app owner
    ∷ quiet (w.vnic owner n 2 2)
    ∷ quiet (w.filter owner f (rule_from (one_peer (host last)) Rx Udp (between 7 7)))
    ∷ quiet (w.assign owner n f)
    ∷ quiet (w.sock owner (codes "k") n 7)
    ∷ []

-- a datagram from a host
abbrev arrives : ℕ → Played
arrives last = quiet (w.wire (frame_of (record { mac = spelled (codes "020000000002"); ip = host last; gateway = spelled (codes "020000000001") }) (record { from = host last; to = here; from_port = 5; to_port = 7; payload = last ∷ [] })))

abbrev receives : List ℕ → Played
receives owner = quiet (w.recv owner (codes "k"))

abbrev shared : List Played
shared =
    quiet (w.nic (own_at here))
    ∷ served a 2 ++ served (codes "b") 3
    ++ arrives 3 ∷ arrives 2 ∷ arrives 4
    ∷ receives a ∷ receives a ∷ receives (codes "b") ∷ receives (codes "b")
    ∷ []

pub shared-replies : replies (fresh_system 200) shared
    ≡ replicate 11 (codes "ok")
    ++ codes "delivered b n" ∷ codes "delivered a n" ∷ codes "dropped no filter"
    ∷ codes "ok 10.0.0.2 5 02" ∷ codes "ok nothing" ∷ codes "ok 10.0.0.3 5 03" ∷ codes "ok nothing"
    ∷ []
unfolding step answer encode_with digits
shared-replies = refl
