-- A worked script on a socket and the frames that come in for it, evaluated.
use Rattle.std.proofs.Common.{◌≡◌, ℕ, true, List, [], ◌∷◌, ◌++◌, codes, replicate, refl}
use Rattle.std.specs.Fmt.{digits}
use Rattle.hex.specs.Hex.{encode_with}
use Rattle.ark_filters.specs.declared.filter.Direction.TheVariants.{Rx}
use Rattle.ark_filters.specs.declared.filter.Proto.TheVariants.{Udp}
use Rattle.ark_script.specs.Line as w
use Rattle.ark_script.specs.Line.{spelled}
use Rattle.ark_machine.specs.Row.{answer}
use Rattle.ark_machine.specs.Step.{step}
use Rattle.ark_machine.specs.System.{fresh_system}
use Rattle.ark_worked.proofs.Playing.{Played, replies, performed}
use Rattle.ark_worked.proofs.Scripts.{quiet, app}
use Rattle.ark_worked.proofs.Rules.{own_at, between, rule}
use Rattle.ark_worked.proofs.Labels.{a, n, k}

-- A frame of 129 bytes, with these flags and this header checksum: 87 zeros from port 5000 of 192.168.0.1 to port 100 of
-- 192.168.0.199, with no checksum of their own.
abbrev frame : List ℕ → List ℕ → List ℕ
frame flags sum =
    spelled (codes "0200000000010200000000020800" ++ codes "450000730000" ++ flags ++ codes "4011" ++ sum ++ codes "c0a80001c0a800c7")
    ++ (spelled (codes "13880064005f0000") ++ replicate 87 0)

abbrev whole : Played
whole = quiet (w.wire (frame (codes "4000") (codes "b861")))

abbrev receives : Played
receives = quiet (w.recv a k)

-- A datagram is given to its socket once; one whose header checksum is wrong is dropped there, and a fragment at the filter.
abbrev receiving : List Played
receiving =
    quiet (w.nic (own_at (192 ∷ 168 ∷ 0 ∷ 199 ∷ [])))
    ∷ app a
    ∷ quiet (w.vnic a n 2 2)
    ∷ quiet (w.filter a (codes "f") (rule Rx Udp (between 100 200)))
    ∷ quiet (w.assign a n (codes "f"))
    ∷ whole
    ∷ quiet (w.sock a k n 100)
    ∷ whole ∷ receives ∷ receives
    ∷ quiet (w.wire (frame (codes "4000") (codes "b862"))) ∷ receives
    ∷ quiet (w.wire (frame (codes "2000") (codes "b861")))
    ∷ []

pub receiving-replies : replies (fresh_system 200) receiving
    ≡ codes "ok" ∷ codes "ok" ∷ codes "ok" ∷ codes "ok" ∷ codes "ok"
    ∷ codes "dropped no buffer a n"
    ∷ codes "ok"
    ∷ codes "delivered a n" ∷ (codes "ok 192.168.0.1 5000 " ++ replicate 174 48) ∷ codes "ok nothing"
    ∷ codes "delivered a n" ∷ codes "ok nothing"
    ∷ codes "dropped no filter"
    ∷ []
unfolding step answer encode_with digits
receiving-replies = refl

pub receiving-performed : performed (fresh_system 200) receiving ≡ true
unfolding step answer
receiving-performed = refl
