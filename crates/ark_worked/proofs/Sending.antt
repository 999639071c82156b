-- A worked script on frames that a rate holds and lets out, evaluated.
use Rattle.std.proofs.Common.{◌≡◌, ℕ, ◌*◌, ◌-◌, true, Some, List, [], ◌∷◌, ◌++◌, codes, replicate, refl}
use Rattle.std.specs.Fmt.{digits}
use Rattle.hex.specs.Hex.{encode_with}
use Rattle.ark_filters.specs.declared.filter.Direction.TheVariants.{Tx}
use Rattle.ark_filters.specs.declared.filter.Proto.TheVariants.{Eth}
use Rattle.ark_script.specs.Line as w
use Rattle.ark_script.specs.Line.{spelled}
use Rattle.ark_script.specs.declared.step.Side.TheVariants as side
use Rattle.ark_machine.specs.Row.{answer}
use Rattle.ark_machine.specs.Step.{step}
use Rattle.ark_machine.specs.System.{fresh_system}
use Rattle.ark_worked.proofs.Playing.{Played, replies, performed}
use Rattle.ark_worked.proofs.Scripts.{quiet, app}
use Rattle.ark_worked.proofs.Rules.{own_at, all_services, rule}
use Rattle.ark_worked.proofs.Labels.{a, n}

-- a buffer that begins with the head of a frame to the gateway
abbrev framed : List ℕ → List Played
framed b = quiet (w.buf a b 400) ∷ quiet (w.fill a b 0 (spelled (codes "02000000000202000000000188b5"))) ∷ []

abbrev pub sends : List ℕ → ℕ → Played
sends b len = quiet (w.send a n b len)

abbrev moves : Played
moves = quiet (w.dev a n)

-- 100 bytes a tick, and 300 of a burst
abbrev pub paced : List Played
paced =
    quiet (w.nic (own_at (10 ∷ 0 ∷ 0 ∷ 1 ∷ [])))
    ∷ app a
    ∷ quiet (w.vnic a n 2 8)
    ∷ quiet (w.filter a (codes "f") (rule Tx Eth all_services))
    ∷ quiet (w.assign a n (codes "f"))
    ∷ quiet (w.rate a (codes "r") 100 300)
    ∷ quiet (w.pace a n (Some (codes "r")) side.Tx)
    ∷ framed (codes "b1") ++ framed (codes "b2") ++ framed (codes "b3") ++ framed (codes "b4") ++ framed (codes "b5") ++ framed (codes "b6") ++ framed (codes "b7")

-- The burst is used up at once, the next frame waits for the next tick; and a frame above the burst never goes.
abbrev sending : List Played
sending =
    sends (codes "b1") 200 ∷ sends (codes "b2") 100 ∷ sends (codes "b3") 60
    ∷ moves ∷ moves ∷ moves
    ∷ quiet (w.tick 1) ∷ moves
    ∷ quiet (w.tick 999)
    ∷ sends (codes "b4") 200 ∷ sends (codes "b5") 100 ∷ sends (codes "b6") 60 ∷ sends (codes "b7") 301
    ∷ moves ∷ moves ∷ moves
    ∷ quiet (w.tick 1) ∷ moves ∷ moves
    ∷ []

-- so many bytes of such a buffer, which are zero behind the head
abbrev sent : ℕ → List ℕ
sent len = codes "sent 02000000000202000000000188b5" ++ replicate (2 * (len - 14)) 48

pub sending-replies : replies (fresh_system 200) (paced ++ sending)
    ≡ replicate 21 (codes "ok") ++
    codes "ok" ∷ codes "ok" ∷ codes "ok"
    ∷ sent 200 ∷ sent 100 ∷ codes "held"
    ∷ codes "ok 1" ∷ sent 60
    ∷ codes "ok 1000"
    ∷ codes "ok" ∷ codes "ok" ∷ codes "ok" ∷ codes "ok"
    ∷ sent 200 ∷ sent 100 ∷ codes "held"
    ∷ codes "ok 1001" ∷ sent 60 ∷ codes "done over burst"
    ∷ []
unfolding step answer encode_with digits
sending-replies = refl

pub sending-performed : performed (fresh_system 200) (paced ++ sending) ≡ true
unfolding step answer
sending-performed = refl

-- A frame that no filter lets out ends so, also where it is above the burst; above the burst it is not held.
abbrev ending : List Played
ending =
    quiet (w.nic (own_at (10 ∷ 0 ∷ 0 ∷ 1 ∷ [])))
    ∷ app a
    ∷ quiet (w.vnic a n 2 8)
    ∷ quiet (w.filter a (codes "f") (rule Tx Eth all_services))
    ∷ quiet (w.rate a (codes "r") 0 14)
    ∷ quiet (w.pace a n (Some (codes "r")) side.Tx)
    ∷ framed (codes "b1") ++ framed (codes "b2") ++ framed (codes "b3") ++ framed (codes "b4")
    ++ sends (codes "b1") 15 ∷ sends (codes "b2") 14 ∷ sends (codes "b3") 15 ∷ sends (codes "b4") 14
    ∷ moves ∷ quiet (w.assign a n (codes "f")) ∷ moves ∷ moves ∷ moves
    ∷ quiet (w.pace a n (Some (codes "r")) side.Tx) ∷ moves ∷ moves
    ∷ []

pub ending-replies : replies (fresh_system 200) ending
    ≡ replicate 18 (codes "ok")
    ++ codes "done no filter" ∷ codes "ok" ∷ sent 14 ∷ codes "done over burst" ∷ codes "held"
    ∷ codes "ok" ∷ sent 14 ∷ codes "idle"
    ∷ []
unfolding step answer encode_with digits
ending-replies = refl
