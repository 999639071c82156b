-- Worked scripts on the rings of a network card with no socket, and on frames that are dropped, evaluated.
use Rattle.std.proofs.Common.{◌≡◌, ℕ, true, None, Some, List, [], ◌∷◌, ◌++◌, codes, replicate, refl}
use Rattle.std.specs.Fmt.{digits}
use Rattle.hex.specs.Hex.{encode_with}
use Rattle.ark_filters.specs.declared.filter.Direction.TheVariants.{Rx, Tx}
use Rattle.ark_filters.specs.declared.filter.Proto.TheVariants.{Eth}
use Rattle.ark_script.specs.Line as w
use Rattle.ark_script.specs.Line.{spelled}
use Rattle.ark_script.specs.declared.step.Side.TheVariants as side
use Rattle.ark_machine.specs.Row.{answer}
use Rattle.ark_machine.specs.Step.{step}
use Rattle.ark_machine.specs.System.{fresh_system}
use Rattle.ark_worked.proofs.Playing.{Played, replies, performed}
use Rattle.ark_worked.proofs.Scripts.{quiet, app}
use Rattle.ark_worked.proofs.Rules.{own_at, all_services, rule}
use Rattle.ark_worked.proofs.Labels.{a, d, f, m, n, o, r, t, ok}

-- a network card with a filter either way for all frames, and three buffers
abbrev carded : List Played
carded =
    quiet (w.nic (own_at (10 ∷ 0 ∷ 0 ∷ 1 ∷ [])))
    ∷ app a
    ∷ quiet (w.vnic a n 2 2)
    ∷ quiet (w.filter a f (rule Rx Eth all_services)) ∷ quiet (w.assign a n f)
    ∷ quiet (w.filter a t (rule Tx Eth all_services)) ∷ quiet (w.assign a n t)
    ∷ quiet (w.buf a m 20) ∷ quiet (w.buf a o 14) ∷ quiet (w.buf a (codes "p") 14)
    ∷ []

abbrev carded_said : List (List ℕ)
carded_said = replicate 10 ok

-- a frame for this end with these bytes behind its head
abbrev arrives : List ℕ → Played
arrives bytes = quiet (w.wire (spelled (codes "02000000000102000000000288b5") ++ bytes))

abbrev posts : List ℕ → Played
posts b = quiet (w.post a n b)

abbrev sends : List ℕ → ℕ → Played
sends b len = quiet (w.send a n b len)

abbrev takes_rx : Played
takes_rx = quiet (w.take a n Rx)

abbrev takes_tx : Played
takes_tx = quiet (w.take a n Tx)

abbrev shows : List ℕ → ℕ → Played
shows b len = quiet (w.show a b 0 len)

abbrev moves : Played
moves = quiet (w.dev a n)

-- A buffer is lent from its posting to its taking, and the frame stands at its front.
abbrev receiving : List Played
receiving =
    carded ++ quiet (w.fill a m 0 (replicate 20 255)) ∷ posts m ∷ posts m ∷ posts o ∷ posts (codes "p")
    ∷ shows m 20 ∷ takes_rx
    ∷ arrives (1 ∷ 2 ∷ []) ∷ quiet (w.free a m) ∷ posts m
    ∷ takes_rx ∷ takes_rx ∷ shows m 20
    ∷ posts m ∷ []

pub receiving-replies : replies (fresh_system 200) receiving
    ≡ carded_said ++ ok ∷ ok ∷ codes "refused 15 lent" ∷ ok ∷ codes "refused 13 ring full"
    ∷ codes "refused 15 lent" ∷ codes "ok nothing"
    ∷ codes "delivered a n" ∷ codes "refused 15 lent" ∷ codes "refused 15 lent"
    ∷ codes "ok m 16" ∷ codes "ok nothing" ∷ codes "ok 02000000000102000000000288b50102ffffffff"
    ∷ ok ∷ []
unfolding step answer encode_with digits
receiving-replies = refl

pub receiving-performed : performed (fresh_system 200) receiving ≡ true
unfolding step answer
receiving-performed = refl

-- Frames leave in the order of their posting, and what no filter lets out ends with that.
abbrev sending : List Played
sending =
    carded ++ quiet (w.fill a m 0 (spelled (codes "02000000000202000000000188b5aa")))
    ∷ sends m 21 ∷ sends m 15 ∷ sends m 14 ∷ sends o 14 ∷ sends (codes "p") 14
    ∷ takes_tx ∷ moves ∷ moves ∷ moves
    ∷ sends (codes "p") 14 ∷ quiet (w.copy a m o 14)
    ∷ takes_tx ∷ sends m 15 ∷ takes_tx ∷ takes_tx ∷ moves ∷ takes_tx
    ∷ []

pub sending-replies : replies (fresh_system 200) sending
    ≡ carded_said ++ ok
    ∷ codes "refused 9 out of range" ∷ ok ∷ codes "refused 15 lent" ∷ ok ∷ codes "refused 13 ring full"
    ∷ codes "ok nothing" ∷ codes "sent 02000000000202000000000188b5aa" ∷ codes "done no filter" ∷ codes "idle"
    ∷ codes "refused 13 ring full" ∷ codes "refused 15 lent"
    ∷ codes "ok m ok" ∷ ok ∷ codes "ok o no filter" ∷ codes "ok nothing" ∷ codes "sent 02000000000202000000000188b5aa" ∷ codes "ok m ok"
    ∷ []
unfolding step answer encode_with digits
sending-replies = refl

pub sending-performed : performed (fresh_system 200) sending ≡ true
unfolding step answer
sending-performed = refl

-- Frames that are dropped: for no filter, for no buffer, too long for the oldest buffer, above the rate. Nothing changes then.
abbrev dropped : List Played
dropped =
    carded ++ arrives [] ∷ quiet (w.wire (spelled (codes "02000000000302000000000288b5")))
    ∷ posts o ∷ posts m
    ∷ arrives (1 ∷ [])
    ∷ quiet (w.rate a r 1 14) ∷ quiet (w.pace a n (Some r) side.Rx)
    ∷ arrives (1 ∷ []) ∷ arrives [] ∷ takes_rx
    ∷ arrives [] ∷ quiet (w.tick 13) ∷ arrives [] ∷ arrives (1 ∷ []) ∷ quiet (w.tick 1) ∷ arrives (1 ∷ []) ∷ arrives [] ∷ takes_rx
    ∷ []

pub dropped-replies : replies (fresh_system 200) dropped
    ≡ carded_said ++ codes "dropped no buffer a n" ∷ codes "dropped no filter"
    ∷ ok ∷ ok
    ∷ codes "dropped too long a n"
    ∷ ok ∷ ok
    ∷ codes "dropped too long a n" ∷ codes "delivered a n" ∷ codes "ok o 14"
    ∷ codes "dropped throttled a n" ∷ codes "ok 13" ∷ codes "dropped throttled a n" ∷ codes "dropped throttled a n" ∷ codes "ok 14" ∷ codes "dropped throttled a n" ∷ codes "delivered a n" ∷ codes "ok m 14"
    ∷ []
unfolding step answer digits
dropped-replies = refl

-- A doorbell counts what has ended on either ring, each apart, since the last look.
abbrev rings : List Played
rings =
    carded ++ quiet (w.door a d) ∷ quiet (w.watch a n (Some d) side.Rx) ∷ quiet (w.watch a n (Some d) side.Tx) ∷ quiet (w.watch a n (Some d) side.Io)
    ∷ posts m ∷ posts o ∷ arrives [] ∷ arrives [] ∷ sends (codes "p") 14 ∷ moves
    ∷ quiet (w.drop a d) ∷ quiet (w.look a d) ∷ quiet (w.look a d)
    ∷ quiet (w.watch a n None side.Rx) ∷ takes_rx ∷ posts m ∷ arrives [] ∷ sends o 14 ∷ moves ∷ quiet (w.look a d)
    ∷ []

pub rings-replies : replies (fresh_system 200) rings
    ≡ carded_said ++ ok ∷ ok ∷ ok ∷ codes "refused 6 wrong kind"
    ∷ ok ∷ ok ∷ codes "delivered a n" ∷ codes "delivered a n" ∷ ok ∷ codes "done no filter"
    ∷ codes "refused 16 busy" ∷ codes "ok 2 1 0" ∷ codes "ok 0 0 0"
    ∷ ok ∷ codes "ok m 14" ∷ ok ∷ codes "delivered a n" ∷ codes "refused 15 lent" ∷ codes "idle" ∷ codes "ok 0 0 0"
    ∷ []
unfolding step answer digits
rings-replies = refl
