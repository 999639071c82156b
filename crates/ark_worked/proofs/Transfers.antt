-- Worked scripts on buffers, and on storage cards that are paced and watched, evaluated.
use Rattle.std.proofs.Common.{◌≡◌, ℕ, true, false, None, Some, List, [], ◌∷◌, ◌++◌, codes, replicate, refl}
use Rattle.std.specs.Fmt.{digits}
use Rattle.hex.specs.Hex.{encode_with}
use Rattle.ark_base.specs.declared.kind.Kind.TheVariants as kind
use Rattle.ark_media.specs.Journal.{Event, Read, Write, Sync}
use Rattle.ark_entry.specs.Entry.{entry_bytes, marked}
use Rattle.ark_script.specs.Line as w
use Rattle.ark_script.specs.declared.step.Side.TheVariants as side
use Rattle.ark_machine.specs.Row.{answer}
use Rattle.ark_machine.specs.Step.{step}
use Rattle.ark_machine.specs.System.{fresh_system}
use Rattle.ark_worked.proofs.Playing.{Played, replies, performed}
use Rattle.ark_worked.proofs.Scripts.{quiet, app, area, granting, opening_empty}
use Rattle.ark_worked.proofs.Labels.{a, d, l, m, n, r, s, v, ok}

-- Buffers: a copy onto itself changes nothing, and one to another takes the front alone.
abbrev copies : List Played
copies =
    app a ∷ quiet (w.buf a m 5) ∷ quiet (w.buf a n 3) ∷ quiet (w.fill a m 1 (1 ∷ 2 ∷ 3 ∷ 4 ∷ []))
    ∷ quiet (w.copy a m m 5) ∷ quiet (w.show a m 0 5)
    ∷ quiet (w.copy a m n 4) ∷ quiet (w.copy a n m 4) ∷ quiet (w.copy a m n 3) ∷ quiet (w.fill a m 0 (9 ∷ []))
    ∷ quiet (w.show a n 0 3) ∷ quiet (w.copy a n m 2) ∷ quiet (w.show a m 0 5) ∷ quiet (w.show a m 3 2) ∷ quiet (w.show a m 3 3)
    ∷ quiet (w.fill a m 4 (7 ∷ 8 ∷ [])) ∷ quiet (w.free a m) ∷ quiet (w.show a m 0 1) ∷ quiet (w.buf a m 5) ∷ quiet (w.show a m 0 5)
    ∷ []

pub copies-replies : replies (fresh_system 200) copies
    ≡ replicate 5 ok ++ codes "ok 0001020304"
    ∷ codes "refused 9 out of range" ∷ codes "refused 9 out of range" ∷ ok ∷ ok
    ∷ codes "ok 000102" ∷ ok ∷ codes "ok 0001020304" ∷ codes "ok 0304" ∷ codes "refused 9 out of range"
    ∷ codes "refused 9 out of range" ∷ ok ∷ codes "refused 5 no grant m" ∷ ok ∷ codes "ok 0000000000"
    ∷ []
unfolding step answer encode_with
copies-replies = refl

-- Storage cards.

-- a raw area of four blocks, bound to a card, a buffer for all of them, and a rate of one block a tick and two of a burst
abbrev carded : List Played
carded =
    app a
    ∷ (w.vsa a s 4 kind.Raw, granting (area 1 a s kind.Raw 129 4))
    ∷ quiet (w.vsic a v 4) ∷ quiet (w.bind a v s)
    ∷ quiet (w.buf a m 2048)
    ∷ quiet (w.rate a r 512 1024)
    ∷ []

abbrev paces : Played
paces = quiet (w.pace a v (Some r) side.Io)

abbrev unpaces : Played
unpaces = quiet (w.pace a v None side.Io)

abbrev flushes : Played
flushes = quiet (w.flush a v)

abbrev gets : ℕ → Played
gets count = quiet (w.get a v s 0 count m)

abbrev moves : List Event → Played
moves events = (w.dev a v, events)

abbrev reads : ℕ → Played
reads block = moves (Read block true ∷ [])

abbrev reaps : Played
reaps = quiet (w.reap a v)

-- Blocks pass as the rate lets them; a sync has no bytes. A new pace begins anew, and with none nothing is held.
abbrev paced : List Played
paced =
    carded ++ quiet (w.pace a v (Some r) side.Tx) ∷ paces ∷ gets 4 ∷ flushes
    ∷ reads 129 ∷ reads 130 ∷ moves [] ∷ quiet (w.tick 1) ∷ reads 131 ∷ moves [] ∷ reaps
    ∷ paces ∷ reads 132 ∷ moves (Sync true ∷ []) ∷ reaps ∷ reaps ∷ reaps
    ∷ gets 3 ∷ reads 129 ∷ moves [] ∷ unpaces ∷ reads 130 ∷ reads 131 ∷ reaps
    ∷ []

pub paced-replies : replies (fresh_system 200) paced
    ≡ replicate 6 ok ++ codes "refused 6 wrong kind" ∷ ok ∷ ok ∷ ok
    ∷ codes "moved" ∷ codes "moved" ∷ codes "held" ∷ codes "ok 1" ∷ codes "moved" ∷ codes "held" ∷ codes "ok nothing"
    ∷ ok ∷ codes "done ok" ∷ codes "done ok" ∷ codes "ok get m ok" ∷ codes "ok flush ok" ∷ codes "ok nothing"
    ∷ ok ∷ codes "moved" ∷ codes "held" ∷ ok ∷ codes "moved" ∷ codes "done ok" ∷ codes "ok get m ok"
    ∷ []
unfolding step answer digits
paced-replies = refl

pub paced-performed : performed (fresh_system 200) paced ≡ true
unfolding step answer
paced-performed = refl

-- A block that is longer than the burst never passes, and ends the descriptor with no device call. One that is tried passes
-- also where it fails.
abbrev passes : List Played
passes =
    carded ++ quiet (w.rate a n 1000 511) ∷ quiet (w.pace a v (Some n) side.Io) ∷ gets 2 ∷ flushes
    ∷ moves [] ∷ moves (Sync false ∷ []) ∷ reaps ∷ reaps
    ∷ paces ∷ gets 2 ∷ gets 2 ∷ quiet (w.put a v s 3 1 m)
    ∷ reads 129 ∷ moves (Read 130 false ∷ []) ∷ reaps
    ∷ quiet (w.put a v s 3 1 m) ∷ moves [] ∷ quiet (w.tick 1) ∷ moves (Write 132 (replicate 512 0) false false ∷ []) ∷ moves [] ∷ reaps
    ∷ []

pub passes-replies : replies (fresh_system 200) passes
    ≡ replicate 10 ok ++ codes "done over burst" ∷ codes "done device fault" ∷ codes "ok get m over burst" ∷ codes "ok flush device fault"
    ∷ ok ∷ ok ∷ codes "refused 15 lent" ∷ codes "refused 15 lent"
    ∷ codes "moved" ∷ codes "done device fault" ∷ codes "ok get m device fault"
    ∷ ok ∷ codes "held" ∷ codes "ok 1" ∷ codes "done device fault" ∷ codes "idle" ∷ codes "ok put m device fault"
    ∷ []
unfolding step answer digits
passes-replies = refl

pub passes-performed : performed (fresh_system 200) passes ≡ true
unfolding step answer
passes-performed = refl

-- Each descriptor that ends rings the doorbell once.
abbrev rings : List Played
rings =
    carded ++ quiet (w.door a d) ∷ quiet (w.watch a v (Some d) side.Rx) ∷ quiet (w.watch a v (Some d) side.Io) ∷ gets 2 ∷ flushes
    ∷ reads 129 ∷ quiet (w.look a d) ∷ reads 130 ∷ moves (Sync false ∷ []) ∷ quiet (w.look a d) ∷ quiet (w.look a d)
    ∷ flushes ∷ quiet (w.watch a v None side.Io) ∷ moves (Sync true ∷ []) ∷ quiet (w.look a d)
    ∷ []

pub rings-replies : replies (fresh_system 200) rings
    ≡ replicate 7 ok ++ codes "refused 6 wrong kind" ∷ ok ∷ ok ∷ ok
    ∷ codes "moved" ∷ codes "ok 0 0 0" ∷ codes "done ok" ∷ codes "done device fault" ∷ codes "ok 0 0 2" ∷ codes "ok 0 0 0"
    ∷ ok ∷ ok ∷ codes "done ok" ∷ codes "ok 0 0 0"
    ∷ []
unfolding step answer digits
rings-replies = refl

pub rings-performed : performed (fresh_system 200) rings ≡ true
unfolding step answer
rings-performed = refl

-- A log on a card.

-- with a rate of one block of a burst, and none a tick
abbrev logged : List Played
logged =
    app a ∷ quiet (w.vsic a v 2) ∷ (w.vsa a l 4 kind.Log, granting (area 1 a l kind.Log 129 4))
    ∷ (w.log a l v, opening_empty 129 kind.Log)
    ∷ quiet (w.rate a r 0 512) ∷ quiet (w.append a l (7 ∷ []))
    ∷ []

abbrev logged_said : List (List ℕ)
logged_said = ok ∷ ok ∷ ok ∷ codes "ok 1 0" ∷ ok ∷ codes "ok 1" ∷ []

abbrev entry : List ℕ
entry = entry_bytes 1 1 (7 ∷ [])

abbrev settles : List Event → Played
settles events = (w.settle a l, events)

-- Settling stops at a move that is held, and goes on once the card has no pace.
abbrev held : List Played
held =
    logged ++ paces ∷ settles (Write 130 entry true true ∷ Sync true ∷ []) ∷ settles [] ∷ quiet (w.poll a l) ∷ quiet (w.close a l)
    ∷ unpaces ∷ settles (Write 130 (marked entry) true true ∷ Sync true ∷ []) ∷ settles [] ∷ quiet (w.close a l)
    ∷ []

pub held-replies : replies (fresh_system 200) held
    ≡ logged_said ++ ok ∷ codes "ok held" ∷ codes "ok held" ∷ codes "ok nothing" ∷ codes "refused 16 busy"
    ∷ ok ∷ codes "acked append 1" ∷ codes "ok nothing" ∷ ok
    ∷ []
unfolding step answer digits
held-replies = refl

pub held-performed : performed (fresh_system 200) held ≡ true
unfolding step answer
held-performed = refl

-- A burst of less than a block fails the log.
abbrev unfit : List Played
unfit = logged ++ quiet (w.rate a n 0 511) ∷ quiet (w.pace a v (Some n) side.Io) ∷ settles [] ∷ quiet (w.append a l (8 ∷ [])) ∷ quiet (w.close a l) ∷ []

pub unfit-replies : replies (fresh_system 200) unfit
    ≡ logged_said ++ ok ∷ ok ∷ codes "failed over burst" ∷ codes "refused 17 log failed" ∷ ok ∷ []
unfolding step answer digits
unfit-replies = refl

pub unfit-performed : performed (fresh_system 200) unfit ≡ true
unfolding step answer
unfit-performed = refl
