-- Worked scripts on storage cards, buffers and doorbells, evaluated.
use Rattle.std.proofs.Common.{◌≡◌, ℕ, true, List, [], ◌∷◌, ◌++◌, codes, refl}
use Rattle.std.specs.Fmt.{digits}
use Rattle.std.specs.Prelude.{Some}
use Rattle.hex.specs.Hex.{encode_with}
use Rattle.ark_base.specs.declared.kind.Kind.TheVariants as kind
use Rattle.ark_media.specs.Journal.{Read, Write, zero_block}
use Rattle.ark_script.specs.Line as w
use Rattle.ark_script.specs.declared.step.Side.TheVariants as side
use Rattle.ark_machine.specs.Bytes.{padded}
use Rattle.ark_machine.specs.Row.{answer}
use Rattle.ark_machine.specs.Step.{step}
use Rattle.ark_machine.specs.System.{fresh_system}
use Rattle.ark_worked.proofs.Playing.{Played, replies, performed}
use Rattle.ark_worked.proofs.Scripts.{quiet, app, area, granting, dropping, slot_written, zeroed}
use Rattle.ark_worked.proofs.Labels.{a, b, s, t, v, m, n, o, d}

-- a ring of two: full until a finished descriptor is reaped, and a buffer is lent until then
abbrev ring_of_two : List Played
ring_of_two =
    app a
    ∷ (w.vsa a s 4 kind.Raw, granting (area 1 a s kind.Raw 129 4))
    ∷ quiet (w.vsic a v 2)
    ∷ quiet (w.bind a v s)
    ∷ quiet (w.buf a m 512)
    ∷ quiet (w.buf a n 512)
    ∷ quiet (w.buf a o 512)
    ∷ quiet (w.put a v s 0 1 m)
    ∷ quiet (w.put a v s 1 1 n)
    ∷ quiet (w.put a v s 2 1 o)
    ∷ (w.dev a v, Write 129 zero_block true true ∷ [])
    ∷ quiet (w.put a v s 2 1 o)
    ∷ quiet (w.free a m)
    ∷ quiet (w.reap a v)
    ∷ quiet (w.put a v s 2 1 o)
    ∷ []

pub ring_of_two-replies : replies (fresh_system 200) ring_of_two
    ≡ codes "ok" ∷ codes "ok" ∷ codes "ok" ∷ codes "ok" ∷ codes "ok" ∷ codes "ok" ∷ codes "ok" ∷ codes "ok" ∷ codes "ok"
    ∷ codes "refused 13 ring full" ∷ codes "done ok" ∷ codes "refused 13 ring full" ∷ codes "refused 15 lent" ∷ codes "ok put m ok" ∷ codes "ok" ∷ []
unfolding step answer encode_with digits
ring_of_two-replies = refl

pub ring_of_two-performed : performed (fresh_system 200) ring_of_two ≡ true
unfolding step answer
ring_of_two-performed = refl

abbrev byte_11 : List ℕ
byte_11 = padded (17 ∷ [])

-- a grant is looked up at each move: an area that is dropped in between is not written any more, and the next one is zero
abbrev dropped_between : List Played
dropped_between =
    app a ∷ app b
    ∷ (w.vsa a s 2 kind.Raw, granting (area 1 a s kind.Raw 129 2))
    ∷ quiet (w.vsic a v 2)
    ∷ quiet (w.bind a v s)
    ∷ quiet (w.buf a m 1024)
    ∷ quiet (w.fill a m 0 (17 ∷ []))
    ∷ quiet (w.put a v s 0 2 m)
    ∷ (w.dev a v, Write 129 byte_11 true true ∷ [])
    ∷ (w.drop a s, dropping 1)
    ∷ (w.vsa b t 2 kind.Raw, granting (area 1 b t kind.Raw 129 2))
    ∷ quiet (w.dev a v)
    ∷ quiet (w.reap a v)
    ∷ (w.peek b t 0, Read 129 true ∷ [])
    ∷ (w.peek b t 1, Read 130 true ∷ [])
    ∷ []

pub dropped_between-replies : replies (fresh_system 200) dropped_between
    ≡ codes "ok" ∷ codes "ok" ∷ codes "ok" ∷ codes "ok" ∷ codes "ok" ∷ codes "ok" ∷ codes "ok" ∷ codes "ok" ∷ codes "moved" ∷ codes "ok" ∷ codes "ok"
    ∷ codes "done no grant" ∷ codes "ok put m no grant" ∷ codes "ok -" ∷ codes "ok -" ∷ []
unfolding step answer encode_with digits
dropped_between-replies = refl

pub dropped_between-performed : performed (fresh_system 200) dropped_between ≡ true
unfolding step answer
dropped_between-performed = refl

-- an area grows behind another; a doorbell counts what ended since the last look
abbrev grown_and_watched : List Played
grown_and_watched =
    app a
    ∷ (w.vsa a s 2 kind.Raw, granting (area 1 a s kind.Raw 129 2))
    ∷ (w.vsa a t 1 kind.Raw, granting (area 2 a t kind.Raw 131 1))
    ∷ (w.grow a s 2, zeroed (132 ∷ 133 ∷ []) ++ slot_written (record { index = 1; app = a; label = s; kind = kind.Raw; blocks = 129 ∷ 130 ∷ 132 ∷ 133 ∷ [] }))
    ∷ (w.poke a s 2 (170 ∷ []), Write 132 (padded (170 ∷ [])) true true ∷ [])
    ∷ quiet (w.vsic a v 2)
    ∷ quiet (w.bind a v s)
    ∷ quiet (w.door a d)
    ∷ quiet (w.watch a v (Some d) side.Io)
    ∷ quiet (w.buf a m 512)
    ∷ quiet (w.get a v s 2 1 m)
    ∷ (w.dev a v, Read 132 true ∷ [])
    ∷ quiet (w.look a d)
    ∷ quiet (w.look a d)
    ∷ quiet (w.reap a v)
    ∷ quiet (w.show a m 0 1)
    ∷ []

pub grown_and_watched-replies : replies (fresh_system 200) grown_and_watched
    ≡ codes "ok" ∷ codes "ok" ∷ codes "ok" ∷ codes "ok" ∷ codes "ok" ∷ codes "ok" ∷ codes "ok" ∷ codes "ok" ∷ codes "ok" ∷ codes "ok" ∷ codes "ok"
    ∷ codes "done ok" ∷ codes "ok 0 0 1" ∷ codes "ok 0 0 0" ∷ codes "ok get m ok" ∷ codes "ok aa" ∷ []
unfolding step answer encode_with digits
grown_and_watched-replies = refl

pub grown_and_watched-performed : performed (fresh_system 200) grown_and_watched ≡ true
unfolding step answer
grown_and_watched-performed = refl

-- buffers stand at the least place that has room
abbrev least_place : List Played
least_place =
    quiet (w.app a (Some 4))
    ∷ quiet (w.buf a m 1024)
    ∷ quiet (w.buf a n 512)
    ∷ quiet (w.free a m)
    ∷ quiet (w.buf a o 513)
    ∷ quiet (w.buf a (codes "p") 513)
    ∷ quiet (w.buf a (codes "p") 512)
    ∷ []

pub least_place-replies : replies (fresh_system 200) least_place ≡ codes "ok" ∷ codes "ok" ∷ codes "ok" ∷ codes "ok" ∷ codes "ok" ∷ codes "refused 14 no buffer" ∷ codes "ok" ∷ []
unfolding step answer encode_with digits
least_place-replies = refl
