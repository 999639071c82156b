-- Worked scripts on logs and queues, evaluated.
use Rattle.std.proofs.Common.{◌≡◌, ℕ, true, false, List, [], ◌∷◌, ◌++◌, codes, refl, replicate}
use Rattle.std.specs.Fmt.{digits}
use Rattle.std.specs.Prelude.{take, drop}
use Rattle.hex.specs.Hex.{encode_with, encode_lower}
use Rattle.ark_base.specs.declared.kind.Kind.{Kind}
use Rattle.ark_base.specs.declared.kind.Kind.TheVariants as kind
use Rattle.ark_media.specs.Journal.{Event, Read, Write, Sync, zero_block}
use Rattle.ark_entry.specs.Header.{header_bytes}
use Rattle.ark_entry.specs.Entry.{entry_bytes, marked}
use Rattle.ark_script.specs.Line as w
use Rattle.ark_machine.specs.Row.{answer}
use Rattle.ark_machine.specs.Step.{step}
use Rattle.ark_machine.specs.System.{fresh_system}
use Rattle.ark_worked.proofs.Playing.{Played, replies, performed}
use Rattle.ark_worked.proofs.Scripts.{quiet, app, area, granting, opening, appending}
use Rattle.ark_worked.proofs.Labels.{a, l, v, q}

-- a log or queue of so many blocks, from 129 on, and a card
abbrev pub with_log : Kind → ℕ → List Played
with_log k blocks = app a ∷ quiet (w.vsic a v 2) ∷ (w.vsa a l blocks k, granting (area 1 a l k 129 blocks)) ∷ []

abbrev pub header : Kind → ℕ → ℕ → ℕ → ℕ → List ℕ
header k first start count end = header_bytes k first start count end

abbrev pub opened : List Played
opened = (w.log a l v, opening 129 (header kind.Log 1 0 0 0)) ∷ []

-- a ring of one block: it is full until the entry is trimmed away and its block is zero
abbrev pub zeros : ℕ → List ℕ
zeros n = replicate n 0

abbrev first_entry : List ℕ
first_entry = entry_bytes 1 0 (zeros 484)

abbrev second_entry : List ℕ
second_entry = entry_bytes 2 0 (0 ∷ [])

abbrev one_block : List Played
one_block =
    with_log kind.Log 2 ++ opened
    ++ quiet (w.append a l (zeros 484))
    ∷ (w.settle a l, appending 130 first_entry (marked first_entry))
    ∷ quiet (w.append a l (0 ∷ []))
    ∷ quiet (w.trim a l 2)
    ∷ quiet (w.append a l (0 ∷ []))
    ∷ (w.settle a l, Write 129 (header kind.Log 2 0 0 0) true true ∷ Sync true ∷ Write 130 zero_block true true ∷ Sync true ∷ [])
    ∷ quiet (w.append a l (0 ∷ []))
    ∷ (w.settle a l, appending 130 second_entry (marked second_entry))
    ∷ []

pub one_block-replies : replies (fresh_system 200) one_block
    ≡ codes "ok" ∷ codes "ok" ∷ codes "ok" ∷ codes "ok 1 0" ∷ codes "ok 1" ∷ codes "acked append 1" ∷ codes "refused 18 log full" ∷ codes "ok" ∷ codes "refused 18 log full"
    ∷ codes "acked trim 2" ∷ codes "ok 2" ∷ codes "acked append 2" ∷ []
unfolding step answer encode_with digits
one_block-replies = refl

pub one_block-performed : performed (fresh_system 200) one_block ≡ true
unfolding step answer
one_block-performed = refl

-- an entry of two blocks wraps from the ring's last block to its first
abbrev long : List ℕ
long = replicate 600 7

abbrev pub other : List ℕ
other = replicate 600 9

abbrev body : ℕ → ℕ → List ℕ → List (List ℕ)
body number next payload = take 512 (entry_bytes number next payload) ∷ drop 512 (entry_bytes number next payload) ∷ []

abbrev last_marked : ℕ → ℕ → List ℕ → List ℕ
last_marked number next payload = drop 512 (marked (entry_bytes number next payload))

abbrev pub appending_two : ℕ → ℕ → ℕ → ℕ → List ℕ → List Event
appending_two first second number next payload =
    Write first (take 512 (entry_bytes number next payload)) true true ∷ Write second (drop 512 (entry_bytes number next payload)) true true ∷ Sync true
    ∷ Write second (last_marked number next payload) true true ∷ Sync true ∷ []

abbrev pub wrapped : List Played
wrapped =
    with_log kind.Log 4 ++ opened
    ++ quiet (w.append a l long)
    ∷ (w.settle a l, appending_two 130 131 1 2 long)
    ∷ quiet (w.trim a l 2)
    ∷ (w.settle a l, Write 129 (header kind.Log 2 2 0 2) true true ∷ Sync true ∷ Write 130 zero_block true true ∷ Write 131 zero_block true true ∷ Sync true ∷ [])
    ∷ quiet (w.append a l other)
    ∷ (w.settle a l, appending_two 132 130 2 1 other)
    ∷ quiet (w.close a l)
    ∷ (w.log a l v, Read 129 true ∷ Read 130 true ∷ Read 131 true ∷ Read 132 true ∷ opening 129 (header kind.Log 2 2 1 1))
    ∷ (w.walk a l 2, Read 132 true ∷ Read 130 true ∷ [])
    ∷ quiet (w.walk a l 1)
    ∷ []

pub wrapped-replies : replies (fresh_system 200) wrapped
    ≡ codes "ok" ∷ codes "ok" ∷ codes "ok" ∷ codes "ok 1 0" ∷ codes "ok 1" ∷ codes "acked append 1" ∷ codes "ok" ∷ codes "acked trim 2" ∷ codes "ok 2" ∷ codes "acked append 2"
    ∷ codes "ok" ∷ codes "ok 2 1" ∷ (codes "ok " ++ encode_lower other) ∷ codes "refused 19 no entry" ∷ []
unfolding step answer encode_with digits
wrapped-replies = refl

pub wrapped-performed : performed (fresh_system 200) wrapped ≡ true
unfolding step answer
wrapped-performed = refl

-- a queue gives its entries in turn, a pushed one already while it waits
abbrev hi : List ℕ
hi = 104 ∷ 105 ∷ []

abbrev hi_entry : List ℕ
hi_entry = entry_bytes 1 1 hi

abbrev popping : ℕ → ℕ → List ℕ → List Event
popping head block content = Read block true ∷ Write head content true true ∷ Sync true ∷ Write block zero_block true true ∷ Sync true ∷ []

abbrev pub pushed_and_popped : List Played
pushed_and_popped =
    app a ∷ quiet (w.vsic a v 2) ∷ (w.vsa a q 8 kind.Queue, granting (area 1 a q kind.Queue 129 8))
    ∷ (w.queue a q v, opening 129 (header kind.Queue 1 0 0 0))
    ∷ quiet (w.pop a q)
    ∷ quiet (w.push a q hi)
    ∷ quiet (w.pop a q)
    ∷ quiet (w.pop a q)
    ∷ (w.settle a q, appending 130 hi_entry (marked hi_entry))
    ∷ (w.settle a q, popping 129 130 (header kind.Queue 2 1 0 1))
    ∷ quiet (w.settle a q)
    ∷ []

pub pushed_and_popped-replies : replies (fresh_system 200) pushed_and_popped
    ≡ codes "ok" ∷ codes "ok" ∷ codes "ok" ∷ codes "ok 1 0" ∷ codes "refused 19 no entry" ∷ codes "ok 1" ∷ codes "ok 1" ∷ codes "refused 19 no entry" ∷ codes "acked push 1"
    ∷ codes "acked pop 1 6869" ∷ codes "ok nothing" ∷ []
unfolding step answer encode_with digits
pushed_and_popped-replies = refl

pub pushed_and_popped-performed : performed (fresh_system 200) pushed_and_popped ≡ true
unfolding step answer
pushed_and_popped-performed = refl

-- the write of the marker fails and takes effect: the log has failed, and is found with its entry when it is opened again
abbrev pub h_entry : List ℕ
h_entry = entry_bytes 1 1 (104 ∷ [])

abbrev failed_marker : List Played
failed_marker =
    with_log kind.Log 4 ++ opened
    ++ quiet (w.append a l (104 ∷ []))
    ∷ quiet (w.poll a l)
    ∷ (w.dev a v, Write 130 h_entry true true ∷ [])
    ∷ quiet (w.poll a l)
    ∷ (w.dev a v, Sync true ∷ [])
    ∷ quiet (w.poll a l)
    ∷ (w.dev a v, Write 130 (marked h_entry) true false ∷ [])
    ∷ quiet (w.poll a l)
    ∷ quiet (w.append a l (105 ∷ []))
    ∷ quiet (w.close a l)
    ∷ (w.log a l v, opening 129 (header kind.Log 1 0 1 1))
    ∷ (w.walk a l 1, Read 130 true ∷ [])
    ∷ []

pub failed_marker-replies : replies (fresh_system 200) failed_marker
    ≡ codes "ok" ∷ codes "ok" ∷ codes "ok" ∷ codes "ok 1 0" ∷ codes "ok 1" ∷ codes "ok posted" ∷ codes "done ok" ∷ codes "ok posted" ∷ codes "done ok" ∷ codes "ok posted"
    ∷ codes "done device fault" ∷ codes "failed device fault" ∷ codes "refused 17 log failed" ∷ codes "ok" ∷ codes "ok 1 1" ∷ codes "ok 68" ∷ []
unfolding step answer encode_with digits
failed_marker-replies = refl

pub failed_marker-performed : performed (fresh_system 200) failed_marker ≡ true
unfolding step answer
failed_marker-performed = refl
