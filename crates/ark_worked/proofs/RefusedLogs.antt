-- The order of the refusals that concern logs and queues.
use Rattle.std.proofs.Common.{◌≡◌, ℕ, true, false, Some, List, [], ◌∷◌, ◌++◌, map, codes, replicate, refl}
use Rattle.std.specs.Prelude.{decimal}
use Rattle.std.specs.Fmt.{digits}
use Rattle.std.specs.List.{range_with_len}
use Rattle.hex.specs.Hex.{encode_with}
use Rattle.ark_base.specs.declared.kind.Kind.TheVariants as kind
use Rattle.ark_media.specs.Journal.{Read, Write, zero_block}
use Rattle.ark_entry.specs.Header.{header_bytes}
use Rattle.ark_entry.specs.Entry.{entry_bytes, marked}
use Rattle.ark_script.specs.Line as w
use Rattle.ark_script.specs.Line.{Line}
use Rattle.ark_machine.specs.Bytes.{padded}
use Rattle.ark_machine.specs.Start.{start_system}
use Rattle.ark_machine.specs.Row.{answer}
use Rattle.ark_machine.specs.Step.{step}
use Rattle.ark_machine.specs.System.{System, fresh_system}
use Rattle.ark_worked.proofs.Playing.{Played, replies, performed}
use Rattle.ark_worked.proofs.Scripts.{quiet, area, granting, dropping, opening_empty, appending, failed_read, reply_after}
use Rattle.ark_worked.proofs.Labels.{a, l, m, v, ok}

-- a log of so many blocks from block 129 on, open on a card
abbrev opened : ℕ → ℕ → List Played
opened frames n =
    quiet (w.app a (Some frames))
    ∷ quiet (w.vsic a v 2)
    ∷ (w.vsa a l n kind.Log, granting (area 1 a l kind.Log 129 n))
    ∷ (w.log a l v, opening_empty 129 kind.Log)
    ∷ []

abbrev appends : ℕ → Played
appends len = quiet (w.append a l (replicate len 7))

-- the line that settles the first entry, of one byte, in a ring of more than one block
abbrev settles_first : Played
settles_first = (w.settle a l, appending 130 (entry_bytes 1 1 (7 ∷ [])) (marked (entry_bytes 1 1 (7 ∷ []))))

abbrev trims : ℕ → Played
trims n = quiet (w.trim a l n)

abbrev walks : ℕ → Played
walks n = quiet (w.walk a l n)

-- eight commands wait for it
abbrev crowded : ℕ → List Played
crowded n = opened 256 n ++ replicate 8 (appends 1)

abbrev crowded_said : List (List ℕ)
crowded_said = ok ∷ ok ∷ ok ∷ codes "ok 1 0" ∷ map (λ i. codes "ok " ++ decimal i) (range_with_len 1 8)

-- the write of the first entry fails
abbrev failing : Played
failing = (w.settle a l, Write 130 (entry_bytes 1 1 (7 ∷ [])) false false ∷ [])

-- a failed log is closed with what waits for it, and opens again
abbrev failed : List Played
failed = crowded 16 ++ appends 1 ∷ failing ∷ appends 1 ∷ trims 99 ∷ walks 99 ∷ quiet (w.poll a l) ∷ quiet (w.settle a l) ∷ quiet (w.close a l) ∷ (w.log a l v, opening_empty 129 kind.Log) ∷ []

pub log_failed-before-busy : replies (fresh_system 200) failed
    ≡ crowded_said ++ codes "refused 16 busy" ∷ codes "failed device fault" ∷ replicate 5 (codes "refused 17 log failed") ++ ok ∷ codes "ok 1 0" ∷ []
unfolding step answer digits
log_failed-before-busy = refl

pub failed-performed : performed (fresh_system 200) failed ≡ true
unfolding step answer
failed-performed = refl

pub busy-before-no_entry : replies (fresh_system 200) (crowded 16 ++ trims 99 ∷ settles_first ∷ trims 99 ∷ trims 9 ∷ walks 1 ∷ [])
    ≡ crowded_said ++ codes "refused 16 busy" ∷ codes "acked append 1" ∷ codes "refused 19 no entry" ∷ ok ∷ codes "refused 19 no entry" ∷ []
unfolding step answer digits
busy-before-no_entry = refl

-- eight entries fill the ring
pub busy-before-log_full : replies (fresh_system 200) (crowded 9 ++ appends 1 ∷ settles_first ∷ appends 1 ∷ quiet (w.close a l) ∷ [])
    ≡ crowded_said ++ codes "refused 16 busy" ∷ codes "acked append 1" ∷ codes "refused 18 log full" ∷ codes "refused 16 busy" ∷ []
unfolding step answer digits
busy-before-log_full = refl

-- the region has four frames, one of them for the header
pub log_full-before-no_buffer : replies (fresh_system 200) (opened 4 2 ++ quiet (w.buf a m 1536) ∷ appends 485 ∷ appends 484 ∷ quiet (w.free a m) ∷ appends 484 ∷ [])
    ≡ ok ∷ ok ∷ ok ∷ codes "ok 1 0" ∷ ok ∷ codes "refused 18 log full" ∷ codes "refused 14 no buffer" ∷ ok ∷ codes "ok 1" ∷ []
unfolding step answer digits
log_full-before-no_buffer = refl

-- an entry that is not there is not read
pub no_entry-before-device_fault : reply_after (fresh_system 200) (opened 256 4) (w.walk a l 1) (failed_read ∷ []) false ≡ codes "refused 19 no entry"
unfolding step answer
no_entry-before-device_fault = refl

pub walk-device_fault : replies (fresh_system 200) (opened 256 4 ++ appends 1 ∷ settles_first ∷ (w.walk a l 1, Read 130 false ∷ []) ∷ (w.walk a l 1, Read 130 true ∷ []) ∷ [])
    ≡ ok ∷ ok ∷ ok ∷ codes "ok 1 0" ∷ codes "ok 1" ∷ codes "acked append 1" ∷ codes "refused 21 device fault" ∷ codes "ok 07" ∷ []
unfolding step answer encode_with digits
walk-device_fault = refl

-- Damaged logs.

-- a device with one log of two blocks, whose header is this block
abbrev headed : List ℕ → System
headed header = start_system (replicate 129 zero_block ++ header ∷ zero_block ∷ []) (area 1 a l kind.Log 129 2 ∷ [])

-- the log of an application of four frames; opening reads both blocks, and writes nothing
abbrev made : List Played
made = quiet (w.app a (Some 4)) ∷ quiet (w.vsic a v 2) ∷ []

abbrev logs : Line
logs = w.log a l v

abbrev reads_both : Played
reads_both = (logs, Read 129 true ∷ Read 130 true ∷ [])

abbrev all_frames : List Played
all_frames = made ++ quiet (w.buf a m 2048) ∷ []

abbrev damaged : System
damaged = headed (padded (codes "X"))

abbrev opened_damaged : List Played
opened_damaged =
    all_frames ++ quiet logs
    ∷ quiet (w.free a m)
    ∷ (logs, Read 129 true ∷ Read 130 false ∷ [])
    ∷ reads_both
    ∷ quiet (w.append a l (7 ∷ []))
    ∷ (w.drop a l, dropping 1)
    ∷ []

pub no_buffer-before-damaged : replies damaged opened_damaged
    ≡ ok ∷ ok ∷ ok ∷ codes "refused 14 no buffer" ∷ ok ∷ codes "refused 21 device fault" ∷ codes "refused 23 damaged 0" ∷ codes "refused 6 wrong kind" ∷ ok ∷ []
unfolding step answer digits
no_buffer-before-damaged = refl

pub opened_damaged-performed : performed damaged opened_damaged ≡ true
unfolding step answer
opened_damaged-performed = refl

pub device_fault-before-damaged : reply_after damaged made logs (failed_read ∷ []) false ≡ codes "refused 21 device fault"
unfolding step answer
device_fault-before-damaged = refl

pub no_buffer-before-no_memory : reply_after damaged all_frames logs [] true ≡ codes "refused 14 no buffer"
unfolding step answer
no_buffer-before-no_memory = refl

pub no_memory-before-device_fault : reply_after damaged made logs (failed_read ∷ []) true ≡ codes "refused 20 no memory"
unfolding step answer
no_memory-before-device_fault = refl

pub no_memory-before-damaged : reply_after damaged made logs [] true ≡ codes "refused 20 no memory"
unfolding step answer
no_memory-before-damaged = refl

-- the header counts an entry, from number 5 on, that is not there
pub damaged-at-an-entry : replies (headed (header_bytes kind.Log 5 0 1 0)) (made ++ reads_both ∷ []) ≡ ok ∷ ok ∷ codes "refused 23 damaged 5" ∷ []
unfolding step answer digits
damaged-at-an-entry = refl
