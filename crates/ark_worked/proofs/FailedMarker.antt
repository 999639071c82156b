-- What stops leave where the write of an entry's marker failed and took effect.
use Rattle.std.proofs.Common.{◌≡◌, inr, ℕ, true, false, List, [], ◌∷◌, ◌++◌, refl, arith}
use Rattle.std.specs.Prelude.{None}
use Rattle.ark_base.specs.declared.kind.Kind.TheVariants as kind
use Rattle.ark_media.specs.Journal.{Event, Write, Sync, onto, current}
use Rattle.ark_media.specs.Stops.{MayLeave, Whole}
use Rattle.ark_media.proofs.Stopping.{now_may}
use Rattle.ark_table.specs.Superblock.{superblock}
use Rattle.ark_entry.specs.Entry.{marked}
use Rattle.ark_entry.specs.Found.{Found, found, found_of}
use Rattle.ark_script.specs.Line as w
use Rattle.ark_machine.specs.Row.{answer}
use Rattle.ark_machine.specs.Step.{step}
use Rattle.ark_machine.specs.Start.{contents_at}
use Rattle.ark_machine.specs.System.{System, fresh_system}
use Rattle.ark_machine.specs.Recovers.{Recovers, log_choices}
use Rattle.ark_worked.proofs.Playing.{Played, played}
use Rattle.ark_worked.proofs.Scripts.{quiet}
use Rattle.ark_worked.proofs.Logs.{with_log, opened, h_entry}
use Rattle.ark_worked.proofs.Images.{history}
use Rattle.ark_worked.proofs.Stops.{base, log_slot, recovers_log}
use Rattle.ark_worked.proofs.Labels.{a, l, v}

abbrev plain : List Played
plain =
    with_log kind.Log 4 ++ opened
    ++ quiet (w.append a l (104 ∷ [])) ∷ quiet (w.poll a l)
    ∷ (w.dev a v, Write 130 h_entry true true ∷ [])
    ∷ quiet (w.poll a l)
    ∷ (w.dev a v, Sync true ∷ [])
    ∷ quiet (w.poll a l)
    ∷ []

abbrev failed : List Played
failed = plain ++ ((w.dev a v, Write 130 (marked h_entry) true false ∷ []) ∷ quiet (w.poll a l) ∷ [])

abbrev closed : List Played
closed = failed ++ (quiet (w.close a l) ∷ [])

abbrev while_open : System
while_open = played (fresh_system 200) failed

abbrev after_closing : System
after_closing = played (fresh_system 200) closed

-- the command that has failed, and that closing leaves over, may be found or not
abbrev both : List Found
both = found (record { first = 1; payloads = [] }) ∷ found (record { first = 1; payloads = (104 ∷ []) ∷ [] }) ∷ []

pub open-lists : log_choices while_open None log_slot ≡ both
unfolding step answer
open-lists = refl

pub closed-lists : log_choices after_closing None log_slot ≡ both
unfolding step answer
closed-lists = refl

-- closing calls no device: the same images may be left before and after it
abbrev journal : List Event
journal = onto (history 200 closed) []

abbrev with_marker : List (List ℕ)
with_marker = current base journal

abbrev without_marker : List (List ℕ)
without_marker = current base (onto (history 200 plain) [])

pub may_be_with : MayLeave Whole base journal with_marker
unfolding superblock
may_be_with = record { size = refl; each = λ n lt. now_may Whole (λ c. refl) base journal n lt }

pub may_be_without : MayLeave Whole base journal without_marker
unfolding superblock
may_be_without = record { size = refl; each = λ n lt. inr refl }

pub found_with : found_of kind.Log (contents_at with_marker log_slot.blocks) ≡ found (record { first = 1; payloads = (104 ∷ []) ∷ [] })
unfolding superblock
found_with = refl

pub found_without : found_of kind.Log (contents_at without_marker log_slot.blocks) ≡ found (record { first = 1; payloads = [] })
unfolding superblock
found_without = refl

pub open-recovers_with : Recovers while_open None [] with_marker
unfolding step answer superblock
open-recovers_with = recovers_log while_open [] log_slot with_marker refl refl refl (1, omega arith, refl)

pub open-recovers_without : Recovers while_open None [] without_marker
unfolding step answer superblock
open-recovers_without = recovers_log while_open [] log_slot without_marker refl refl refl (0, omega arith, refl)

pub closed-recovers_with : Recovers after_closing None [] with_marker
unfolding step answer superblock
closed-recovers_with = recovers_log after_closing [] log_slot with_marker refl refl refl (1, omega arith, refl)

pub closed-recovers_without : Recovers after_closing None [] without_marker
unfolding step answer superblock
closed-recovers_without = recovers_log after_closing [] log_slot without_marker refl refl refl (0, omega arith, refl)
