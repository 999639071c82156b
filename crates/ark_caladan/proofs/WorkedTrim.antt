-- A trim of the only entry of a log, worked out: its header that fails to be written, the sync behind it that fails, and its whole way.
use Rattle.std.proofs.Common.{Bool, true, false, [], ◌∷◌, refl, arith}
use Rattle.ark_base.specs.declared.kind.Kind.TheVariants.{Log}
use Rattle.ark_media.specs.Journal.{Event, History, Write, Sync, zero_block}
use Rattle.ark_media.specs.Standing.{after}
use Rattle.ark_entry.specs.Found.{found}
use Rattle.ark_caladan.specs.Chain.{trim, after_command, Opened}
use Rattle.ark_caladan.specs.Listed.{IsListed, AreFull}
use Rattle.ark_caladan.specs.Stages.{Stage, call_of}
use Rattle.ark_caladan.specs.Plans.{CanWait}
use Rattle.ark_caladan.specs.Open.{layout_after}
use Rattle.ark_caladan.specs.Standing.{idle, posted, ended, stage_at, Proceeds, after_event}
use Rattle.ark_caladan.proofs.WorkedRings.{one, lies}
use Rattle.ark_caladan.proofs.WorkedDevice.{blocks, device, on_device}
use Rattle.ark_caladan.proofs.WorkedOpen.{layout, at_first, at_rest, full, opened_with, log_with, event_of}
use Rattle.ark_caladan.proofs.Carrying.{open_from_rest}
use Rattle.ark_caladan.proofs.Listing.{full_kept}
use Rattle.ark_caladan.proofs.Standing.{starts, call_made, call_failed, stage_posted, acknowledged}

can_trim : CanWait 4 one (trim 2 ∷ [])
can_trim = record { fit = ((omega arith, omega arith), tt); fits = omega arith; short = tt; low = omega arith; few = omega arith }

abbrev trimming : Opened
trimming = opened_with (record { command = trim 2; room = [] } ∷ [])

trims : Proceeds at_first blocks (log_with trimming) trimming layout idle
trims = record {
  list = refl;
  decided = refl;
  is_open = open_from_rest Log 4 blocks layout one at_first (trim 2 ∷ []) false refl (omega arith) (on_device device refl) lies can_trim at_rest;
}

-- Its header fails to be written, and was: a stop leaves the list before the trim or after it, and what stands is the later one.
abbrev heading : Stage
heading = stage_at (log_with trimming) trimming layout

abbrev header_write : Bool → Event
header_write ok = event_of (call_of blocks heading 0) true ok

header_full : (ok : Bool) → AreFull (after at_first (header_write ok ∷ [])) blocks
header_full ok = full_kept at_first blocks (on_device device refl) (call_of blocks heading 0) ok (header_write ok) refl (true, (λ x. refl), refl) full

header_failed : IsListed (after at_first (header_write false ∷ [])) blocks (log_with (after_event trimming heading (header_write false)))
header_failed = call_failed blocks (log_with trimming) layout at_first trimming (posted 0) (starts blocks (log_with trimming) layout at_first trimming trims) (omega arith)
    (header_write false) (header_full false) (omega arith) (true, (λ x. absurd (cc)), refl)

-- It is written, and the sync behind it fails.
abbrev headed : Opened
headed = after_event trimming heading (header_write true)

header_made : Proceeds (after at_first (header_write true ∷ [])) blocks (log_with headed) headed layout (ended true)
header_made = call_made blocks (log_with trimming) layout at_first trimming (posted 0) (starts blocks (log_with trimming) layout at_first trimming trims) (omega arith)
    (header_write true) (ended true) (omega arith) refl (true, (λ x. x), refl)

abbrev at_header : History
at_header = after at_first (header_write true ∷ [])

abbrev syncing : Opened
syncing = record headed { done = 1 }

sync_next : Proceeds at_header blocks (log_with syncing) syncing layout (posted 0)
sync_next = stage_posted blocks (log_with headed) layout at_header headed (ended true) header_made (omega arith) 1 refl refl (omega arith)

sync_failed : IsListed (after at_header (Sync false ∷ [])) blocks (log_with syncing)
sync_failed = call_failed blocks (log_with syncing) layout at_header syncing (posted 0) sync_next (omega arith) (Sync false) (header_full true) (omega arith) refl

-- All goes well: the freed block is made zero, and behind the last sync the trim is acknowledged.
abbrev at_sync : History
at_sync = after at_header (Sync true ∷ [])

synced : Proceeds at_sync blocks (log_with syncing) syncing layout (ended true)
synced = call_made blocks (log_with syncing) layout at_header syncing (posted 0) sync_next (omega arith) (Sync true) (ended true) (omega arith) refl refl

abbrev clearing : Opened
clearing = record headed { done = 2 }

zeros_next : Proceeds at_sync blocks (log_with clearing) clearing layout (posted 0)
zeros_next = stage_posted blocks (log_with syncing) layout at_sync syncing (ended true) synced (omega arith) 2 refl refl (omega arith)

abbrev at_zeros : History
at_zeros = after at_sync (Write 2 zero_block true true ∷ [])

cleared : Proceeds at_zeros blocks (log_with clearing) clearing layout (ended true)
cleared = call_made blocks (log_with clearing) layout at_sync clearing (posted 0) zeros_next (omega arith) (Write 2 zero_block true true) (ended true) (omega arith) refl (true, (λ x. x), refl)

abbrev ending : Opened
ending = record headed { done = 3 }

last_next : Proceeds at_zeros blocks (log_with ending) ending layout (posted 0)
last_next = stage_posted blocks (log_with clearing) layout at_zeros clearing (ended true) cleared (omega arith) 3 refl refl (omega arith)

abbrev at_end : History
at_end = after at_zeros (Sync true ∷ [])

last_made : Proceeds at_end blocks (log_with ending) ending layout (ended true)
last_made = call_made blocks (log_with ending) layout at_zeros ending (posted 0) last_next (omega arith) (Sync true) (ended true) (omega arith) refl refl

abbrev done : Opened
done = opened_with []

trimmed : Proceeds at_end blocks (record (log_with done) { list = found (after_command one (trim 2)) }) done (layout_after Log 4 layout one (trim 2)) idle
trimmed = acknowledged blocks (log_with ending) layout at_end ending last_made (record { command = trim 2; room = [] }) [] refl refl
