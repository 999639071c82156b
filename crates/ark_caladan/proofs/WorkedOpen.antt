-- A log in five blocks of a device with two commands that wait, worked out: what the laws of an open log ask for can be met.
use Rattle.std.proofs.Common.{inl, ℕ, Bool, true, false, List, [], ◌∷◌, length, get_or, Some, None, refl, ◌∙◌, ap, arith}
use Rattle.std.specs.Prelude.{Contains}
use Rattle.ark_base.specs.declared.kind.Kind.TheVariants.{Log}
use Rattle.ark_media.specs.Blocks.{blocks_in}
use Rattle.ark_media.specs.Journal.{Event, History, Read, Write, Sync, zero_block}
use Rattle.ark_media.specs.Calls.{Call, Reads, Writes, Syncs}
use Rattle.ark_media.specs.Stops.{MayLeave, Whole}
use Rattle.ark_media.specs.Standing.{after}
use Rattle.ark_entry.specs.Header.{empty}
use Rattle.ark_entry.specs.Found.{found, found_of}
use Rattle.ark_entry.proofs.WorkedRings.{payload, stored}
use Rattle.ark_caladan.specs.Chain.{Command, append, trim, after_command, Opened, lists}
use Rattle.ark_caladan.specs.Chain as chain
use Rattle.ark_caladan.specs.Views.{contents_at, view_of}
use Rattle.ark_caladan.specs.Listed.{IsListed, AreFull}
use Rattle.ark_caladan.specs.Stages.{Stage, call_of, resting, IsAt}
use Rattle.ark_caladan.specs.Plans.{CanWait}
use Rattle.ark_caladan.specs.Open.{Layout}
use Rattle.ark_caladan.specs.Standing.{idle, posted, stage_at, Proceeds, after_event}
use Rattle.ark_caladan.proofs.WorkedRings.{one, lies}
use Rattle.ark_caladan.proofs.WorkedDevice.{blocks, device, on_device, stands, whole}
use Rattle.ark_caladan.proofs.Carrying.{open_from_rest}
use Rattle.ark_caladan.proofs.Listing.{full_kept, left_found}
use Rattle.ark_caladan.proofs.Standing.{proceeds_listed, starts, call_made, call_failed}

abbrev pub layout : Layout
layout = record { header = zero_block; says = empty; stored = stored }

abbrev pub at_first : History
at_first = record { base = device; journal = [] }

pub at_rest : IsAt at_first blocks (resting (view_of 4 zero_block 0 stored) false)
at_rest = record { left = λ k lt c is. inl (is ∙ stands k lt); there = λ i lt. absurd (omega (arith, lt)); others = λ k lt none. stands k lt }

pub full : AreFull at_first blocks
full k lt c is = ap (λ (x : List ℕ). length x) is ∙ whole (get_or blocks k 0) ((on_device device refl).inside k lt)

abbrev pub opened_with : List chain.Waiting → Opened
opened_with ws = record { card = []; failed = false; header_frame = 0; waiting = ws; done = 0; decided = false }

abbrev pub log_with : Opened → chain.Log
log_with o = record { kind = Log; blocks = 5; list = found one; opened = Some o; left = None }

-- what a call comes to
abbrev pub event_of : Call → Bool → Bool → Event
event_of (Writes n c) took ok = Write n c took ok
event_of (Reads n) took ok = Read n ok
event_of Syncs took ok = Sync ok

-- An append and a trim wait.
abbrev two : List Command
two = append 2 payload ∷ (trim 2 ∷ [])

can_wait : CanWait 4 one two
can_wait = record { fit = (refl, ((omega arith, omega arith), tt)); fits = omega arith; short = (omega arith, tt); low = omega arith; few = omega arith }

abbrev appending : Opened
appending = opened_with (record { command = append 2 payload; room = [] } ∷ (record { command = trim 2; room = [] } ∷ []))

proceeds : Proceeds at_first blocks (log_with appending) appending layout idle
proceeds = record {
  list = refl;
  decided = refl;
  is_open = open_from_rest Log 4 blocks layout one at_first two false refl (omega arith) (on_device device refl) lies can_wait at_rest;
}

as_listed : IsListed at_first blocks (log_with appending)
as_listed = proceeds_listed blocks (log_with appending) layout at_first appending idle refl full proceeds

-- the append's first write succeeds
abbrev body : Stage
body = stage_at (log_with appending) appending layout

abbrev first_write : Event
first_write = event_of (call_of blocks body 0) true true

abbrev at_second : History
at_second = after at_first (first_write ∷ [])

made : Proceeds at_second blocks (log_with (after_event appending body first_write)) (after_event appending body first_write) layout (posted 1)
made = call_made blocks (log_with appending) layout at_first appending (posted 0) (starts blocks (log_with appending) layout at_first appending proceeds) (omega arith)
    first_write (posted 1) (omega arith) refl (true, (λ x. x), refl)

-- and its second fails, after it took
abbrev second_write : Event
second_write = event_of (call_of blocks body 1) true false

full_then : AreFull (after at_second (second_write ∷ [])) blocks
unfolding blocks_in
full_then = full_kept at_second blocks (on_device device refl) (call_of blocks body 1) false second_write refl (true, (λ x. absurd (cc)), refl) (full_kept at_first blocks (on_device device refl) (call_of blocks body 0) true first_write refl (true, (λ x. x), refl) full)

abbrev failed_log : chain.Log
failed_log = log_with (after_event (after_event appending body first_write) body second_write)

failed : IsListed (after at_second (second_write ∷ [])) blocks failed_log
failed = call_failed blocks (log_with (after_event appending body first_write)) layout at_second (after_event appending body first_write) (posted 1) made (omega arith)
    second_write full_then (omega arith) (true, (λ x. absurd (cc)), refl)

stopped : (image : List (List ℕ)) → MayLeave Whole device (second_write ∷ (first_write ∷ [])) image → Contains (lists failed_log) (found_of Log (contents_at image blocks))
stopped image leaves = left_found Log (after at_second (second_write ∷ [])) blocks (chain.stored failed_log) (lists failed_log) (on_device device refl) failed image leaves
