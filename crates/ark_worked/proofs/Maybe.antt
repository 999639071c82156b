-- Worked scripts on what a stop may leave of a block of an area, evaluated.
use Rattle.std.proofs.Common.{◌≡◌, inr, ℕ, Bool, true, false, List, [], ◌∷◌, ◌++◌, replicate, map, refl, arith}
use Rattle.std.specs.Prelude.{Some}
use Rattle.ark_base.specs.declared.kind.Kind.TheVariants as kind
use Rattle.ark_media.specs.Journal.{Event, Write, Sync, zero_block}
use Rattle.ark_caladan.specs.Chain.{writing}
use Rattle.ark_script.specs.Line as w
use Rattle.ark_machine.specs.Bytes.{padded}
use Rattle.ark_machine.specs.Objects.{Raw}
use Rattle.ark_machine.specs.Machine.{object_at, raw_at}
use Rattle.ark_machine.specs.Row.{Ended, answer}
use Rattle.ark_machine.specs.Areas.{raw_written}
use Rattle.ark_machine.specs.Step.{step}
use Rattle.ark_machine.specs.System.{System, fresh_system, machine_of, line_turn}
use Rattle.ark_machine.specs.Follow.{end_of, ends_of}
use Rattle.ark_machine.specs.Recovers.{object_maybe}
use Rattle.ark_laws.proofs.Contents.{poked_may}
use Rattle.ark_laws.proofs.Flushing.{flushed_may}
use Rattle.ark_laws.proofs.Synced.{synced_line}
use Rattle.ark_worked.proofs.Playing.{Played, played, performed}
use Rattle.ark_worked.proofs.Scripts.{quiet, app, area, granting}
use Rattle.ark_worked.proofs.Labels.{a, s, v, t}

abbrev written : List ℕ
written = padded (10 ∷ 255 ∷ [])

-- a write of block 1 of an area of two that took or not, and succeeded or not
abbrev poked : Bool → Bool → List Played
poked took ok =
    app a ∷ quiet (w.vsic a v 2) ∷ (w.vsa a s 2 kind.Raw, granting (area 1 a s kind.Raw 129 2))
    ∷ (w.poke a s 1 (10 ∷ 255 ∷ []), Write 130 written took ok ∷ [])
    ∷ []

-- then a sync of its own card
abbrev flushed : Bool → Bool → List Played
flushed took ok = poked took ok ++ (quiet (w.flush a v) ∷ (w.dev a v, Sync true ∷ []) ∷ [])

-- what a stop may leave of a block of the area
abbrev left_of : List Played → ℕ → List (List ℕ)
left_of script k = object_maybe k (object_at (machine_of (played (fresh_system 200) script) a) s)

pub written-list : left_of (poked true true) 1 ≡ zero_block ∷ written ∷ []
unfolding step answer
written-list = refl

pub failed-list : left_of (poked false false) 1 ≡ zero_block ∷ written ∷ []
unfolding step answer
failed-list = refl

pub taken-list : left_of (poked true false) 1 ≡ zero_block ∷ written ∷ []
unfolding step answer
taken-list = refl

pub other-list : left_of (poked true true) 0 ≡ zero_block ∷ []
unfolding step answer
other-list = refl

pub flushed-list : left_of (flushed true true) 1 ≡ written ∷ []
unfolding step answer
flushed-list = refl

pub failed_flushed-list : left_of (flushed false false) 1 ≡ zero_block ∷ []
unfolding step answer
failed_flushed-list = refl

pub taken_flushed-list : left_of (flushed true false) 1 ≡ written ∷ []
unfolding step answer
taken_flushed-list = refl

pub flushed-performed : performed (fresh_system 200) (flushed false false) ≡ true
unfolding step answer
flushed-performed = refl

-- The laws of lists, at these lines.

abbrev fresh : Raw
fresh = record { content = replicate 2 zero_block; maybe = replicate 2 (zero_block ∷ []) }

abbrev granted : System
granted = played (fresh_system 200) (app a ∷ (w.vsa a s 2 kind.Raw, granting (area 1 a s kind.Raw 129 2)) ∷ [])

abbrev failing : Ended
failing = record { verb = writing; ok = false; took = false }

pub poked-raw : raw_at (machine_of (line_turn granted (w.poke a s 1 (10 ∷ 255 ∷ [])) (failing ∷ []) false).after a) s ≡ Some (raw_written 1 written false fresh)
unfolding step answer
poked-raw = poked_may granted a s 1 (10 ∷ 255 ∷ []) failing false fresh refl (inr refl)

-- a flush is posted behind the write
abbrev posted : System
posted = played (fresh_system 200) (poked false false ++ (quiet (w.flush a v) ∷ []))

pub flushed-raw : raw_at (machine_of (line_turn posted (w.dev a v) (ends_of (Sync true ∷ [])) false).after a) s ≡ Some fresh
unfolding step answer
flushed-raw = flushed_may posted a v s (ends_of (Sync true ∷ [])) false (raw_written 1 written false fresh) refl refl refl

-- another area is granted behind the write: its first sync is of the whole device
abbrev after_poke : System
after_poke = played (fresh_system 200) (poked false false)

abbrev grants : List Event
grants = granting (area 2 a t kind.Raw 131 1)

pub grants-settle : (x : Raw) → raw_at (machine_of (line_turn after_poke (w.vsa a t 1 kind.Raw) (ends_of grants) false).after a) s ≡ Some x → x.maybe ≡ map (λ b. b ∷ []) x.content
unfolding step answer
grants-settle x h =
    synced_line after_poke a (w.vsa a t 1 kind.Raw) (ends_of grants) false (end_of (Sync true)) refl refl (1, omega arith, refl) (1, omega arith, refl) refl refl s x h

pub grants-raw : raw_at (machine_of (line_turn after_poke (w.vsa a t 1 kind.Raw) (ends_of grants) false).after a) s ≡ Some fresh
unfolding step answer
grants-raw = refl
