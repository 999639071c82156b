-- The laws of runs and of what lines touch, applied to worked scripts.
use Rattle.std.proofs.Common.{◌≡◌, ℕ, ◌<◌, true, false, List, [], ◌∷◌, length, replicate, codes, refl, arith}
use Rattle.std.specs.Prelude.{None, Contains}
use Rattle.ark_base.specs.declared.kind.Kind.TheVariants as kind
use Rattle.ark_media.specs.Journal.{Event, Read, Write, Out, onto, zero_block}
use Rattle.ark_media.specs.Stops.{MayHold, Whole, AnyBytes}
use Rattle.ark_table.specs.Slots.{Slot}
use Rattle.ark_script.specs.Line as w
use Rattle.ark_script.specs.Line.{Line}
use Rattle.ark_script.specs.Lines.{lines_of}
use Rattle.ark_machine.specs.Bytes.{padded}
use Rattle.ark_machine.specs.Row.{answer}
use Rattle.ark_machine.specs.Plane.{blocks_at}
use Rattle.ark_machine.specs.Step.{step}
use Rattle.ark_machine.specs.System.{System, fresh_system, line_turn}
use Rattle.ark_machine.specs.Start.{start_system}
use Rattle.ark_machine.specs.Follow.{Follow, ends_of}
use Rattle.ark_machine.specs.Grants.{GrantsApart}
use Rattle.ark_machine.specs.Confined.{Confined}
use Rattle.ark_machine.specs.Private.{Play, replies_to}
use Rattle.ark_worked.proofs.Playing.{Played, played, turn_played, follows_is}
use Rattle.ark_worked.proofs.Scripts.{app, area, granting}
use Rattle.ark_worked.proofs.Areas.{failed_grant}
use Rattle.ark_worked.proofs.Script.{script, whole, line, run_is}
use Rattle.ark_laws.proofs.Granted.{line_apart}
use Rattle.ark_laws.proofs.Confining.{line_confined, confined_of}
use Rattle.ark_laws.proofs.OthersLeft.{others_whole, others_torn}
use Rattle.ark_laws.proofs.Told.{start_alike}
use Rattle.ark_worked.proofs.Labels.{a, b, s, t}

-- a run from its bytes is confined
pub run_confined : Confined (fresh_system 200) (lines_of script) whole (Out (line (codes "fault source") []) ∷ [])
run_confined = confined_of (fresh_system 200) (lines_of script) whole (Out (line (codes "fault source") []) ∷ []) tt run_is

-- Events that follow calls: of a write, and of a grant whose last sync failed.

abbrev two : List Played
two = app a ∷ (w.vsa a s 2 kind.Raw, granting (area 1 a s kind.Raw 129 2)) ∷ app b ∷ (w.vsa b t 2 kind.Raw, granting (area 2 b t kind.Raw 131 2)) ∷ []

abbrev both : System
both = played (fresh_system 200) two

abbrev writes : Line
writes = w.poke a s 1 (7 ∷ [])

abbrev written : List Event
written = Write 130 (padded (7 ∷ [])) true true ∷ []

pub writes-follow : Follow both a writes (line_turn both writes (ends_of written) false).calls written
unfolding step answer
writes-follow = follows_is both a writes (line_turn both writes (ends_of written) false).calls written refl

abbrev made : System
made = played (fresh_system 200) (app a ∷ [])

abbrev grants : Line
grants = w.vsa a s 2 kind.Raw

pub grants-follow : Follow made a grants (line_turn made grants (ends_of failed_grant) false).calls failed_grant
unfolding step answer
grants-follow = follows_is made a grants (line_turn made grants (ends_of failed_grant) false).calls failed_grant refl

-- The write leaves what a stop may leave of another application's blocks.

played_apart : (p : System) (ps : List Played) → GrantsApart p.plane → GrantsApart (played p ps).plane
played_apart p [] h = h
played_apart p (x ∷ xs) h = played_apart (turn_played p x).after xs (line_apart p x.0 (ends_of x.1) false h)

theirs : Contains (blocks_at both.plane b t) 131
unfolding step answer
theirs = (0, omega arith, refl)

pub writes-leave : (base : List (List ℕ)) (j : List Event) (c : List ℕ) → 131 < length base → MayHold Whole base (onto written j) 131 c → MayHold Whole base j 131 c
writes-leave base j c lt h =
    others_whole both writes a b t written base j 131 c (played_apart (fresh_system 200) two (record { fit = tt; apart = tt })) refl refl (line_confined both writes (ends_of written) false written writes-follow).0 theirs lt h

pub writes-leave_torn : (base : List (List ℕ)) (j : List Event) (c : List ℕ) → 131 < length base → MayHold AnyBytes base (onto written j) 131 c → MayHold AnyBytes base j 131 c
writes-leave_torn base j c lt h =
    others_torn both writes a b t written base j 131 c (played_apart (fresh_system 200) two (record { fit = tt; apart = tt })) refl refl (line_confined both writes (ends_of written) false written writes-follow).0 theirs lt h

-- Two images that hold the same for an application, at other blocks: what it is told in runs on them is the same.

abbrev image : List (List ℕ)
image = replicate 200 zero_block

abbrev first_slots : List Slot
first_slots = area 1 a s kind.Raw 129 2 ∷ []

abbrev other_slots : List Slot
other_slots = area 1 b t kind.Raw 129 2 ∷ area 2 a s kind.Raw 131 2 ∷ []

abbrev plays : Line → List Event → Play
plays l es = record { line = l; ends = ends_of es; memory = false }

abbrev first_run : List Play
first_run = plays (w.app a None) [] ∷ plays writes written ∷ plays (w.peek a s 1) (Read 130 true ∷ []) ∷ []

abbrev other_run : List Play
other_run =
    plays (w.app b None) [] ∷ plays (w.app a None) [] ∷ plays (w.poke b t 0 (9 ∷ [])) (Write 129 (padded (9 ∷ [])) true true ∷ [])
    ∷ plays writes (Write 132 (padded (7 ∷ [])) true true ∷ []) ∷ plays (w.peek a s 1) (Read 132 true ∷ []) ∷ []

pub starts_alike : replies_to a (start_system image first_slots) first_run ≡ replies_to a (start_system image other_slots) other_run
unfolding step answer
starts_alike = start_alike image image first_slots other_slots a first_run other_run refl refl
