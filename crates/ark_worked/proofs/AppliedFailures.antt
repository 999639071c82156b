-- The laws of refused lines, applied to worked scripts.
use Rattle.std.proofs.Common.{◌≡◌, true, false, List, [], ◌∷◌, ◌++◌, codes, refl}
use Rattle.std.specs.Prelude.{Some, None}
use Rattle.ark_base.specs.Conditions.{Conditions, none, first}
use Rattle.ark_base.specs.declared.kind.Kind.TheVariants as kind
use Rattle.ark_base.specs.declared.refusal.Refusal.TheVariants as r
use Rattle.ark_media.specs.Journal.{Event, Write, Sync, zero_block}
use Rattle.ark_table.specs.Slots.{Slot, slot_bytes}
use Rattle.ark_script.specs.Line as w
use Rattle.ark_script.specs.Line.{Line}
use Rattle.ark_script.specs.declared.said.Said.TheVariants as said
use Rattle.ark_machine.specs.Bytes.{padded}
use Rattle.ark_machine.specs.Objects.{is_vsa}
use Rattle.ark_machine.specs.Machine.{object_at, is_so}
use Rattle.ark_machine.specs.Row.{answer, synced_by}
use Rattle.ark_machine.specs.Areas.{block_written}
use Rattle.ark_machine.specs.Plane.{makes, slot_of}
use Rattle.ark_machine.specs.Step.{step}
use Rattle.ark_machine.specs.Sockets.{sent_reaped}
use Rattle.ark_machine.specs.System.{System, Turn, fresh_system, machine_of, set_machine, line_turn}
use Rattle.ark_machine.specs.Follow.{ends_of}
use Rattle.ark_worked.proofs.Playing.{played}
use Rattle.ark_worked.proofs.Scripts.{quiet, app, area, granting, zeroed}
use Rattle.ark_worked.proofs.Areas.{failed_grant}
use Rattle.ark_worked.proofs.Rules.{own_at}
use Rattle.ark_laws.proofs.Ranks.{first_least, least_first}
use Rattle.ark_laws.proofs.Labels.{sendto_refused}
use Rattle.ark_laws.proofs.TableFailed.{stays_failed, no_new_area, no_more_blocks, no_drop}
use Rattle.ark_laws.proofs.Leaving.{fault_after, new_fails, more_fails, drop_fails}
use Rattle.ark_worked.proofs.Labels.{a, s, k}

abbrev turned : System → Line → List Event → Turn
turned t line es = line_turn t line (ends_of es) false

-- A new area whose slot may not stand: the table has failed, and the application has what it had.

abbrev made : System
made = played (fresh_system 200) (app a ∷ [])

abbrev grants : Turn
grants = turned made (w.vsa a s 2 kind.Raw) failed_grant

pub grants-refused : grants.said ≡ said.Refused r.DeviceFault
unfolding step answer
grants-refused = refl

pub grants-leaves : grants.after ≡ record {
  plane = record made.plane { failed = true; unsettled = Some (makes (area 1 a s kind.Raw 129 2)) };
  now = 0;
  machines = set_machine made.machines a (synced_by (ends_of failed_grant) (machine_of made a));
}
unfolding step answer
grants-leaves = fault_after made a (w.vsa a s 2 kind.Raw) (ends_of failed_grant) false refl grants-refused

pub grants-fails : grants.after.plane.failed ≡ true
grants-fails = new_fails made a s 2 kind.Raw (ends_of failed_grant) false grants-refused

pub grants-stays : (turned grants.after (w.app (codes "b") None) []).after.plane.failed ≡ true
grants-stays = stays_failed grants.after (w.app (codes "b") None) [] false grants-fails

pub grants-last : (turned grants.after (w.vsa a (codes "t") 1 kind.Raw) []).said ≡ said.Ok → ⊥
grants-last h = no_new_area grants.after a (codes "t") 1 kind.Raw [] false grants-fails h

-- More blocks for it, and its end, where the last sync fails; a write that fails and does not take.

abbrev slot : Slot
slot = area 1 a s kind.Raw 129 2

abbrev granted : System
granted = played (fresh_system 200) (app a ∷ (w.vsa a s 2 kind.Raw, granting slot) ∷ [])

pub has_slot : slot_of granted.plane a s ≡ Some slot
unfolding step answer
has_slot = refl

abbrev more : List Event
more = zeroed (131 ∷ []) ++ Sync true ∷ Write 1 (slot_bytes (area 1 a s kind.Raw 129 3)) true true ∷ Sync false ∷ []

pub grows-refused : (turned granted (w.grow a s 1) more).said ≡ said.Refused r.DeviceFault
unfolding step answer
grows-refused = refl

pub grows-fails : (turned granted (w.grow a s 1) more).after.plane.failed ≡ true
grows-fails = more_fails granted a s 1 slot (ends_of more) false has_slot grows-refused

abbrev fewer : List Event
fewer = Write 1 zero_block true true ∷ Sync false ∷ []

pub drops-refused : (turned granted (w.drop a s) fewer).said ≡ said.Refused r.DeviceFault
unfolding step answer
drops-refused = refl

pub drops-fails : (turned granted (w.drop a s) fewer).after.plane.failed ≡ true
drops-fails = drop_fails granted a s slot (ends_of fewer) false has_slot drops-refused

-- after more blocks have failed the area neither grows nor goes
abbrev stuck : System
stuck = (turned granted (w.grow a s 1) more).after

pub stuck-grows : (turned stuck (w.grow a s 1) []).said ≡ said.Ok → ⊥
stuck-grows h = no_more_blocks stuck a s 1 [] false grows-fails h

pub stuck-area : is_so is_vsa (object_at (machine_of stuck a) s) ≡ true
unfolding step answer
stuck-area = refl

stuck-slot : slot_of stuck.plane a s ≡ Some (area 1 a s kind.Raw 129 2)
unfolding step answer
stuck-slot = refl

pub stuck-drops : (turned stuck (w.drop a s) []).said ≡ said.Ok → ⊥
stuck-drops h = no_drop stuck a s (area 1 a s kind.Raw 129 2) [] false stuck-slot grows-fails stuck-area h

abbrev unwritten : List Event
unwritten = Write 130 (padded (7 ∷ [])) false false ∷ []

pub pokes-refused : (turned granted (w.poke a s 1 (7 ∷ [])) unwritten).said ≡ said.Refused r.DeviceFault
unfolding step answer
pokes-refused = refl

pub pokes-leaves : (turned granted (w.poke a s 1 (7 ∷ [])) unwritten).after ≡ record granted { machines = set_machine granted.machines a (block_written (machine_of granted a) s 1 (padded (7 ∷ [])) (ends_of unwritten)) }
pokes-leaves = fault_after granted a (w.poke a s 1 (7 ∷ [])) (ends_of unwritten) false refl pokes-refused

-- A datagram for which the ring has no place, as the one before it is not sent yet.

abbrev sends : Line
sends = w.sendto a k (10 ∷ 0 ∷ 0 ∷ 2 ∷ []) 5 (1 ∷ [])

abbrev posted : System
posted = played (fresh_system 200) (quiet (w.nic (own_at (10 ∷ 0 ∷ 0 ∷ 1 ∷ []))) ∷ app a ∷ quiet (w.vnic a (codes "n") 2 1) ∷ quiet (w.sock a k (codes "n") 7) ∷ quiet sends ∷ [])

pub sends-refused : (turned posted sends []).said ≡ said.Refused r.RingFull
unfolding step answer
sends-refused = refl

pub sends-leaves : (turned posted sends []).after ≡ record posted { machines = set_machine posted.machines a (sent_reaped (machine_of posted a) k) }
sends-leaves = sendto_refused posted a k (10 ∷ 0 ∷ 0 ∷ 2 ∷ []) 5 (1 ∷ []) [] false r.RingFull sends-refused refl

-- Two conditions hold: the one of least rank is told.

abbrev two : Conditions
two = record none { no_grant = Some s; lent = true; busy = true }

pub first_told : first two ≡ Some (r.NoGrant s)
first_told = least_first two (r.NoGrant s) refl (λ y h. first_least two (r.NoGrant s) y refl h)

pub second_told : first (record two { no_grant = none.no_grant }) ≡ Some r.Busy
second_told = refl
