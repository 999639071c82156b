-- The system that a refused line leaves.
use Rattle.std.proofs.Common.{◌≡◌, ℕ, Bool, true, List, refl, sym, ◌∙◌, ap, subst}
use Rattle.std.proofs.lemmas.Bool.{false≢true}
use Rattle.std.specs.Prelude.{Option, Some, None}
use Rattle.ark_base.specs.declared.kind.Kind.{Kind}
use Rattle.ark_base.specs.declared.refusal.Refusal.{Refusal}
use Rattle.ark_base.specs.declared.refusal.Refusal.TheVariants as r
use Rattle.ark_table.specs.Slots.{Slot}
use Rattle.ark_script.specs.Line as w
use Rattle.ark_script.specs.Line.{Line}
use Rattle.ark_script.specs.declared.said.Said.{Said}
use Rattle.ark_script.specs.declared.said.Said.TheVariants as said
use Rattle.ark_machine.specs.Machine.{Machine, object_at}
use Rattle.ark_machine.specs.Row.{Row, Given, Ended}
use Rattle.ark_machine.specs.Plane.{Plane, Change, makes, grows, drops, lowest, slot_of, recorded}
use Rattle.ark_machine.specs.Granting.{change_of, failed_change, plane_after}
use Rattle.ark_machine.specs.Step.{step}
use Rattle.ark_machine.specs.System.{System, machine_of, set_machine, owner, owned_turn, line_turn}
use Rattle.ark_machine.specs.Refused.{may_fault}
use Rattle.ark_machine.specs.Left.{left_by}
use Rattle.ark_laws.proofs.Rows.{row_is}
use Rattle.ark_laws.proofs.Faults.{late_machine, Late, vsa_left, grow_left, log_left, queue_left, look_left, drop_left, turn_said}

abbrev replied : System → List ℕ → Line → Said → Machine → System
replied s a line x k = record { plane = plane_after s.plane (machine_of s a) line x; now = s.now; machines = set_machine s.machines a k }

-- by the machine that its row leaves
pub refused_after : (s : System) (a : List ℕ) (line : Line) (ends : List Ended) (memory : Bool) (x : Refusal) (k : Machine) → owner line ≡ Some a → (line_turn s line ends memory).said ≡ said.Refused x
    → (step (machine_of s a) line (recorded s.plane line ends memory)).machine ≡ k
    → (line_turn s line ends memory).after ≡ replied s a line (said.Refused x) k
refused_after s a line ends memory x k is h left =
    let row : Row = step (machine_of s a) line (recorded s.plane line ends memory) in
    subst (λ o. (owned_turn s line ends memory o).after ≡ replied s a line (said.Refused x) k) (sym is)
    (ap (λ (y : Said). replied s a line y row.machine) (turn_said s a line ends memory x is h) ∙ ap (λ (n : Machine). replied s a line (said.Refused x) n) left)

-- A device call failed.

fault_left : (m : Machine) (line : Line) (g : Given) → may_fault line ≡ true → Late (step m line g) r.DeviceFault → (step m line g).machine ≡ left_by line g.ended m
unfolding step
fault_left m (w.vsa a s n k) g may h = vsa_left m a s n k g r.DeviceFault h
fault_left m (w.grow a s n) g may h = grow_left m a s n g r.DeviceFault h
fault_left m (w.log a s v) g may h = log_left m a s v g h.0
fault_left m (w.queue a s v) g may h = queue_left m a s v g h.0
fault_left m (w.peek a s off) g may h = look_left m (w.peek a s off) g r.DeviceFault refl h
fault_left m (w.walk a s n) g may h = look_left m (w.walk a s n) g r.DeviceFault refl h
fault_left m (w.poke a s off bytes) g may h = (late_machine m _ _ r.DeviceFault refl h.0 h.1).0
fault_left m (w.drop a x) g may h = drop_left m a x g r.DeviceFault h
fault_left m _ g may h = absurd (false≢true may)

-- what the line leaves, whole
pub fault_after : (s : System) (a : List ℕ) (line : Line) (ends : List Ended) (memory : Bool) → owner line ≡ Some a → (line_turn s line ends memory).said ≡ said.Refused r.DeviceFault
    → (line_turn s line ends memory).after ≡ replied s a line (said.Refused r.DeviceFault) (left_by line ends (machine_of s a))
fault_after s a line ends memory is h =
    let g : Given = recorded s.plane line ends memory in
    let told = turn_said s a line ends memory r.DeviceFault is h in
    refused_after s a line ends memory r.DeviceFault (left_by line ends (machine_of s a)) is h
    (fault_left (machine_of s a) line g ((row_is (machine_of s a) line g).told r.DeviceFault told refl) (told, refl))

-- The table of grants has failed then.

change_fails : (p : Plane) (c : Option Change) (d : Change) → c ≡ Some d → (failed_change p c).failed ≡ true
change_fails p None d h = absurd cc
change_fails p (Some (makes t)) d h = refl
change_fails p (Some (grows t more)) d h = refl
change_fails p (Some (drops t o)) d h = refl

table_fails : (s : System) (a : List ℕ) (line : Line) (ends : List Ended) (memory : Bool) (d : Change) → owner line ≡ Some a → (line_turn s line ends memory).said ≡ said.Refused r.DeviceFault
    → change_of s.plane (machine_of s a) line ≡ Some d → (line_turn s line ends memory).after.plane.failed ≡ true
table_fails s a line ends memory d is h asks = ap (λ (t : System). t.plane.failed) (fault_after s a line ends memory is h) ∙ change_fails s.plane (change_of s.plane (machine_of s a) line) d asks

pub new_fails : (s : System) (a l : List ℕ) (n : ℕ) (k : Kind) (ends : List Ended) (memory : Bool) → (line_turn s (w.vsa a l n k) ends memory).said ≡ said.Refused r.DeviceFault
    → (line_turn s (w.vsa a l n k) ends memory).after.plane.failed ≡ true
new_fails s a l n k ends memory h = table_fails s a (w.vsa a l n k) ends memory _ refl h refl

pub more_fails : (s : System) (a l : List ℕ) (n : ℕ) (t : Slot) (ends : List Ended) (memory : Bool) → slot_of s.plane a l ≡ Some t → (line_turn s (w.grow a l n) ends memory).said ≡ said.Refused r.DeviceFault
    → (line_turn s (w.grow a l n) ends memory).after.plane.failed ≡ true
more_fails s a l n t ends memory has h = table_fails s a (w.grow a l n) ends memory (grows t (lowest s.plane n)) refl h (rw has refl)

pub drop_fails : (s : System) (a l : List ℕ) (t : Slot) (ends : List Ended) (memory : Bool) → slot_of s.plane a l ≡ Some t → (line_turn s (w.drop a l) ends memory).said ≡ said.Refused r.DeviceFault
    → (line_turn s (w.drop a l) ends memory).after.plane.failed ≡ true
drop_fails s a l t ends memory has h = table_fails s a (w.drop a l) ends memory (drops t (object_at (machine_of s a) l)) refl h (rw has refl)
