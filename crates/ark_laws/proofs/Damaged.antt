-- A line that is refused for a damaged list leaves the system as it was.
use Rattle.std.proofs.Common.{◌≡◌, ℕ, Bool, true, false, List, refl, sym, ◌∙◌, ap, []}
use Rattle.std.proofs.lemmas.Bool.{false≢true}
use Rattle.std.specs.Prelude.{Option, Some, None, is_some, unwrap_or}
use Rattle.ark_base.specs.Conditions.{when, when_some}
use Rattle.ark_base.specs.declared.refusal.Refusal.{Refusal}
use Rattle.ark_base.specs.declared.refusal.Refusal.TheVariants as r
use Rattle.ark_script.specs.Line as w
use Rattle.ark_script.specs.Line.{Line}
use Rattle.ark_script.specs.declared.said.Said.TheVariants as said
use Rattle.ark_machine.specs.Machine.{Machine, log_at}
use Rattle.ark_machine.specs.Row.{Given, Ended, has_fault}
use Rattle.ark_machine.specs.Logs.{damage_of, found_in}
use Rattle.ark_machine.specs.Plane.{recorded}
use Rattle.ark_machine.specs.Granting.{plane_after}
use Rattle.ark_machine.specs.Step.{step}
use Rattle.ark_machine.specs.System.{System, machine_of, set_machine, line_turn}
use Rattle.ark_machine.specs.Refused.{may_leave, may_fault}
use Rattle.ark_laws.proofs.Listed.{set_same}
use Rattle.ark_laws.proofs.Rows.{row_is, arrive_is}
use Rattle.ark_laws.proofs.Faults.{late_machine}
use Rattle.ark_laws.proofs.Turns.{each_turn}
use Rattle.ark_laws.proofs.Refusing.{same_system, refused_spared}

not_damaged : (b : Bool) (n : ℕ) → when b r.DeviceFault None ≡ Some (r.Damaged n) → ⊥
not_damaged true n h = cc
not_damaged false n h = cc

-- no call failed, and the list that was found is damaged
found_damaged : (b : Bool) (d : Option ℕ) (n : ℕ) → when b r.DeviceFault (when_some d (λ k. r.Damaged k) None) ≡ Some (r.Damaged n) → (b ≡ false) × (is_some d ≡ true)
found_damaged true d n h = absurd cc
found_damaged false (Some k) n h = (refl, refl)
found_damaged false None n h = absurd cc

calling_left : (m : Machine) (line : Line) (g : Given) (n : ℕ) → may_fault line ≡ true → (step m line g).said ≡ said.Refused (r.Damaged n) → (step m line g).machine ≡ m
unfolding step
calling_left m (w.log a s v) g n may h =
    let e = late_machine m _ _ (r.Damaged n) refl h refl in
    let d = found_damaged (has_fault g.ended) (damage_of (found_in (log_at m s))) n e.1 in
    e.0 ∙ rw (d.0, d.1) refl
calling_left m (w.queue a s v) g n may h =
    let e = late_machine m _ _ (r.Damaged n) refl h refl in
    let d = found_damaged (has_fault g.ended) (damage_of (found_in (log_at m s))) n e.1 in
    e.0 ∙ rw (d.0, d.1) refl
calling_left m (w.vsa a s k kind) g n may h = absurd (not_damaged (has_fault g.ended) n (late_machine m _ _ (r.Damaged n) refl h refl).1)
calling_left m (w.grow a s k) g n may h = absurd (not_damaged (has_fault g.ended) n (late_machine m _ _ (r.Damaged n) refl h refl).1)
calling_left m (w.drop a x) g n may h = absurd (not_damaged (has_fault g.ended) n (late_machine m _ _ (r.Damaged n) refl h refl).1)
calling_left m (w.peek a s off) g n may h = absurd (not_damaged (has_fault g.ended) n (late_machine m _ _ (r.Damaged n) refl h refl).1)
calling_left m (w.poke a s off bytes) g n may h = absurd (not_damaged (has_fault g.ended) n (late_machine m _ _ (r.Damaged n) refl h refl).1)
calling_left m (w.walk a s k) g n may h = absurd (not_damaged (has_fault g.ended) n (late_machine m _ _ (r.Damaged n) refl h refl).1)
calling_left m _ g n may h = absurd (false≢true may)

pub damaged_left : (m : Machine) (line : Line) (g : Given) (n : ℕ) → (step m line g).said ≡ said.Refused (r.Damaged n) → (step m line g).machine ≡ m
damaged_left m line g n h = calling_left m line g n ((row_is m line g).told (r.Damaged n) h refl) h

pub damaged_unchanged : (s : System) (line : Line) (ends : List Ended) (memory : Bool) (n : ℕ) → (line_turn s line ends memory).said ≡ said.Refused (r.Damaged n)
    → (line_turn s line ends memory).after ≡ s
damaged_unchanged s line ends memory n h = each_turn (λ t. t.said ≡ said.Refused (r.Damaged n) → t.after ≡ s) s line ends memory (record {
  own = λ a is e.
      let m : Machine = machine_of s a in
      same_system s _ _ (ap (λ x. plane_after s.plane m line x) e)
      (ap (λ k. set_machine s.machines a k) (damaged_left m line (recorded s.plane line ends memory) n e) ∙ set_same s.machines s.now a);
  ticks = λ n is e. absurd cc;
  given = λ own is e. absurd cc;
  arrives = λ frame own f is addressed found e. absurd ((arrive_is f.owner (machine_of s f.owner) (unwrap_or f.card []) frame).unrefused _ e);
  quiet = λ reply q e. refl;
}) h

-- a refused line leaves the system as it was, but for the refusals that may leave something
pub refused_unchanged : (s : System) (line : Line) (ends : List Ended) (memory : Bool) (x : Refusal) → (line_turn s line ends memory).said ≡ said.Refused x → may_leave line x ≡ false
    → (line_turn s line ends memory).after ≡ s
refused_unchanged s line ends memory r.DeviceFault h spare = absurd (false≢true (sym spare))
refused_unchanged s line ends memory (r.Damaged n) h spare = damaged_unchanged s line ends memory n h
refused_unchanged s line ends memory x h spare = (refused_spared s line ends memory x h spare).0
