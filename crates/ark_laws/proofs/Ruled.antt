-- Each live filter of a run is one that a line can give.
use Rattle.std.proofs.Common.{ℕ, Bool, true, false, not, List, map, cond}
use Rattle.std.specs.Prelude.{Option, Some, None, filter as select}
use Rattle.std.specs.List.{All}
use Rattle.std.proofs.lemmas.List.Elements.{All-push, All-map, All-filter, All-weaker}
use Rattle.ark_base.specs.declared.refusal.Refusal.{Refusal}
use Rattle.ark_base.specs.declared.refusal.Refusal.TheVariants as r
use Rattle.ark_filters.specs.Rule.{IsRule}
use Rattle.ark_script.specs.Line as w
use Rattle.ark_script.specs.Line.{Line}
use Rattle.ark_script.specs.Ranges.{InRange}
use Rattle.ark_script.specs.declared.said.Said.{Said}
use Rattle.ark_script.specs.declared.said.Said.TheVariants as said
use Rattle.ark_machine.specs.Machine.{Machine}
use Rattle.ark_machine.specs.Row.{Ended}
use Rattle.ark_machine.specs.Plane.{Plane, LiveFilter, Change, makes, grows, drops, recorded}
use Rattle.ark_machine.specs.Granting.{is_filter_of, is_on, assigned, changed, failed_change, change_of, with_granted, after_refusal, plane_after}
use Rattle.ark_machine.specs.Step.{step}
use Rattle.ark_machine.specs.System.{System, machine_of, line_turn}
use Rattle.ark_machine.specs.Filters.{HasRules}
use Rattle.ark_laws.proofs.Turns.{each_turn}

abbrev Ruled : LiveFilter → Type 0
Ruled f = IsRule f.rule

-- a filter that is assigned otherwise looks for the same
assigned_ruled : (b : Bool) (card : Option (List ℕ)) (f : LiveFilter) → Ruled f → Ruled (cond b (assigned card f) f)
assigned_ruled true card f h = h
assigned_ruled false card f h = h

all_assigned : (test : LiveFilter → Bool) (card : Option (List ℕ)) (fs : List LiveFilter) → All Ruled fs → All Ruled (map (λ f. cond (test f) (assigned card f) f) fs)
all_assigned test card fs h =
    let g : LiveFilter → LiveFilter = λ f. cond (test f) (assigned card f) f in
    All-map Ruled g fs (All-weaker Ruled (λ f. Ruled (g f)) (λ f is. assigned_ruled (test f) card f is) fs h)

changed_rules : (p : Plane) (c : Option Change) → HasRules p → HasRules (changed p c)
changed_rules p None h = h
changed_rules p (Some (makes t)) h = h
changed_rules p (Some (grows t more)) h = h
changed_rules p (Some (drops t o)) h = h

failed_rules : (p : Plane) (c : Option Change) → HasRules p → HasRules (failed_change p c)
failed_rules p None h = h
failed_rules p (Some (makes t)) h = h
failed_rules p (Some (grows t more)) h = h
failed_rules p (Some (drops t o)) h = h

granted_rules : (p : Plane) (line : Line) → InRange line → HasRules p → HasRules (with_granted p line)
granted_rules p (w.nic own) is h = h
granted_rules p (w.app a frames) is h = h
granted_rules p (w.filter a f rule) is h = All-push Ruled p.filters (record { owner = a; label = f; rule = rule; card = None }) h is
granted_rules p (w.assign a v f) is h = all_assigned (λ x. is_filter_of a f x) (Some v) p.filters h
granted_rules p (w.drop a x) is h =
    all_assigned (λ f. is_on a x f) None (select (λ f. not (is_filter_of a x f)) p.filters) (All-filter (λ f. not (is_filter_of a x f)) Ruled p.filters h)
granted_rules p _ is h = h

refused_rules : (p : Plane) (x : Refusal) (c : Option Change) → HasRules p → HasRules (after_refusal p x c)
refused_rules p r.DeviceFault c h = failed_rules p c h
refused_rules p _ c h = h

plane_rules : (p : Plane) (m : Machine) (line : Line) (x : Said) → InRange line → HasRules p → HasRules (plane_after p m line x)
plane_rules p m line said.Ok is h = granted_rules (changed p (change_of p m line)) line is (changed_rules p (change_of p m line) h)
plane_rules p m line (said.Refused x) is h = refused_rules p x (change_of p m line) h
plane_rules p m line _ is h = h

pub line_rules : (s : System) (line : Line) (ends : List Ended) (memory : Bool) → InRange line → HasRules s.plane → HasRules (line_turn s line ends memory).after.plane
line_rules s line ends memory is h = each_turn (λ t. HasRules t.after.plane) s line ends memory (record {
  own = λ a by. plane_rules s.plane (machine_of s a) line (step (machine_of s a) line (recorded s.plane line ends memory)).said is h;
  ticks = λ n by. h;
  given = λ own by. h;
  arrives = λ frame own f by addressed found. h;
  quiet = λ reply q. h;
})
