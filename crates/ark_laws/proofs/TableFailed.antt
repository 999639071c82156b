-- Once a change of the table has failed, that stays so, and no area is granted, grows or is dropped.
use Rattle.std.proofs.Common.{◌≡◌, ℕ, Bool, true, ◌&&◌, List, refl, ◌∙◌, ap}
use Rattle.std.specs.Prelude.{Option, Some, None, is_some}
use Rattle.ark_base.specs.Conditions.{Conditions, first}
use Rattle.ark_base.specs.declared.kind.Kind.{Kind}
use Rattle.ark_base.specs.declared.refusal.Refusal.{Refusal}
use Rattle.ark_base.specs.declared.refusal.Refusal.TheVariants as r
use Rattle.ark_table.specs.Slots.{Slot}
use Rattle.ark_script.specs.Line as w
use Rattle.ark_script.specs.Line.{Line}
use Rattle.ark_script.specs.declared.said.Said.{Said}
use Rattle.ark_script.specs.declared.said.Said.TheVariants as said
use Rattle.ark_machine.specs.Objects.{is_vsa}
use Rattle.ark_machine.specs.Machine.{Machine, unmade, object_at, is_so}
use Rattle.ark_machine.specs.Row.{Row, Given, Ended, answer}
use Rattle.ark_machine.specs.Plane.{Plane, Change, makes, grows, drops, slot_of, recorded}
use Rattle.ark_machine.specs.Granting.{changed, with_granted, after_refusal, change_of, plane_after}
use Rattle.ark_machine.specs.Step.{step}
use Rattle.ark_machine.specs.System.{System, machine_of, line_turn}
use Rattle.ark_laws.proofs.Ranks.{some_first}
use Rattle.ark_laws.proofs.Refusing.{chosen_first}
use Rattle.ark_laws.proofs.Turns.{each_turn}

-- It stays so.

changed_failed : (p : Plane) (c : Option Change) → (changed p c).failed ≡ p.failed
changed_failed p None = refl
changed_failed p (Some (makes t)) = refl
changed_failed p (Some (grows t more)) = refl
changed_failed p (Some (drops t o)) = refl

granted_failed : (p : Plane) (line : Line) → (with_granted p line).failed ≡ p.failed
granted_failed p (w.nic own) = refl
granted_failed p (w.filter a f rule) = refl
granted_failed p (w.assign a v f) = refl
granted_failed p (w.drop a x) = refl
granted_failed p _ = refl

refused_failed : (p : Plane) (x : Refusal) (c : Option Change) → p.failed ≡ true → (after_refusal p x c).failed ≡ true
refused_failed p r.DeviceFault None h = h
refused_failed p r.DeviceFault (Some (makes t)) h = refl
refused_failed p r.DeviceFault (Some (grows t more)) h = refl
refused_failed p r.DeviceFault (Some (drops t o)) h = refl
refused_failed p _ c h = h

after_failed : (p : Plane) (m : Machine) (line : Line) (x : Said) → p.failed ≡ true → (plane_after p m line x).failed ≡ true
after_failed p m line said.Ok h = granted_failed (changed p (change_of p m line)) line ∙ (changed_failed p (change_of p m line) ∙ h)
after_failed p m line (said.Refused x) h = refused_failed p x (change_of p m line) h
after_failed p m line _ h = h

pub stays_failed : (s : System) (line : Line) (ends : List Ended) (memory : Bool) → s.plane.failed ≡ true → (line_turn s line ends memory).after.plane.failed ≡ true
stays_failed s line ends memory h = each_turn (λ t. t.after.plane.failed ≡ true) s line ends memory (record {
  own = λ a is. after_failed s.plane (machine_of s a) line (step (machine_of s a) line (recorded s.plane line ends memory)).said h;
  ticks = λ n is. h;
  given = λ own is. after_failed s.plane unmade (w.nic own) said.Ok h;
  arrives = λ frame own f is addressed found. h;
  quiet = λ reply q. h;
})

-- No change is made.

never_ok : (m : Machine) (c : Conditions) (row : Row) → c.table_failed ≡ true → (answer m c row).said ≡ said.Ok → ⊥
never_ok m c row failed h = by (first c) refl
  where
    apart : (y : Said) (x : Refusal) → y ≡ said.Refused x → y ≡ said.Ok → ⊥
    apart y x e k = cc

    by : (o : Option Refusal) → first c ≡ o → ⊥
    by (Some x) is = apart (answer m c row).said x (chosen_first m c row x is) h
    by None is = some_first c r.TableFailed failed is

vsa_never : (m : Machine) (a l : List ℕ) (n : ℕ) (k : Kind) (g : Given) → g.table_failed ≡ true → (step m (w.vsa a l n k) g).said ≡ said.Ok → ⊥
unfolding step
vsa_never m a l n k g failed h = never_ok m _ _ failed h

grow_never : (m : Machine) (a l : List ℕ) (n : ℕ) (g : Given) → g.table_failed ≡ true → (step m (w.grow a l n) g).said ≡ said.Ok → ⊥
unfolding step
grow_never m a l n g failed h = never_ok m _ _ failed h

pub no_new_area : (s : System) (a l : List ℕ) (n : ℕ) (k : Kind) (ends : List Ended) (memory : Bool) → s.plane.failed ≡ true → (line_turn s (w.vsa a l n k) ends memory).said ≡ said.Ok → ⊥
no_new_area s a l n k ends memory failed h = vsa_never (machine_of s a) a l n k (recorded s.plane (w.vsa a l n k) ends memory) failed h

pub no_more_blocks : (s : System) (a l : List ℕ) (n : ℕ) (ends : List Ended) (memory : Bool) → s.plane.failed ≡ true → (line_turn s (w.grow a l n) ends memory).said ≡ said.Ok → ⊥
no_more_blocks s a l n ends memory failed h = grow_never (machine_of s a) a l n (recorded s.plane (w.grow a l n) ends memory) failed h

drop_never : (m : Machine) (a l : List ℕ) (g : Given) → g.table_failed ≡ true → is_so is_vsa (object_at m l) ≡ true → (step m (w.drop a l) g).said ≡ said.Ok → ⊥
unfolding step
drop_never m a l g failed is h = never_ok m _ _ (rw (failed, is) refl) h

pub no_drop : (s : System) (a l : List ℕ) (t : Slot) (ends : List Ended) (memory : Bool) → slot_of s.plane a l ≡ Some t → s.plane.failed ≡ true → is_so is_vsa (object_at (machine_of s a) l) ≡ true
    → (line_turn s (w.drop a l) ends memory).said ≡ said.Ok → ⊥
no_drop s a l t ends memory slot failed is h = drop_never (machine_of s a) a l (recorded s.plane (w.drop a l) ends memory) (ap (λ o. is_some o && s.plane.failed) slot ∙ failed) is h
