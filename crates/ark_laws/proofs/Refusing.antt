-- What a refused line leaves.
use Rattle.std.proofs.Common.{◌≡◌, ℕ, Bool, true, false, List, [], ◌||◌, ◌&&◌, refl, sym, ◌∙◌, ap, subst}
use Rattle.std.proofs.lemmas.Bool.{false≢true}
use Rattle.std.specs.Prelude.{Option, Some, None, unwrap_or}
use Rattle.std.specs.Option.{option_or}
use Rattle.ark_base.specs.Conditions.{Conditions, early, late, first}
use Rattle.ark_base.specs.declared.refusal.Refusal.{Refusal}
use Rattle.ark_base.specs.declared.refusal.Refusal.TheVariants as r
use Rattle.ark_script.specs.Line.{Line}
use Rattle.ark_script.specs.declared.said.Said.TheVariants as said
use Rattle.ark_machine.specs.Machine.{Machine}
use Rattle.ark_machine.specs.Row.{Row, Given, Ended, answer, unless_refused}
use Rattle.ark_machine.specs.Plane.{Plane, Change, recorded}
use Rattle.ark_machine.specs.Granting.{after_refusal, change_of}
use Rattle.ark_machine.specs.Step.{step}
use Rattle.ark_machine.specs.System.{System, Turn, machine_of, own_turn, line_turn}
use Rattle.ark_machine.specs.Refused.{is_told_late, is_of_sending, reaps_first}
use Rattle.ark_laws.proofs.Answering.{may_begin}
use Rattle.ark_laws.proofs.Rows.{row_is, arrive_is}
use Rattle.ark_laws.proofs.Listed.{set_same}
use Rattle.ark_laws.proofs.Turns.{each_turn}

-- the system is as it was, and no device was called
abbrev pub IsSpared : System → Turn → Type 0
IsSpared s t = (t.after ≡ s) × (t.calls ≡ [])

after_early : (p : Plane) (x : Refusal) (c : Option Change) → is_told_late x ≡ false → after_refusal p x c ≡ p
after_early p r.DeviceFault c h = absurd (false≢true (sym h))
after_early p _ c h = refl

not_late : (line : Line) (x : Refusal) → may_begin line x ≡ false → is_told_late x ≡ false
not_late line x h = by (is_told_late x) h
  where
    by : (b : Bool) → (b || (reaps_first line && is_of_sending x)) ≡ false → b ≡ false
    by true e = absurd (false≢true (sym e))
    by false e = refl

pub same_system : (s : System) (p : Plane) (ms : List (List ℕ × Machine)) → p ≡ s.plane → ms ≡ s.machines → ◌≡◌ {A = System} (record { plane = p; now = s.now; machines = ms }) s
same_system s p ms e f =
    ap (λ (q : Plane). record { plane = q; now = s.now; machines = ms }) e ∙ ap (λ (ns : List (List ℕ × Machine)). record { plane = s.plane; now = s.now; machines = ns }) f

own_spared : (s : System) (a : List ℕ) (line : Line) (g : Given) (x : Refusal) → (step (machine_of s a) line g).said ≡ said.Refused x → may_begin line x ≡ false
    → IsSpared s (own_turn s a line (step (machine_of s a) line g))
own_spared s a line g x h spare =
    let m : Machine = machine_of s a in
    subst (λ row. IsSpared s (own_turn s a line row)) (sym ((row_is m line g).refused x h spare))
    (same_system s _ _ (after_early s.plane x (change_of s.plane m line) (not_late line x spare)) (set_same s.machines s.now a), refl)

-- a line that is refused at once leaves the system as it was
pub refused_spared : (s : System) (line : Line) (ends : List Ended) (memory : Bool) (x : Refusal) → (line_turn s line ends memory).said ≡ said.Refused x → may_begin line x ≡ false
    → IsSpared s (line_turn s line ends memory)
refused_spared s line ends memory x h spare = each_turn (λ t. t.said ≡ said.Refused x → IsSpared s t) s line ends memory (record {
  own = λ a is e. own_spared s a line (recorded s.plane line ends memory) x e spare;
  ticks = λ n is e. absurd cc;
  given = λ own is e. absurd cc;
  arrives = λ frame own f is addressed found e. absurd ((arrive_is f.owner (machine_of s f.owner) (unwrap_or f.card []) frame).unrefused x e);
  quiet = λ reply q e. (refl, refl);
}) h

-- The refusal that is chosen.

pub chosen_first : (m : Machine) (c : Conditions) (row : Row) (x : Refusal) → first c ≡ Some x → (answer m c row).said ≡ said.Refused x
unfolding answer
chosen_first m c row x h = by (early c) (late c) h
  where
    by : (one two : Option Refusal) → option_or one two ≡ Some x → (unless_refused one two m row).said ≡ said.Refused x
    by (Some y) two e = ap said.Refused (the_same y x e)
      where
        the_same : (y z : Refusal) → ◌≡◌ {A = Option Refusal} (Some y) (Some z) → y ≡ z
        the_same y z e = cc
    by None (Some y) e = ap said.Refused (the_same y x e)
      where
        the_same : (y z : Refusal) → ◌≡◌ {A = Option Refusal} (Some y) (Some z) → y ≡ z
        the_same y z e = cc
    by None None e = absurd cc

pub chosen_none : (m : Machine) (c : Conditions) (row : Row) → first c ≡ None → answer m c row ≡ row
unfolding answer
chosen_none m c row h = by (early c) (late c) h
  where
    by : (one two : Option Refusal) → option_or one two ≡ None → unless_refused one two m row ≡ row
    by (Some y) two e = absurd cc
    by None (Some y) e = absurd cc
    by None None e = refl
