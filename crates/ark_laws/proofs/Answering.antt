-- What is so of a row that answers by its conditions.
use Rattle.std.proofs.Common.{◌≡◌, ◌⊎◌, inl, inr, ℕ, Bool, true, false, not, ◌&&◌, ◌||◌, List, refl, sym, ◌∙◌, ap, subst}
use Rattle.std.proofs.lemmas.Bool.{false≢true}
use Rattle.std.specs.Prelude.{Option, Some, None, IsTrue}
use Rattle.ark_base.specs.Conditions.{Conditions, early, late, when, when_some}
use Rattle.ark_base.specs.declared.refusal.Refusal.{Refusal}
use Rattle.ark_base.specs.declared.refusal.Refusal.TheVariants as r
use Rattle.ark_packet.specs.declared.own.Own.{Own}
use Rattle.ark_script.specs.Line as w
use Rattle.ark_script.specs.Line.{Line}
use Rattle.ark_script.specs.declared.said.Said.{Said}
use Rattle.ark_script.specs.declared.said.Said.TheVariants as said
use Rattle.ark_machine.specs.Machine.{Machine}
use Rattle.ark_machine.specs.Row.{Row, says, answer, unless_refused}
use Rattle.ark_machine.specs.Network.{is_let_out}
use Rattle.ark_machine.specs.Refused.{is_told_late, is_of_sending, reaps_first, may_fault}
use Rattle.ark_laws.proofs.Early.{same_refusal, early_not_told}
use Rattle.ark_laws.proofs.Steady.{Leads}
use Rattle.ark_laws.proofs.Walk.{is_plain}

-- only the move of a card sends, what a filter of the card lets out
abbrev pub MaySend : Machine → Option Own → Line → List ℕ → Type 0
MaySend m own (w.dev a v) frame = IsTrue (is_let_out m v own frame)
MaySend m own _ frame = ⊥

-- whether a line that is refused so may have done something first
abbrev pub may_begin : Line → Refusal → Bool
may_begin line x = is_told_late x || (reaps_first line && is_of_sending x)

pub record IsRow (line : Line) (m : Machine) (own : Option Own) (row : Row) : Type 0 where
  pub sent : row.said ≡ said.Sent → MaySend m own line row.bytes
  pub undelivered : (b u : List ℕ) → row.said ≡ said.Delivered b u → ⊥
  pub refused : (x : Refusal) → row.said ≡ said.Refused x → may_begin line x ≡ false → row ≡ says m (said.Refused x)
  pub paced : Leads m row.machine
  -- only the words that are refused for a call that failed
  pub told : (x : Refusal) → row.said ≡ said.Refused x → is_told_late x ≡ true → may_fault line ≡ true
  -- an application that is not made is made, or stays as it is
  pub unmade : m.made ≡ false → (row.machine.made ≡ true) ⊎ (row.machine ≡ m)

-- Replies.

pub plain_not_sent : (x : Said) → is_plain x ≡ true → x ≡ said.Sent → ⊥
plain_not_sent x h e = false≢true (subst (λ y. is_plain y ≡ true) e h)

pub plain_not_refused : (x : Said) (y : Refusal) → is_plain x ≡ true → x ≡ said.Refused y → ⊥
plain_not_refused x y h e = false≢true (subst (λ z. is_plain z ≡ true) e h)

pub plain_not_delivered : (x : Said) (b u : List ℕ) → is_plain x ≡ true → x ≡ said.Delivered b u → ⊥
plain_not_delivered x b u h e = false≢true (subst (λ y. is_plain y ≡ true) e h)

-- The conditions of a row.

when_none : (b : Bool) (x : Refusal) (later : Option Refusal) → when b x later ≡ None → (b ≡ false) × (later ≡ None)
when_none true x later h = cc
when_none false x later h = (refl, h)

pub needs_application : (c : Conditions) → c.no_application ≡ true → early c ≡ None → ⊥
needs_application c lacks h =
    let a = when_none c.too_long r.TooLong _ h in
    let b = when_none c.unknown_word r.UnknownWord _ a.1 in
    let d = when_none c.syntax_fault r.Syntax _ b.1 in
    let e = when_none c.no_application r.NoApplication _ d.1 in
    false≢true (sym e.0 ∙ lacks)

told_late : (c : Conditions) (x : Refusal) → late c ≡ Some x → is_told_late x ≡ true
told_late c x h = by c.device_fault c.damaged h
  where
    by : (b : Bool) (d : Option ℕ) → when b r.DeviceFault (when_some d (λ n. r.Damaged n) None) ≡ Some x → is_told_late x ≡ true
    by true d e = subst (λ y. is_told_late y ≡ true) (the_some r.DeviceFault x e) refl
      where
        the_some : (y z : Refusal) → ◌≡◌ {A = Option Refusal} (Some y) (Some z) → y ≡ z
        the_some y z e = cc
    by false (Some n) e = subst (λ y. is_told_late y ≡ true) (the_some (r.Damaged n) x e) refl
      where
        the_some : (y z : Refusal) → ◌≡◌ {A = Option Refusal} (Some y) (Some z) → y ≡ z
        the_some y z e = cc
    by false None e = cc

told_begins : (line : Line) (x : Refusal) → is_told_late x ≡ true → may_begin line x ≡ false → ⊥
told_begins line x h e = false≢true (sym e ∙ rw h refl)

-- a row that is refused before any device call
pub early_row : (line : Line) (m : Machine) (own : Option Own) (c : Conditions) (x : Refusal) → early c ≡ Some x → IsRow line m own (says m (said.Refused x))
early_row line m own c x is = record {
  sent = λ h. absurd cc;
  undelivered = λ b u h. absurd cc;
  refused = λ y h no. ap (λ z. says m z) h;
  told = λ y h late_one. absurd (early_not_told c x is (subst (λ z. is_told_late z ≡ true) (sym (same_refusal x y h)) late_one));
  paced = λ t h. h;
  unmade = λ no. inr refl;
}

-- a row that answers by its conditions
pub of_answer : (line : Line) (m : Machine) (own : Option Own) (c : Conditions) (row : Row) → (late c ≡ None) ⊎ (may_fault line ≡ true) → is_plain row.said ≡ true → Leads m row.machine
    → (m.made ≡ false → early c ≡ None → (row.machine.made ≡ true) ⊎ (row.machine ≡ m)) → IsRow line m own (answer m c row)
unfolding answer
of_answer line m own c row faults plain lead un = by (early c) (late c) refl refl
  where
    may : {x : Refusal} → (late c ≡ None) ⊎ (may_fault line ≡ true) → late c ≡ Some x → may_fault line ≡ true
    may (inl none) also = absurd cc
    may (inr yet) also = yet

    by : (first then : Option Refusal) → early c ≡ first → late c ≡ then → IsRow line m own (unless_refused first then m row)
    by (Some x) then is also = early_row line m own c x is
    by None (Some x) is also = record {
      sent = λ h. absurd cc;
      undelivered = λ b u h. absurd cc;
      refused = λ y h no. absurd (told_begins line y (subst (λ z. is_told_late z ≡ true) (same_refusal x y h) (told_late c x also)) no);
      told = λ y h late_one. may faults also;
      paced = lead;
      unmade = λ no. un no is;
    }
    by None None is also = record {
      sent = λ h. absurd (plain_not_sent row.said plain h);
      undelivered = λ b u h. plain_not_delivered row.said b u plain h;
      refused = λ y h no. absurd (plain_not_refused row.said y plain h);
      told = λ y h late_one. absurd (plain_not_refused row.said y plain h);
      paced = lead;
      unmade = λ no. un no is;
    }

-- a row of a word that asks for an application that is made
pub of_made : (line : Line) (m : Machine) (own : Option Own) (c : Conditions) (row : Row) → c.no_application ≡ not m.made → (late c ≡ None) ⊎ (may_fault line ≡ true) → is_plain row.said ≡ true → Leads m row.machine
    → IsRow line m own (answer m c row)
of_made line m own c row asks faults plain lead = of_answer line m own c row faults plain lead (λ no is. absurd (needs_application c (asks ∙ rw no refl) is))
