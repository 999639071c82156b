-- Refusals that come before any device call.
use Rattle.std.proofs.Common.{◌≡◌, Bool, true, false, refl, sym, ◌∙◌, subst}
use Rattle.std.proofs.lemmas.Bool.{false≢true}
use Rattle.std.specs.Prelude.{Option, Some, None}
use Rattle.ark_base.specs.Conditions.{Conditions, early, when, when_some}
use Rattle.ark_base.specs.declared.refusal.Refusal.{Refusal}
use Rattle.ark_base.specs.declared.refusal.Refusal.TheVariants as r
use Rattle.ark_script.specs.declared.said.Said.TheVariants as said
use Rattle.ark_machine.specs.Refused.{is_told_late, is_of_sending}

pub some_refusal : (y z : Refusal) → ◌≡◌ {A = Option Refusal} (Some y) (Some z) → y ≡ z
some_refusal y z e = cc

pub same_refusal : (x y : Refusal) → said.Refused x ≡ said.Refused y → x ≡ y
same_refusal x y h = cc

unless_when : (x : Refusal) (b : Bool) (y : Refusal) (later : Option Refusal) → is_told_late y ≡ false → (later ≡ Some x → is_told_late x ≡ false) → when b y later ≡ Some x → is_told_late x ≡ false
unless_when x true y later plain next h = subst (λ z. is_told_late z ≡ false) (some_refusal y x h) plain
unless_when x false y later plain next h = next h

unless_some : {A : Type 0} (x : Refusal) (o : Option A) (f : A → Refusal) (later : Option Refusal) → ((y : A) → is_told_late (f y) ≡ false) → (later ≡ Some x → is_told_late x ≡ false)
    → when_some o f later ≡ Some x → is_told_late x ≡ false
unless_some x (Some y) f later plain next h = subst (λ z. is_told_late z ≡ false) (some_refusal (f y) x h) (plain y)
unless_some x None f later plain next h = next h

-- none of them is one that only device calls tell
pub early_plain : (c : Conditions) (x : Refusal) → early c ≡ Some x → is_told_late x ≡ false
early_plain c x =
    unless_when x c.too_long r.TooLong _ refl (
    unless_when x c.unknown_word r.UnknownWord _ refl (
    unless_when x c.syntax_fault r.Syntax _ refl (
    unless_when x c.no_application r.NoApplication _ refl (
    unless_when x c.name_taken r.NameTaken _ refl (
    unless_some x c.no_grant (λ l. r.NoGrant l) _ (λ l. refl) (
    unless_when x c.wrong_kind r.WrongKind _ refl (
    unless_when x c.limit r.Limit _ refl (
    unless_when x c.no_nic r.NoNic _ refl (
    unless_when x c.out_of_range r.OutOfRange _ refl (
    unless_when x c.table_failed r.TableFailed _ refl (
    unless_when x c.log_failed r.LogFailed _ refl (
    unless_when x c.busy r.Busy _ refl (
    unless_when x c.lent r.Lent _ refl (
    unless_when x c.ring_full r.RingFull _ refl (
    unless_when x c.log_full r.LogFull _ refl (
    unless_when x c.no_entry r.NoEntry _ refl (
    unless_when x c.no_buffer r.NoBuffer _ refl (
    unless_when x c.no_space r.NoSpace _ refl (
    unless_when x c.scattered r.Scattered _ refl (
    unless_some x c.overlap (λ f. r.Overlap f.0 f.1) _ (λ f. refl) (
    unless_when x c.no_memory r.NoMemory None refl (λ h. absurd cc))))))))))))))))))))))

pub early_not_told : (c : Conditions) (x : Refusal) → early c ≡ Some x → is_told_late x ≡ true → ⊥
early_not_told c x is told = false≢true (sym (early_plain c x is) ∙ told)

pub told_not_sending : (x : Refusal) → is_told_late x ≡ true → is_of_sending x ≡ true → ⊥
told_not_sending r.DeviceFault told h = false≢true h
told_not_sending (r.Damaged n) told h = false≢true h
told_not_sending _ told h = false≢true told
