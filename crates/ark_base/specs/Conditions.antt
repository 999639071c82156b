-- What holds of a line, and the one order in which a refusal is chosen.
use Rattle.std.specs.Prelude.{ℕ, Bool, true, false, List, Option, Some, None}
use Rattle.std.specs.Option.{option_or}
use Rattle.ark_base.specs.declared.refusal.Refusal.{Refusal}
use Rattle.ark_base.specs.declared.refusal.Refusal.TheVariants as r

-- What holds of a line. A word names the conditions that it has; all others are those of `none`.
pub record Conditions : Type 0 where
  pub too_long : Bool
  pub unknown_word : Bool
  pub syntax_fault : Bool
  pub no_application : Bool
  pub name_taken : Bool
  pub no_grant : Option (List ℕ)
  pub wrong_kind : Bool
  pub limit : Bool
  pub no_nic : Bool
  pub out_of_range : Bool
  pub table_failed : Bool
  pub log_failed : Bool
  pub busy : Bool
  pub lent : Bool
  pub ring_full : Bool
  pub log_full : Bool
  pub no_entry : Bool
  pub no_buffer : Bool
  pub no_space : Bool
  pub scattered : Bool
  pub overlap : Option (List ℕ × List ℕ)
  pub no_memory : Bool
  pub device_fault : Bool
  pub damaged : Option ℕ

abbrev pub none : Conditions
none = record {
  too_long = false;
  unknown_word = false;
  syntax_fault = false;
  no_application = false;
  name_taken = false;
  no_grant = None;
  wrong_kind = false;
  limit = false;
  no_nic = false;
  out_of_range = false;
  table_failed = false;
  log_failed = false;
  busy = false;
  lent = false;
  ring_full = false;
  log_full = false;
  no_entry = false;
  no_buffer = false;
  no_space = false;
  scattered = false;
  overlap = None;
  no_memory = false;
  device_fault = false;
  damaged = None;
}

-- the refusal, if the condition holds, else the next
abbrev pub when : Bool → Refusal → Option Refusal → Option Refusal
when true refusal later = Some refusal
when false refusal later = later

abbrev pub when_some : {A : Type 0} → Option A → (A → Refusal) → Option Refusal → Option Refusal
when_some (Some x) refusal later = Some (refusal x)
when_some None refusal later = later

-- The one order: 24, 2, 1, 3, 4, 5, 6, 7, 8, 9, 22, 17, 16, 15, 13, 18, 19, 14, 10, 11, 12, 20; of these none needs a device call.
abbrev pub early : Conditions → Option Refusal
early c =
    when c.too_long r.TooLong (
    when c.unknown_word r.UnknownWord (
    when c.syntax_fault r.Syntax (
    when c.no_application r.NoApplication (
    when c.name_taken r.NameTaken (
    when_some c.no_grant (λ l. r.NoGrant l) (
    when c.wrong_kind r.WrongKind (
    when c.limit r.Limit (
    when c.no_nic r.NoNic (
    when c.out_of_range r.OutOfRange (
    when c.table_failed r.TableFailed (
    when c.log_failed r.LogFailed (
    when c.busy r.Busy (
    when c.lent r.Lent (
    when c.ring_full r.RingFull (
    when c.log_full r.LogFull (
    when c.no_entry r.NoEntry (
    when c.no_buffer r.NoBuffer (
    when c.no_space r.NoSpace (
    when c.scattered r.Scattered (
    when_some c.overlap (λ f. r.Overlap f.0 f.1) (
    when c.no_memory r.NoMemory None)))))))))))))))))))))

-- then 21 and 23
abbrev pub late : Conditions → Option Refusal
late c = when c.device_fault r.DeviceFault (when_some c.damaged (λ n. r.Damaged n) None)

-- the first refusal that holds
abbrev pub first : Conditions → Option Refusal
first c = option_or (early c) (late c)
