-- What holds of every line about logs and queues.
use Rattle.std.proofs.Common.{◌≡◌, Bool, true, false, [], refl}
use Rattle.std.specs.Prelude.{Option, Some, None, is_some}
use Rattle.std.proofs.lemmas.Bool.{false≢true}
use Rattle.ark_base.specs.Conditions.{Conditions, early, late, when, when_some}
use Rattle.ark_base.specs.declared.refusal.Refusal.{Refusal}
use Rattle.ark_base.specs.declared.refusal.Refusal.TheVariants as r
use Rattle.ark_script.specs.Line as w
use Rattle.ark_script.specs.Line.{Line}
use Rattle.ark_script.specs.declared.said.Said.TheVariants as said
use Rattle.ark_machine.specs.Machine.{Machine}
use Rattle.ark_machine.specs.Replies.{may_lack}
use Rattle.ark_machine.specs.Row.{Given, Row, says, answer, unless_refused}
use Rattle.ark_machine.specs.Step.{step}
use Rattle.ark_own.proofs.Lines.{IsOwn}
use Rattle.ark_base.specs.declared.kind.Kind.TheVariants as kind
use Rattle.ark_logs.specs.Lines.{is_log_line}
use Rattle.ark_logs.proofs.OpenRows.{conditions, rest}

-- it touches its application alone, and asks for no grant
pub own : (line : Line) → is_log_line line ≡ true → IsOwn line
own (w.log a s v) h = record { built = refl; change = λ p m. refl; granted = λ p. refl }
own (w.queue a s v) h = record { built = refl; change = λ p m. refl; granted = λ p. refl }
own (w.append a s bytes) h = record { built = refl; change = λ p m. refl; granted = λ p. refl }
own (w.push a s bytes) h = record { built = refl; change = λ p m. refl; granted = λ p. refl }
own (w.trim a s n) h = record { built = refl; change = λ p m. refl; granted = λ p. refl }
own (w.pop a s) h = record { built = refl; change = λ p m. refl; granted = λ p. refl }
own (w.close a s) h = record { built = refl; change = λ p m. refl; granted = λ p. refl }
own (w.walk a s n) h = record { built = refl; change = λ p m. refl; granted = λ p. refl }
own (w.poll a s) h = record { built = refl; change = λ p m. refl; granted = λ p. refl }
own _ h = absurd (false≢true h)

-- at an application that was not made it is refused
pub unmade_row : (line : Line) (m : Machine) (g : Given) → is_log_line line ≡ true → m.made ≡ false → step m line g ≡ says m (said.Refused r.NoApplication)
unfolding step answer
unmade_row (w.log a s v) m g h made = rw made refl
unmade_row (w.queue a s v) m g h made = rw made refl
unmade_row (w.append a s bytes) m g h made = rw made refl
unmade_row (w.push a s bytes) m g h made = rw made refl
unmade_row (w.trim a s n) m g h made = rw made refl
unmade_row (w.pop a s) m g h made = rw made refl
unmade_row (w.close a s) m g h made = rw made refl
unmade_row (w.walk a s n) m g h made = rw made refl
unmade_row (w.poll a s) m g h made = rw made refl
unmade_row _ m g h made = absurd (false≢true h)

-- Want of memory refuses a line before its device calls, where nothing else did.

when_on : (b : Bool) (e : Refusal) (later : Option Refusal) → is_some later ≡ true → is_some (when b e later) ≡ true
when_on true e later is = refl
when_on false e later is = is

some_on : {A : Type 0} (o : Option A) (e : A → Refusal) (later : Option Refusal) → is_some later ≡ true → is_some (when_some o e later) ≡ true
some_on (Some x) e later is = refl
some_on None e later is = is

wanting : (c : Conditions) → c.no_memory ≡ true → is_some (early c) ≡ true
wanting c is =
    when_on c.too_long _ _ (when_on c.unknown_word _ _ (when_on c.syntax_fault _ _ (when_on c.no_application _ _ (when_on c.name_taken _ _ (some_on c.no_grant _ _ (
    when_on c.wrong_kind _ _ (when_on c.limit _ _ (when_on c.no_nic _ _ (when_on c.out_of_range _ _ (when_on c.table_failed _ _ (when_on c.log_failed _ _ (when_on c.busy _ _ (
    when_on c.lent _ _ (when_on c.ring_full _ _ (when_on c.log_full _ _ (when_on c.no_entry _ _ (when_on c.no_buffer _ _ (when_on c.no_space _ _ (when_on c.scattered _ _ (
    some_on c.overlap _ _ (rw is refl)))))))))))))))))))))

lacking : (m : Machine) (c : Conditions) (row : Row) → c.no_memory ≡ true → (answer m c row).calls ≡ []
unfolding answer
lacking m c row is = by (early c) (wanting c is)
  where
    by : (o : Option Refusal) → is_some o ≡ true → (unless_refused o (late c) m row).calls ≡ []
    by (Some e) is = refl
    by None is = absurd (false≢true is)

-- one that found no memory makes no device call
pub quiet_row : (line : Line) (m : Machine) (g : Given) → is_log_line line ≡ true → g.no_memory ≡ true → may_lack line ≡ true → (step m line g).calls ≡ []
unfolding step
quiet_row (w.log a s v) m g h none lacks = lacking m (conditions kind.Log s v m g) (rest kind.Log s v m g) none
quiet_row (w.queue a s v) m g h none lacks = lacking m (conditions kind.Queue s v m g) (rest kind.Queue s v m g) none
quiet_row (w.append a s bytes) m g h none lacks = absurd (false≢true lacks)
quiet_row (w.push a s bytes) m g h none lacks = absurd (false≢true lacks)
quiet_row (w.trim a s n) m g h none lacks = absurd (false≢true lacks)
quiet_row (w.pop a s) m g h none lacks = absurd (false≢true lacks)
quiet_row (w.close a s) m g h none lacks = absurd (false≢true lacks)
quiet_row (w.walk a s n) m g h none lacks = absurd (false≢true lacks)
quiet_row (w.poll a s) m g h none lacks = absurd (false≢true lacks)
quiet_row _ m g h none lacks = absurd (false≢true h)
