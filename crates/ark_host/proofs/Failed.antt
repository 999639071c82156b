-- Once a change of the table failed, no line begins to add a block or to make a slot.
use Rattle.std.proofs.Common.{◌≡◌, ℕ, Bool, true, false, List, [], ◌∷◌, refl, sym, ◌∙◌, ap}
use Rattle.std.specs.Prelude.{Option, Some, None, Ok, Err, is_some, option_map}
use Rattle.std.proofs.lemmas.Bool.{false≢true}
use Rattle.ark_base.specs.Conditions.{Conditions, early, late, when, when_some}
use Rattle.ark_base.specs.declared.kind.Kind.{Kind}
use Rattle.ark_base.specs.declared.refusal.Refusal.{Refusal}
use Rattle.ark_base.specs.declared.refusal.Refusal.TheVariants as r
use Rattle.ark_media.specs.Journal.{Event}
use Rattle.ark_table.specs.Slots.{Slot}
use Rattle.ark_script.specs.Line as w
use Rattle.ark_script.specs.Line.{Line}
use Rattle.ark_script.specs.Lines.{Meaning}
use Rattle.ark_machine.specs.Objects.{Object}
use Rattle.ark_machine.specs.Machine.{Machine, object_at}
use Rattle.ark_machine.specs.Row.{Row, Call, answer, unless_refused}
use Rattle.ark_machine.specs.Step.{step}
use Rattle.ark_machine.specs.Plane.{Change, drops, asked, slot_of}
use Rattle.ark_machine.specs.Granting.{change_of}
use Rattle.ark_machine.specs.System.{System, machine_of, owner, line_turn}
use Rattle.ark_machine.specs.Recovers.{begun, begun_by, begun_with, is_new, is_new_block}
use Rattle.ark_machine.specs.Stopped.{begun_in}
use Rattle.ark_plane.proofs.Tests.{by_test}

-- Where the table has failed a line has an early refusal.

or_later : (b : Bool) (x : Refusal) (later : Option Refusal) → is_some later ≡ true → is_some (when b x later) ≡ true
or_later true x later is = refl
or_later false x later is = is

or_some : {A : Type 0} (o : Option A) (x : A → Refusal) (later : Option Refusal) → is_some later ≡ true → is_some (when_some o x later) ≡ true
or_some (Some a) x later is = refl
or_some None x later is = is

here : (b : Bool) (x : Refusal) (later : Option Refusal) → b ≡ true → is_some (when b x later) ≡ true
here true x later is = refl
here false x later is = absurd (false≢true is)

failed_early : (c : Conditions) → c.table_failed ≡ true → is_some (early c) ≡ true
failed_early c failed =
    or_later c.too_long r.TooLong _ (
    or_later c.unknown_word r.UnknownWord _ (
    or_later c.syntax_fault r.Syntax _ (
    or_later c.no_application r.NoApplication _ (
    or_later c.name_taken r.NameTaken _ (
    or_some c.no_grant (λ l. r.NoGrant l) _ (
    or_later c.wrong_kind r.WrongKind _ (
    or_later c.limit r.Limit _ (
    or_later c.no_nic r.NoNic _ (
    or_later c.out_of_range r.OutOfRange _ (
    here c.table_failed r.TableFailed _ failed))))))))))

no_calls : (o p : Option Refusal) (m : Machine) (row : Row) → is_some o ≡ true → (unless_refused o p m row).calls ≡ []
no_calls (Some e) p m row is = refl
no_calls None p m row is = absurd (false≢true is)

quiet : (m : Machine) (c : Conditions) (row : Row) → c.table_failed ≡ true → (answer m c row).calls ≡ []
unfolding answer
quiet m c row failed = no_calls (early c) (late c) m row (failed_early c failed)

-- A test of changes that holds neither of none nor of one that removes a slot.
module _ (test : Option Change → Bool) (silent : test None ≡ false) (drop_none : (u : Slot) (x : Option Object) → test (Some (drops u x)) ≡ false) (s : System) (failed : s.plane.failed ≡ true) where
  with_none : (line : Line) (a : List ℕ) (cs : List Call) → cs ≡ [] → test (begun_with s line a cs) ≡ false
  with_none line a cs none = ap (λ (xs : List Call). test (begun_with s line a xs)) none ∙ silent

  vsa_none : (a l : List ℕ) (k : ℕ) (z : Kind) → test (begun_by s (w.vsa a l k z) (owner (w.vsa a l k z))) ≡ false
  unfolding step
  vsa_none a l k z = with_none (w.vsa a l k z) a (line_turn s (w.vsa a l k z) [] false).calls (quiet (machine_of s a) _ _ failed)

  grow_none : (a l : List ℕ) (k : ℕ) → test (begun_by s (w.grow a l k) (owner (w.grow a l k))) ≡ false
  unfolding step
  grow_none a l k = with_none (w.grow a l k) a (line_turn s (w.grow a l k) [] false).calls (quiet (machine_of s a) _ _ failed)

  -- a line that asks for blocks makes no call
  asking : (line : Line) → is_some (asked line) ≡ true → test (begun_by s line (owner line)) ≡ false
  asking (w.vsa a l k z) asks = vsa_none a l k z
  asking (w.grow a l k) asks = grow_none a l k
  asking _ asks = absurd (false≢true asks)

  -- and no other one adds any
  removal : (x : Option Object) (o : Option Slot) → test (option_map (λ u. drops u x) o) ≡ false
  removal x None = silent
  removal x (Some u) = drop_none u x

  change_none : (m : Machine) (line : Line) → is_some (asked line) ≡ false → test (change_of s.plane m line) ≡ false
  change_none m (w.vsa a l k z) none = absurd (false≢true (sym none))
  change_none m (w.grow a l k) none = absurd (false≢true (sym none))
  change_none m (w.drop a x) none = removal (object_at m x) (slot_of s.plane a x)
  change_none m _ none = silent

  by_calls : (line : Line) (a : List ℕ) (cs : List Call) → is_some (asked line) ≡ false → test (begun_with s line a cs) ≡ false
  by_calls line a [] none = silent
  by_calls line a (c ∷ cs) none = change_none (machine_of s a) line none

  by_owner : (line : Line) (o : Option (List ℕ)) → is_some (asked line) ≡ false → test (begun_by s line o) ≡ false
  by_owner line None none = silent
  by_owner line (Some a) none = by_calls line a (line_turn s line [] false).calls none

  none_begun : (m : Option Meaning) → test (begun s m) ≡ false
  none_begun None = silent
  none_begun (Some (Err e)) = silent
  none_begun (Some (Ok line)) = by_test (is_some (asked line)) (λ b. is_some (asked line) ≡ b → test (begun_by s line (owner line)) ≡ false)
      (λ asks q. asking line q) (λ quiet q. by_owner line (owner line) q) refl

  none_adding : (m : Option Meaning) (es : List Event) → test (begun_in s m es) ≡ false
  none_adding m [] = silent
  none_adding m (e ∷ es) = none_begun m

pub none_new : (s : System) (n : ℕ) → s.plane.failed ≡ true → (m : Option Meaning) (es : List Event) → is_new_block n (begun_in s m es) ≡ false
none_new s n failed = none_adding (is_new_block n) refl (λ u x. refl) s failed

pub none_made_since : (s : System) (t : Slot) → s.plane.failed ≡ true → (m : Option Meaning) (es : List Event) → is_new t (begun_in s m es) ≡ false
none_made_since s t failed = none_adding (is_new t) refl (λ u x. refl) s failed
