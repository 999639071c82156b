-- The row of a word that opens a log or queue.
use Rattle.std.proofs.Common.{◌≡◌, ℕ, Bool, true, false, not, ◌||◌, List, [], ◌∷◌, length, refl, ◌∙◌, ap, bytes_eq}
use Rattle.std.specs.Prelude.{Option, Some, None, Err, if◌then◌else◌, is_none, is_some}
use Rattle.ark_base.specs.Conditions.{Conditions, none, early, late}
use Rattle.ark_base.specs.declared.kind.Kind.{Kind}
use Rattle.ark_base.specs.declared.refusal.Refusal.{Refusal}
use Rattle.ark_base.specs.declared.refusal.Refusal.TheVariants as r
use Rattle.ark_entry.specs.Found.{Entries, Found, damaged, found}
use Rattle.ark_caladan.specs.Chain.{Log, entries, stored}
use Rattle.ark_script.specs.declared.said.Said.TheVariants as said
use Rattle.ark_machine.specs.Objects
use Rattle.ark_machine.specs.Objects.{Object, Vsic, held_in}
use Rattle.ark_machine.specs.Machine.{Machine, Held, at, log_at, missing, room_for, serial_at, vsic_at, with_log, with_object, with_vsic}
use Rattle.ark_machine.specs.Row.{Given, Row, answer, has_fault, says, synced_by}
use Rattle.ark_machine.specs.Cards.{bound_with}
use Rattle.ark_machine.specs.Logs.{chain_at, damage_of, found_entries, found_in, is_card_busy, open_row, opened_machine, opened_of, opened_on, opening, opening_calls}
use Rattle.ark_held.proofs.Effects.{at_other}
use Rattle.ark_own.proofs.Looked.{Looked}

module _ (k : Kind) (s v : List ℕ) where
  abbrev pub other : Machine → Bool
  other m = is_none (chain_at m s k) || is_none (vsic_at m v)

  abbrev pub is_busy : Machine → Bool
  is_busy m = is_some (opened_of (log_at m s)) || is_card_busy m v

  abbrev pub conditions : Machine → Given → Conditions
  conditions m g = record none {
    no_application = not m.made;
    no_grant = missing m (s ∷ v ∷ []);
    wrong_kind = other m;
    busy = is_busy m;
    no_buffer = is_none (room_for m 1);
    no_memory = g.no_memory;
    device_fault = has_fault g.ended;
    damaged = damage_of (found_in (log_at m s));
  }

  -- where it comes to its device calls
  abbrev pub rest : Machine → Given → Row
  rest m g = record {
    machine = opened_machine m s v g;
    said = said.Pair (found_entries m s).first (length (found_entries m s).payloads);
    bytes = [];
    calls = opening_calls s (found_in (log_at m s));
  }

  pub first_refused : (m : Machine) (g : Given) (e : Refusal) → early (conditions m g) ≡ Some e → open_row k m s v g ≡ says m (said.Refused e)
  unfolding answer
  first_refused m g e is = rw is refl

  -- where nothing is refused
  passes : (m : Machine) (c : Conditions) (row : Row) → early c ≡ None → late c ≡ None → answer m c row ≡ row
  unfolding answer
  passes m c row first later = rw (first, later) refl

  pub not_found : (A : Type 0) (m : Machine) (g : Given) (e : Refusal) → m.made ≡ true → Looked {A = A} m (s ∷ v ∷ []) (other m) (Err e) → early (conditions m g) ≡ Some e
  not_found A m g (r.NoGrant l) made x = rw (made, x) refl
  not_found A m g r.WrongKind made x = rw (made, x.0, x.1) refl
  not_found A m g _ made x = absurd x

  module _ (m : Machine) (made : m.made ≡ true) (there : missing m (s ∷ v ∷ []) ≡ None) (kinds : other m ≡ false) where
    pub busy : (g : Given) → is_busy m ≡ true → early (conditions m g) ≡ Some r.Busy
    busy g is = rw (made, there, kinds, is) refl

    module _ (free : is_busy m ≡ false) where
      pub no_room : (g : Given) → room_for m 1 ≡ None → early (conditions m g) ≡ Some r.NoBuffer
      no_room g is = rw (made, there, kinds, free, is) refl

      module _ (start : ℕ) (room : room_for m 1 ≡ Some start) where
        pub no_memory : (g : Given) → g.no_memory ≡ true → early (conditions m g) ≡ Some r.NoMemory
        no_memory g is = rw (made, there, kinds, free, room, is) refl

        -- a device call failed
        pub fault_row : (g : Given) → g.no_memory ≡ false → has_fault g.ended ≡ true → open_row k m s v g ≡ record { machine = synced_by g.ended m; said = said.Refused r.DeviceFault; bytes = []; calls = opening_calls s (found_in (log_at m s)) }
        unfolding answer
        fault_row g enough fault = rw (made, there, kinds, free, room, enough, fault) refl

        -- the list is damaged
        pub damaged_row : (g : Given) (n : ℕ) → g.no_memory ≡ false → has_fault g.ended ≡ false → found_in (log_at m s) ≡ damaged n
            → open_row k m s v g ≡ record { machine = m; said = said.Refused (r.Damaged n); bytes = []; calls = opening_calls s (damaged n) }
        unfolding answer
        damaged_row g n enough well is = rw (made, there, kinds, free, room, enough, well, is) refl

        -- it is opened
        pub done_row : (g : Given) (l : Entries) (log : Log) (held : Held) (vsic : Vsic) (card : Held) → g.no_memory ≡ false → has_fault g.ended ≡ false → at m s ≡ Some held → held.object ≡ Objects.log log → at m v ≡ Some card → card.object ≡ Objects.vsic vsic → bytes_eq s v ≡ false
            → stored log ≡ found l → open_row k m s v g ≡ record {
              machine = synced_by g.ended (with_object (with_object m s (Objects.log (opening v (Some start) log))) v (Objects.vsic (bound_with held.serial vsic)));
              said = said.Pair l.first (length l.payloads);
              bytes = [];
              calls = opening_calls s (found l);
            }
        done_row g l log held vsic card enough well at_s object_s at_v object_v apart is =
            passes m (conditions m g) (rest m g) (rw (made, there, kinds, free, room, enough) refl) (rw (well, stands) refl)
            ∙ (λ i. record { machine = machine i; said = said.Pair (entries (stands i)).first (length (entries (stands i)).payloads); bytes = []; calls = opening_calls s (stands i) })
          where
            stands : found_in (log_at m s) ≡ found l
            stands = rw (at_s, object_s) is

            logged : with_log m s (opening v (room_for m 1)) ≡ with_object m s (Objects.log (opening v (Some start) log))
            logged = rw (at_s, object_s) (ap (λ (o : Option ℕ). with_object m s (Objects.log (opening v o log))) room)

            bound : (n : Machine) (f : Vsic → Vsic) → at n v ≡ Some card → with_vsic n v f ≡ with_object n v (Objects.vsic (f vsic))
            bound n f there = rw (there, object_v) refl

            serial : serial_at m s ≡ held.serial
            serial = rw at_s refl

            opened : opened_on m s v ≡ with_object (with_object m s (Objects.log (opening v (Some start) log))) v (Objects.vsic (bound_with held.serial vsic))
            opened =
                ap (λ (n : Machine). with_vsic n v (bound_with (serial_at m s))) logged
                ∙ bound (with_object m s (Objects.log (opening v (Some start) log))) (bound_with (serial_at m s)) (at_other m s v (Objects.log (opening v (Some start) log)) apart ∙ at_v)
                ∙ ap (λ n. with_object (with_object m s (Objects.log (opening v (Some start) log))) v (Objects.vsic (bound_with n vsic))) serial

            by_machine : (p q : Bool) → p ≡ false → q ≡ false → (if p then synced_by g.ended m else if q then m else synced_by g.ended (opened_on m s v)) ≡ synced_by g.ended (opened_on m s v)
            by_machine p q e f = rw (e, f) refl

            machine : opened_machine m s v g ≡ synced_by g.ended (with_object (with_object m s (Objects.log (opening v (Some start) log))) v (Objects.vsic (bound_with held.serial vsic)))
            machine = by_machine (has_fault g.ended) (is_some (damage_of (found_in (log_at m s)))) well (ap (λ (x : Found). is_some (damage_of x)) stands) ∙ ap (λ (n : Machine). synced_by g.ended n) opened
