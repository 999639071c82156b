-- What a stop may leave of an application's areas once a line of its own has synced.
use Rattle.std.proofs.Common.{◌≡◌, ℕ, zero, suc, Bool, true, false, ◌||◌, List, [], ◌∷◌, map, refl, sym, ◌∙◌, ap, subst, arith, if◌then◌else◌}
use Rattle.std.proofs.lemmas.Bool.{false≢true}
use Rattle.std.specs.Prelude.{Option, Some, None, is_some, Contains, option_map, option_and_then}
use Rattle.ark_base.specs.Conditions.{Conditions, early, late}
use Rattle.ark_base.specs.declared.refusal.Refusal.{Refusal}
use Rattle.ark_entry.specs.Found.{Found, found, damaged}
use Rattle.ark_caladan.specs.Chain.{syncing}
use Rattle.ark_script.specs.Line as w
use Rattle.ark_script.specs.Line.{Line}
use Rattle.ark_machine.specs.Objects
use Rattle.ark_machine.specs.Objects.{Object, Raw, as_raw}
use Rattle.ark_machine.specs.Machine.{Machine, object_at, raw_at, log_at, each_object}
use Rattle.ark_machine.specs.Row.{Row, Given, Ended, Call, syncs, reads_some, has_fault, settled, synced, synced_by, answer, unless_refused}
use Rattle.ark_machine.specs.Logs.{opening_calls, opened_on, damage_of, found_in}
use Rattle.ark_machine.specs.Plane.{recorded}
use Rattle.ark_machine.specs.Step.{step}
use Rattle.ark_machine.specs.System.{System, machine_of, owner, owned_turn, line_turn}
use Rattle.ark_machine.specs.Refused.{is_gain, gives_up}
use Rattle.ark_laws.proofs.Contents.{has_synced}
use Rattle.ark_laws.proofs.Faults.{turn_machine}
use Rattle.ark_laws.proofs.Setting.{each_found}

-- a row with a device call leaves its machine, and has the call
called : (m : Machine) (c : Conditions) (row : Row) (x : Call) → Contains (answer m c row).calls x → ((answer m c row).machine ≡ row.machine) × Contains row.calls x
unfolding answer
called m c row x = by (early c) (late c)
  where
    by : (one two : Option Refusal) → Contains (unless_refused one two m row).calls x → ((unless_refused one two m row).machine ≡ row.machine) × Contains row.calls x
    by (Some y) two h = absurd (omega (arith, h.1))
    by None (Some y) h = (refl, h)
    by None None h = (refl, h)

-- the machine has heeded a sync at its end
abbrev IsHeeded : Machine → List Ended → Type 0
IsHeeded m ends = (k : Machine) × (m ≡ synced_by ends k)

-- a damaged log is read, and no more
reads_alone : (s : List ℕ) → Contains (reads_some s ∷ []) syncs → ⊥
reads_alone s (zero, lt, same) = cc (same)
reads_alone s (suc k, lt, same) = absurd (omega (arith, lt))

opened : (b : Bool) (f : Found) (s : List ℕ) (m k : Machine) (ends : List Ended) → Contains (opening_calls s f) syncs → IsHeeded (if b then synced_by ends m else if is_some (damage_of f) then m else synced_by ends k) ends
opened true f s m k ends h = (m, refl)
opened false (damaged n) s m k ends h = absurd (reads_alone s h)
opened false (found l) s m k ends h = (k, refl)

heeded_by : (m n : Machine) (ends : List Ended) → m ≡ n → IsHeeded n ends → IsHeeded m ends
heeded_by m n ends same h = (h.0, same ∙ h.1)

heeds : (m : Machine) (line : Line) (g : Given) → (is_gain line || gives_up line) ≡ true → Contains (step m line g).calls syncs → IsHeeded (step m line g).machine g.ended
unfolding step
heeds m (w.vsa a s n k) g is h = (_, (called m _ _ syncs h).0)
heeds m (w.grow a s n) g is h = (_, (called m _ _ syncs h).0)
heeds m (w.log a s v) g is h = let c = called m _ _ syncs h in heeded_by _ _ g.ended c.0 (opened (has_fault g.ended) (found_in (log_at m s)) s m (opened_on m s v) g.ended c.1)
heeds m (w.queue a s v) g is h = let c = called m _ _ syncs h in heeded_by _ _ g.ended c.0 (opened (has_fault g.ended) (found_in (log_at m s)) s m (opened_on m s v) g.ended c.1)
heeds m (w.drop a x) g is h = (_, (called m _ _ syncs h).0)
heeds m _ g is h = absurd (false≢true is)

-- then each area that it holds has but one content for each block
pub settled_is : (o : Option Object) (x : Raw) → option_and_then as_raw (option_map settled o) ≡ Some x → x.maybe ≡ map (λ b. b ∷ []) x.content
settled_is None x h = absurd cc
settled_is (Some (Objects.raw y)) x h = subst (λ (z : Raw). z.maybe ≡ map (λ b. b ∷ []) z.content) (the_raw (record y { maybe = map (λ b. b ∷ []) y.content }) x h) refl
  where
    the_raw : (y x : Raw) → ◌≡◌ {A = Option Raw} (Some y) (Some x) → y ≡ x
    the_raw y x h = cc
settled_is (Some _) x h = absurd cc

pub synced_line : (s : System) (a : List ℕ) (line : Line) (ends : List Ended) (memory : Bool) (e : Ended) → owner line ≡ Some a → (is_gain line || gives_up line) ≡ true → Contains (line_turn s line ends memory).calls syncs
    → Contains ends e → e.ok ≡ true → e.verb ≡ syncing → (l : List ℕ) (x : Raw) → raw_at (machine_of (line_turn s line ends memory).after a) l ≡ Some x → x.maybe ≡ map (λ b. b ∷ []) x.content
synced_line s a line ends memory e is kind calls there ok verb l x has =
    let g : Given = recorded s.plane line ends memory in
    let own : Contains (step (machine_of s a) line g).calls syncs = subst (λ o. Contains (owned_turn s line ends memory o).calls syncs) is calls in
    let heeded : IsHeeded (step (machine_of s a) line g).machine ends = heeds (machine_of s a) line g kind own in
    let left : machine_of (line_turn s line ends memory).after a ≡ synced_by ends heeded.0 = turn_machine s a line ends memory (synced_by ends heeded.0) is heeded.1 in
    let all : synced_by ends heeded.0 ≡ each_object settled heeded.0 = ap (λ b. synced b heeded.0) (has_synced ends e there ok verb) in
    let there : option_and_then as_raw (option_map settled (object_at heeded.0 l)) ≡ Some x =
    ap (λ o. option_and_then as_raw o) (sym (each_found settled l heeded.0.held)) ∙ (ap (λ (k : Machine). raw_at k l) (sym (left ∙ all)) ∙ has) in
    settled_is (object_at heeded.0 l) x there
