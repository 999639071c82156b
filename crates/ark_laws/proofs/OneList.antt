-- From the start of a run on, the plane lists just the filters that the machines hold.
use Rattle.std.proofs.Common.{◌≡◌, inr, ℕ, Bool, true, false, List, [], ◌∷◌, ◌++◌, refl, sym, ◌∙◌, ap, subst, cond}
use Rattle.std.specs.Prelude.{Option, Some, None, option_map, option_and_then, find, unwrap_or, bytes_eq, is_some}
use Rattle.std.specs.List.{AllByRecursion}
use Rattle.ark_base.specs.declared.kind.Kind.{Kind}
use Rattle.ark_base.specs.declared.kind.Kind.TheVariants as kind
use Rattle.ark_media.specs.Journal.{Event}
use Rattle.ark_filters.specs.declared.filter.Filter.{Filter}
use Rattle.ark_table.specs.Slots.{Slot}
use Rattle.ark_script.specs.Line as w
use Rattle.ark_script.specs.Line.{Line}
use Rattle.ark_machine.specs.Machine.{Machine, Held, vnic_at, unmade}
use Rattle.ark_machine.specs.Plane.{recorded}
use Rattle.ark_machine.specs.Network.{arrive}
use Rattle.ark_machine.specs.Step.{step}
use Rattle.ark_machine.specs.Follow.{PerformsFor, ends_of}
use Rattle.ark_machine.specs.Start.{stored_area, contents_at, with_slot, with_stored, all_stored, start_system}
use Rattle.ark_machine.specs.System.{System, listed_machine, machine_of, owner, arrival_turn, tick_turn, owned_turn, line_turn, fresh_system}
use Rattle.ark_machine.specs.Filters.{as_assigned, held_at, FiltersAgree}
use Rattle.ark_laws.proofs.Listed.{unmade_at, unlisted_machine, ticked_machine, set_here, set_there}
use Rattle.ark_laws.proofs.Privacy.{own_machine}
use Rattle.ark_laws.proofs.SeenMoves.{arrive_sees}
use Rattle.ark_laws.proofs.Keeping.{keeps_of, kept, changes_list, plane_filters}
use Rattle.ark_laws.proofs.Agreeing.{row_keeps, filter_agrees, use_agrees}
use Rattle.ark_laws.proofs.Dropping.{drop_kept, drop_calls}
use Rattle.ark_laws.proofs.Turns.{each_turn}

-- Lines of no application.

arrival_agrees : (s : System) (a v frame : List ℕ) → FiltersAgree s → FiltersAgree (arrival_turn s a (arrive a (machine_of s a) v frame)).after
arrival_agrees s a v frame h =
    let n : Machine = (arrive a (machine_of s a) v frame).machine in
    kept s (arrival_turn s a (arrive a (machine_of s a) v frame)).after a n
    (set_here s.machines s.now a n (λ lacks. inr (subst (λ m. (arrive a m v frame).machine ≡ unmade_at s.now) (sym (unlisted_machine s.machines s.now a lacks)) refl)))
    (λ b apart. set_there s.machines s.now b a n apart) refl (keeps_of (arrive_sees a (machine_of s a) v frame)) h

tick_agrees : (s : System) (n : ℕ) → FiltersAgree s → FiltersAgree (tick_turn s n).after
tick_agrees s n h = record {
  same = λ a l. h.same a l ∙ ap (λ m. held_at m l) (sym (ticked_machine s.machines s.now n a));
  once = h.once;
  cards = λ a l v rule. subst (λ m. held_at m l ≡ Some (rule, Some v) → is_some (vnic_at m v) ≡ true) (sym (ticked_machine s.machines s.now n a)) (h.cards a l v rule);
}

-- Lines of an application.

plain_agrees : (s : System) (line : Line) (es : List Event) (memory : Bool) → changes_list line ≡ false → FiltersAgree s → FiltersAgree (line_turn s line (ends_of es) memory).after
plain_agrees s line es memory plain h = each_turn (λ t. FiltersAgree t.after) s line (ends_of es) memory (record {
  own = λ a is.
      let n : Machine = (step (machine_of s a) line (recorded s.plane line (ends_of es) memory)).machine in
      kept s (owned_turn s line (ends_of es) memory (Some a)).after a n (own_machine s a line (recorded s.plane line (ends_of es) memory)) (λ b apart. set_there s.machines s.now b a n apart)
      (plane_filters s.plane (machine_of s a) line (step (machine_of s a) line (recorded s.plane line (ends_of es) memory)).said plain)
      (row_keeps (machine_of s a) line (recorded s.plane line (ends_of es) memory) plain) h;
  ticks = λ n is. tick_agrees s n h;
  given = λ own is. record { same = h.same; once = h.once; cards = h.cards };
  arrives = λ frame own f is addressed found. arrival_agrees s f.owner (unwrap_or f.card []) frame h;
  quiet = λ reply q. h;
})

pub line_agrees : (s : System) (line : Line) (es : List Event) (memory : Bool) → FiltersAgree s → PerformsFor s line (line_turn s line (ends_of es) memory).calls es (owner line)
    → FiltersAgree (line_turn s line (ends_of es) memory).after
line_agrees s (w.filter a f rule) es memory h made = filter_agrees s a f rule (recorded s.plane (w.filter a f rule) (ends_of es) memory) h
line_agrees s (w.assign a v f) es memory h made = use_agrees s a v f (recorded s.plane (w.assign a v f) (ends_of es) memory) h
line_agrees s (w.drop a x) es memory h made =
    drop_kept s a x (recorded s.plane (w.drop a x) (ends_of es) memory) h (drop_calls s a x (recorded s.plane (w.drop a x) (ends_of es) memory) es made)
line_agrees s line es memory h made = plain_agrees s line es memory refl h

-- The start of a run.

pub fresh_agrees : (size : ℕ) → FiltersAgree (fresh_system size)
fresh_agrees size = record { same = λ a l. refl; once = tt; cards = λ a l v rule e. absurd cc }

-- a machine that holds no filter
abbrev Unfiltered : Machine → Type 0
Unfiltered m = AllByRecursion (λ h. as_assigned h.object ≡ None) m.held

none_held : (q : Held → Bool) (hs : List Held) → AllByRecursion (λ h. as_assigned h.object ≡ None) hs → option_and_then as_assigned (option_map (λ h. h.object) (find q hs)) ≡ None
none_held q [] h = refl
none_held q (x ∷ xs) h = elim (q x) as (λ t. option_and_then as_assigned (option_map (λ y. y.object) (cond t (Some x) (find q xs))) ≡ None) [ true ↦ h.0 | false ↦ none_held q xs h.1 ]

none_more : (hs : List Held) (x : Held) → AllByRecursion (λ h. as_assigned h.object ≡ None) hs → as_assigned x.object ≡ None → AllByRecursion (λ h. as_assigned h.object ≡ None) (hs ++ x ∷ [])
none_more [] x h k = (k, tt)
none_more (y ∷ ys) x h k = (h.0, none_more ys x h.1 k)

stored_plain : (k : Kind) (blocks : List (List ℕ)) → as_assigned (stored_area k blocks) ≡ None
stored_plain kind.Raw blocks = refl
stored_plain kind.Log blocks = refl
stored_plain kind.Queue blocks = refl

slot_plain : (image : List (List ℕ)) (m : Machine) (t : Slot) → Unfiltered m → Unfiltered (with_slot image m t)
slot_plain image m t h = none_more m.held (record { label = t.label; serial = m.serial; object = stored_area t.kind (contents_at image t.blocks) }) h (stored_plain t.kind (contents_at image t.blocks))

abbrev AllUnfiltered : List (List ℕ × Machine) → Type 0
AllUnfiltered ms = AllByRecursion (λ p. Unfiltered p.1) ms

one_stored : (image : List (List ℕ)) (ms : List (List ℕ × Machine)) (t : Slot) → AllUnfiltered ms → AllUnfiltered (with_stored image ms t)
one_stored image [] t h = (slot_plain image unmade t tt, tt)
one_stored image (p ∷ ps) t h = elim (bytes_eq t.app p.0) as (λ b. AllUnfiltered (cond b ((p.0, with_slot image p.1 t) ∷ ps) (p ∷ with_stored image ps t))) [
  | true ↦ (slot_plain image p.1 t h.0, h.1)
  | false ↦ (h.0, one_stored image ps t h.1)
]

every_stored : (image : List (List ℕ)) (ms : List (List ℕ × Machine)) (ts : List Slot) → AllUnfiltered ms → AllUnfiltered (all_stored image ms ts)
every_stored image ms [] h = h
every_stored image ms (t ∷ ts) h = every_stored image (with_stored image ms t) ts (one_stored image ms t h)

listed_plain : (ms : List (List ℕ × Machine)) (now : ℕ) (a : List ℕ) → AllUnfiltered ms → Unfiltered (listed_machine ms now a)
listed_plain [] now a h = tt
listed_plain (p ∷ ps) now a h = elim (bytes_eq a p.0) as (λ t. Unfiltered (unwrap_or (option_map (λ q. q.1) (cond t (Some p) (find (λ q. bytes_eq a q.0) ps))) (record unmade { now = now }))) [
  | true ↦ h.0
  | false ↦ listed_plain ps now a h.1
]

start_holds : (image : List (List ℕ)) (slots : List Slot) (a l : List ℕ) → held_at (machine_of (start_system image slots) a) l ≡ None
start_holds image slots a l = none_held (λ h. bytes_eq l h.label) (machine_of (start_system image slots) a).held (listed_plain (all_stored image [] slots) 0 a (every_stored image [] slots tt))

pub start_agrees : (image : List (List ℕ)) (slots : List Slot) → FiltersAgree (start_system image slots)
start_agrees image slots = record {
  same = λ a l. sym (start_holds image slots a l);
  once = tt;
  cards = λ a l v rule e. absurd (none_some rule v (sym (start_holds image slots a l) ∙ e));
}
  where
    none_some : (rule : Filter) (v : List ℕ) → ◌≡◌ {A = Option (Filter × Option (List ℕ))} None (Some (rule, Some v)) → ⊥
    none_some rule v e = cc e
