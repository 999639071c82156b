-- What a line leaves that is refused once its device calls have told.
use Rattle.std.proofs.Common.{◌≡◌, ℕ, Bool, true, false, not, List, [], ◌∷◌, ◌&&◌, map, refl, sym, ◌∙◌, ap, subst, cond}
use Rattle.std.proofs.lemmas.Bool.{false≢true}
use Rattle.std.specs.Prelude.{Option, Some, None, option_map, find, filter as select, bytes_eq}
use Rattle.std.specs.List.{list_any}
use Rattle.ark_base.specs.Conditions.{Conditions, early, late, when, when_some}
use Rattle.ark_base.specs.declared.kind.Kind.{Kind}
use Rattle.ark_base.specs.declared.refusal.Refusal.{Refusal}
use Rattle.ark_base.specs.declared.refusal.Refusal.TheVariants as r
use Rattle.ark_table.specs.Slots.{Slot}
use Rattle.ark_script.specs.Line as w
use Rattle.ark_script.specs.Line.{Line}
use Rattle.ark_script.specs.declared.said.Said.TheVariants as said
use Rattle.ark_machine.specs.Objects.{Object}
use Rattle.ark_machine.specs.Machine.{Machine, Held, holding, at, serial_at, log_at, each_object, without}
use Rattle.ark_machine.specs.Row.{Row, Given, Ended, answer, unless_refused, has_fault, settled, synced, synced_by, is_sync}
use Rattle.ark_machine.specs.Control.{lets_go}
use Rattle.ark_machine.specs.Logs.{damage_of, found_in}
use Rattle.ark_machine.specs.Plane.{Plane, Change, grows, lowest, slot_of, recorded}
use Rattle.ark_machine.specs.Granting.{after_refusal, change_of, failed_change, plane_after}
use Rattle.ark_machine.specs.Step.{step}
use Rattle.ark_machine.specs.System.{System, machine_of, owner, owned_turn, line_turn}
use Rattle.ark_machine.specs.Refused.{is_told_late, is_gain, is_look, labels}
use Rattle.ark_laws.proofs.Early.{same_refusal, early_not_told}
use Rattle.ark_laws.proofs.Walk.{is_plain}
use Rattle.ark_laws.proofs.Answering.{plain_not_refused}
use Rattle.ark_laws.proofs.Privacy.{own_machine}

-- a late refusal comes with the row's machine
pub late_machine : (m : Machine) (c : Conditions) (row : Row) (x : Refusal) → is_plain row.said ≡ true → (answer m c row).said ≡ said.Refused x → is_told_late x ≡ true
    → ((answer m c row).machine ≡ row.machine) × (late c ≡ Some x)
unfolding answer
late_machine m c row x plain h told = by (early c) (late c) refl h
  where
    by : (one two : Option Refusal) → early c ≡ one → (unless_refused one two m row).said ≡ said.Refused x → ((unless_refused one two m row).machine ≡ row.machine) × (two ≡ Some x)
    by (Some y) two is e = absurd (early_not_told c y is (subst (λ z. is_told_late z ≡ true) (sym (same_refusal y x e)) told))
    by None (Some y) is e = (refl, ap (λ z. Some z) (same_refusal y x e))
    by None None is e = absurd (plain_not_refused row.said x plain e)

faulty : (b : Bool) (x : Refusal) → when b r.DeviceFault None ≡ Some x → b ≡ true
faulty true x h = refl
faulty false x h = absurd cc

-- the list that was found may be damaged
faulty_found : (b : Bool) (d : Option ℕ) → when b r.DeviceFault (when_some d (λ n. r.Damaged n) None) ≡ Some r.DeviceFault → b ≡ true
faulty_found true d h = refl
faulty_found false (Some n) h = absurd cc
faulty_found false None h = absurd cc

-- The rows.

abbrev pub Late : Row → Refusal → Type 0
Late row x = (row.said ≡ said.Refused x) × (is_told_late x ≡ true)

pub vsa_left : (m : Machine) (a s : List ℕ) (n : ℕ) (k : Kind) (g : Given) (x : Refusal) → Late (step m (w.vsa a s n k) g) x → (step m (w.vsa a s n k) g).machine ≡ synced_by g.ended m
unfolding step
vsa_left m a s n k g x h = let e = late_machine m _ _ x refl h.0 h.1 in e.0 ∙ rw (faulty (has_fault g.ended) x e.1) refl

pub grow_left : (m : Machine) (a s : List ℕ) (n : ℕ) (g : Given) (x : Refusal) → Late (step m (w.grow a s n) g) x → (step m (w.grow a s n) g).machine ≡ synced_by g.ended m
unfolding step
grow_left m a s n g x h = let e = late_machine m _ _ x refl h.0 h.1 in e.0 ∙ rw (faulty (has_fault g.ended) x e.1) refl

pub log_left : (m : Machine) (a s v : List ℕ) (g : Given) → (step m (w.log a s v) g).said ≡ said.Refused r.DeviceFault → (step m (w.log a s v) g).machine ≡ synced_by g.ended m
unfolding step
log_left m a s v g h = let e = late_machine m _ _ r.DeviceFault refl h refl in e.0 ∙ rw (faulty_found (has_fault g.ended) (damage_of (found_in (log_at m s))) e.1) refl

pub queue_left : (m : Machine) (a s v : List ℕ) (g : Given) → (step m (w.queue a s v) g).said ≡ said.Refused r.DeviceFault → (step m (w.queue a s v) g).machine ≡ synced_by g.ended m
unfolding step
queue_left m a s v g h = let e = late_machine m _ _ r.DeviceFault refl h refl in e.0 ∙ rw (faulty_found (has_fault g.ended) (damage_of (found_in (log_at m s))) e.1) refl

gain_left : (m : Machine) (line : Line) (g : Given) → is_gain line ≡ true → (step m line g).said ≡ said.Refused r.DeviceFault → (step m line g).machine ≡ synced_by g.ended m
gain_left m (w.vsa a s n k) g is h = vsa_left m a s n k g r.DeviceFault (h, refl)
gain_left m (w.grow a s n) g is h = grow_left m a s n g r.DeviceFault (h, refl)
gain_left m (w.log a s v) g is h = log_left m a s v g h
gain_left m (w.queue a s v) g is h = queue_left m a s v g h
gain_left m _ g is h = absurd (false≢true is)

pub look_left : (m : Machine) (line : Line) (g : Given) (x : Refusal) → is_look line ≡ true → Late (step m line g) x → (step m line g).machine ≡ m
unfolding step
look_left m (w.peek a s off) g x is h = (late_machine m _ _ x refl h.0 h.1).0
look_left m (w.walk a s n) g x is h = (late_machine m _ _ x refl h.0 h.1).0
look_left m _ g x is h = absurd (false≢true is)

pub drop_left : (m : Machine) (a l : List ℕ) (g : Given) (x : Refusal) → Late (step m (w.drop a l) g) x → (step m (w.drop a l) g).machine ≡ synced_by g.ended (each_object (lets_go l (serial_at m l)) (without m l))
unfolding step
drop_left m a l g x h = (late_machine m _ _ x refl h.0 h.1).0

-- Labels.

each_labels : (f : Object → Object) (hs : List Held) → map (λ h. h.label) (map (λ h. holding (f h.object) h) hs) ≡ map (λ h. h.label) hs
each_labels f [] = refl
each_labels f (x ∷ xs) = ap (λ ls. x.label ∷ ls) (each_labels f xs)

pub synced_labels : (m : Machine) (ends : List Ended) → labels (synced_by ends m) ≡ labels m
synced_labels m ends = by (list_any (λ e. e.ok && is_sync e.verb) ends)
  where
    by : (b : Bool) → labels (synced b m) ≡ labels m
    by true = each_labels settled m.held
    by false = refl

-- nothing is at a label that is taken away
gone_from : (l : List ℕ) (f : Object → Object) (hs : List Held) → find (λ h. bytes_eq l h.label) (map (λ h. holding (f h.object) h) (select (λ h. not (bytes_eq l h.label)) hs)) ≡ None
gone_from l f [] = refl
gone_from l f (x ∷ xs) = by (gone_from l f xs) (bytes_eq l x.label) refl
  where
    rest : List Held
    rest = select (λ h. not (bytes_eq l h.label)) xs

    by : find (λ h. bytes_eq l h.label) (map (λ h. holding (f h.object) h) rest) ≡ None → (b : Bool) → bytes_eq l x.label ≡ b
        → find (λ h. bytes_eq l h.label) (map (λ h. holding (f h.object) h) (cond (not b) (x ∷ rest) rest)) ≡ None
    by none true is = none
    by none false is = rw is none

each_gone : (l : List ℕ) (f : Object → Object) (hs : List Held) → find (λ h. bytes_eq l h.label) hs ≡ None → find (λ h. bytes_eq l h.label) (map (λ h. holding (f h.object) h) hs) ≡ None
each_gone l f [] h = refl
each_gone l f (x ∷ xs) h = by (each_gone l f xs) (bytes_eq l x.label) refl h
  where
    by : (find (λ y. bytes_eq l y.label) xs ≡ None → find (λ y. bytes_eq l y.label) (map (λ y. holding (f y.object) y) xs) ≡ None) → (b : Bool) → bytes_eq l x.label ≡ b
        → cond b (Some x) (find (λ y. bytes_eq l y.label) xs) ≡ None → cond b (Some (holding (f x.object) x)) (find (λ y. bytes_eq l y.label) (map (λ y. holding (f y.object) y) xs)) ≡ None
    by next true is e = absurd cc
    by next false is e = next e

dropped_gone : (m : Machine) (l : List ℕ) (ends : List Ended) → at (synced_by ends (each_object (lets_go l (serial_at m l)) (without m l))) l ≡ None
dropped_gone m l ends = by (list_any (λ e. e.ok && is_sync e.verb) ends)
  where
    k : Machine
    k = each_object (lets_go l (serial_at m l)) (without m l)

    by : (b : Bool) → at (synced b k) l ≡ None
    by true = each_gone l settled k.held (gone_from l (lets_go l (serial_at m l)) m.held)
    by false = gone_from l (lets_go l (serial_at m l)) m.held

-- Systems.

some_name : (b a : List ℕ) → ◌≡◌ {A = Option (List ℕ)} (Some b) (Some a) → b ≡ a
some_name b a h = cc

-- what a line of the application leaves, by its row
pub turn_machine : (s : System) (a : List ℕ) (line : Line) (ends : List Ended) (memory : Bool) (k : Machine) → owner line ≡ Some a
    → (step (machine_of s a) line (recorded s.plane line ends memory)).machine ≡ k → machine_of (line_turn s line ends memory).after a ≡ k
turn_machine s a line ends memory k is h =
    subst (λ o. machine_of (owned_turn s line ends memory o).after a ≡ k) (sym is) (own_machine s a line (recorded s.plane line ends memory) ∙ h)

pub turn_said : (s : System) (a : List ℕ) (line : Line) (ends : List Ended) (memory : Bool) (x : Refusal) → owner line ≡ Some a → (line_turn s line ends memory).said ≡ said.Refused x
    → (step (machine_of s a) line (recorded s.plane line ends memory)).said ≡ said.Refused x
turn_said s a line ends memory x is h = subst (λ o. (owned_turn s line ends memory o).said ≡ said.Refused x) is h

-- nothing is gained
pub gain_refused : (s : System) (a : List ℕ) (line : Line) (ends : List Ended) (memory : Bool) → owner line ≡ Some a → is_gain line ≡ true
    → (line_turn s line ends memory).said ≡ said.Refused r.DeviceFault → machine_of (line_turn s line ends memory).after a ≡ synced_by ends (machine_of s a)
gain_refused s a line ends memory is gain h =
    turn_machine s a line ends memory (synced_by ends (machine_of s a)) is (gain_left (machine_of s a) line (recorded s.plane line ends memory) gain (turn_said s a line ends memory r.DeviceFault is h))

-- a label that is given up is gone
pub drop_refused : (s : System) (a l : List ℕ) (ends : List Ended) (memory : Bool) (x : Refusal) → (line_turn s (w.drop a l) ends memory).said ≡ said.Refused x → is_told_late x ≡ true
    → at (machine_of (line_turn s (w.drop a l) ends memory).after a) l ≡ None
drop_refused s a l ends memory x h told =
    let m : Machine = machine_of s a in
    let left = turn_machine s a (w.drop a l) ends memory _ refl (drop_left m a l (recorded s.plane (w.drop a l) ends memory) x (h, told)) in
    subst (λ k. at k l ≡ None) (sym left) (dropped_gone m l ends)

-- a look leaves its machine
pub look_refused : (s : System) (a : List ℕ) (line : Line) (ends : List Ended) (memory : Bool) (x : Refusal) → owner line ≡ Some a → is_look line ≡ true
    → (line_turn s line ends memory).said ≡ said.Refused x → is_told_late x ≡ true → machine_of (line_turn s line ends memory).after a ≡ machine_of s a
look_refused s a line ends memory x is look h told =
    turn_machine s a line ends memory (machine_of s a) is (look_left (machine_of s a) line (recorded s.plane line ends memory) x look (turn_said s a line ends memory x is h, told))

-- Slots.

abbrev IsGrantChange : Plane → Option Change → Type 0
IsGrantChange p c = (failed_change p c).slots ≡ p.slots

grow_slots : (p : Plane) (n : ℕ) (o : Option Slot) → IsGrantChange p (option_map (λ t. grows t (lowest p n)) o)
grow_slots p n None = refl
grow_slots p n (Some t) = refl

gain_slots : (p : Plane) (m : Machine) (line : Line) → is_gain line ≡ true → IsGrantChange p (change_of p m line)
gain_slots p m (w.vsa a s n k) is = refl
gain_slots p m (w.grow a s n) is = grow_slots p n (slot_of p a s)
gain_slots p m (w.log a s v) is = refl
gain_slots p m (w.queue a s v) is = refl
gain_slots p m _ is = absurd (false≢true is)

refused_slots : (p : Plane) (x : Refusal) (c : Option Change) → IsGrantChange p c → (after_refusal p x c).slots ≡ p.slots
refused_slots p r.DeviceFault c h = h
refused_slots p _ c h = refl

-- no slot is granted, and none has more blocks
pub gain_no_slot : (s : System) (a : List ℕ) (line : Line) (ends : List Ended) (memory : Bool) (x : Refusal) → owner line ≡ Some a → is_gain line ≡ true
    → (line_turn s line ends memory).said ≡ said.Refused x → (line_turn s line ends memory).after.plane.slots ≡ s.plane.slots
gain_no_slot s a line ends memory x is gain h =
    subst (λ o. (owned_turn s line ends memory o).after.plane.slots ≡ s.plane.slots) (sym is)
    (subst (λ y. (plane_after s.plane (machine_of s a) line y).slots ≡ s.plane.slots) (sym (turn_said s a line ends memory x is h))
    (refused_slots s.plane x (change_of s.plane (machine_of s a) line) (gain_slots s.plane (machine_of s a) line gain)))
