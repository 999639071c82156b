-- The device calls that are made for one log: they leave its application as it was, but for that log, and what a sync settles.
use Rattle.std.proofs.Common.{◌≡◌, ℕ, ◌<◌, Bool, true, false, not, ◌&&◌, List, [], ◌∷◌, ◌++◌, length, map, refl, sym, ◌∙◌, ap, subst, bytes_eq, Contains}
use Rattle.std.specs.Prelude.{Some}
use Rattle.std.specs.List.{list_any}
use Rattle.std.proofs.lemmas.Bool.{false≢true}
use Rattle.std.proofs.lemmas.List.{map-id}
use Rattle.ark_media.specs.Journal.{Event, Read, Write, Sync, Out, History}
use Rattle.ark_media.specs.Standing.{after}
use Rattle.ark_caps.specs.Labels.{value_at}
use Rattle.ark_caps.specs.declared.capability.Capability.{Capability}
use Rattle.ark_caladan.specs.Chain.{Log}
use Rattle.ark_table.specs.Slots.{Slot}
use Rattle.ark_machine.specs.Objects
use Rattle.ark_machine.specs.Objects.{Object, Raw}
use Rattle.ark_machine.specs.Machine.{Machine, Held, at, object_at, holding, each_object}
use Rattle.ark_machine.specs.Row.{Ended, settled, synced, synced_by, is_sync}
use Rattle.ark_machine.specs.Follow.{ends_of}
use Rattle.ark_machine.specs.Control.{is_open_on, is_socket_on}
use Rattle.ark_held.specs.Totals.{bit, total, uses, cover_count}
use Rattle.ark_held.specs.Around.{Around, slot_at}
use Rattle.ark_held.specs.Areas.{IsLog, OpensToLists}
use Rattle.ark_held.specs.Beside.{AreBeside}
use Rattle.ark_held.specs.Beyond.{Beyond, around}
use Rattle.ark_held.specs.Does.{IsSited, LogsAtFronts}
use Rattle.ark_held.specs.Held.{IsObjectOf, Matches, Holds}
use Rattle.ark_held.specs.Keeps.{SameAt}
use Rattle.ark_held.specs.declared.app.App.{App}
use Rattle.ark_held.proofs.Lists.{by_test, same_name, other_name, some_same}
use Rattle.ark_held.proofs.Besides.{same_beside}
use Rattle.ark_held.proofs.Creating.{but}
use Rattle.ark_held.proofs.Effects.{at_each, settles_holds, sync_holds, read_holds}
use Rattle.ark_held.proofs.Finding.{found_there}
use Rattle.ark_held.proofs.Fronts.{front_beside, log_opens, shows_beside}
use Rattle.ark_held.proofs.Members.{In}
use Rattle.ark_held.proofs.Granted.{not_but}
use Rattle.ark_held.proofs.Logged.{Reaches, relogged}
use Rattle.ark_held.proofs.Opens.{stays_same}

-- a call for the log in these blocks came to this: a read, a write of one of them, or a sync
abbrev pub IsOfLog : List ℕ → Event → Type 0
IsOfLog blocks (Read n ok) = Unit {0}
IsOfLog blocks (Write n content took ok) = Contains blocks n
IsOfLog blocks (Sync ok) = Unit {0}
IsOfLog blocks (Out bytes) = ⊥

abbrev pub AreOfLog : List ℕ → List Event → Type 0
AreOfLog blocks [] = Unit {0}
AreOfLog blocks (e ∷ es) = IsOfLog blocks e × AreOfLog blocks es

-- they write no block of another area
pub others_beside : (blocks other : List ℕ) → ((n : ℕ) → Contains blocks n → Contains other n → ⊥) → (es : List Event) → AreOfLog blocks es → AreBeside other es
others_beside blocks other apart [] of = tt
others_beside blocks other apart (Write n c took ok ∷ es) of = (apart n of.0, others_beside blocks other apart es of.1)
others_beside blocks other apart (Read n ok ∷ es) of = others_beside blocks other apart es of.1
others_beside blocks other apart (Sync ok ∷ es) of = others_beside blocks other apart es of.1
others_beside blocks other apart (Out bytes ∷ es) of = absurd of.0

-- A log that stands with what its disk went through, where all else stays.
module _ (r : Beyond) (app : App) (h : Holds (around r app)) (s : List ℕ) (held : Held) (log : Log) (there : at r.machine s ≡ Some held) (object : held.object ≡ Objects.log log) (history : History) (base : history.base ≡ r.history.base)
    (beside : (l : List ℕ) (t : Slot) → bytes_eq s l ≡ false → slot_at (around r app) l ≡ Some t → SameAt r.history history t.blocks) where
  reaches : Reaches r app app s history (λ j. ⊥)
  reaches = record { buffers = refl; labels = refl; areas = refl; doors = refl; rates = refl; nets = refl; base = base; beside = beside; frames = refl; bytes = λ p spares. refl }

  same_held : map (λ (g : Held). g) r.machine.held ≡ r.machine.held
  same_held = map-id r.machine.held

  abbrev z : Machine → Around
  z m = around (record r { history = history; machine = m }) app

  pub relisted : ((m : Machine) (c : Capability) → value_at app.labels s ≡ Some c → IsLog (z m) s c log) → Holds (z r.machine)
  relisted its = subst (λ (hs : List Held). Holds (z (record r.machine { held = hs }))) same_held
      (relogged r app h s held log there object app history (λ j. ⊥) reaches (λ j has. absurd has) (λ g. g) (but s) (λ k q. not_but s k q) (λ g. refl) (λ g. refl) (λ g q. refl) (λ k c q is kind. refl)
      (λ k l d c q stays at is kind there2 on. stays_same d.grant q _ _ refl there2)
      (λ k. ap (λ (hs : List Held). total (λ g. uses k g.object) hs) same_held) (λ k q. ap (λ (hs : List Held). total (λ g. bit (is_open_on k g.object)) hs) same_held) (λ k. ap (λ (hs : List Held). total (λ g. bit (is_socket_on k g.object)) hs) same_held)
      (λ p g other inn is m.
      let mine : bytes_eq s p.0 ≡ true = by_test (λ t. bytes_eq s p.0 ≡ t → t ≡ true) (bytes_eq s p.0) (λ yes q. refl) (λ no q. absurd (false≢true (sym other ∙ ap not q))) refl in
      let name = same_name s p.0 mine in
      let held_is : g.object ≡ Objects.log log = ap (λ (w : Held). w.object) (its_held p g inn m name) ∙ object in
      subst (λ (o : Object). IsObjectOf (z (record r.machine { held = map (λ w. w) r.machine.held })) p.0 p.1 o) (sym held_is)
      (subst (λ (k : List ℕ). IsLog (z (record r.machine { held = map (λ w. w) r.machine.held })) k p.1 log) name (its (record r.machine { held = map (λ w. w) r.machine.held }) p.1 (ap (λ k. value_at app.labels k) name ∙ is))))
      (λ j. ap (λ (hs : List Held). cover_count (record r.machine { held = hs }) j) same_held ∙ h.taken j))
    where
      its_held : (p : List ℕ × Capability) (g : Held) → In r.machine.held g → Matches (around r app) p g → s ≡ p.0 → g ≡ held
      its_held p g inn m name = some_same (at r.machine s) g held (ap (λ k. at r.machine k) (name ∙ sym m.label) ∙ found_there (around r app) app.labels r.machine.held g h.apart h.held inn) there

-- Calls one after another.

twice : (hs : List Held) → map (λ g. holding (settled g.object) g) (map (λ g. holding (settled g.object) g) hs) ≡ map (λ g. holding (settled g.object) g) hs
twice [] = refl
twice (g ∷ gs) = ap (λ (o : Object). holding o g ∷ map (λ w. holding (settled w.object) w) (map (λ w. holding (settled w.object) w) gs)) (once g.object) ∙ ap (λ (zs : List Held). holding (settled g.object) g ∷ zs) (twice gs)
  where
    once : (o : Object) → settled (settled o) ≡ settled o
    once (Objects.raw r) = refl
    once _ = refl

settled_twice : (b : Bool) (m : Machine) → synced b (each_object settled m) ≡ each_object settled m
settled_twice true m = ap (λ (hs : List Held). record m { held = hs }) (twice m.held)
settled_twice false m = refl

abbrev pub any_synced : List Ended → Bool
any_synced ends = list_any (λ (e : Ended). e.ok && is_sync e.verb) ends

no_sync : (b : Bool) → (b && false) ≡ false
no_sync true = refl
no_sync false = refl

-- the machine after one call and then after others
synced_on : (e : Event) (es : List Event) (m : Machine) → synced_by (ends_of es) (synced_by (ends_of (e ∷ [])) m) ≡ synced_by (ends_of (e ∷ es)) m
synced_on (Sync true) es m = settled_twice (any_synced (ends_of es)) m
synced_on (Sync false) es m = refl
synced_on (Read n true) es m = refl
synced_on (Read n false) es m = refl
synced_on (Write n c took true) es m = refl
synced_on (Write n c took false) es m = refl
synced_on (Out bytes) es m = settled_twice (any_synced (ends_of es)) m

-- what is said of a log alone
abbrev OpensTo : History → List ℕ → Object → Type 0
OpensTo h blocks (Objects.log g) = OpensToLists h blocks g
OpensTo h blocks _ = Unit {0}

-- a stop inside calls for one log leaves of each log one of its lists
pub logs_within : (x : Around) (size : ℕ) → Holds x → ((l : List ℕ) (t : Slot) (n : ℕ) → slot_at x l ≡ Some t → Contains t.blocks n → n < length x.history.base) → IsSited x size → (s : List ℕ) (log : Log) → object_at x.machine s ≡ Some (Objects.log log) → (t : Slot) → slot_at x s ≡ Some t
    → (es : List Event) → AreOfLog t.blocks es → ((front back : List Event) → es ≡ front ++ back → OpensToLists (after x.history front) t.blocks log) → LogsAtFronts x es
logs_within x size h inside sited s log object t slot es of its l u g there is front back split = by_test (λ b. bytes_eq s l ≡ b → OpensToLists (after x.history front) u.blocks g) (bytes_eq s l)
    (λ yes q.
    let name = same_name s l q in
    let same_slot : t ≡ u = some_same (slot_at x s) t u slot (ap (λ k. slot_at x k) name ∙ there) in
    let same_log : Objects.log log ≡ Objects.log g = some_same (object_at x.machine s) (Objects.log log) (Objects.log g) object (ap (λ k. object_at x.machine k) name ∙ is) in
    subst (λ (v : Slot). OpensToLists (after x.history front) v.blocks g) same_slot
    (subst (λ (o : Object). OpensTo (after x.history front) t.blocks o) same_log (its front back split)))
    (λ no q contents shown. log_opens x h l u g there is contents
    (shows_beside x.history u.blocks front contents (λ n has. inside l u n there has)
    (front_beside u.blocks front back (subst (λ (zs : List Event). AreBeside u.blocks zs) split
    (others_beside t.blocks u.blocks (λ n a b. other_name s l q (sited.apart s l t u n slot there a b)) es of))) shown)) refl

module _ (app : App) (s : List ℕ) (size : ℕ) where
  abbrev Inside : Beyond → Type 0
  Inside r = (l : List ℕ) (t : Slot) (n : ℕ) → slot_at (around r app) l ≡ Some t → Contains t.blocks n → n < length r.history.base

  -- with these events behind it, the log is so
  abbrev pub LogAfter : Beyond → Log → List Event → Type 0
  LogAfter r log es = (m : Machine) (c : Capability) → value_at app.labels s ≡ Some c → IsLog (around (record r { history = after r.history es; machine = m }) app) s c log

  -- each front of the events leaves the log so
  abbrev pub LogAtFronts : Beyond → Log → List Event → Type 0
  LogAtFronts r log es = (front back : List Event) → es ≡ front ++ back → LogAfter r log front

  abbrev after_one : Beyond → Event → Beyond
  after_one r e = record r { history = after r.history (e ∷ []); machine = synced_by (ends_of (e ∷ [])) r.machine }

  module _ (r : Beyond) (h : Holds (around r app)) (inside : Inside r) (sited : IsSited (around r app) size) (held : Held) (log : Log) (there : at r.machine s ≡ Some held) (object : held.object ≡ Objects.log log) (t : Slot) (slot : slot_at (around r app) s ≡ Some t) where
    pub one_beside : (e : Event) → IsOfLog t.blocks e → (l : List ℕ) (u : Slot) → bytes_eq s l ≡ false → slot_at (around r app) l ≡ Some u → SameAt r.history (after r.history (e ∷ [])) u.blocks
    one_beside e of l u apart is = same_beside r.history (e ∷ []) u.blocks (λ n has. inside l u n is has)
        (others_beside t.blocks u.blocks (λ n a b. other_name s l apart (sited.apart s l t u n slot is a b)) (e ∷ []) (of, tt))

    one_holds : (e : Event) → IsOfLog t.blocks e → LogAfter r log (e ∷ []) → Holds (around (after_one r e) app)
    one_holds (Sync true) of its = settles_holds (around r app) h inside
    one_holds (Sync false) of its = sync_holds (around r app) h inside false
    one_holds (Read n true) of its = read_holds (around r app) h inside n true
    one_holds (Read n false) of its = read_holds (around r app) h inside n false
    one_holds (Write n c took true) of its = relisted r app h s held log there object (after r.history (Write n c took true ∷ [])) refl (one_beside (Write n c took true) of) its
    one_holds (Write n c took false) of its = relisted r app h s held log there object (after r.history (Write n c took false ∷ [])) refl (one_beside (Write n c took false) of) its
    one_holds (Out bytes) of its = absurd of

    one_there : (e : Event) → at (synced_by (ends_of (e ∷ [])) r.machine) s ≡ Some held
    one_there (Sync true) = at_each settled r.machine s held there ∙ ap (λ (o : Object). Some (holding o held)) (ap settled object ∙ sym object)
    one_there (Sync false) = there
    one_there (Read n true) = there
    one_there (Read n false) = there
    one_there (Write n c took true) = there
    one_there (Write n c took false) = there
    one_there (Out bytes) = at_each settled r.machine s held there ∙ ap (λ (o : Object). Some (holding o held)) (ap settled object ∙ sym object)

  -- the application after all of them
  pub called : (es : List Event) (r : Beyond) → Holds (around r app) → Inside r → IsSited (around r app) size → (held : Held) (log : Log) → at r.machine s ≡ Some held → held.object ≡ Objects.log log
      → (t : Slot) → slot_at (around r app) s ≡ Some t → AreOfLog t.blocks es → LogAtFronts r log es → Holds (around (record r { history = after r.history es; machine = synced_by (ends_of es) r.machine }) app)
  called [] r h inside sited held log there object t slot of its = h
  called (e ∷ es) r h inside sited held log there object t slot of its =
      subst (λ (m : Machine). Holds (around (record r { history = after r.history (e ∷ es); machine = m }) app)) (synced_on e es r.machine)
      (called es (after_one r e) (one_holds r h inside sited held log there object t slot e of.0 (its (e ∷ []) es refl)) inside
      (record { apart = sited.apart; inside = sited.inside }) held log (one_there r h inside sited held log there object t slot e) object t slot of.1
      (λ front back split. its (e ∷ front) back (ap (λ (zs : List Event). e ∷ zs) split)))

  -- a stop inside them leaves of each log one of its lists
  pub logs_called : (es : List Event) (r : Beyond) → Holds (around r app) → Inside r → IsSited (around r app) size → (log : Log) → object_at r.machine s ≡ Some (Objects.log log) → (t : Slot) → slot_at (around r app) s ≡ Some t → AreOfLog t.blocks es
      → ((front back : List Event) → es ≡ front ++ back → OpensToLists (after r.history front) t.blocks log) → LogsAtFronts (around r app) es
  logs_called es r h inside sited log object t slot of its = logs_within (around r app) size h inside sited s log object t slot es of its
