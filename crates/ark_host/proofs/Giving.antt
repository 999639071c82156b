-- Slot by slot an application gets the areas that are stored for it.
use Rattle.std.proofs.Common.{◌≡◌, ◌⊎◌, inl, inr, ◌-◌, ℕ, zero, suc, ◌+◌, ◌<◌, ◌≤◌, Bool, true, false, cond, List, [], ◌∷◌, ◌++◌, length, take, nat_eq, refl, sym, ◌∙◌, ap, subst, arith, bytes_eq, append-nil}
use Rattle.std.specs.Prelude.{Option, Some, None, nat_le}
use Rattle.std.specs.Map.{lookup}
use Rattle.std.proofs.lemmas.List.{map-append, length-append, length-map}
use Rattle.ark_table.specs.Area.{Area}
use Rattle.ark_table.specs.Slots.{Slot, slot_at}
use Rattle.ark_table.specs.Table.{area_at, slots_in}
use Rattle.ark_table.specs.Standing.{Table, slot_in}
use Rattle.ark_caps.specs.Labels.{value_at}
use Rattle.ark_caps.specs.declared.capability.Capability.{Capability}
use Rattle.ark_machine.specs.Told.{own_slots}
use Rattle.ark_held.specs.Words.{Labels, AreaList, area_in, new_area_cap, no_room, room_under, added_to}
use Rattle.ark_held.specs.declared.app.App.{App}
use Rattle.ark_held.specs.declared.areas.Area.{Area as Kept}
use Rattle.ark_held.proofs.Lists.{le_false}
use Rattle.ark_held.proofs.Members.{In}
use Rattle.ark_host.specs.Stored.{stored_labels, stored_areas}
use Rattle.ark_host.specs.Given.{AreApart, GivesSlot, HasGiven}
use Rattle.ark_plane.proofs.Tabling.{none_some, same_some}
use Rattle.ark_host.proofs.Storing.{label_free, area_free_at}

-- The table's entry of a slot.

pub entry_some : (table : Table) (k : ℕ) (a : Area) → slot_in table (k + 1) ≡ Some a → area_at table k ≡ Some a
entry_some table k a is = ap (λ i. area_at table i) (let e : k ≡ (k + 1) - 1 = omega arith in e) ∙ is

pub entry_none : (table : Table) (k : ℕ) → (k + 1 ≡ 0) ⊎ (slot_in table (k + 1) ≡ None) → area_at table k ≡ None
entry_none table k (inl none) = absurd (omega (arith, none))
entry_none table k (inr is) = ap (λ i. area_at table i) (let e : k ≡ (k + 1) - 1 = omega arith in e) ∙ is

-- The slots of a longer front of the table.

slots_past : (table : Table) (i k : ℕ) → area_at table k ≡ None → slots_in i (take (suc k) table) ≡ slots_in i (take k table)
slots_past [] i zero free = refl
slots_past [] i (suc k) free = refl
slots_past (None ∷ table) i zero free = refl
slots_past (Some a ∷ table) i zero free = absurd (none_some a (sym free))
slots_past (None ∷ table) i (suc k) free = slots_past table (i + 1) k free
slots_past (Some a ∷ table) i (suc k) free = ap (λ (ts : List Slot). slot_at i a ∷ ts) (slots_past table (i + 1) k free)

slots_next : (table : Table) (i k : ℕ) (a : Area) → area_at table k ≡ Some a → slots_in i (take (suc k) table) ≡ slots_in i (take k table) ++ slot_at (i + k) a ∷ []
slots_next [] i zero a is = absurd (none_some a is)
slots_next [] i (suc k) a is = absurd (none_some a is)
slots_next (None ∷ table) i zero a is = absurd (none_some a is)
slots_next (Some b ∷ table) i zero a is = ap (λ (x : Area). slot_at i x ∷ []) (same_some b a is) ∙ ap (λ j. slot_at j a ∷ []) (let e : i ≡ i + 0 = omega arith in e)
slots_next (None ∷ table) i (suc k) a is = slots_next table (i + 1) k a is ∙ ap (λ j. slots_in (i + 1) (take k table) ++ slot_at j a ∷ []) (let e : (i + 1) + k ≡ i + suc k = omega arith in e)
slots_next (Some b ∷ table) i (suc k) a is =
    ap (λ (ts : List Slot). slot_at i b ∷ ts) (slots_next table (i + 1) k a is ∙ ap (λ j. slots_in (i + 1) (take k table) ++ slot_at j a ∷ []) (let e : (i + 1) + k ≡ i + suc k = omega arith in e))

own_more : (name : List ℕ) (ts : List Slot) (t : Slot) → own_slots name (ts ++ t ∷ []) ≡ own_slots name ts ++ cond (bytes_eq name t.app) (t ∷ []) []
own_more name [] t = refl
own_more name (s ∷ ts) t = by (own_more name ts t) (bytes_eq name s.app)
  where
    by : own_slots name (ts ++ t ∷ []) ≡ own_slots name ts ++ cond (bytes_eq name t.app) (t ∷ []) [] → (b : Bool) → cond b (s ∷ own_slots name (ts ++ t ∷ [])) (own_slots name (ts ++ t ∷ [])) ≡ cond b (s ∷ own_slots name ts) (own_slots name ts) ++ cond (bytes_eq name t.app) (t ∷ []) []
    by rest true = ap (λ (us : List Slot). s ∷ us) rest
    by rest false = rest

-- The last of slots that are apart.

in_front : (ts : List Slot) (t u : Slot) → In ts u → In (ts ++ t ∷ []) u
in_front [] t u h = absurd h
in_front (s ∷ ts) t u (inl e) = inl e
in_front (s ∷ ts) t u (inr h) = inr (in_front ts t u h)

in_last : (ts : List Slot) (t : Slot) → In (ts ++ t ∷ []) t
in_last [] t = inl refl
in_last (s ∷ ts) t = inr (in_last ts t)

apart_front : (ts : List Slot) (t : Slot) → AreApart (ts ++ t ∷ []) → AreApart ts
apart_front [] t apart = tt
apart_front (s ∷ ts) t apart = (λ u h. apart.0 u (in_front ts t u h), apart_front ts t apart.1)

last_apart : (ts : List Slot) (t u : Slot) → AreApart (ts ++ t ∷ []) → In ts u → (u.index ≡ t.index → ⊥) × (u.label ≡ t.label → ⊥)
last_apart [] t u apart h = absurd h
last_apart (s ∷ ts) t u apart (inl e) =
    let two = apart.0 t (in_last ts t) in
    (λ same. two.0 (sym (ap (λ (v : Slot). v.index) e ∙ same)), λ same. two.1 (sym (ap (λ (v : Slot). v.label) e ∙ same)))
last_apart (s ∷ ts) t u apart (inr h) = last_apart ts t u apart.1 h

-- One slot more was looked at.

module _ (name : List ℕ) (table : Table) (k : ℕ) where
  abbrev before : List Slot
  before = own_slots name (slots_in 1 (take k table))

  next_front : (app : App) → HasGiven name (take (suc k) table) app → HasGiven name (take (k + 1) table) app
  next_front app given = subst (λ n. HasGiven name (take n table) app) (let e : suc k ≡ k + 1 = omega arith in e) given

  pub given_past : (app : App) → area_at table k ≡ None → HasGiven name (take k table) app → HasGiven name (take (k + 1) table) app
  given_past app free given = next_front app (subst (λ (ts : List Slot). AreApart (own_slots name ts) → length (own_slots name ts) ≤ 8 → (app.labels ≡ stored_labels (own_slots name ts)) × (app.areas ≡ stored_areas (own_slots name ts))) (sym (slots_past table 1 k free)) given)

  module _ (a : Area) (is : area_at table k ≡ Some a) (old new : App) (named : old.name ≡ name) (gives : GivesSlot (k + 1) a old new) (given : HasGiven name (take k table) old) where
    abbrev slot : Slot
    slot = slot_at (k + 1) a

    abbrev Holds : List Slot → Type 0
    Holds ts = AreApart ts → length ts ≤ 8 → (new.labels ≡ stored_labels ts) × (new.areas ≡ stored_areas ts)

    all : own_slots name (slots_in 1 (take (suc k) table)) ≡ before ++ cond (bytes_eq name a.app) (slot ∷ []) []
    all = ap (λ (ts : List Slot). own_slots name ts) (slots_next table 1 k a is ∙ ap (λ j. slots_in 1 (take k table) ++ slot_at j a ∷ []) (let e : 1 + k ≡ k + 1 = omega arith in e)) ∙ own_more name (slots_in 1 (take k table)) slot

    with_own : bytes_eq name a.app ≡ true → Holds (before ++ slot ∷ [])
    with_own own apart few =
        let fewer : length before < 8 = let len = length-append before (slot ∷ []) in omega (arith, few, len) in
        let had = given (apart_front before slot apart) (omega (arith, fewer)) in
        let none : value_at old.labels a.label ≡ None = ap (λ (ls : Labels). value_at ls a.label) had.0 ∙ label_free before a.label (λ u h e. (last_apart before slot u apart h).1 e) in
        let some_labels : length old.labels ≡ length before = ap (λ (ls : Labels). length ls) had.0 ∙ length-map before (λ t. (t.label, new_area_cap t.index)) in
        let some_areas : length old.areas ≡ length before = ap (λ (es : AreaList). length es) had.1 ∙ length-map before (λ t. (t.index, area_in t)) in
        let labels_left : nat_le 64 (length old.labels) ≡ false = le_false 64 (length old.labels) (omega (arith, some_labels, fewer)) in
        let areas_left : nat_le 8 (length old.areas) ≡ false = le_false 8 (length old.areas) (omega (arith, some_areas, fewer)) in
        let room : no_room old.labels old.areas a.label ≡ None = ap (λ (o : Option Capability). room_under old.labels old.areas o) none ∙ rw (labels_left, areas_left) refl in
        let new_one = gives.own (ap (λ (n : List ℕ). bytes_eq n a.app) named ∙ own) room in
        let unused : lookup (nat_eq (k + 1)) old.areas ≡ None = ap (λ (es : AreaList). lookup (nat_eq (k + 1)) es) had.1 ∙ area_free_at before (k + 1) (λ u h e. (last_apart before slot u apart h).0 e) in (
          new_one.0 ∙ ap (λ (ls : Labels). ls ++ stored_labels (slot ∷ [])) had.0 ∙ sym (map-append (λ (t : Slot). (t.label, new_area_cap t.index)) before (slot ∷ [])),
          new_one.1 ∙ ap (λ (o : Option Kept). added_to old.areas (k + 1) (area_in slot) o) unused ∙ ap (λ (es : AreaList). es ++ stored_areas (slot ∷ [])) had.1
              ∙ sym (map-append (λ (t : Slot). (t.index, area_in t)) before (slot ∷ [])),
        )

    with_other : bytes_eq name a.app ≡ false → Holds before
    with_other other apart few =
        let had = given apart few in
        let same = gives.other (ap (λ (n : List ℕ). bytes_eq n a.app) named ∙ other) in
        (same.0 ∙ had.0, same.1 ∙ had.1)

    by : (b : Bool) → bytes_eq name a.app ≡ b → Holds (before ++ cond b (slot ∷ []) [])
    by true own = with_own own
    by false other = subst (λ (ts : List Slot). Holds ts) (sym (append-nil before)) (with_other other)

    pub given_next : HasGiven name (take (k + 1) table) new
    given_next = next_front new (subst (λ (ts : List Slot). Holds ts) (sym all) (by (bytes_eq name a.app) refl))
