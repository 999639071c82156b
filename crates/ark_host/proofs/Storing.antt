-- What is stored for an application that was not made, and what it holds when it is made.
use Rattle.std.proofs.Common.{set, ◌≡◌, ◌⊎◌, inl, inr, ℕ, zero, suc, ◌+◌, ◌<◌, ◌≤◌, Bool, true, false, cond, List, [], ◌∷◌, length, replicate, refl, sym, ◌∙◌, ap, subst, arith, bytes_eq, nat_eq, Contains}
use Rattle.std.specs.Prelude.{Option, Some, None, find, slice_get, slice_index_or, count_by}
use Rattle.std.specs.Map.{lookup}
use Rattle.std.proofs.lemmas.Bool.{false≢true}
use Rattle.std.proofs.lemmas.Bool.Decides.{nat_tests}
use Rattle.std.proofs.lemmas.List.{length-map, length-replicate}
use Rattle.std.proofs.lemmas.List.Sums.{sum_by-cons}
use Rattle.ark_media.specs.Journal.{History}
use Rattle.ark_caladan.specs.Chain.{Opened}
use Rattle.ark_table.specs.Area.{Area}
use Rattle.ark_table.specs.Slots.{Slot, slot_at as slot_from}
use Rattle.ark_table.specs.Table.{area_at, is_of, slots_in}
use Rattle.ark_caps.specs.Labels.{value_at}
use Rattle.ark_caps.specs.declared.capability.Capability.{Capability}
use Rattle.ark_machine.specs.Objects
use Rattle.ark_machine.specs.Objects.{Object, opened_frames}
use Rattle.ark_machine.specs.Machine.{Machine, Held}
use Rattle.ark_machine.specs.Plane.{is_slot_of}
use Rattle.ark_machine.specs.Grants.{SlotsAgree}
use Rattle.ark_machine.specs.Told.{own_slots}
use Rattle.ark_held.specs.Words.{Labels, AreaList, area_in, new_area_cap}
use Rattle.ark_held.specs.Totals.{bit, total, covers, object_covers}
use Rattle.ark_held.specs.Around.{Around, slot_at}
use Rattle.ark_held.specs.Held.{IsObjectOf, AllMatch, AreDistinctLabels, AreOwn, Holds, is_area_cap, area_labels, has_key}
use Rattle.ark_held.specs.Keeps.{SameAt}
use Rattle.ark_held.proofs.Keeping.{raw_kept, listed_kept, full_at}
use Rattle.ark_held.proofs.Fresh.{all_free}
use Rattle.ark_held.proofs.Lists.{same_name, name_same, name_other, not_some, some_same}
use Rattle.ark_held.proofs.Members.{In, contains_in, in_contains}
use Rattle.ark_plane.specs.Tables.{table_of}
use Rattle.ark_host.specs.Stored.{stored_slots, IsStoredArea, AllStored, HoldsStored, stored_labels, stored_areas, stored_numbers}
use Rattle.ark_host.specs.Given.{AreApart}
use Rattle.ark_plane.proofs.Lists.{in_select}
use Rattle.ark_plane.proofs.Tests.{by_test}
use Rattle.ark_plane.proofs.Tabling.{slot_of_table, slot_in_table}

-- The slots of an application.

pub in_own : (a : List ℕ) (ts : List Slot) (t : Slot) → In ts t → bytes_eq a t.app ≡ true → In (own_slots a ts) t
in_own a [] t h own = absurd h
in_own a (s ∷ ts) t (inl e) own = rw (ap (λ (u : Slot). bytes_eq a u.app) e ∙ own) (inl e)
in_own a (s ∷ ts) t (inr h) own = by (in_own a ts t h own) (bytes_eq a s.app)
  where
    by : In (own_slots a ts) t → (b : Bool) → In (cond b (s ∷ own_slots a ts) (own_slots a ts)) t
    by rest true = inr rest
    by rest false = rest

module _ (size : ℕ) (slots : List Slot) (agree : SlotsAgree size slots) (a : List ℕ) where
  -- a stored slot is held, and is the application's
  pub stored_held : (t : Slot) → In (stored_slots a slots) t → Contains slots t × (a ≡ t.app)
  stored_held t h =
      let own = in_select (λ (u : Slot). bytes_eq a u.app) (slots_in 1 (table_of slots)) t h in
      (slot_of_table size slots agree t (in_contains (slots_in 1 (table_of slots)) t own.0), same_name a t.app own.1)

  pub held_stored : (t : Slot) → Contains slots t → a ≡ t.app → In (stored_slots a slots) t
  held_stored t held own = in_own a (slots_in 1 (table_of slots)) t (contains_in (slots_in 1 (table_of slots)) t (slot_in_table size slots agree t held)) (name_same a t.app own)

-- The areas, as the disk goes on beside them.

area_kept : (h now : History) (t : Slot) (o : Object) → now.base ≡ h.base → SameAt h now t.blocks → IsStoredArea h t o → IsStoredArea now t o
area_kept h now t (Objects.raw r) base same is = (is.0, raw_kept h now t.blocks r same is.1)
area_kept h now t (Objects.log g) base same is = record { same_kind = is.same_kind; no_raw = is.no_raw; blocks = is.blocks; two = is.two; closed = is.closed; listed = listed_kept h now t.blocks g same is.listed; full = full_at h now t.blocks base same is.full }
area_kept h now t (Objects.vsic v) base same is = absurd is
area_kept h now t (Objects.vnic v) base same is = absurd is
area_kept h now t (Objects.filter f c) base same is = absurd is
area_kept h now t (Objects.door d) base same is = absurd is
area_kept h now t (Objects.rate q b) base same is = absurd is
area_kept h now t (Objects.buffer b) base same is = absurd is
area_kept h now t (Objects.socket k) base same is = absurd is

all_kept : (h now : History) (n : ℕ) (ts : List Slot) (xs : List Held) → now.base ≡ h.base → ((t : Slot) → In ts t → SameAt h now t.blocks) → AllStored h n ts xs → AllStored now n ts xs
all_kept h now n [] [] base same all = tt
all_kept h now n [] (x ∷ xs) base same all = absurd all
all_kept h now n (t ∷ ts) [] base same all = absurd all
all_kept h now n (t ∷ ts) (x ∷ xs) base same all = (
  record { label = all.0.label; serial = all.0.serial; object = area_kept h now t x.object base (same t (inl refl)) all.0.object },
  all_kept h now (n + 1) ts xs base (λ u among. same u (inr among)) all.1,
)

pub holds_kept : (g0 g1 : ℕ) (h now : History) (ts : List Slot) (m : Machine) → g0 ≤ g1 → now.base ≡ h.base → ((t : Slot) → In ts t → SameAt h now t.blocks) → HoldsStored g0 h ts m → HoldsStored g1 now ts m
holds_kept g0 g1 h now ts m more base same holds = record {
  serial = holds.serial;
  stored = all_kept h now 0 ts m.held base same holds.stored;
  below = λ t among. let lt = holds.below t among in omega (arith, more, lt);
}

-- What is held under the label of one of them.

pub record Found (h : History) (t : Slot) (xs : List Held) : Type 0 where
  pub held : Held
  pub there : find (λ z. bytes_eq t.label z.label) xs ≡ Some held
  pub area : IsStoredArea h t held.object

pub find_stored : (h : History) (n : ℕ) (ts : List Slot) (xs : List Held) (t : Slot) → In ts t → ((u : Slot) → In ts u → u.label ≡ t.label → u ≡ t) → AllStored h n ts xs → Found h t xs
find_stored h n [] xs t among one all = absurd among
find_stored h n (s ∷ ts) [] t among one all = absurd all
find_stored h n (s ∷ ts) (x ∷ xs) t among one all = by_test (bytes_eq t.label x.label) (λ b. bytes_eq t.label x.label ≡ b → Found h t (x ∷ xs))
    (λ yes q.
    let same : s ≡ t = one s (inl refl) (sym all.0.label ∙ sym (same_name t.label x.label q)) in
    record { held = x; there = ap (λ b. cond b (Some x) (find (λ z. bytes_eq t.label z.label) xs)) q; area = subst (λ (u : Slot). IsStoredArea h u x.object) same all.0.object })
    (λ no q.
    let later = find_stored h (n + 1) ts xs t (other among q) (λ u h. one u (inr h)) all.1 in
    record { held = later.held; there = ap (λ b. cond b (Some x) (find (λ z. bytes_eq t.label z.label) xs)) q ∙ later.there; area = later.area }) refl
  where
    other : (s ≡ t) ⊎ In ts t → bytes_eq t.label x.label ≡ false → In ts t
    other (inl e) q = absurd (false≢true (sym q ∙ name_same t.label x.label (sym (all.0.label ∙ ap (λ (u : Slot). u.label) e))))
    other (inr h) q = h

-- No two of them have one index or one label.

rising_from : (table : List (Option Area)) (i : ℕ) (u : Slot) → In (slots_in i table) u → i ≤ u.index
rising_from [] i u h = absurd h
rising_from (None ∷ table) i u h = let rest = rising_from table (i + 1) u h in omega (arith, rest)
rising_from (Some a ∷ table) i u (inl e) = let same : i ≡ u.index = ap (λ (t : Slot). t.index) e in omega (arith, same)
rising_from (Some a ∷ table) i u (inr h) = let rest = rising_from table (i + 1) u h in omega (arith, rest)

own_apart : (a : List ℕ) (table : List (Option Area)) (i : ℕ) → ((t u : Slot) → In (own_slots a (slots_in i table)) t → In (own_slots a (slots_in i table)) u → t.label ≡ u.label → t ≡ u) → AreApart (own_slots a (slots_in i table))
own_apart a [] i one = tt
own_apart a (None ∷ table) i one = own_apart a table (i + 1) one
own_apart a (Some x ∷ table) i one = by (own_apart a table (i + 1)) (bytes_eq a x.app) one
  where
    above : (u : Slot) → In (own_slots a (slots_in (i + 1) table)) u → u.index ≡ i → ⊥
    above u h e = let low = rising_from table (i + 1) u (in_select (λ (v : Slot). bytes_eq a v.app) (slots_in (i + 1) table) u h).0 in omega (arith, low, e)

    by : (((t u : Slot) → In (own_slots a (slots_in (i + 1) table)) t → In (own_slots a (slots_in (i + 1) table)) u → t.label ≡ u.label → t ≡ u) → AreApart (own_slots a (slots_in (i + 1) table)))
        → (b : Bool) → ((t u : Slot) → In (cond b (slot_from i x ∷ own_slots a (slots_in (i + 1) table)) (own_slots a (slots_in (i + 1) table))) t → In (cond b (slot_from i x ∷ own_slots a (slots_in (i + 1) table)) (own_slots a (slots_in (i + 1) table))) u → t.label ≡ u.label → t ≡ u)
        → AreApart (cond b (slot_from i x ∷ own_slots a (slots_in (i + 1) table)) (own_slots a (slots_in (i + 1) table)))
    by rest false only = rest only
    by rest true only = (
      λ u h. (above u h, λ e. above u h (ap (λ (v : Slot). v.index) (only u (slot_from i x) (inr h) (inl refl) e))),
      rest (λ t u g h. only t u (inr g) (inr h)),
    )

same_index : (ts : List Slot) (t u : Slot) → AreApart ts → In ts t → In ts u → t.index ≡ u.index → t ≡ u
same_index [] t u apart a b e = absurd a
same_index (s ∷ ts) t u apart (inl a) (inl b) e = sym a ∙ b
same_index (s ∷ ts) t u apart (inl a) (inr b) e = absurd ((apart.0 u b).0 (sym e ∙ ap (λ (v : Slot). v.index) (sym a)))
same_index (s ∷ ts) t u apart (inr a) (inl b) e = absurd ((apart.0 t a).0 (e ∙ ap (λ (v : Slot). v.index) (sym b)))
same_index (s ∷ ts) t u apart (inr a) (inr b) e = same_index ts t u apart.1 a b e

-- The labels, areas and numbers that the application keeps.

label_back : (ts : List Slot) (l : List ℕ) (c : Capability) → value_at (stored_labels ts) l ≡ Some c → (t : Slot) × In ts t × (t.label ≡ l) × (c ≡ new_area_cap t.index)
label_back [] l c is = absurd (not_some None c refl is)
label_back (t ∷ ts) l c is = by_test (bytes_eq l t.label) (λ b. bytes_eq l t.label ≡ b → cond b (Some (new_area_cap t.index)) (value_at (stored_labels ts) l) ≡ Some c → (u : Slot) × In (t ∷ ts) u × (u.label ≡ l) × (c ≡ new_area_cap u.index))
    (λ yes q e. (t, inl refl, sym (same_name l t.label q), sym (some_same (Some (new_area_cap t.index)) (new_area_cap t.index) c refl e)))
    (λ no q e. let rest = label_back ts l c e in (rest.0, inr rest.1, rest.2, rest.3)) refl is

label_there : (ts : List Slot) (t : Slot) → In ts t → is_area_cap (value_at (stored_labels ts) t.label) ≡ true
label_there [] t h = absurd h
label_there (s ∷ ts) t h = by_test (bytes_eq t.label s.label) (λ b. bytes_eq t.label s.label ≡ b → is_area_cap (cond b (Some (new_area_cap s.index)) (value_at (stored_labels ts) t.label)) ≡ true)
    (λ yes q. refl) (λ no q. later (λ g. label_there ts t g) h q) refl
  where
    later : (In ts t → is_area_cap (value_at (stored_labels ts) t.label) ≡ true) → (s ≡ t) ⊎ In ts t → bytes_eq t.label s.label ≡ false → is_area_cap (value_at (stored_labels ts) t.label) ≡ true
    later rest (inl e) q = absurd (false≢true (sym q ∙ name_same t.label s.label (ap (λ (u : Slot). u.label) (sym e))))
    later rest (inr g) q = rest g

pub label_free : (ts : List Slot) (l : List ℕ) → ((u : Slot) → In ts u → u.label ≡ l → ⊥) → value_at (stored_labels ts) l ≡ None
label_free [] l none = refl
label_free (t ∷ ts) l none = ap (λ b. cond b (Some (new_area_cap t.index)) (value_at (stored_labels ts) l)) (name_other l t.label (λ e. none t (inl refl) (sym e))) ∙ label_free ts l (λ u h. none u (inr h))

distinct_labels : (ts : List Slot) → AreApart ts → AreDistinctLabels (stored_labels ts)
distinct_labels [] apart = tt
distinct_labels (t ∷ ts) apart = (label_free ts t.label (λ u h. (apart.0 u h).1), distinct_labels ts apart.1)

area_there : (ts : List Slot) (t : Slot) → AreApart ts → In ts t → lookup (nat_eq t.index) (stored_areas ts) ≡ Some (area_in t)
area_there [] t apart h = absurd h
area_there (s ∷ ts) t apart (inl e) =
    let same : nat_eq t.index s.index ≡ true = let is : s.index ≡ t.index = ap (λ (u : Slot). u.index) e in grind (arith, nat_tests, is) in
    rw same (ap (λ (u : Slot). Some (area_in u)) e)
area_there (s ∷ ts) t apart (inr h) =
    let other : nat_eq t.index s.index ≡ false = by_test (nat_eq t.index s.index) (λ b. nat_eq t.index s.index ≡ b → b ≡ false) (λ yes q. absurd ((apart.0 t h).0 (grind (arith, nat_tests, q)))) (λ no q. refl) refl in
    rw other (area_there ts t apart.1 h)

pub area_free_at : (ts : List Slot) (g : ℕ) → ((u : Slot) → In ts u → u.index ≡ g → ⊥) → lookup (nat_eq g) (stored_areas ts) ≡ None
area_free_at [] g none = refl
area_free_at (t ∷ ts) g none =
    let other : nat_eq g t.index ≡ false = by_test (nat_eq g t.index) (λ b. nat_eq g t.index ≡ b → b ≡ false) (λ yes q. absurd (none t (inl refl) (grind (arith, nat_tests, q)))) (λ no q. refl) refl in
    rw other (area_free_at ts g (λ u h. none u (inr h)))

pub area_free : (ts : List Slot) (g : ℕ) → ((u : Slot) → In ts u → u.index < g) → lookup (nat_eq g) (stored_areas ts) ≡ None
area_free ts g less = area_free_at ts g (λ u h e. let lt = less u h in omega (arith, lt, e))

pub number_back : (ts : List Slot) (i g : ℕ) → slice_get (stored_numbers ts) i ≡ Some g → (t : Slot) × In ts t × (t.index ≡ g)
number_back [] i g is = absurd (not_some None g refl is)
number_back (t ∷ ts) zero g is = (t, inl refl, some_same (Some t.index) t.index g refl is)
number_back (t ∷ ts) (suc i) g is = let rest = number_back ts i g is in (rest.0, inr rest.1, rest.2)

one_number : (ts : List Slot) (i j g : ℕ) → AreApart ts → slice_get (stored_numbers ts) i ≡ Some g → slice_get (stored_numbers ts) j ≡ Some g → i ≡ j
one_number [] i j g apart a b = absurd (not_some None g refl a)
one_number (t ∷ ts) zero zero g apart a b = refl
one_number (t ∷ ts) zero (suc j) g apart a b = let r = number_back ts j g b in absurd ((apart.0 r.0 r.1).0 (r.2 ∙ sym (some_same (Some t.index) t.index g refl a)))
one_number (t ∷ ts) (suc i) zero g apart a b = let r = number_back ts i g a in absurd ((apart.0 r.0 r.1).0 (r.2 ∙ sym (some_same (Some t.index) t.index g refl b)))
one_number (t ∷ ts) (suc i) (suc j) g apart a b = ap suc (one_number ts i j g apart.1 a b)

all_areas : (ts : List Slot) → length (area_labels (stored_labels ts)) ≡ length ts
all_areas [] = refl
all_areas (t ∷ ts) = ap suc (all_areas ts)

no_frames : (h : History) (n j : ℕ) (ts : List Slot) (xs : List Held) → AllStored h n ts xs → total (λ z. object_covers j z.object) xs ≡ 0
no_frames h n j [] [] all = refl
no_frames h n j [] (x ∷ xs) all = absurd all
no_frames h n j (t ∷ ts) [] all = absurd all
no_frames h n j (t ∷ ts) (x ∷ xs) all = let rest = no_frames h (n + 1) j ts xs all.1 in let none = one x.object all.0.object in omega (arith, rest, none)
  where
    one : (o : Object) → IsStoredArea h t o → object_covers j o ≡ 0
    one (Objects.raw r) is = refl
    one (Objects.log g) is = ap (λ (o : Option Opened). total (λ f. bit (covers j f)) (opened_frames o)) is.closed
    one (Objects.vsic v) is = absurd is
    one (Objects.vnic v) is = absurd is
    one (Objects.filter f c) is = absurd is
    one (Objects.door d) is = absurd is
    one (Objects.rate q b) is = absurd is
    one (Objects.buffer b) is = absurd is
    one (Objects.socket k) is = absurd is

-- An application that was just made holds what is stored for it.

module _ (x : Around) (ts : List Slot) (numbers : x.numbers ≡ stored_numbers ts) (labels : x.labels ≡ stored_labels ts) (areas : x.areas ≡ stored_areas ts)
    (there : (t : Slot) → In ts t → slot_at x t.label ≡ Some t) (only : (l : List ℕ) (t : Slot) → slot_at x l ≡ Some t → In ts t × (l ≡ t.label)) (apart : AreApart ts) where
  kept_there : (t : Slot) → In ts t → lookup (nat_eq t.index) x.areas ≡ Some (area_in t)
  kept_there t h = ap (λ (l : AreaList). lookup (nat_eq t.index) l) areas ∙ area_there ts t apart h

  object_stands : (t : Slot) (o : Object) → In ts t → IsStoredArea x.history t o → IsObjectOf x t.label (new_area_cap t.index) o
  object_stands t (Objects.raw r) h is = record { slot = t; its_kind = refl; kept = kept_there t h; there = there t h; raw = is.0; fits = is.1 }
  object_stands t (Objects.log g) h is = record {
    slot = t;
    its_kind = refl;
    kept = kept_there t h;
    there = there t h;
    same_kind = is.same_kind;
    no_raw = is.no_raw;
    blocks = is.blocks;
    two = is.two;
    opened = rw is.closed tt;
    listed = is.listed;
    full = is.full;
  }
  object_stands t (Objects.vsic v) h is = absurd is
  object_stands t (Objects.vnic v) h is = absurd is
  object_stands t (Objects.filter f c) h is = absurd is
  object_stands t (Objects.door d) h is = absurd is
  object_stands t (Objects.rate q b) h is = absurd is
  object_stands t (Objects.buffer b) h is = absurd is
  object_stands t (Objects.socket k) h is = absurd is

  all_match : (n : ℕ) (us : List Slot) (hs : List Held) → ((u : Slot) → In us u → In ts u) → ((k g : ℕ) → slice_get (stored_numbers us) k ≡ Some g → slice_get x.numbers (n + k) ≡ Some g) → AllStored x.history n us hs
      → AllMatch x (stored_labels us) hs
  all_match n [] [] among at all = tt
  all_match n [] (z ∷ hs) among at all = absurd all
  all_match n (u ∷ us) [] among at all = absurd all
  all_match n (u ∷ us) (z ∷ hs) among at all = (
    record {
      label = all.0.label;
      serial = ap (λ i. slice_get x.numbers i) (all.0.serial ∙ (let e : n ≡ n + 0 = omega arith in e)) ∙ at 0 u.index refl;
      object = object_stands u z.object (among u (inl refl)) all.0.object;
    },
    all_match (n + 1) us hs (λ v h. among v (inr h)) (λ k g is. ap (λ i. slice_get x.numbers i) (let e : (n + 1) + k ≡ n + suc k = omega arith in e) ∙ at (suc k) g is) all.1,
  )

  own_labels : AreOwn (stored_labels ts)
  own_labels = record {
    grants = λ l k c d is its same.
        let one = label_back ts l c is in
        let two = label_back ts k d its in
        let index : one.0.index ≡ two.0.index = ap (λ (z : Capability). z.grant) (sym one.3) ∙ same ∙ ap (λ (z : Capability). z.grant) two.3 in
        sym one.2 ∙ ap (λ (t : Slot). t.label) (same_index ts one.0 two.0 apart one.1 two.1 index) ∙ two.2;
    keys = λ l k c d is its same keyed key.
        let one = label_back ts l c is in
        absurd (false≢true (ap (λ (z : Capability). has_key z.kind) (sym one.3) ∙ keyed));
  }

  pub holds_stored : x.machine.made ≡ true → x.machine.now ≡ x.now → x.machine.serial ≡ length ts → AllStored x.history 0 ts x.machine.held → x.tables.memory.taken ≡ replicate x.machine.frames false → Holds x
  holds_stored made now serial all taken = record {
    made = made;
    now = now;
    serials = ap (λ (l : List ℕ). length l) numbers ∙ length-map ts (λ t. t.index) ∙ sym serial;
    one = subst (λ (n : List ℕ). (i j g : ℕ) → slice_get n i ≡ Some g → slice_get n j ≡ Some g → i ≡ j) (sym numbers) (λ i j g a b. one_number ts i j g apart a b);
    held = subst (λ (ls : Labels). AllMatch x ls x.machine.held) (sym labels) (all_match 0 ts x.machine.held (λ u h. h) (λ k g is. ap (λ (n : List ℕ). slice_get n (0 + k)) numbers ∙ ap (λ i. slice_get (stored_numbers ts) i) (let e : 0 + k ≡ k = omega arith in e) ∙ is) all);
    apart = subst (λ (ls : Labels). AreDistinctLabels ls) (sym labels) (distinct_labels ts apart);
    own = subst (λ (ls : Labels). AreOwn ls) (sym labels) own_labels;
    areas = ap (λ (es : AreaList). length es) areas ∙ length-map ts (λ t. (t.index, area_in t)) ∙ sym (ap (λ (ls : Labels). length (area_labels ls)) labels ∙ all_areas ts);
    unlisted = λ l none. unlisted_at l (slot_at x l) refl (ap (λ (ls : Labels). is_area_cap (value_at ls l)) (sym labels) ∙ none);
    frames = ap (λ (bs : List Bool). length bs) taken ∙ length-replicate x.machine.frames false;
    taken = λ j. no_frames x.history 0 j ts x.machine.held all ∙ sym (ap (λ (bs : List Bool). bit (slice_index_or bs j false)) taken ∙ ap bit (all_free x.machine.frames j));
  }
    where
      unlisted_at : (l : List ℕ) (o : Option Slot) → slot_at x l ≡ o → is_area_cap (value_at (stored_labels ts) l) ≡ false → slot_at x l ≡ None
      unlisted_at l None is none = is
      unlisted_at l (Some t) is none =
          let mine = only l t is in
          absurd (false≢true (sym none ∙ ap (λ k. is_area_cap (value_at (stored_labels ts) k)) mine.1 ∙ label_there ts t mine.0))

-- A slot of another application comes, goes or changes.
pub own_set : (b : List ℕ) (table : List (Option Area)) (i k : ℕ) (o : Option Area) → is_of b (area_at table k) ≡ false → is_of b o ≡ false → own_slots b (slots_in i (set table k o)) ≡ own_slots b (slots_in i table)
own_set b [] i k o was is = refl
own_set b (None ∷ table) i zero None was is = refl
own_set b (None ∷ table) i zero (Some x) was is = rw is refl
own_set b (Some y ∷ table) i zero None was is = rw was refl
own_set b (Some y ∷ table) i zero (Some x) was is = rw (was, is) refl
own_set b (None ∷ table) i (suc k) o was is = own_set b table (i + 1) k o was is
own_set b (Some y ∷ table) i (suc k) o was is = ap (λ (ts : List Slot). cond (bytes_eq b y.app) (slot_from i y ∷ ts) ts) (own_set b table (i + 1) k o was is)

none_first : (n : ℕ) → 0 + n ≡ n
none_first n = omega arith

-- how many an application has
pub own_counted : (a : List ℕ) (table : List (Option Area)) (i : ℕ) → length (own_slots a (slots_in i table)) ≡ count_by (is_of a) table
own_counted a [] i = refl
own_counted a (None ∷ table) i = own_counted a table (i + 1) ∙ sym (sum_by-cons (λ (o : Option Area). cond (is_of a o) 1 0) None table ∙ none_first (count_by (is_of a) table))
own_counted a (Some x ∷ table) i = by (own_counted a table (i + 1)) (bytes_eq a x.app) ∙ sym (sum_by-cons (λ (o : Option Area). cond (is_of a o) 1 0) (Some x) table)
  where
    by : length (own_slots a (slots_in (i + 1) table)) ≡ count_by (is_of a) table → (b : Bool) → length (cond b (slot_from i x ∷ own_slots a (slots_in (i + 1) table)) (own_slots a (slots_in (i + 1) table))) ≡ cond b 1 0 + count_by (is_of a) table
    by rest true = omega (arith, rest)
    by rest false = omega (arith, rest)

-- The slots of an application are apart, where each is named by its application and label.
module _ (size : ℕ) (slots : List Slot) (agree : SlotsAgree size slots) (named : (t : Slot) → Contains slots t → find (λ v. is_slot_of t.app t.label v) slots ≡ Some t) (a : List ℕ) where
  pub stored_one : (t u : Slot) → In (stored_slots a slots) t → In (stored_slots a slots) u → t.label ≡ u.label → t ≡ u
  stored_one t u g h same =
      let one = stored_held size slots agree a t g in
      let two = stored_held size slots agree a u h in
      some_same (find (λ v. is_slot_of t.app t.label v) slots) t u (named t one.0)
      (ap (λ (n : List ℕ). find (λ v. is_slot_of n t.label v) slots) (sym one.1 ∙ two.1) ∙ ap (λ (l : List ℕ). find (λ v. is_slot_of u.app l v) slots) same ∙ named u two.0)

  pub stored_apart : AreApart (stored_slots a slots)
  stored_apart = own_apart a (table_of slots) 1 stored_one

-- what is held for a slot of an application that was not made
pub stored_found : (size : ℕ) (slots : List Slot) → SlotsAgree size slots → ((t : Slot) → Contains slots t → find (λ v. is_slot_of t.app t.label v) slots ≡ Some t) → (t : Slot) (grants : ℕ) (h : History) (m : Machine)
    → HoldsStored grants h (stored_slots t.app slots) m → Contains slots t → Found h t m.held
stored_found size slots agree named t grants h m holds slot =
    let among = held_stored size slots agree t.app t slot refl in
    find_stored h 0 (stored_slots t.app slots) m.held t among (λ u g same. stored_one size slots agree named t.app u t g among same) holds.stored
