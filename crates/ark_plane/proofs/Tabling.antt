-- The slots of a plane, and those of the table that stands for them.
use Rattle.std.proofs.Common.{◌≡◌, inl, inr, ℕ, zero, suc, ◌+◌, ◌-◌, ◌<◌, ◌≤◌, Bool, true, false, ◌||◌, ◌==◌, List, [], ◌∷◌, ◌++◌, length, get_or, set, replicate, refl, sym, ◌∙◌, ap, subst, arith, cond, bytes_eq, Contains, get_or-set_same, get_or-set_other}
use Rattle.std.specs.Prelude.{Option, Some, None, is_some, unwrap_or, count_by}
use Rattle.std.proofs.lemmas.Bool.{false≢true, cases_eq, cases_lt}
use Rattle.std.proofs.lemmas.Bool.Decides.{nat_tests}
use Rattle.std.proofs.lemmas.List.{length-set, get_or-replicate, get_or_past}
use Rattle.std.proofs.lemmas.List.Sums.{sum_by-set}
use Rattle.ark_extents.proofs.RunLemmas.{blocks_of-runs_of}
use Rattle.ark_table.specs.Area.{Area}
use Rattle.ark_table.specs.Slots.{Slot, slot_at, area_of}
use Rattle.ark_table.specs.Table.{area_at, is_of, slots_in}
use Rattle.ark_table.specs.Standing.{Table, with_slot}
use Rattle.ark_machine.specs.Plane.{free_slot_from}
use Rattle.ark_machine.specs.Grants.{has_index, SlotFits, SlotsFit, SlotsApart, SlotsAgree}
use Rattle.ark_held.specs.Totals.{bit}
use Rattle.ark_held.proofs.Members.{In, contains_in, in_contains}
use Rattle.ark_plane.specs.Tables.{table_of, slot_count}

pub same_some : {X : Type 0} (x y : X) → Some x ≡ Some y → x ≡ y
same_some x y e = ap (λ o. unwrap_or o x) e

pub none_some : {X : Type 0} (x : X) → ◌≡◌ {A = Option X} None (Some x) → ⊥
none_some x e = false≢true (ap is_some e)

pub none_in : (k : ℕ) → area_at (table_of []) k ≡ None
none_in k = elim (cases_lt k 128) [
  | inl lt ↦ get_or-replicate {A = Option Area} 128 k None None lt
  | inr past ↦ get_or_past (replicate 128 None) k None past
]

pub table_size : (slots : List Slot) → length (table_of slots) ≡ 128
table_size [] = refl
table_size (t ∷ slots) = length-set (table_of slots) (t.index - 1) (Some (area_of t)) ∙ table_size slots

-- A slot of the list has its index, and fits.

pub has_in : (slots : List Slot) (t : Slot) → In slots t → has_index slots t.index ≡ true
has_in [] t h = absurd h
has_in (s ∷ slots) t (inl e) = subst (λ (u : Slot). has_index (s ∷ slots) u.index ≡ true) e (grind (arith, nat_tests))
has_in (s ∷ slots) t (inr h) = by (s.index == t.index) (has_in slots t h)
  where
    by : (b : Bool) → has_index slots t.index ≡ true → (b || has_index slots t.index) ≡ true
    by true h = refl
    by false h = h

pub in_index : (slots : List Slot) (i : ℕ) → has_index slots i ≡ true → (t : Slot) × In slots t × (t.index ≡ i)
in_index [] i h = absurd (false≢true h)
in_index (s ∷ slots) i h = by (s.index == i) refl h (λ e. in_index slots i e)
  where
    by : (b : Bool) → (s.index == i) ≡ b → (b || has_index slots i) ≡ true → (has_index slots i ≡ true → (t : Slot) × In slots t × (t.index ≡ i)) → (t : Slot) × In (s ∷ slots) t × (t.index ≡ i)
    by true is e next = (s, inl refl, grind (arith, nat_tests))
    by false is e next = let rest = next e in (rest.0, inr rest.1, rest.2)

pub fit_in : (size : ℕ) (slots : List Slot) (t : Slot) → SlotsFit size slots → In slots t → SlotFits size t
fit_in size [] t fit h = absurd h
fit_in size (s ∷ slots) t fit (inl e) = subst (λ (u : Slot). SlotFits size u) e fit.0
fit_in size (s ∷ slots) t fit (inr h) = fit_in size slots t fit.1 h

-- Each area of the table is that of a slot, and each slot's area stands in it.

module _ (size : ℕ) where
  pub low : (t : Slot) → SlotFits size t → (t.index - 1 < 128) × (1 ≤ t.index)
  low t f = let high = f.index_high in let low = f.index_low in (omega (arith, high, low), low)

  near : (slots : List Slot) (t : Slot) → SlotFits size t → t.index - 1 < length (table_of slots)
  near slots t f = let most = (low t f).0 in omega (arith, most, table_size slots)

  pub slot_there : (slots : List Slot) (k : ℕ) (a : Area) → SlotsFit size slots → area_at (table_of slots) k ≡ Some a → (t : Slot) × In slots t × (t.index ≡ k + 1) × (area_of t ≡ a)
  slot_there [] k a fit is = absurd (none_some a (sym (none_in k) ∙ is))
  slot_there (s ∷ slots) k a fit is = elim (cases_eq k (s.index - 1)) [
    | inl same ↦
        let first = (low s fit.0).1 in
        (s, inl refl, omega (arith, same, first), same_some (area_of s) a (sym (get_or-set_same (table_of slots) (s.index - 1) (Some (area_of s)) None (near slots s fit.0)) ∙ ap (λ i. get_or (table_of (s ∷ slots)) i None) (sym same) ∙ is))
    | inr other ↦
        let rest = slot_there slots k a fit.1 (sym (get_or-set_other (table_of slots) (s.index - 1) k (Some (area_of s)) None other) ∙ is) in
        (rest.0, inr rest.1, rest.2, rest.3)
  ]

  pub area_there : (slots : List Slot) → SlotsFit size slots → SlotsApart slots → (t : Slot) → In slots t → area_at (table_of slots) (t.index - 1) ≡ Some (area_of t)
  area_there [] fit apart t h = absurd h
  area_there (s ∷ slots) fit apart t (inl e) =
      subst (λ (u : Slot). area_at (table_of (s ∷ slots)) (u.index - 1) ≡ Some (area_of u)) e (get_or-set_same (table_of slots) (s.index - 1) (Some (area_of s)) None (near slots s fit.0))
  area_there (s ∷ slots) fit apart t (inr h) =
      let one = (low s fit.0).1 in
      let two = (low t (fit_in size slots t fit.1 h)).1 in
      let differ : t.index - 1 ≡ s.index - 1 → ⊥ = λ e. false≢true (sym apart.0.0 ∙ ap (λ i. has_index slots i) (let is : s.index ≡ t.index = omega (arith, e, one, two) in is) ∙ has_in slots t h) in
      get_or-set_other (table_of slots) (s.index - 1) (t.index - 1) (Some (area_of s)) None differ ∙ area_there slots fit.1 apart.1 t h

  -- Free entries are those of no slot.

  pub free_at : (slots : List Slot) (i : ℕ) → SlotsFit size slots → 1 ≤ i → has_index slots i ≡ false → area_at (table_of slots) (i - 1) ≡ None
  free_at slots i fit first free = by (area_at (table_of slots) (i - 1)) refl
    where
      by : (o : Option Area) → area_at (table_of slots) (i - 1) ≡ o → o ≡ None
      by None is = refl
      by (Some a) is =
          let there = slot_there slots (i - 1) a fit is in
          let same : there.0.index ≡ i = omega (arith, there.2, first) in
          absurd (false≢true (sym free ∙ ap (λ k. has_index slots k) (sym same) ∙ has_in slots there.0 there.1))

  pub free_index_at : (slots : List Slot) (i : ℕ) → SlotsAgree size slots → area_at (table_of slots) (i - 1) ≡ None → has_index slots i ≡ false
  free_index_at slots i agree free = by (has_index slots i) refl
    where
      by : (b : Bool) → has_index slots i ≡ b → b ≡ false
      by false is = refl
      by true is =
          let there = in_index slots i is in
          absurd (none_some (area_of there.0) (sym free ∙ ap (λ k. area_at (table_of slots) (k - 1)) (sym there.2) ∙ area_there slots agree.fit agree.apart there.0 there.1))

  pub used_index_at : (slots : List Slot) (i : ℕ) (a : Area) → SlotsFit size slots → 1 ≤ i → area_at (table_of slots) (i - 1) ≡ Some a → has_index slots i ≡ true
  used_index_at slots i a fit first is =
      let there = slot_there slots (i - 1) a fit is in
      let same : there.0.index ≡ i = omega (arith, there.2, first) in
      ap (λ k. has_index slots k) (sym same) ∙ has_in slots there.0 there.1

-- The slots of a table.

pub in_table : (table : Table) (i k : ℕ) (a : Area) → area_at table k ≡ Some a → In (slots_in i table) (slot_at (i + k) a)
in_table [] i k a is = absurd (none_some a (sym (get_or_past [] k None (omega arith)) ∙ is))
in_table (None ∷ table) i zero a is = absurd (none_some a is)
in_table (None ∷ table) i (suc k) a is = subst (λ j. In (slots_in (i + 1) table) (slot_at j a)) (omega arith) (in_table table (i + 1) k a is)
in_table (Some b ∷ table) i zero a is = inl (ap (λ x. slot_at i x) (same_some b a is) ∙ ap (λ j. slot_at j a) (let e : i ≡ i + 0 = omega arith in e))
in_table (Some b ∷ table) i (suc k) a is = inr (subst (λ j. In (slots_in (i + 1) table) (slot_at j a)) (omega arith) (in_table table (i + 1) k a is))

pub of_table : (table : Table) (i : ℕ) (t : Slot) → In (slots_in i table) t → (k : ℕ) × (a : Area) × (area_at table k ≡ Some a) × (t ≡ slot_at (i + k) a)
of_table [] i t h = absurd h
of_table (None ∷ table) i t h = let rest = of_table table (i + 1) t h in (suc rest.0, rest.1, rest.2, rest.3 ∙ ap (λ j. slot_at j rest.1) (omega arith))
of_table (Some b ∷ table) i t (inl e) = (zero, b, refl, sym e ∙ ap (λ j. slot_at j b) (let e : i ≡ i + 0 = omega arith in e))
of_table (Some b ∷ table) i t (inr h) = let rest = of_table table (i + 1) t h in (suc rest.0, rest.1, rest.2, rest.3 ∙ ap (λ j. slot_at j rest.1) (omega arith))

-- a slot is read again from its area
slot_again : (t : Slot) (j : ℕ) → j ≡ t.index → slot_at j (area_of t) ≡ t
slot_again t j e = λ i. record { index = e i; app = t.app; label = t.label; kind = t.kind; blocks = blocks_of-runs_of t.blocks i }

module _ (size : ℕ) (slots : List Slot) (agree : SlotsAgree size slots) where
  pub slot_in_table : (t : Slot) → Contains slots t → Contains (slots_in 1 (table_of slots)) t
  slot_in_table t held =
      let inn = contains_in slots t held in
      let first = (low size t (fit_in size slots t agree.fit inn)).1 in
      in_contains (slots_in 1 (table_of slots)) t
      (subst (λ (u : Slot). In (slots_in 1 (table_of slots)) u) (slot_again t (1 + (t.index - 1)) (omega (arith, first)))
      (in_table (table_of slots) 1 (t.index - 1) (area_of t) (area_there size slots agree.fit agree.apart t inn)))

  pub slot_of_table : (t : Slot) → Contains (slots_in 1 (table_of slots)) t → Contains slots t
  slot_of_table t seen =
      let at = of_table (table_of slots) 1 t (contains_in (slots_in 1 (table_of slots)) t seen) in
      let there = slot_there size slots at.0 at.1 agree.fit at.2 in
      let same : there.0 ≡ t = sym (slot_again there.0 (1 + at.0) (omega (arith, there.2))) ∙ ap (λ x. slot_at (1 + at.0) x) there.3 ∙ sym at.3 in
      in_contains slots t (subst (λ (u : Slot). In slots u) same there.1)

-- Counts.

slots_set : (table : Table) (i k : ℕ) (a : Area) → area_at table k ≡ None → k < length table → length (slots_in i (set table k (Some a))) ≡ length (slots_in i table) + 1
slots_set [] i k a free lt = absurd (omega (arith, lt))
slots_set (None ∷ table) i zero a free lt = omega arith
slots_set (None ∷ table) i (suc k) a free lt = slots_set table (i + 1) k a free (omega (arith, lt))
slots_set (Some b ∷ table) i zero a free lt = absurd (none_some b (sym free))
slots_set (Some b ∷ table) i (suc k) a free lt = let rest = slots_set table (i + 1) k a free (omega (arith, lt)) in omega (arith, rest)

pub slots_most : (table : Table) (i : ℕ) → length (slots_in i table) ≤ length table
slots_most [] i = omega arith
slots_most (None ∷ table) i = let rest = slots_most table (i + 1) in omega (arith, rest)
slots_most (Some a ∷ table) i = let rest = slots_most table (i + 1) in omega (arith, rest)

slots_fewer : (table : Table) (i k : ℕ) → area_at table k ≡ None → k < length table → length (slots_in i table) < length table
slots_fewer [] i k free lt = absurd (omega (arith, lt))
slots_fewer (None ∷ table) i zero free lt = let most = slots_most table (i + 1) in omega (arith, most)
slots_fewer (None ∷ table) i (suc k) free lt = let rest = slots_fewer table (i + 1) k free (omega (arith, lt)) in omega (arith, rest)
slots_fewer (Some a ∷ table) i zero free lt = absurd (none_some a (sym free))
slots_fewer (Some a ∷ table) i (suc k) free lt = let rest = slots_fewer table (i + 1) k free (omega (arith, lt)) in omega (arith, rest)

none_used : length (slots_in 1 (table_of [])) ≡ 0
none_used = refl

pub slots_counted : (size : ℕ) (slots : List Slot) → SlotsFit size slots → SlotsApart slots → length (slots_in 1 (table_of slots)) ≡ length slots
slots_counted size [] fit apart = none_used
slots_counted size (t ∷ slots) fit apart =
    let f = low size t fit.0 in
    let more = slots_set (table_of slots) 1 (t.index - 1) (area_of t) (free_at size slots t.index fit.1 f.1 apart.0.0) (near size slots t fit.0) in
    omega (arith, more, slots_counted size slots fit.1 apart.1)

-- where an entry is free there are fewer slots than entries
pub slots_room : (size : ℕ) (slots : List Slot) (k : ℕ) → SlotsAgree size slots → k < 128 → area_at (table_of slots) k ≡ None → length slots < 128
slots_room size slots k agree lt free =
    let fewer = slots_fewer (table_of slots) 1 k free (omega (arith, lt, table_size slots)) in
    omega (arith, fewer, table_size slots, slots_counted size slots agree.fit agree.apart)

-- an application's slots
abbrev one : Bool → ℕ
one b = cond b 1 0

one_bit : (b : Bool) → one b ≡ bit b
one_bit true = refl
one_bit false = refl

none_counted : (a : List ℕ) → count_by (is_of a) (table_of []) ≡ 0
none_counted a = refl

pub owned_counted : (size : ℕ) (a : List ℕ) (slots : List Slot) → SlotsFit size slots → SlotsApart slots → count_by (is_of a) (table_of slots) ≡ slot_count a slots
owned_counted size a [] fit apart = none_counted a
owned_counted size a (t ∷ slots) fit apart =
    let f = low size t fit.0 in
    let free = free_at size slots t.index fit.1 f.1 apart.0.0 in
    let before : one (is_of a (get_or (table_of slots) (t.index - 1) None)) ≡ 0 = ap (λ (o : Option Area). one (is_of a o)) free in
    let more : count_by (is_of a) (set (table_of slots) (t.index - 1) (Some (area_of t))) + one (is_of a (get_or (table_of slots) (t.index - 1) None)) ≡ count_by (is_of a) (table_of slots) + one (bytes_eq a t.app) =
    sum_by-set (λ o. one (is_of a o)) (table_of slots) (t.index - 1) (Some (area_of t)) None (near size slots t fit.0) in
    omega (arith, more, before, one_bit (bytes_eq a t.app), owned_counted size a slots fit.1 apart.1)

pub count_more : (a : List ℕ) (slots : List Slot) (t : Slot) → slot_count a (slots ++ t ∷ []) ≡ slot_count a slots + bit (bytes_eq a t.app)
count_more a [] t = omega arith
count_more a (s ∷ slots) t = omega (arith, count_more a slots t)

-- One slot more, behind the others.

pub set_swap : {X : Type 0} (xs : List X) (i j : ℕ) (a b : X) → (i ≡ j → ⊥) → set (set xs i a) j b ≡ set (set xs j b) i a
set_swap [] i j a b differ = refl
set_swap (x ∷ xs) zero zero a b differ = absurd (differ refl)
set_swap (x ∷ xs) zero (suc j) a b differ = refl
set_swap (x ∷ xs) (suc i) zero a b differ = refl
set_swap (x ∷ xs) (suc i) (suc j) a b differ = ap (λ zs. x ∷ zs) (set_swap xs i j a b (λ e. differ (ap (λ n. suc n) e)))

pub table_more : (size : ℕ) (slots : List Slot) (t : Slot) → SlotsFit size slots → SlotFits size t → has_index slots t.index ≡ false → table_of (slots ++ t ∷ []) ≡ with_slot (table_of slots) t.index (Some (area_of t))
table_more size [] t fit f free = refl
table_more size (s ∷ slots) t fit f free =
    let one = (low size s fit.0).1 in
    let two = (low size t f).1 in
    let apart : ((s.index == t.index) ≡ false) × (has_index slots t.index ≡ false) = by (s.index == t.index) free in
    let differ : t.index - 1 ≡ s.index - 1 → ⊥ = λ e. (let is : s.index ≡ t.index = omega (arith, e, one, two) in let test : (s.index == t.index) ≡ true = grind (arith, nat_tests, is) in false≢true (sym apart.0 ∙ test)) in
    ap (λ (z : Table). set z (s.index - 1) (Some (area_of s))) (table_more size slots t fit.1 f apart.1)
    ∙ set_swap (table_of slots) (t.index - 1) (s.index - 1) (Some (area_of t)) (Some (area_of s)) differ
  where
    by : (b : Bool) → (b || has_index slots t.index) ≡ false → (b ≡ false) × (has_index slots t.index ≡ false)
    by true e = absurd (false≢true (sym e))
    by false e = (refl, e)

-- The least free entry.

pub least_slot : (slots : List Slot) (n k i : ℕ) → k ≤ i → i < k + n → has_index slots i ≡ false → ((j : ℕ) → k ≤ j → j < i → has_index slots j ≡ true) → free_slot_from slots k n ≡ i
least_slot slots zero k i from lt free used = absurd (omega (arith, from, lt))
least_slot slots (suc n) k i from lt free used = elim (cases_eq k i) [
  | inl same ↦ ap (λ b. cond b (free_slot_from slots (k + 1) n) k) (ap (λ j. has_index slots j) same ∙ free) ∙ same
  | inr other ↦ ap (λ b. cond b (free_slot_from slots (k + 1) n) k) (used k (omega arith) (omega (arith, from, other)))
      ∙ least_slot slots n (k + 1) i (omega (arith, from, other)) (omega (arith, lt)) free (λ j le below. used j (omega (arith, le)) below)
]
