-- No block is granted twice, and each change of the slots keeps that.
use Rattle.std.proofs.Common.{◌≡◌, ◌≤◌, ◌<◌, ◌⊎◌, inl, inr, ℕ, zero, suc, ◌+◌, ◌-◌, Bool, true, false, not, List, [], ◌∷◌, ◌++◌, ◌||◌, map, length, take, refl, sym, ◌∙◌, ap, subst, arith, cond, ◌==◌, eqb-true, Contains}
use Rattle.std.proofs.lemmas.Bool.{false≢true}
use Rattle.std.proofs.lemmas.Bool.Decides.{nat_tests}
use Rattle.std.proofs.lemmas.List.Folds.{list_any-append}
use Rattle.std.proofs.lemmas.List.Elements.{Contains-append_cases}
use Rattle.std.specs.Prelude.{Option, Some, None, option_map, find, unwrap_or, filter as select, nat_le, nat_lt}
use Rattle.std.specs.List.{list_any, range_with_len}
use Rattle.ark_base.specs.declared.kind.Kind.{Kind}
use Rattle.ark_extents.specs.Blocks.{AreDistinct}
use Rattle.ark_extents.proofs.Ascending.{Ascend, ascend_distinct}
use Rattle.ark_extents.proofs.Holding.{distinct_append}
use Rattle.ark_table.specs.Slots.{Slot}
use Rattle.ark_script.specs.Line as w
use Rattle.ark_script.specs.Line.{Line}
use Rattle.ark_machine.specs.Plane.{Plane, makes, grows, is_granted, free_blocks, free_slot_from, max_slots, lowest, is_slot_of, slot_of, blocks_at}
use Rattle.ark_machine.specs.Granting.{new_slot, with_more, without_slot, with_change}
use Rattle.ark_machine.specs.Follow.{own_index, slots_for}
use Rattle.ark_machine.specs.Grants.{has_block, has_index, SlotFits, SlotsFit, SlotsApart, GrantsApart}

or_true : (b c : Bool) → (b || c) ≡ true → (b ≡ true) ⊎ (c ≡ true)
or_true true c h = inl refl
or_true false c h = inr h

pub or_false : (b c : Bool) → (b || c) ≡ false → (b ≡ false) × (c ≡ false)
or_false true c h = absurd (false≢true (sym h))
or_false false c h = (refl, h)

pub or_both : (b c : Bool) → b ≡ false → c ≡ false → (b || c) ≡ false
or_both b c h k = rw (h, k) refl

pub clash : {b : Bool} → b ≡ true → b ≡ false → ⊥
clash h k = false≢true (sym k ∙ h)

pub not_true : (b : Bool) → (b ≡ true → ⊥) → b ≡ false
not_true true h = absurd (h refl)
not_true false h = refl

-- New blocks are free.

has_taken : (k : ℕ) (xs : List ℕ) (n : ℕ) → has_block (take k xs) n ≡ true → has_block xs n ≡ true
has_taken zero xs n h = absurd (false≢true h)
has_taken (suc k) [] n h = h
has_taken (suc k) (x ∷ xs) n h = by (or_true (x == n) (has_block (take k xs) n) h) (has_taken k xs n)
  where
    by : ((x == n) ≡ true) ⊎ (has_block (take k xs) n ≡ true) → (has_block (take k xs) n ≡ true → has_block xs n ≡ true) → ((x == n) || has_block xs n) ≡ true
    by (inl e) next = rw e refl
    by (inr e) next = or_right (x == n) (has_block xs n) (next e)
      where
        or_right : (b c : Bool) → c ≡ true → (b || c) ≡ true
        or_right true c h = refl
        or_right false c h = h

has_selected : (q : ℕ → Bool) (xs : List ℕ) (n : ℕ) → has_block (select q xs) n ≡ true → q n ≡ true
has_selected q [] n h = absurd (false≢true h)
has_selected q (x ∷ xs) n h = by (has_selected q xs n) (q x) refl h
  where
    by : (has_block (select q xs) n ≡ true → q n ≡ true) → (b : Bool) → q x ≡ b → has_block (cond b (x ∷ select q xs) (select q xs)) n ≡ true → q n ≡ true
    by next false e g = next g
    by next true e g = two (or_true (x == n) (has_block (select q xs) n) g)
      where
        two : ((x == n) ≡ true) ⊎ (has_block (select q xs) n ≡ true) → q n ≡ true
        two (inl same) = subst (λ y. q y ≡ true) (eqb-true x n same) e
        two (inr more) = next more

not_not : (b : Bool) → not b ≡ true → b ≡ false
not_not true h = absurd (false≢true h)
not_not false h = refl

pub lowest_free : (p : Plane) (k n : ℕ) → has_block (lowest p k) n ≡ true → is_granted p.slots n ≡ false
lowest_free p k n h =
    not_not (is_granted p.slots n) (has_selected (λ b. not (is_granted p.slots b)) (range_with_len 129 (p.size - 129)) n (has_taken k (free_blocks p) n h))

-- New blocks are data blocks of the device, none of them twice.

-- numbers from n on and below a top, each below the next
abbrev Rises : ℕ → ℕ → List ℕ → Type 0
Rises n top [] = Unit {0}
Rises n top (x ∷ xs) = (n ≤ x) × (x < top) × Rises (x + 1) top xs

rises_from : (n m top : ℕ) (xs : List ℕ) → n ≤ m → Rises m top xs → Rises n top xs
rises_from n m top [] le h = tt
rises_from n m top (x ∷ xs) le h = (omega (arith, le, h.0), h.1, h.2)

rises_range : (n top len : ℕ) → n + len ≡ top → Rises n top (range_with_len n len)
rises_range n top zero is = tt
rises_range n top (suc len) is = (omega arith, omega (arith, is), rises_range (n + 1) top len (omega (arith, is)))

rises_selected : (q : ℕ → Bool) (n top : ℕ) (xs : List ℕ) → Rises n top xs → Rises n top (select q xs)
rises_selected q n top [] h = tt
rises_selected q n top (x ∷ xs) h =
    let rest : Rises (x + 1) top (select q xs) = rises_selected q (x + 1) top xs h.2 in
    elim (q x) as (λ b. Rises n top (cond b (x ∷ select q xs) (select q xs))) [ true ↦ (h.0, h.1, rest) | false ↦ rises_from n (x + 1) top (select q xs) (omega (arith, h.0)) rest ]

rises_taken : (k n top : ℕ) (xs : List ℕ) → Rises n top xs → Rises n top (take k xs)
rises_taken zero n top xs h = tt
rises_taken (suc k) n top [] h = tt
rises_taken (suc k) n top (x ∷ xs) h = (h.0, h.1, rises_taken k (x + 1) top xs h.2)

rises_ascend : (n top : ℕ) (xs : List ℕ) → Rises n top xs → Ascend n xs
rises_ascend n top [] h = tt
rises_ascend n top (x ∷ xs) h = (h.0, rises_ascend (x + 1) top xs h.2)

rises_between : (n top : ℕ) (xs : List ℕ) (k : ℕ) → Rises n top xs → Contains xs k → (n ≤ k) × (k < top)
rises_between n top [] k h (i, lt, e) = absurd (omega (arith, lt))
rises_between n top (x ∷ xs) k h (zero, lt, e) = (omega (arith, h.0, e), omega (arith, h.1, e))
rises_between n top (x ∷ xs) k h (suc i, lt, e) = let rest = rises_between (x + 1) top xs k h.2 (i, omega (arith, lt), e) in (omega (arith, h.0, rest.0), rest.1)

lowest_rises : (p : Plane) (k : ℕ) → Rises 129 (129 + (p.size - 129)) (lowest p k)
lowest_rises p k =
    rises_taken k 129 (129 + (p.size - 129)) (free_blocks p)
    (rises_selected (λ b. not (is_granted p.slots b)) 129 (129 + (p.size - 129)) (range_with_len 129 (p.size - 129)) (rises_range 129 (129 + (p.size - 129)) (p.size - 129) refl))

lowest_distinct : (p : Plane) (k : ℕ) → AreDistinct (lowest p k)
lowest_distinct p k = ascend_distinct 129 (lowest p k) (rises_ascend 129 (129 + (p.size - 129)) (lowest p k) (lowest_rises p k))

lowest_data : (p : Plane) (k n : ℕ) → Contains (lowest p k) n → (129 ≤ n) × (n < p.size)
lowest_data p k n h = let b = rises_between 129 (129 + (p.size - 129)) (lowest p k) n (lowest_rises p k) h in (b.0, omega (arith, b.0, b.1))

-- A new slot has an index of its own.

-- how many slots have an index from i on
abbrev from : ℕ → List Slot → ℕ
from i [] = 0
from i (s ∷ ss) = (cond (nat_le i s.index) 1 0) + from i ss

mono_step : (i k y z : ℕ) → y ≤ z → cond (nat_le (i + 1) k) 1 0 + y ≤ cond (nat_le i k) 1 0 + z
mono_step i k y z h = grind (arith, nat_tests)

here_step : (i k y z : ℕ) → k ≡ i → y ≤ z → (cond (nat_le (i + 1) k) 1 0 + y) + 1 ≤ cond (nat_le i k) 1 0 + z
here_step i k y z e h = grind (arith, nat_tests)

there_step : (i k y z : ℕ) → y + 1 ≤ z → (cond (nat_le (i + 1) k) 1 0 + y) + 1 ≤ cond (nat_le i k) 1 0 + z
there_step i k y z h = grind (arith, nat_tests)

one_step : (i k y z : ℕ) → y ≤ z → cond (nat_le i k) 1 0 + y ≤ z + 1
one_step i k y z h = grind (arith, nat_tests)

from_later : (i : ℕ) (ss : List Slot) → from (i + 1) ss ≤ from i ss
from_later i [] = omega arith
from_later i (s ∷ ss) = mono_step i s.index (from (i + 1) ss) (from i ss) (from_later i ss)

from_fewer : (i : ℕ) (ss : List Slot) → has_index ss i ≡ true → from (i + 1) ss + 1 ≤ from i ss
from_fewer i [] h = absurd (false≢true h)
from_fewer i (s ∷ ss) h = by (or_true (s.index == i) (has_index ss i) h) (from_fewer i ss)
  where
    by : ((s.index == i) ≡ true) ⊎ (has_index ss i ≡ true) → (has_index ss i ≡ true → from (i + 1) ss + 1 ≤ from i ss) → from (i + 1) (s ∷ ss) + 1 ≤ from i (s ∷ ss)
    by (inl e) next = here_step i s.index (from (i + 1) ss) (from i ss) (eqb-true s.index i e) (from_later i ss)
    by (inr e) next = there_step i s.index (from (i + 1) ss) (from i ss) (next e)

from_all : (i : ℕ) (ss : List Slot) → from i ss ≤ length ss
from_all i [] = omega arith
from_all i (s ∷ ss) = let h : from i ss ≤ length ss = from_all i ss in let k = one_step i s.index (from i ss) (length ss) h in omega (arith, k)

fresh_from : (ss : List Slot) (i n : ℕ) → from i ss < n → has_index ss (free_slot_from ss i n) ≡ false
fresh_from ss i zero h = absurd (omega (arith, h))
fresh_from ss i (suc n) h = by (has_index ss i) refl (λ lt. fresh_from ss (i + 1) n lt)
  where
    by : (b : Bool) → has_index ss i ≡ b → (from (i + 1) ss < n → has_index ss (free_slot_from ss (i + 1) n) ≡ false) → has_index ss (cond b (free_slot_from ss (i + 1) n) i) ≡ false
    by true e next = next (let f : from (i + 1) ss + 1 ≤ from i ss = from_fewer i ss e in omega (arith, h, f))
    by false e next = e

pub free_index : (p : Plane) (m : ℕ) → max_slots ≡ m → length p.slots < m → has_index p.slots (free_slot_from p.slots 1 m) ≡ false
free_index p m is h = fresh_from p.slots 1 m (let f : from 1 p.slots ≤ length p.slots = from_all 1 p.slots in omega (arith, h, f))

-- and one of the table
range_from : (ss : List Slot) (i n : ℕ) → from i ss < n → (i ≤ free_slot_from ss i n) × (free_slot_from ss i n < i + n)
range_from ss i zero h = absurd (omega (arith, h))
range_from ss i (suc n) h = by (has_index ss i) refl (λ lt. range_from ss (i + 1) n lt)
  where
    by : (b : Bool) → has_index ss i ≡ b → (from (i + 1) ss < n → (i + 1 ≤ free_slot_from ss (i + 1) n) × (free_slot_from ss (i + 1) n < (i + 1) + n))
        → (i ≤ cond b (free_slot_from ss (i + 1) n) i) × (cond b (free_slot_from ss (i + 1) n) i < i + suc n)
    by true e next = let f : from (i + 1) ss + 1 ≤ from i ss = from_fewer i ss e in let r = next (omega (arith, h, f)) in (omega (arith, r.0), omega (arith, r.1))
    by false e next = (omega arith, omega arith)

pub free_range : (p : Plane) (m : ℕ) → max_slots ≡ m → length p.slots < m → (1 ≤ free_slot_from p.slots 1 m) × (free_slot_from p.slots 1 m ≤ m)
free_range p m is h = let r = range_from p.slots 1 m (let f : from 1 p.slots ≤ length p.slots = from_all 1 p.slots in omega (arith, h, f)) in (r.0, omega (arith, r.1))

-- Changes of the slots.

other_index : (i j : ℕ) → (i == j) ≡ false → (j == i) ≡ false
other_index i j h = not_true (j == i) (λ e. clash (subst (λ k. (k == j) ≡ true) (eqb-true j i e) (same j)) h)
  where
    same : (k : ℕ) → (k == k) ≡ true
    same k = grind (arith, nat_tests)

pub apart_more : (ss : List Slot) (t : Slot) → SlotsApart ss → has_index ss t.index ≡ false → ((n : ℕ) → has_block t.blocks n ≡ true → is_granted ss n ≡ false) → SlotsApart (ss ++ t ∷ [])
apart_more [] t h i free = ((refl, λ n k. refl), tt)
apart_more (s ∷ ss) t h i free =
    let apart = or_false (s.index == t.index) (has_index ss t.index) i in (
      (
        list_any-append (λ x. x.index == s.index) ss (t ∷ []) ∙ or_both (has_index ss s.index) ((t.index == s.index) || false) h.0.0 (or_both (t.index == s.index) false (other_index s.index t.index apart.0) refl),
        λ n k. list_any-append (λ x. has_block x.blocks n) ss (t ∷ []) ∙ or_both (is_granted ss n) (has_block t.blocks n || false) (h.0.1 n k)
            (or_both (has_block t.blocks n) false (not_true (has_block t.blocks n) (λ e. clash k (or_false (has_block s.blocks n) (is_granted ss n) (free n e)).0)) refl),
      ),
      apart_more ss t h.1 apart.1 (λ n e. (or_false (has_block s.blocks n) (is_granted ss n) (free n e)).1),
    )

none_selected : (f q : Slot → Bool) (ss : List Slot) → list_any f ss ≡ false → list_any f (select q ss) ≡ false
none_selected f q [] h = h
none_selected f q (s ∷ ss) h =
    let apart = or_false (f s) (list_any f ss) h in
    let rest : list_any f (select q ss) ≡ false = none_selected f q ss apart.1 in
    elim (q s) as (λ b. list_any f (cond b (s ∷ select q ss) (select q ss)) ≡ false) [ true ↦ or_both (f s) (list_any f (select q ss)) apart.0 rest | false ↦ rest ]

pub apart_selected : (q : Slot → Bool) (ss : List Slot) → SlotsApart ss → SlotsApart (select q ss)
apart_selected q [] h = tt
apart_selected q (s ∷ ss) h =
    let rest : SlotsApart (select q ss) = apart_selected q ss h.1 in
    elim (q s) as (λ b. SlotsApart (cond b (s ∷ select q ss) (select q ss))) [
      | true ↦ ((none_selected (λ x. x.index == s.index) q ss h.0.0, λ n k. none_selected (λ x. has_block x.blocks n) q ss (h.0.1 n k)), rest)
      | false ↦ rest
    ]

module _ (k : ℕ) (more : List ℕ) where
  abbrev grown : Slot → Slot
  grown x = cond (x.index == k) (with_more x more) x

  index_kept : (i : ℕ) (ss : List Slot) → has_index (map grown ss) i ≡ has_index ss i
  index_kept i [] = refl
  index_kept i (s ∷ ss) = by (s.index == k) (index_kept i ss)
    where
      by : (b : Bool) → has_index (map grown ss) i ≡ has_index ss i → (((cond b (with_more s more) s).index == i) || has_index (map grown ss) i) ≡ ((s.index == i) || has_index ss i)
      by true h = ap (λ c. (s.index == i) || c) h
      by false h = ap (λ c. (s.index == i) || c) h

  has_more : (xs : List ℕ) (n : ℕ) → has_block (xs ++ more) n ≡ true → (has_block xs n ≡ true) ⊎ (has_block more n ≡ true)
  has_more xs n h = or_true (has_block xs n) (has_block more n) (sym (list_any-append (λ b. b == n) xs more) ∙ h)

  -- where none has the index, nothing grows
  none_grown : (n : ℕ) (ss : List Slot) → has_index ss k ≡ false → is_granted (map grown ss) n ≡ is_granted ss n
  none_grown n [] h = refl
  none_grown n (s ∷ ss) h =
      let apart = or_false (s.index == k) (has_index ss k) h in
      rw apart.0 (ap (λ c. has_block s.blocks n || c) (none_grown n ss apart.1))

  granted_grown : (n : ℕ) (ss : List Slot) → is_granted (map grown ss) n ≡ true → (is_granted ss n ≡ true) ⊎ (has_block more n ≡ true)
  granted_grown n [] h = absurd (false≢true h)
  granted_grown n (s ∷ ss) h = by (s.index == k) h (granted_grown n ss)
    where
      front : (a b : Bool) → a ≡ true → (a || b) ≡ true
      front a b e = rw e refl

      back : (a b : Bool) → b ≡ true → (a || b) ≡ true
      back true b e = refl
      back false b e = e

      later : (is_granted ss n ≡ true) ⊎ (has_block more n ≡ true) → (is_granted (s ∷ ss) n ≡ true) ⊎ (has_block more n ≡ true)
      later (inl e) = inl (back (has_block s.blocks n) (is_granted ss n) e)
      later (inr e) = inr e

      two : (is_granted (map grown ss) n ≡ true → (is_granted ss n ≡ true) ⊎ (has_block more n ≡ true)) → (has_block s.blocks n ≡ true) ⊎ (is_granted (map grown ss) n ≡ true)
          → (is_granted (s ∷ ss) n ≡ true) ⊎ (has_block more n ≡ true)
      two next (inl e) = inl (front (has_block s.blocks n) (is_granted ss n) e)
      two next (inr e) = later (next e)

      three : (is_granted (map grown ss) n ≡ true → (is_granted ss n ≡ true) ⊎ (has_block more n ≡ true)) → ((has_block s.blocks n ≡ true) ⊎ (has_block more n ≡ true)) ⊎ (is_granted (map grown ss) n ≡ true)
          → (is_granted (s ∷ ss) n ≡ true) ⊎ (has_block more n ≡ true)
      three next (inl (inl e)) = inl (front (has_block s.blocks n) (is_granted ss n) e)
      three next (inl (inr e)) = inr e
      three next (inr e) = later (next e)

      first_of : (has_block (s.blocks ++ more) n ≡ true) ⊎ (is_granted (map grown ss) n ≡ true) → ((has_block s.blocks n ≡ true) ⊎ (has_block more n ≡ true)) ⊎ (is_granted (map grown ss) n ≡ true)
      first_of (inl e) = inl (has_more s.blocks n e)
      first_of (inr e) = inr e

      by : (b : Bool) → (has_block (cond b (with_more s more) s).blocks n || is_granted (map grown ss) n) ≡ true → (is_granted (map grown ss) n ≡ true → (is_granted ss n ≡ true) ⊎ (has_block more n ≡ true))
          → (is_granted (s ∷ ss) n ≡ true) ⊎ (has_block more n ≡ true)
      by true g next = three next (first_of (or_true (has_block (s.blocks ++ more) n) (is_granted (map grown ss) n) g))
      by false g next = two next (or_true (has_block s.blocks n) (is_granted (map grown ss) n) g)

  pub apart_grown : (ss : List Slot) → SlotsApart ss → ((n : ℕ) → has_block more n ≡ true → is_granted ss n ≡ false) → SlotsApart (map grown ss)
  apart_grown [] h free = tt
  apart_grown (s ∷ ss) h free = (by (s.index == k) refl, apart_grown ss h.1 (λ n e. (or_false (has_block s.blocks n) (is_granted ss n) (free n e)).1))
    where
      by : (b : Bool) → (s.index == k) ≡ b
          → (has_index (map grown ss) (cond b (with_more s more) s).index ≡ false) × ((n : ℕ) → has_block (cond b (with_more s more) s).blocks n ≡ true → is_granted (map grown ss) n ≡ false)
      by true e =
          let alone : has_index ss k ≡ false = subst (λ i. has_index ss i ≡ false) (eqb-true s.index k e) h.0.0 in
          (index_kept s.index ss ∙ h.0.0, λ n g. none_grown n ss alone ∙ two n (has_more s.blocks n g))
        where
          two : (n : ℕ) → (has_block s.blocks n ≡ true) ⊎ (has_block more n ≡ true) → is_granted ss n ≡ false
          two n (inl own) = h.0.1 n own
          two n (inr new) = (or_false (has_block s.blocks n) (is_granted ss n) (free n new)).1
      by false e = (index_kept s.index ss ∙ h.0.0, λ n g. not_true (is_granted (map grown ss) n) (λ so. three n g (granted_grown n ss so)))
        where
          three : (n : ℕ) → has_block s.blocks n ≡ true → (is_granted ss n ≡ true) ⊎ (has_block more n ≡ true) → ⊥
          three n own (inl old) = clash old (h.0.1 n own)
          three n own (inr new) = clash own (or_false (has_block s.blocks n) (is_granted ss n) (free n new)).0

-- The slots, each by itself.

pub fit_more : (size : ℕ) (ss : List Slot) (t : Slot) → SlotsFit size ss → SlotFits size t → SlotsFit size (ss ++ t ∷ [])
fit_more size [] t h k = (k, tt)
fit_more size (s ∷ ss) t h k = (h.0, fit_more size ss t h.1 k)

fit_selected : (size : ℕ) (q : Slot → Bool) (ss : List Slot) → SlotsFit size ss → SlotsFit size (select q ss)
fit_selected size q [] h = tt
fit_selected size q (s ∷ ss) h =
    let rest : SlotsFit size (select q ss) = fit_selected size q ss h.1 in
    elim (q s) as (λ b. SlotsFit size (cond b (s ∷ select q ss) (select q ss))) [ true ↦ (h.0, rest) | false ↦ rest ]

-- membership, by the test and back
pub has_of : (xs : List ℕ) (n : ℕ) → Contains xs n → has_block xs n ≡ true
has_of [] n (i, lt, e) = absurd (omega (arith, lt))
has_of (x ∷ xs) n (zero, lt, e) = rw e (here n (has_block xs n))
  where
    same : (k : ℕ) → (k == k) ≡ true
    same k = grind (arith, nat_tests)

    here : (k : ℕ) (b : Bool) → ((k == k) || b) ≡ true
    here k b = rw (same k) refl
has_of (x ∷ xs) n (suc i, lt, e) = back (x == n) (has_block xs n) (has_of xs n (i, omega (arith, lt), e))
  where
    back : (a b : Bool) → b ≡ true → (a || b) ≡ true
    back true b h = refl
    back false b h = h

module _ (size k : ℕ) (more : List ℕ) (data_part : (n : ℕ) → Contains more n → (129 ≤ n) × (n < size)) (distinct : AreDistinct more) where
  more_fits : (s : Slot) → SlotFits size s → ((n : ℕ) → has_block more n ≡ true → has_block s.blocks n ≡ false) → SlotFits size (with_more s more)
  more_fits s h free = record {
    index_low = h.index_low;
    index_high = h.index_high;
    data_part = λ n has. elim (Contains-append_cases s.blocks more n has) [ inl old ↦ h.data_part n old | inr new ↦ data_part n new ];
    distinct = distinct_append s.blocks more h.distinct distinct (λ n old new. clash (has_of s.blocks n old) (free n (has_of more n new)));
  }

  fit_grown : (ss : List Slot) → SlotsFit size ss → ((n : ℕ) → has_block more n ≡ true → is_granted ss n ≡ false) → SlotsFit size (map (grown k more) ss)
  fit_grown [] h free = tt
  fit_grown (s ∷ ss) h free = (
    elim (s.index == k) as (λ b. SlotFits size (cond b (with_more s more) s)) [
      | true ↦ more_fits s h.0 (λ n e. (or_false (has_block s.blocks n) (is_granted ss n) (free n e)).0)
      | false ↦ h.0
    ],
    fit_grown ss h.1 (λ n e. (or_false (has_block s.blocks n) (is_granted ss n) (free n e)).1),
  )

fit_found : (size : ℕ) (q : Slot → Bool) (ss : List Slot) (t : Slot) → SlotsFit size ss → find q ss ≡ Some t → SlotFits size t
fit_found size q [] t h is = absurd cc
fit_found size q (s ∷ ss) t h is = by (q s) is (λ e. fit_found size q ss t h.1 e)
  where
    the_same : (x y : Slot) → ◌≡◌ {A = Option Slot} (Some x) (Some y) → x ≡ y
    the_same x y e = cc

    by : (b : Bool) → cond b (Some s) (find q ss) ≡ Some t → (find q ss ≡ Some t → SlotFits size t) → SlotFits size t
    by true e next = subst (λ x. SlotFits size x) (the_same s t e) h.0
    by false e next = next e

-- Changes of a plane.

pub new_fits : (p : Plane) (a s : List ℕ) (k : Kind) (n : ℕ) → length p.slots < max_slots → SlotFits p.size (new_slot p a s k n)
new_fits p a s k n room =
    let r = free_range p max_slots refl room in
    record { index_low = r.0; index_high = r.1; data_part = λ b has. lowest_data p n b has; distinct = lowest_distinct p n }

pub makes_apart : (p : Plane) (a s : List ℕ) (k : Kind) (n : ℕ) → GrantsApart p → length p.slots < max_slots → GrantsApart (with_change p (makes (new_slot p a s k n)))
makes_apart p a s k n h room = record {
  fit = fit_more p.size p.slots (new_slot p a s k n) h.fit (new_fits p a s k n room);
  apart = apart_more p.slots (new_slot p a s k n) h.apart (free_index p max_slots refl room) (λ b e. lowest_free p n b e);
}

pub grows_apart : (p : Plane) (n : ℕ) (t : Slot) → GrantsApart p → GrantsApart (with_change p (grows t (lowest p n)))
grows_apart p n t h = record {
  fit = fit_grown p.size t.index (lowest p n) (λ b has. lowest_data p n b has) (lowest_distinct p n) p.slots h.fit (λ b e. lowest_free p n b e);
  apart = apart_grown t.index (lowest p n) p.slots h.apart (λ b e. lowest_free p n b e);
}

-- whether or not the table was written
pub dropped_apart : (p : Plane) (t : Slot) → GrantsApart p → GrantsApart (record p { slots = without_slot t p.slots })
dropped_apart p t h = record { fit = fit_selected p.size (λ x. not (x.index == t.index)) p.slots h.fit; apart = apart_selected (λ x. not (x.index == t.index)) p.slots h.apart }

-- No block of an area is a block of the table.

pub data_of : (p : Plane) (b l : List ℕ) (n : ℕ) → GrantsApart p → Contains (blocks_at p b l) n → (129 ≤ n) × (n < p.size)
data_of p b l n h has = by (slot_of p b l) refl has
  where
    by : (o : Option Slot) → slot_of p b l ≡ o → Contains (unwrap_or (option_map (λ s. s.blocks) o) []) n → (129 ≤ n) × (n < p.size)
    by None is has = absurd (omega (arith, has.1))
    by (Some t) is has = (fit_found p.size (λ s. is_slot_of b l s) p.slots t h.fit is).data_part n has

one_of : (x n : ℕ) → Contains (x ∷ []) n → x ≡ n
one_of x n (zero, lt, e) = e
one_of x n (suc i, lt, e) = absurd (omega (arith, lt))

own_low : (p : Plane) (a l : List ℕ) (n : ℕ) → GrantsApart p → Contains (own_index (slot_of p a l)) n → (1 ≤ n) × (n ≤ max_slots)
own_low p a l n h has = by (slot_of p a l) refl has
  where
    by : (o : Option Slot) → slot_of p a l ≡ o → Contains (own_index o) n → (1 ≤ n) × (n ≤ max_slots)
    by None is has = absurd (omega (arith, has.1))
    by (Some t) is has =
        let f : SlotFits p.size t = fit_found p.size (λ s. is_slot_of a l s) p.slots t h.fit is in
        subst (λ i. (1 ≤ i) × (i ≤ max_slots)) (one_of t.index n has) (f.index_low, f.index_high)

below_of : (n k : ℕ) → nat_lt n k ≡ true → n < k
below_of n k h = grind (arith, nat_tests)

new_low : (p : Plane) (n : ℕ) → Contains (cond (nat_lt (length p.slots) max_slots) (free_slot_from p.slots 1 max_slots ∷ []) []) n → (1 ≤ n) × (n ≤ max_slots)
new_low p n = by (nat_lt (length p.slots) max_slots) refl
  where
    by : (b : Bool) → nat_lt (length p.slots) max_slots ≡ b → Contains (cond b (free_slot_from p.slots 1 max_slots ∷ []) []) n → (1 ≤ n) × (n ≤ max_slots)
    by false is has = absurd (omega (arith, has.1))
    by true is has = subst (λ i. (1 ≤ i) × (i ≤ max_slots)) (one_of (free_slot_from p.slots 1 max_slots) n has) (free_range p max_slots refl (below_of (length p.slots) max_slots is))

-- what a line may write of the table
pub table_of : (p : Plane) (a : List ℕ) (line : Line) (n : ℕ) → GrantsApart p → Contains (slots_for p a line) n → (1 ≤ n) × (n ≤ max_slots)
table_of p a (w.vsa b s k kind) n h has = new_low p n has
table_of p a (w.grow b s k) n h has = own_low p a s n h has
table_of p a (w.drop b x) n h has = own_low p a x n h has
table_of p a _ n h has = absurd (omega (arith, has.1))

pub no_table_block : (p : Plane) (a : List ℕ) (line : Line) (b l : List ℕ) (n : ℕ) → GrantsApart p → Contains (slots_for p a line) n → Contains (blocks_at p b l) n → ⊥
no_table_block p a line b l n h slot has =
    let low = table_of p a line n h slot in
    let high = data_of p b l n h has in
    let is : max_slots ≡ 128 = refl in
    omega (arith, low.1, high.0, is)
