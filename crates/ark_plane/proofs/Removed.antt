-- The slots of a plane without one of them.
use Rattle.std.proofs.Common.{◌≡◌, ◌⊎◌, inl, inr, ℕ, zero, suc, ◌+◌, ◌-◌, ◌<◌, ◌≤◌, Bool, true, false, cond, not, ◌||◌, ◌==◌, eqb-true, List, [], ◌∷◌, length, get_or, set, refl, sym, ◌∙◌, ap, subst, arith, bytes_eq, Contains}
use Rattle.std.specs.Prelude.{Some, None, find, filter as select}
use Rattle.std.specs.List.{list_any}
use Rattle.std.proofs.lemmas.Bool.{false≢true, and_parts}
use Rattle.std.proofs.lemmas.Bool.Decides.{nat_tests}
use Rattle.std.proofs.lemmas.Slice.Eq.{bytes_eq-Decides}
use Rattle.ark_table.specs.Slots.{Slot, area_of}
use Rattle.ark_table.specs.Standing.{Table, with_slot}
use Rattle.ark_machine.specs.Plane.{is_granted, is_slot_of}
use Rattle.ark_machine.specs.Granting.{without_slot}
use Rattle.ark_machine.specs.Grants.{has_block, has_index, SlotFits, SlotsFit, SlotsApart, SlotsAgree}
use Rattle.ark_machine.proofs.Grants.{dropped_apart}
use Rattle.ark_held.specs.Totals.{bit}
use Rattle.ark_held.proofs.Members.{In, contains_in, in_contains}
use Rattle.ark_plane.specs.Shared.{slots_on}
use Rattle.ark_plane.specs.Tables.{table_of, slot_count}
use Rattle.ark_plane.proofs.Tests.{by_test}
use Rattle.ark_plane.proofs.Lists.{in_select}
use Rattle.ark_plane.proofs.Sharing.{same_slot}
use Rattle.ark_plane.proofs.Tabling.{has_in, fit_in, free_at, table_size, set_swap}

-- Tests of lists.

pub any_found : {X : Type 0} (p : X → Bool) (xs : List X) → list_any p xs ≡ true → (x : X) × In xs x × (p x ≡ true)
any_found p [] is = absurd (false≢true is)
any_found {X = X} p (x ∷ xs) is = by (p x) refl is (λ e. any_found p xs e)
  where
    by : (b : Bool) → p x ≡ b → (b || list_any p xs) ≡ true → (list_any p xs ≡ true → (y : X) × In xs y × (p y ≡ true)) → (y : X) × In (x ∷ xs) y × (p y ≡ true)
    by true here e next = (x, inl refl, here)
    by false there e next = let rest = next e in (rest.0, inr rest.1, rest.2)

not_any : {X : Type 0} (p : X → Bool) (xs : List X) → ((x : X) → In xs x → p x ≡ true → ⊥) → list_any p xs ≡ false
not_any p xs none = by_test (list_any p xs) (λ b. list_any p xs ≡ b → b ≡ false) (λ yes q. let f = any_found p xs q in absurd (none f.0 f.1 f.2)) (λ no q. refl) refl

pub in_selected : {X : Type 0} (p : X → Bool) (xs : List X) (x : X) → In xs x → p x ≡ true → In (select p xs) x
in_selected p [] x among is = absurd among
in_selected p (y ∷ ys) x (inl e) is = subst (λ b. In (cond b (y ∷ select p ys) (select p ys)) x) (sym (ap p e ∙ is)) (inl e)
in_selected p (y ∷ ys) x (inr among) is = by_test (p y) (λ b. In (cond b (y ∷ select p ys) (select p ys)) x) (λ _. inr (in_selected p ys x among is)) (λ _. in_selected p ys x among is)

-- what is found passes a test that each member passes for which the first test holds
pub found_select : {X : Type 0} (q r : X → Bool) (xs : List X) → ((x : X) → In xs x → q x ≡ true → r x ≡ true) → find q (select r xs) ≡ find q xs
found_select q r [] each = refl
found_select q r (x ∷ xs) each = by_test (r x) (λ b. r x ≡ b → find q (cond b (x ∷ select r xs) (select r xs)) ≡ cond (q x) (Some x) (find q xs))
    (λ yes e. ap (λ o. cond (q x) (Some x) o) (found_select q r xs (λ y among. each y (inr among))))
    (λ no e. found_select q r xs (λ y among. each y (inr among)) ∙ sym (ap (λ b. cond b (Some x) (find q xs)) (by_test (q x) (λ b. q x ≡ b → b ≡ false) (λ is h. absurd (false≢true (sym e ∙ each x (inl refl) h))) (λ not h. refl) refl))) refl

pub none_select : {X : Type 0} (q r : X → Bool) (xs : List X) → ((x : X) → In xs x → q x ≡ true → r x ≡ false) → find q (select r xs) ≡ None
none_select q r [] each = refl
none_select q r (x ∷ xs) each = by_test (r x) (λ b. r x ≡ b → find q (cond b (x ∷ select r xs) (select r xs)) ≡ None)
    (λ yes e. ap (λ b. cond b (Some x) (find q (select r xs))) (by_test (q x) (λ b. q x ≡ b → b ≡ false) (λ is h. absurd (false≢true (sym (each x (inl refl) h) ∙ e))) (λ not h. refl) refl) ∙ none_select q r xs (λ y among. each y (inr among)))
    (λ no e. none_select q r xs (λ y among. each y (inr among))) refl

-- Tables.

set_over : {X : Type 0} (xs : List X) (i : ℕ) (a b : X) → set (set xs i a) i b ≡ set xs i b
set_over [] i a b = refl
set_over (x ∷ xs) zero a b = refl
set_over (x ∷ xs) (suc i) a b = ap (λ zs. x ∷ zs) (set_over xs i a b)

set_there : {X : Type 0} (xs : List X) (i : ℕ) (a d : X) → i < length xs → get_or xs i d ≡ a → set xs i a ≡ xs
set_there [] i a d lt is = absurd (omega (arith, lt))
set_there (x ∷ xs) zero a d lt is = ap (λ z. z ∷ xs) (sym is)
set_there (x ∷ xs) (suc i) a d lt is = ap (λ zs. x ∷ zs) (set_there xs i a d (omega (arith, lt)) is)

same_eq : (n m : ℕ) → n ≡ m → (n == m) ≡ true
same_eq n m e = grind (arith, nat_tests)

-- No two slots have one index.
pub same_index : (ss : List Slot) (t u : Slot) → SlotsApart ss → In ss t → In ss u → t.index ≡ u.index → t ≡ u
same_index [] t u apart a b e = absurd a
same_index (s ∷ ss) t u apart (inl a) (inl b) e = sym a ∙ b
same_index (s ∷ ss) t u apart (inl a) (inr b) e = absurd (false≢true (sym apart.0.0 ∙ ap (λ i. has_index ss i) (ap (λ (z : Slot). z.index) a ∙ e) ∙ has_in ss u b))
same_index (s ∷ ss) t u apart (inr a) (inl b) e = absurd (false≢true (sym apart.0.0 ∙ ap (λ i. has_index ss i) (ap (λ (z : Slot). z.index) b ∙ sym e) ∙ has_in ss t a))
same_index (s ∷ ss) t u apart (inr a) (inr b) e = same_index ss t u apart.1 a b e

-- a slot's index is none of those that stay
no_index : (t : Slot) (ss : List Slot) → has_index (without_slot t ss) t.index ≡ false
no_index t ss = not_any (λ (s : Slot). s.index == t.index) (without_slot t ss) (λ s among is.
    let r = in_select (λ (u : Slot). not (u.index == t.index)) ss s among in false≢true (sym (ap not is) ∙ r.1))

-- where none has its index, all stay
all_stay : (t : Slot) (ss : List Slot) → has_index ss t.index ≡ false → without_slot t ss ≡ ss
all_stay t [] none = refl
all_stay t (s ∷ ss) none = by (s.index == t.index) none (all_stay t ss)
  where
    by : (b : Bool) → (b || has_index ss t.index) ≡ false → (has_index ss t.index ≡ false → without_slot t ss ≡ ss) → cond (not b) (s ∷ without_slot t ss) (without_slot t ss) ≡ s ∷ ss
    by true e next = absurd (false≢true (sym e))
    by false e next = ap (λ (zs : List Slot). s ∷ zs) (next e)

-- The slot itself, then those that stay: without it only those.

first_goes : (t s : Slot) (ss : List Slot) → s ≡ t → has_index ss s.index ≡ false → without_slot t (s ∷ ss) ≡ ss
first_goes t s ss same none =
    ap (λ b. cond (not b) (s ∷ without_slot t ss) (without_slot t ss)) (same_eq s.index t.index (ap (λ (z : Slot). z.index) same))
    ∙ all_stay t ss (ap (λ i. has_index ss i) (sym (ap (λ (z : Slot). z.index) same)) ∙ none)

first_stays : (t s : Slot) (ss : List Slot) → In ss t → has_index ss s.index ≡ false → without_slot t (s ∷ ss) ≡ s ∷ without_slot t ss
first_stays t s ss among none =
    ap (λ b. cond (not b) (s ∷ without_slot t ss) (without_slot t ss))
    (by_test (s.index == t.index) (λ b. (s.index == t.index) ≡ b → b ≡ false)
    (λ yes q. absurd (false≢true (sym none ∙ ap (λ i. has_index ss i) (eqb-true s.index t.index q) ∙ has_in ss t among))) (λ no q. refl) refl)

module _ (size : ℕ) (t : Slot) where
  pub table_front : (ss : List Slot) → SlotsFit size ss → SlotsApart ss → In ss t → table_of (t ∷ without_slot t ss) ≡ table_of ss
  table_front [] fit apart among = absurd among
  table_front (s ∷ ss) fit apart (inl same) =
      ap (λ (zs : List Slot). table_of (t ∷ zs)) (first_goes t s ss same apart.0.0) ∙ ap (λ (z : Slot). table_of (z ∷ ss)) (sym same)
  table_front (s ∷ ss) fit apart (inr among) =
      let rest = fit_in size ss t fit.1 among in
      let low : 1 ≤ s.index = fit.0.index_low in
      let its_low : 1 ≤ t.index = rest.index_low in
      let differ : s.index - 1 ≡ t.index - 1 → ⊥ = λ e. false≢true (sym apart.0.0 ∙ ap (λ i. has_index ss i) (let is : s.index ≡ t.index = omega (arith, e, low, its_low) in is) ∙ has_in ss t among) in
      ap (λ (zs : List Slot). table_of (t ∷ zs)) (first_stays t s ss among apart.0.0)
      ∙ set_swap (table_of (without_slot t ss)) (s.index - 1) (t.index - 1) (Some (area_of s)) (Some (area_of t)) differ
      ∙ ap (λ (z : Table). set z (s.index - 1) (Some (area_of s))) (table_front ss fit.1 apart.1 among)

  pub counted_front : (a : List ℕ) (ss : List Slot) → SlotsApart ss → In ss t → slot_count a (without_slot t ss) + bit (bytes_eq a t.app) ≡ slot_count a ss
  counted_front a [] apart among = absurd among
  counted_front a (s ∷ ss) apart (inl same) =
      let rest : slot_count a (without_slot t (s ∷ ss)) ≡ slot_count a ss = ap (λ (zs : List Slot). slot_count a zs) (first_goes t s ss same apart.0.0) in
      let its : bit (bytes_eq a s.app) ≡ bit (bytes_eq a t.app) = ap (λ (z : Slot). bit (bytes_eq a z.app)) same in
      omega (arith, rest, its)
  counted_front a (s ∷ ss) apart (inr among) =
      let here : slot_count a (without_slot t (s ∷ ss)) ≡ slot_count a (s ∷ without_slot t ss) = ap (λ (zs : List Slot). slot_count a zs) (first_stays t s ss among apart.0.0) in
      let rest = counted_front a ss apart.1 among in
      omega (arith, here, rest)

-- the table without the first of its slots
pub front_gone : (size : ℕ) (t : Slot) (ss : List Slot) → SlotsAgree size (t ∷ ss) → with_slot (table_of (t ∷ ss)) t.index None ≡ table_of ss
front_gone size t ss agree =
    let low = agree.fit.0.index_low in
    let high = agree.fit.0.index_high in
    set_over (table_of ss) (t.index - 1) (Some (area_of t)) None
    ∙ set_there (table_of ss) (t.index - 1) None None (omega (arith, low, high, table_size ss)) (free_at size ss t.index agree.fit.1 low agree.apart.0.0)

module _ (size : ℕ) (ss : List Slot) (agree : SlotsAgree size ss) (t : Slot) (held : Contains ss t) where
  among : In ss t
  among = contains_in ss t held

  abbrev rest : List Slot
  rest = without_slot t ss

  pub fits : SlotFits size t
  fits = fit_in size ss t agree.fit among

  -- a slot that stays was there, and is another one
  pub stayed : (u : Slot) → Contains rest u → Contains ss u × (u.index ≡ t.index → ⊥)
  stayed u has =
      let r = in_select (λ (s : Slot). not (s.index == t.index)) ss u (contains_in rest u has) in
      (in_contains ss u r.0, λ e. false≢true (sym (ap not (same_eq u.index t.index e)) ∙ r.1))

  -- no block of it is in another
  pub not_granted : (n : ℕ) → has_block t.blocks n ≡ true → is_granted rest n ≡ false
  not_granted n its = not_any (λ (s : Slot). has_block s.blocks n) rest (λ u here also.
      let r = stayed u (in_contains rest u here) in
      r.1 (ap (λ (z : Slot). z.index) (same_slot ss u t n agree.apart (contains_in ss u r.0) among also its)))

  pub rest_agrees : SlotsAgree size rest
  rest_agrees = dropped_apart (slots_on size ss) t agree

  pub front_agrees : SlotsAgree size (t ∷ rest)
  front_agrees = record {
    fit = (fits, rest_agrees.fit);
    apart = ((no_index t ss, λ n its. not_granted n its), rest_agrees.apart);
  }

  pub front_table : table_of (t ∷ rest) ≡ table_of ss
  front_table = table_front size t ss agree.fit agree.apart among

  pub rest_table : with_slot (table_of ss) t.index None ≡ table_of rest
  rest_table = ap (λ (z : Table). with_slot z t.index None) (sym front_table) ∙ front_gone size t rest front_agrees

  -- a block is granted where it is in the slot, or in one that stays
  pub granted_front : (n : ℕ) → is_granted ss n ≡ true → (has_block t.blocks n ≡ true) ⊎ (is_granted rest n ≡ true)
  granted_front n is = by (any_found (λ (s : Slot). has_block s.blocks n) ss is)
    where
      any_kept : (x : Slot) → In ss x → not (x.index == t.index) ≡ true → has_block x.blocks n ≡ true → is_granted rest n ≡ true
      any_kept x inn other has = kept ss inn
        where
          or_true : (b c : Bool) → c ≡ true → (b || c) ≡ true
          or_true true c e = refl
          or_true false c e = e

          kept : (xs : List Slot) → In xs x → is_granted (without_slot t xs) n ≡ true
          kept [] h = absurd h
          kept (y ∷ ys) (inl e) =
              ap (λ b. is_granted (cond b (y ∷ without_slot t ys) (without_slot t ys)) n) (ap (λ (z : Slot). not (z.index == t.index)) e ∙ other)
              ∙ ap (λ b. b || is_granted (without_slot t ys) n) (ap (λ (z : Slot). has_block z.blocks n) e ∙ has)
          kept (y ∷ ys) (inr h) = by_test (not (y.index == t.index)) (λ b. is_granted (cond b (y ∷ without_slot t ys) (without_slot t ys)) n ≡ true)
              (λ _. or_true (has_block y.blocks n) (is_granted (without_slot t ys) n) (kept ys h)) (λ _. kept ys h)

      by : (x : Slot) × In ss x × (has_block x.blocks n ≡ true) → (has_block t.blocks n ≡ true) ⊎ (is_granted rest n ≡ true)
      by f = by_test (f.0.index == t.index) (λ b. (f.0.index == t.index) ≡ b → (has_block t.blocks n ≡ true) ⊎ (is_granted rest n ≡ true))
          (λ yes q. inl (ap (λ (z : Slot). has_block z.blocks n) (sym (same_index ss f.0 t agree.apart f.1 among (eqb-true f.0.index t.index q))) ∙ f.2))
          (λ no q. inr (any_kept f.0 f.1 (ap not q) f.2)) refl

  -- Slots by their names.

  module _ (named : (u : Slot) → Contains ss u → find (λ v. is_slot_of u.app u.label v) ss ≡ Some u) where
    its_names : (b k : List ℕ) (u : Slot) → is_slot_of b k u ≡ true → (b ≡ u.app) × (k ≡ u.label)
    its_names b k u is = let p = and_parts (bytes_eq b u.app) (bytes_eq k u.label) is in ((bytes_eq-Decides b u.app).0 p.0, (bytes_eq-Decides k u.label).0 p.1)

    -- none stays at its name and label
    pub name_gone : find (λ v. is_slot_of t.app t.label v) rest ≡ None
    name_gone = none_select (λ v. is_slot_of t.app t.label v) (λ (s : Slot). not (s.index == t.index)) ss (λ u here is.
        let names = its_names t.app t.label u is in
        let same : t ≡ u = some_same t u (sym (named t held) ∙ ap (λ (b : List ℕ). find (λ v. is_slot_of b t.label v) ss) names.0 ∙ ap (λ (k : List ℕ). find (λ v. is_slot_of u.app k v) ss) names.1 ∙ named u (in_contains ss u here)) in
        ap not (same_eq u.index t.index (ap (λ (z : Slot). z.index) (sym same))))
      where
        some_same : (x y : Slot) → Some x ≡ Some y → x ≡ y
        some_same x y e = cc

    -- all others do
    pub name_stays : (b k : List ℕ) → is_slot_of b k t ≡ false → find (λ v. is_slot_of b k v) rest ≡ find (λ v. is_slot_of b k v) ss
    name_stays b k apart = found_select (λ v. is_slot_of b k v) (λ (s : Slot). not (s.index == t.index)) ss (λ u here is.
        by_test (u.index == t.index) (λ e. (u.index == t.index) ≡ e → not e ≡ true)
        (λ yes q. absurd (false≢true (sym apart ∙ ap (λ (z : Slot). is_slot_of b k z) (sym (same_index ss u t agree.apart here among (eqb-true u.index t.index q))) ∙ is)))
        (λ no q. refl) refl)
