-- Slots of which one got more blocks.
use Rattle.std.proofs.Common.{◌≡◌, ◌⊎◌, inl, inr, ℕ, zero, suc, ◌-◌, Bool, true, false, cond, ◌||◌, ◌==◌, List, [], ◌∷◌, ◌++◌, map, set, refl, sym, ◌∙◌, ap, subst, arith, bytes_eq, Contains}
use Rattle.std.specs.Prelude.{Some, find, option_map, slice_get}
use Rattle.std.proofs.lemmas.Bool.{false≢true}
use Rattle.std.proofs.lemmas.Bool.Decides.{nat_tests}
use Rattle.std.proofs.lemmas.List.Folds.{list_any-append}
use Rattle.ark_extents.specs.Blocks.{runs_of}
use Rattle.ark_extents.proofs.RunLemmas.{blocks_of-runs_of}
use Rattle.ark_table.specs.Slots.{Slot, area_of}
use Rattle.ark_table.specs.Standing.{with_slot, grown_area}
use Rattle.ark_machine.specs.Plane.{is_slot_of, is_granted}
use Rattle.ark_machine.specs.Granting.{with_more}
use Rattle.ark_machine.specs.Grants.{has_block, has_index, SlotFits, SlotsFit, SlotsApart}
use Rattle.ark_machine.proofs.Grants.{or_false}
use Rattle.ark_held.specs.Totals.{bit}
use Rattle.ark_held.proofs.Members.{In, get_has}
use Rattle.ark_plane.specs.Tables.{table_of, slot_count}
use Rattle.ark_plane.proofs.Tests.{by_test}
use Rattle.ark_plane.proofs.Freeing.{eq_same}
use Rattle.ark_plane.proofs.Tabling.{low, has_in, set_swap}

-- two slots of one index are the same
pub one_index : (slots : List Slot) (t u : Slot) → SlotsApart slots → In slots t → In slots u → t.index ≡ u.index → t ≡ u
one_index [] t u apart a b same = absurd a
one_index (s ∷ ss) t u apart (inl a) (inl b) same = sym a ∙ b
one_index (s ∷ ss) t u apart (inl a) (inr b) same =
    absurd (false≢true (sym apart.0.0 ∙ ap (λ i. has_index ss i) (ap (λ (z : Slot). z.index) a ∙ same) ∙ has_in ss u b))
one_index (s ∷ ss) t u apart (inr a) (inl b) same =
    absurd (false≢true (sym apart.0.0 ∙ ap (λ i. has_index ss i) (ap (λ (z : Slot). z.index) b ∙ sym same) ∙ has_in ss t a))
one_index (s ∷ ss) t u apart (inr a) (inr b) same = one_index ss t u apart.1 a b same

pub in_map : {X Y : Type 0} (f : X → Y) (xs : List X) (x : X) → In xs x → In (map f xs) (f x)
in_map f [] x h = absurd h
in_map f (y ∷ ys) x (inl e) = inl (ap f e)
in_map f (y ∷ ys) x (inr h) = inr (in_map f ys x h)

pub of_map : {X Y : Type 0} (f : X → Y) (xs : List X) (y : Y) → In (map f xs) y → (x : X) × In xs x × (f x ≡ y)
of_map f [] y h = absurd h
of_map f (x ∷ xs) y (inl e) = (x, inl refl, e)
of_map f (x ∷ xs) y (inr h) = let r = of_map f xs y h in (r.0, inr r.1, r.2)

-- a member of two lists, at its place in the first or in the second
pub split_get : (xs ys : List ℕ) (k n : ℕ) → slice_get (xs ++ ys) k ≡ Some n → (slice_get xs k ≡ Some n) ⊎ Contains ys n
split_get [] ys k n is = inr (get_has ys k n is)
split_get (x ∷ xs) ys zero n is = inl is
split_get (x ∷ xs) ys (suc k) n is = split_get xs ys k n is

set_again : {X : Type 0} (xs : List X) (i : ℕ) (a b : X) → set (set xs i a) i b ≡ set xs i b
set_again [] i a b = refl
set_again (x ∷ xs) zero a b = refl
set_again (x ∷ xs) (suc i) a b = ap (λ zs. x ∷ zs) (set_again xs i a b)

or_turned : (x y z : Bool) → ((x || y) || z) ≡ ((x || z) || y)
or_turned true y z = refl
or_turned false true true = refl
or_turned false true false = refl
or_turned false false true = refl
or_turned false false false = refl

or_out : (x y z : Bool) → (x || (y || z)) ≡ ((x || y) || z)
or_out true y z = refl
or_out false y z = refl

module _ (t : Slot) (more : List ℕ) where
  abbrev pub longer : Slot → Slot
  longer u = cond (u.index == t.index) (with_more u more) u

  -- where none has the index, none gets longer
  none_longer : (slots : List Slot) → has_index slots t.index ≡ false → map longer slots ≡ slots
  none_longer [] free = refl
  none_longer (s ∷ ss) free =
      let parts = or_false (s.index == t.index) (has_index ss t.index) free in
      ap (λ b. cond b (with_more s more) s ∷ map longer ss) parts.0 ∙ ap (λ (zs : List Slot). s ∷ zs) (none_longer ss parts.1)

  pub area_longer : area_of (with_more t more) ≡ grown_area (area_of t) more
  area_longer = λ j. record { app = t.app; label = t.label; kind = t.kind; runs = runs_of (sym (blocks_of-runs_of t.blocks) j ++ more) }

  pub its_longer : longer t ≡ with_more t more
  its_longer = ap (λ b. cond b (with_more t more) t) (eq_same t.index)

  -- another slot of the list has another index
  other_index : (s : Slot) (ss : List Slot) → has_index ss s.index ≡ false → In ss t → (s.index == t.index) ≡ false
  other_index s ss free inn = by_test (s.index == t.index) (λ b. (s.index == t.index) ≡ b → b ≡ false)
      (λ yes q. let same : s.index ≡ t.index = grind (arith, nat_tests, q) in absurd (false≢true (sym free ∙ ap (λ i. has_index ss i) same ∙ has_in ss t inn))) (λ no q. refl) refl

  -- the table has the longer area in its slot
  pub table_longer : (size : ℕ) (slots : List Slot) → SlotsFit size slots → SlotsApart slots → In slots t → table_of (map longer slots) ≡ with_slot (table_of slots) t.index (Some (grown_area (area_of t) more))
  table_longer size [] fit apart inn = absurd inn
  table_longer size (s ∷ ss) fit apart (inl e) =
      subst (λ (u : Slot). table_of (longer u ∷ map longer ss) ≡ with_slot (table_of (u ∷ ss)) t.index (Some (grown_area (area_of t) more))) (sym e)
      (ap (λ (zs : List Slot). table_of (longer t ∷ zs)) (none_longer ss (ap (λ (u : Slot). has_index ss u.index) (sym e) ∙ apart.0.0))
      ∙ ap (λ (u : Slot). table_of (u ∷ ss)) its_longer
      ∙ ap (λ a. set (table_of ss) (t.index - 1) (Some a)) area_longer
      ∙ sym (set_again (table_of ss) (t.index - 1) (Some (area_of t)) (Some (grown_area (area_of t) more))))
  table_longer size (s ∷ ss) fit apart (inr inn) =
      let one = (low size s fit.0).1 in
      let two = (low size t (fit_of size ss fit.1 inn)).1 in
      let other = other_index s ss apart.0.0 inn in
      let differ : t.index - 1 ≡ s.index - 1 → ⊥ = λ e. (let is : s.index ≡ t.index = omega (arith, e, one, two) in let test : (s.index == t.index) ≡ true = grind (arith, nat_tests, is) in false≢true (sym other ∙ test)) in
      ap (λ b. table_of (cond b (with_more s more) s ∷ map longer ss)) other
      ∙ ap (λ z. set z (s.index - 1) (Some (area_of s))) (table_longer size ss fit.1 apart.1 inn)
      ∙ set_swap (table_of ss) (t.index - 1) (s.index - 1) (Some (grown_area (area_of t) more)) (Some (area_of s)) differ
    where
      fit_of : (size : ℕ) (slots : List Slot) → SlotsFit size slots → In slots t → SlotFits size t
      fit_of size [] fit inn = absurd inn
      fit_of size (u ∷ us) fit (inl e) = subst (λ (z : Slot). SlotFits size z) e fit.0
      fit_of size (u ∷ us) fit (inr inn) = fit_of size us fit.1 inn

  -- names stay
  named_longer : (a l : List ℕ) (b : Bool) (u : Slot) → is_slot_of a l (cond b (with_more u more) u) ≡ is_slot_of a l u
  named_longer a l true u = refl
  named_longer a l false u = refl

  pub find_longer : (a l : List ℕ) (slots : List Slot) → find (λ v. is_slot_of a l v) (map longer slots) ≡ option_map longer (find (λ v. is_slot_of a l v) slots)
  find_longer a l [] = refl
  find_longer a l (s ∷ ss) =
      ap (λ b. cond b (Some (longer s)) (find (λ v. is_slot_of a l v) (map longer ss))) (named_longer a l (s.index == t.index) s)
      ∙ by_test (is_slot_of a l s) (λ b. cond b (Some (longer s)) (find (λ v. is_slot_of a l v) (map longer ss)) ≡ option_map longer (cond b (Some s) (find (λ v. is_slot_of a l v) ss)))
      (λ yes. refl) (λ no. find_longer a l ss)

  app_longer : (a : List ℕ) (b : Bool) (u : Slot) → bit (bytes_eq a (cond b (with_more u more) u).app) ≡ bit (bytes_eq a u.app)
  app_longer a true u = refl
  app_longer a false u = refl

  pub count_longer : (a : List ℕ) (slots : List Slot) → slot_count a (map longer slots) ≡ slot_count a slots
  count_longer a [] = refl
  count_longer a (s ∷ ss) = let one = app_longer a (s.index == t.index) s in let rest = count_longer a ss in omega (arith, one, rest)

  -- the blocks of slots are those that they had, and the new ones
  pub granted_longer : (k : ℕ) (slots : List Slot) → SlotsApart slots → In slots t → is_granted (map longer slots) k ≡ (is_granted slots k || has_block more k)
  granted_longer k [] apart inn = absurd inn
  granted_longer k (s ∷ ss) apart (inl e) =
      subst (λ (u : Slot). is_granted (longer u ∷ map longer ss) k ≡ (is_granted (u ∷ ss) k || has_block more k)) (sym e)
      (ap (λ (zs : List Slot). is_granted (longer t ∷ zs) k) (none_longer ss (ap (λ (u : Slot). has_index ss u.index) (sym e) ∙ apart.0.0))
      ∙ ap (λ (u : Slot). is_granted (u ∷ ss) k) its_longer
      ∙ ap (λ b. b || is_granted ss k) (list_any-append (λ b. b == k) t.blocks more)
      ∙ or_turned (has_block t.blocks k) (has_block more k) (is_granted ss k))
  granted_longer k (s ∷ ss) apart (inr inn) =
      ap (λ b. is_granted (cond b (with_more s more) s ∷ map longer ss) k) (other_index s ss apart.0.0 inn)
      ∙ ap (λ b. has_block s.blocks k || b) (granted_longer k ss apart.1 inn)
      ∙ or_out (has_block s.blocks k) (is_granted ss k) (has_block more k)
