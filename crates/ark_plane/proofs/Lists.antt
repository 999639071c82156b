-- Members of lists, one by one.
use Rattle.std.proofs.Common.{◌≡◌, ◌⊎◌, inl, inr, ℕ, zero, suc, ◌<◌, Bool, true, false, cond, ◌||◌, List, [], ◌∷◌, length, map, get_or, set, nat_lt, refl, sym, ◌∙◌, ap, arith}
use Rattle.std.specs.Prelude.{Some, None, find, position, filter as select, is_some, slice_get, unwrap_or}
use Rattle.std.specs.List.{list_any, position_or_len}
use Rattle.std.proofs.Math.Bool.{or-true}
use Rattle.std.proofs.lemmas.Bool.{false≢true}
use Rattle.std.proofs.lemmas.Bool.Decides.{nat_tests}
use Rattle.std.proofs.lemmas.Option.{slice_get_past}
use Rattle.std.proofs.lemmas.List.Quantifiers.{position-Some}
use Rattle.std.proofs.lemmas.List.Folds.{find_at}
use Rattle.ark_held.proofs.Members.{In}
use Rattle.ark_plane.proofs.Tests.{by_test}

module _ {X : Type 0} (p : X → Bool) where
  pub find_in : (xs : List X) (t : X) → find p xs ≡ Some t → In xs t × (p t ≡ true)
  find_in [] t is = absurd (false≢true (ap is_some is))
  find_in (x ∷ xs) t is = by_test (p x) (λ b. p x ≡ b → cond b (Some x) (find p xs) ≡ Some t → ((x ≡ t) ⊎ In xs t) × (p t ≡ true))
      (λ yes q e. let same : x ≡ t = ap (λ o. unwrap_or o x) e in (inl same, ap p (sym same) ∙ q))
      (λ no q e. let rest = find_in xs t e in (inr rest.0, rest.1)) refl is

  pub any_in : (xs : List X) (x : X) → In xs x → p x ≡ true → list_any p xs ≡ true
  any_in [] x h is = absurd h
  any_in (y ∷ ys) x (inl e) is = ap (λ b. b || list_any p ys) (ap p e ∙ is)
  any_in (y ∷ ys) x (inr h) is = ap (λ b. p y || b) (any_in ys x h is) ∙ or-true (p y)

  pub in_select : (xs : List X) (x : X) → In (select p xs) x → In xs x × (p x ≡ true)
  in_select [] x h = absurd h
  in_select (y ∷ ys) x h = by_test (p y) (λ b. p y ≡ b → In (cond b (y ∷ select p ys) (select p ys)) x → ((y ≡ x) ⊎ In ys x) × (p x ≡ true))
      (λ yes q g. first q g (in_select ys x)) (λ no q g. let rest = in_select ys x g in (inr rest.0, rest.1)) refl h
    where
      first : p y ≡ true → (y ≡ x) ⊎ In (select p ys) x → (In (select p ys) x → In ys x × (p x ≡ true)) → ((y ≡ x) ⊎ In ys x) × (p x ≡ true)
      first q (inl e) rest = (inl e, ap p (sym e) ∙ q)
      first q (inr g) rest = let r = rest g in (inr r.0, r.1)

-- Places.

pub get_there : {X : Type 0} (xs : List X) (k : ℕ) (d : X) → k < length xs → slice_get xs k ≡ Some (get_or xs k d)
get_there [] k d lt = absurd (omega arith)
get_there (x ∷ xs) zero d lt = refl
get_there (x ∷ xs) (suc k) d lt = get_there xs k d (omega arith)

module _ {X : Type 0} (p : X → Bool) where
  pub none_found : (xs : List X) → position p xs ≡ None → find p xs ≡ None
  none_found xs none = find_at p xs ∙ by_test (nat_lt (position_or_len p xs) (length xs)) (λ b. nat_lt (position_or_len p xs) (length xs) ≡ b → cond b (Some (position_or_len p xs)) None ≡ None → slice_get xs (position_or_len p xs) ≡ None)
      (λ yes q e. absurd (false≢true (sym (ap is_some e))))
      (λ no q e. slice_get_past xs (position_or_len p xs) (grind (arith, nat_tests))) refl none

  find_first : (xs : List X) (i : ℕ) (d : X) → i < length xs → p (get_or xs i d) ≡ true → ((k : ℕ) → k < i → p (get_or xs k d) ≡ false) → find p xs ≡ Some (get_or xs i d)
  find_first [] i d lt at before = absurd (omega arith)
  find_first (x ∷ xs) zero d lt at before = ap (λ b. cond b (Some x) (find p xs)) at
  find_first (x ∷ xs) (suc i) d lt at before = ap (λ b. cond b (Some x) (find p xs)) (before 0 (omega arith)) ∙ find_first xs i d (omega arith) at (λ k kt. before (suc k) (omega (arith, kt)))

  pub first_found : (xs : List X) (i : ℕ) (d : X) → position p xs ≡ Some i → (i < length xs) × (find p xs ≡ Some (get_or xs i d))
  first_found xs i d is = let s = position-Some p xs i d is in (s.0, find_first xs i d s.0 s.1 s.2)

  -- another element at the first place where p holds, of which p holds too
  module _ (q : X → Bool) (y : X) (alike : (x : X) → p x ≡ true → q x ≡ q y) (apart : (x : X) → p x ≡ false → q y ≡ true → q x ≡ false) where
    set_first : (xs : List X) (i : ℕ) (d : X) → i < length xs → p (get_or xs i d) ≡ true → ((k : ℕ) → k < i → p (get_or xs k d) ≡ false) → find q (set xs i y) ≡ cond (q y) (Some y) (find q xs)
    set_first [] i d lt at before = absurd (omega arith)
    set_first (x ∷ xs) zero d lt at before =
        by_test (q y) (λ b. q y ≡ b → cond b (Some y) (find q xs) ≡ cond b (Some y) (cond (q x) (Some x) (find q xs)))
        (λ t e. refl) (λ f e. sym (ap (λ b. cond b (Some x) (find q xs)) (alike x at ∙ e))) refl
    set_first (x ∷ xs) (suc i) d lt at before =
        ap (λ o. cond (q x) (Some x) o) (set_first xs i d (omega arith) at (λ k kt. before (suc k) (omega (arith, kt))))
        ∙ by_test (q y) (λ b. q y ≡ b → cond (q x) (Some x) (cond b (Some y) (find q xs)) ≡ cond b (Some y) (cond (q x) (Some x) (find q xs)))
        (λ t e. ap (λ b. cond b (Some x) (Some y)) (apart x (before 0 (omega arith)) e)) (λ f e. refl) refl

    pub found_set : (xs : List X) (i : ℕ) (d : X) → position p xs ≡ Some i → find q (set xs i y) ≡ cond (q y) (Some y) (find q xs)
    found_set xs i d is = let s = position-Some p xs i d is in set_first xs i d s.0 s.1 s.2

pub map_set : {X Y : Type 0} (f : X → Y) (xs : List X) (i : ℕ) (y d : X) → i < length xs → f y ≡ f (get_or xs i d) → map f (set xs i y) ≡ map f xs
map_set f [] i y d lt same = absurd (omega arith)
map_set f (x ∷ xs) zero y d lt same = ap (λ z. z ∷ map f xs) same
map_set f (x ∷ xs) (suc i) y d lt same = ap (λ zs. f x ∷ zs) (map_set f xs i y d (omega arith) same)
