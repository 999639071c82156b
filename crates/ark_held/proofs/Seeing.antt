-- Whether a door watches a card, as the code finds it and as the machine has it.
use Rattle.std.proofs.Common.{◌≡◌, inl, inr, ℕ, zero, suc, ◌+◌, Bool, true, false, cond, List, [], ◌∷◌, refl, sym, ◌∙◌, ap, take, add-one}
use Rattle.std.specs.Prelude.{Some, None, ◌||◌, find, is_some, slice_get}
use Rattle.std.specs.List.{list_any}
use Rattle.std.proofs.lemmas.Bool.{false≢true}
use Rattle.ark_held.proofs.Lists.{by_test, not_some, some_same}
use Rattle.ark_held.proofs.Members.{In}

or_right : (a b : Bool) → b ≡ true → (a || b) ≡ true
or_right true b e = refl
or_right false b e = e

-- one at a place passes
pub any_at : {X : Type 0} (p : X → Bool) (xs : List X) (k : ℕ) (x : X) → slice_get xs k ≡ Some x → p x ≡ true → list_any p xs ≡ true
any_at p [] zero x is passes = absurd (false≢true (ap is_some is))
any_at p [] (suc k) x is passes = absurd (false≢true (ap is_some is))
any_at p (y ∷ ys) zero x is passes = ap (λ b. b || list_any p ys) (ap p (some_same (Some y) y x refl is) ∙ passes)
any_at p (y ∷ ys) (suc k) x is passes = or_right (p y) (list_any p ys) (any_at p ys k x is passes)

-- where no member passes, neither the first does nor one behind it
pub none_of_both : (a b : Bool) → (a || b) ≡ false → (a ≡ false) × (b ≡ false)
none_of_both true b e = absurd (false≢true (sym e))
none_of_both false b e = (refl, e)

neither : (a b : Bool) → a ≡ false → b ≡ false → (a || b) ≡ false
neither a b e f = ap (λ c. c || b) e ∙ f

-- none passes up to a place, nor the one there
none_more : {X : Type 0} (p : X → Bool) (xs : List X) (k : ℕ) (x : X) → slice_get xs k ≡ Some x → list_any p (take k xs) ≡ false → p x ≡ false → list_any p (take (suc k) xs) ≡ false
none_more p [] zero x is none fails = refl
none_more p [] (suc k) x is none fails = refl
none_more p (y ∷ ys) zero x is none fails = ap (λ b. b || false) (ap p (some_same (Some y) y x refl is) ∙ fails)
none_more p (y ∷ ys) (suc k) x is none fails =
    let both = none_of_both (p y) (list_any p (take k ys)) none in
    neither (p y) (list_any p (take (suc k) ys)) both.0 (none_more p ys k x is both.1 fails)

pub none_to : {X : Type 0} (p : X → Bool) (xs : List X) (k : ℕ) (x : X) → slice_get xs k ≡ Some x → list_any p (take k xs) ≡ false → p x ≡ false → list_any p (take (k + 1) xs) ≡ false
none_to p xs k x is none fails = ap (λ (m : ℕ). list_any p (take m xs)) (add-one k) ∙ none_more p xs k x is none fails

-- where none passes, no member does
pub none_in : {X : Type 0} (p : X → Bool) (xs : List X) (x : X) → list_any p xs ≡ false → In xs x → p x ≡ false
none_in p [] x none among = absurd among
none_in p (y ∷ ys) x none (inl same) = ap p (sym same) ∙ (none_of_both (p y) (list_any p ys) none).0
none_in p (y ∷ ys) x none (inr rest) = none_in p ys x (none_of_both (p y) (list_any p ys) none).1 rest

-- The first that passes.

-- it is the one at a place, where none before it passes
pub find_at : {X : Type 0} (p : X → Bool) (xs : List X) (k : ℕ) (x : X) → slice_get xs k ≡ Some x → find p (take k xs) ≡ None → p x ≡ true → find p xs ≡ Some x
find_at p [] zero x is none passes = absurd (false≢true (ap is_some is))
find_at p [] (suc k) x is none passes = absurd (false≢true (ap is_some is))
find_at p (y ∷ ys) zero x is none passes =
    let same = some_same (Some y) y x refl is in ap (λ b. cond b (Some y) (find p ys)) (ap p same ∙ passes) ∙ ap (λ z. Some z) same
find_at p (y ∷ ys) (suc k) x is none passes =
    by_test (λ b. p y ≡ b → cond b (Some y) (find p (take k ys)) ≡ None → cond b (Some y) (find p ys) ≡ Some x) (p y)
    (λ yes q e. absurd (not_some (Some y) y e refl)) (λ no q e. find_at p ys k x is e passes) refl none

find_more : {X : Type 0} (p : X → Bool) (xs : List X) (k : ℕ) (x : X) → slice_get xs k ≡ Some x → find p (take k xs) ≡ None → p x ≡ false → find p (take (suc k) xs) ≡ None
find_more p [] zero x is none fails = refl
find_more p [] (suc k) x is none fails = refl
find_more p (y ∷ ys) zero x is none fails = ap (λ b. cond b (Some y) None) (ap p (some_same (Some y) y x refl is) ∙ fails)
find_more p (y ∷ ys) (suc k) x is none fails =
    by_test (λ b. p y ≡ b → cond b (Some y) (find p (take k ys)) ≡ None → cond b (Some y) (find p (take (suc k) ys)) ≡ None) (p y)
    (λ yes q e. absurd (not_some (Some y) y e refl)) (λ no q e. find_more p ys k x is e fails) refl none

pub find_to : {X : Type 0} (p : X → Bool) (xs : List X) (k : ℕ) (x : X) → slice_get xs k ≡ Some x → find p (take k xs) ≡ None → p x ≡ false → find p (take (k + 1) xs) ≡ None
find_to p xs k x is none fails = ap (λ (m : ℕ). find p (take m xs)) (add-one k) ∙ find_more p xs k x is none fails
