-- Free frames, as a test of the part of a list and as a set of places.
use Rattle.std.proofs.Common.{◌≡◌, ◌<◌, ◌≤◌, ◌+◌, ◌-◌, ℕ, zero, suc, Bool, true, false, not, List, [], ◌∷◌, length, take, drop, refl, sym, subst, ◌∙◌, true≢false, arith, slice_range, slice_index_or}
use Rattle.std.specs.Prelude.{◌↔◌}
use Rattle.std.specs.List.{list_all}
use Rattle.std.proofs.lemmas.Bool.{and_parts}
use Rattle.ark_region.specs.Frames.{IsTaken, IsFreeRun, IsLeastPlace}

not_taken : (b : Bool) → not b ≡ true → b ≡ false
not_taken true h = sym h
not_taken false h = refl

is_free_at : (b : Bool) → ¬ (b ≡ true) → not b ≡ true
is_free_at true h = absurd (h refl)
is_free_at false h = refl

clear : (t : List Bool) (s k j : ℕ) → list_all not (take k (drop s t)) ≡ true → s ≤ j → j < s + k → slice_index_or t j false ≡ false
clear [] s k j h a b = refl
clear (x ∷ t) zero zero j h a b = absurd (omega arith)
clear (x ∷ t) zero (suc k) zero h a b = not_taken x (and_parts _ _ h).0
clear (x ∷ t) zero (suc k) (suc j) h a b = clear t zero k j (and_parts _ _ h).1 (omega arith) (omega arith)
clear (x ∷ t) (suc s) k zero h a b = absurd (omega arith)
clear (x ∷ t) (suc s) k (suc j) h a b = clear t s k j h (omega arith) (omega arith)

all_free : (t : List Bool) (s k : ℕ) → s + k ≤ length t → ((j : ℕ) → s ≤ j → j < s + k → ¬ IsTaken t j) → list_all not (take k (drop s t)) ≡ true
all_free t s zero le f = refl
all_free [] s (suc k) le f = absurd (omega arith)
all_free (x ∷ t) zero (suc k) le f =
    let here = is_free_at x (f zero (omega arith) (omega arith)) in
    let rest = all_free t zero k (omega arith) (λ j a b. f (suc j) (omega arith) (omega arith)) in
    rw (here, rest) refl
all_free (x ∷ t) (suc s) (suc k) le f = all_free t s (suc k) (omega arith) (λ j a b. f (suc j) (omega arith) (omega arith))

-- the test of the frames from s on tells whether a buffer fits there
pub fits_test : (t : List Bool) (s k : ℕ) → s + k ≤ length t → (list_all not (slice_range t s (s + k)) ≡ true) ↔ IsFreeRun (IsTaken t) (length t) k s
fits_test t s k le =
    let e : (s + k) - s ≡ k = omega arith in (
      λ h. record { inside = le; free = λ j a b is. true≢false (sym is ∙ clear t s k j (rw e at h) a b) },
      λ f. rw e (all_free t s k le f.free),
    )

-- a place that fits starts inside
none_at : (t : List Bool) (k n s : ℕ) → 0 < k → length t ≤ n → ((j : ℕ) → j < n → ¬ IsFreeRun (IsTaken t) (length t) k j) → IsFreeRun (IsTaken t) (length t) k s → ⊥
none_at t k n s pos all below f = let h = f.inside in below s (omega (arith, h)) f

pub none_below : (t : List Bool) (k n : ℕ) → 0 < k → length t ≤ n → ((j : ℕ) → j < n → ¬ IsFreeRun (IsTaken t) (length t) k j) → (s : ℕ) → ¬ IsFreeRun (IsTaken t) (length t) k s
none_below t k n pos all below s f = none_at t k n s pos all below f

-- both answers, at equal lists and counts
pub none_same : (t u : List Bool) (k m : ℕ) → t ≡ u → k ≡ m → ((s : ℕ) → ¬ IsFreeRun (IsTaken t) (length t) k s) → (s : ℕ) → ¬ IsFreeRun (IsTaken u) (length u) m s
none_same t u k m e f none = subst (λ (x : List Bool). (s : ℕ) → ¬ IsFreeRun (IsTaken x) (length x) m s) e (subst (λ (n : ℕ). (s : ℕ) → ¬ IsFreeRun (IsTaken t) (length t) n s) f none)

pub place_same : (t u : List Bool) (k m s : ℕ) → t ≡ u → k ≡ m → IsLeastPlace (IsTaken t) (length t) k s → IsLeastPlace (IsTaken u) (length u) m s
place_same t u k m s e f p = subst (λ (x : List Bool). IsLeastPlace (IsTaken x) (length x) m s) e (subst (λ (n : ℕ). IsLeastPlace (IsTaken t) (length t) n s) f p)
