-- The machines of a system where one is set, and where time goes on.
use Rattle.std.proofs.Common.{◌≡◌, ℕ, ◌+◌, true, false, List, [], ◌∷◌, ◌++◌, map, refl, ◌∙◌, ap, if◌then◌else◌, ◌||◌, bytes_eq}
use Rattle.std.proofs.lemmas.Slice.Eq.{bytes_eq-Decides}
use Rattle.std.proofs.lemmas.List.Folds.{list_any-append}
use Rattle.std.proofs.Math.Bool.{or-false}
use Rattle.std.specs.List.{list_any}
use Rattle.ark_machine.specs.Machine.{Machine}
use Rattle.ark_machine.specs.Step.{ticked}
use Rattle.ark_machine.specs.System.{listed_machine, set_machine}
use Rattle.ark_plane.proofs.Tests.{by_test, bytes_eq-other}

module _ (now : ℕ) where
  -- a machine set to itself
  pub set_machine-same : (ms : List (List ℕ × Machine)) (a : List ℕ) → set_machine ms a (listed_machine ms now a) ≡ ms
  set_machine-same [] a = refl
  set_machine-same (p ∷ ps) a = by_test (bytes_eq a p.0) (λ t. t ≡ bytes_eq a p.0 → set_machine (p ∷ ps) a (listed_machine (p ∷ ps) now a) ≡ p ∷ ps)
      (λ yes same. rw yes refl)
      (λ no same. rw no (ap (λ (qs : List (List ℕ × Machine)). p ∷ qs) (set_machine-same ps a))) refl

  -- the machines after one that is made is set
  module _ (one : Machine) (made : one.made ≡ true) where
    pub listed_machine-set : (ms : List (List ℕ × Machine)) (a b : List ℕ) → listed_machine (set_machine ms a one) now b ≡ (if bytes_eq b a then one else listed_machine ms now b)
    listed_machine-set [] a b = ap (λ t. listed_machine (if t then (a, one) ∷ [] else []) now b) made ∙ by_test (bytes_eq b a) (λ t. t ≡ bytes_eq b a → listed_machine ((a, one) ∷ []) now b ≡ (if bytes_eq b a then one else listed_machine [] now b))
        (λ yes same. rw yes refl) (λ not same. rw not refl) refl
    listed_machine-set (p ∷ ps) a b = by_test (bytes_eq a p.0) (λ t. t ≡ bytes_eq a p.0 → listed_machine (set_machine (p ∷ ps) a one) now b ≡ (if bytes_eq b a then one else listed_machine (p ∷ ps) now b))
        (λ here same. let e : bytes_eq b a ≡ bytes_eq b p.0 = ap (λ x. bytes_eq b x) ((bytes_eq-Decides a p.0).0 here) in
        rw (here, e) (by_test (bytes_eq b p.0) (λ t. t ≡ bytes_eq b p.0 → listed_machine ((p.0, one) ∷ ps) now b ≡ (if bytes_eq b p.0 then one else listed_machine (p ∷ ps) now b)) (λ yes q. rw yes refl) (λ not q. rw not refl) refl))
        (λ there same. rw there (by_test (bytes_eq b p.0) (λ t. t ≡ bytes_eq b p.0 → listed_machine (p ∷ set_machine ps a one) now b ≡ (if bytes_eq b a then one else listed_machine (p ∷ ps) now b))
        (λ yes q. let other : bytes_eq b a ≡ false = bytes_eq-other a p.0 b there yes in rw (yes, other) refl)
        (λ not q. rw not (listed_machine-set ps a b)) refl)) refl

  -- time goes on for every machine
  pub listed_machine-ticked : (n : ℕ) (ms : List (List ℕ × Machine)) (b : List ℕ) → listed_machine (map (λ p. (p.0, ticked n p.1)) ms) (now + n) b ≡ ticked n (listed_machine ms now b)
  listed_machine-ticked n [] b = refl
  listed_machine-ticked n (p ∷ ps) b =
      by_test (bytes_eq b p.0) (λ t. t ≡ bytes_eq b p.0 → listed_machine (map (λ p. (p.0, ticked n p.1)) (p ∷ ps)) (now + n) b ≡ ticked n (listed_machine (p ∷ ps) now b))
      (λ yes q. rw yes refl)
      (λ not q. rw not (listed_machine-ticked n ps b)) refl

-- one more name at the end
pub list_any-more : (xs : List (List ℕ)) (a b : List ℕ) → list_any (λ c. bytes_eq b c) (xs ++ a ∷ []) ≡ (list_any (λ c. bytes_eq b c) xs || bytes_eq b a)
list_any-more xs a b = list_any-append (λ c. bytes_eq b c) xs (a ∷ []) ∙ ap (λ t. list_any (λ c. bytes_eq b c) xs || t) (or-false (bytes_eq b a))
