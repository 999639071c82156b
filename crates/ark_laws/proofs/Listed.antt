-- The machines of a system where one is set.
use Rattle.std.proofs.Common.{◌≡◌, ◌⊎◌, inl, inr, ℕ, ◌+◌, Bool, true, false, List, [], ◌∷◌, map, refl, sym, ap, subst, cond}
use Rattle.std.proofs.lemmas.Bool.{false≢true}
use Rattle.std.proofs.lemmas.Slice.Eq.{bytes_eq-Decides}
use Rattle.std.specs.Prelude.{Option, Some, None, is_none, option_map, find, unwrap_or, bytes_eq}
use Rattle.ark_machine.specs.Machine.{Machine, unmade}
use Rattle.ark_machine.specs.Step.{ticked}
use Rattle.ark_machine.specs.System.{listed_machine, set_machine}

pub bytes_eq-same : (a : List ℕ) → bytes_eq a a ≡ true
bytes_eq-same a = (bytes_eq-Decides a a).1 refl

pub same_bytes : (a b : List ℕ) → bytes_eq a b ≡ true → a ≡ b
same_bytes a b h = (bytes_eq-Decides a b).0 h

-- who differs from one differs from what equals it
other_bytes : (a b c : List ℕ) → bytes_eq a b ≡ false → bytes_eq b c ≡ true → bytes_eq a c ≡ false
other_bytes a b c apart same = subst (λ x. bytes_eq a x ≡ false) (same_bytes b c same) apart

-- an application that is not made, at this tick
abbrev pub unmade_at : ℕ → Machine
unmade_at now = record unmade { now = now }

abbrev pub is_unlisted : List (List ℕ × Machine) → List ℕ → Bool
is_unlisted ms a = is_none (find (λ p. bytes_eq a p.0) ms)

-- the machine of an application, by whether the first of the list is its own
abbrev chosen : Bool → List ℕ × Machine → List (List ℕ × Machine) → ℕ → List ℕ → Machine
chosen t p ps now a = unwrap_or (option_map (λ q. q.1) (cond t (Some p) (find (λ q. bytes_eq a q.0) ps))) (unmade_at now)

pub unlisted_machine : (ms : List (List ℕ × Machine)) (now : ℕ) (a : List ℕ) → is_unlisted ms a ≡ true → listed_machine ms now a ≡ unmade_at now
unlisted_machine ms now a h = by (find (λ p. bytes_eq a p.0) ms) h
  where
    by : (o : Option (List ℕ × Machine)) → is_none o ≡ true → unwrap_or (option_map (λ p. p.1) o) (unmade_at now) ≡ unmade_at now
    by None h = refl
    by (Some p) h = absurd (false≢true h)

-- another application's machine is as it was
pub set_there : (ms : List (List ℕ × Machine)) (now : ℕ) (a b : List ℕ) (m : Machine) → bytes_eq a b ≡ false → listed_machine (set_machine ms b m) now a ≡ listed_machine ms now a
set_there [] now a b m apart = elim m.made as (λ t. listed_machine (cond t ((b, m) ∷ []) []) now a ≡ unmade_at now) [ true ↦ rw apart refl | false ↦ refl ]
set_there (p ∷ ps) now a b m apart = by (set_there ps now a b m apart) (bytes_eq b p.0) refl
  where
    by : listed_machine (set_machine ps b m) now a ≡ listed_machine ps now a → (t : Bool) → bytes_eq b p.0 ≡ t → listed_machine (cond t ((p.0, m) ∷ ps) (p ∷ set_machine ps b m)) now a ≡ listed_machine (p ∷ ps) now a
    by rest true e = let other : bytes_eq a p.0 ≡ false = other_bytes a b p.0 apart e in rw other refl
    by rest false e = elim (bytes_eq a p.0) as (λ t. chosen t p (set_machine ps b m) now a ≡ chosen t p ps now a) [ true ↦ refl | false ↦ rest ]

-- the application's own machine is the one that is set
pub set_here : (ms : List (List ℕ × Machine)) (now : ℕ) (a : List ℕ) (m : Machine) → (is_unlisted ms a ≡ true → (m.made ≡ true) ⊎ (m ≡ unmade_at now)) → listed_machine (set_machine ms a m) now a ≡ m
set_here [] now a m h = by (h refl)
  where
    by : (m.made ≡ true) ⊎ (m ≡ unmade_at now) → listed_machine (set_machine [] a m) now a ≡ m
    by (inl made) = rw made (rw (bytes_eq-same a) refl)
    by (inr is) = subst (λ n. listed_machine (set_machine [] a n) now a ≡ n) (sym is) refl
set_here (p ∷ ps) now a m h = by (λ k. set_here ps now a m k) (bytes_eq a p.0) refl
  where
    by : ((is_unlisted ps a ≡ true → (m.made ≡ true) ⊎ (m ≡ unmade_at now)) → listed_machine (set_machine ps a m) now a ≡ m) → (t : Bool) → bytes_eq a p.0 ≡ t → listed_machine (cond t ((p.0, m) ∷ ps) (p ∷ set_machine ps a m)) now a ≡ m
    by next true e = rw e refl
    by next false e = let rest : listed_machine (set_machine ps a m) now a ≡ m = next (λ lacks. h (rw e lacks)) in rw e rest

-- a machine set to itself
pub set_same : (ms : List (List ℕ × Machine)) (now : ℕ) (a : List ℕ) → set_machine ms a (listed_machine ms now a) ≡ ms
set_same [] now a = refl
set_same (p ∷ ps) now a = by (set_same ps now a) (bytes_eq a p.0) refl
  where
    by : set_machine ps a (listed_machine ps now a) ≡ ps → (t : Bool) → bytes_eq a p.0 ≡ t → cond t ((p.0, chosen t p ps now a) ∷ ps) (p ∷ set_machine ps a (chosen t p ps now a)) ≡ p ∷ ps
    by rest true e = refl
    by rest false e = ap (λ (qs : List (List ℕ × Machine)). p ∷ qs) rest

-- time goes on for a machine that is not listed too
pub ticked_machine : (ms : List (List ℕ × Machine)) (now n : ℕ) (a : List ℕ) → listed_machine (map (λ p. (p.0, ticked n p.1)) ms) (now + n) a ≡ ticked n (listed_machine ms now a)
ticked_machine [] now n a = refl
ticked_machine (p ∷ ps) now n a =
    let later : List (List ℕ × Machine) = map (λ q. (q.0, ticked n q.1)) ps in
    elim (bytes_eq a p.0) as (λ t. chosen t (p.0, ticked n p.1) later (now + n) a ≡ ticked n (chosen t p ps now a)) [ true ↦ refl | false ↦ ticked_machine ps now n a ]
