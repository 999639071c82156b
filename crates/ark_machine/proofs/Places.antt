-- Where a new buffer lies: the least place that the machine finds is the least one where no live buffer lies.
use Rattle.std.proofs.Common.{◌≡◌, ◌<◌, ◌≤◌, inl, inr, ℕ, zero, suc, ◌+◌, Bool, true, false, List, [], ◌∷◌, refl, sym, ap, ◌∙◌, arith}
use Rattle.std.specs.Prelude.{None, Some, nat_le, ◌&&◌, ◌||◌, if◌then◌else◌}
use Rattle.std.proofs.lemmas.Bool.{and_parts, false≢true}
use Rattle.std.proofs.lemmas.Bool.Decides.{nat_tests}
use Rattle.ark_region.specs.Frames.{IsFreeRun, IsLeastPlace}
use Rattle.ark_machine.specs.Bytes.{Frames, are_free, place_from, place}
use Rattle.ark_machine.specs.Places.{HasFrame, IsLiveFrame, AreSized}

split : {P : Type 0} (b : Bool) → (b ≡ true → P) → (b ≡ false → P) → P
split true h k = h refl
split false h k = k refl

le_of : (a b : ℕ) → nat_le a b ≡ true → a ≤ b
le_of a b h = grind (arith, nat_tests)

of_le : (a b : ℕ) → a ≤ b → nat_le a b ≡ true
of_le a b h = grind (arith, nat_tests)

lt_of : (a b : ℕ) → nat_le a b ≡ false → b < a
lt_of a b h = grind (arith, nat_tests)

-- k frames from s on lie before or behind these
abbrev away : ℕ → ℕ → Frames → Bool
away s k f = nat_le (s + k) f.0 || nat_le (f.0 + f.1) s

one_away : (s k : ℕ) (f : Frames) → 1 ≤ k → 1 ≤ f.1 → ((j : ℕ) → s ≤ j → j < s + k → HasFrame f j → ⊥) → away s k f ≡ true
one_away s k f some one free = split (nat_le (s + k) f.0) (λ p. rw p refl)
    (λ p. split (nat_le (f.0 + f.1) s) (λ q. rw (p, q) refl)
    (λ q. let a : f.0 < s + k = lt_of (s + k) f.0 p in let b : s < f.0 + f.1 = lt_of (f.0 + f.1) s q in
    split (nat_le s f.0)
    (λ r. absurd (free f.0 (le_of s f.0 r) a (omega arith, omega (arith, one))))
    (λ r. absurd (free s (omega arith) (omega (arith, some)) ((let c : f.0 < s = lt_of s f.0 r in omega (arith, c)), b)))))

all_away : (s k : ℕ) (live : List Frames) → 1 ≤ k → AreSized live → ((j : ℕ) → s ≤ j → j < s + k → IsLiveFrame live j → ⊥) → are_free live s k ≡ true
all_away s k [] some sized free = refl
all_away s k (f ∷ fs) some sized free =
    rw (one_away s k f some sized.0 (λ j a b h. free j a b (inl h)), all_away s k fs some sized.1 (λ j a b h. free j a b (inr h))) refl

one_clear : (s k : ℕ) (f : Frames) (j : ℕ) → away s k f ≡ true → s ≤ j → j < s + k → HasFrame f j → ⊥
one_clear s k f j h a b has = split (nat_le (s + k) f.0)
    (λ p. let le : s + k ≤ f.0 = le_of (s + k) f.0 p in omega (arith, le, a, b, has.0))
    (λ p. split (nat_le (f.0 + f.1) s)
    (λ q. let le : f.0 + f.1 ≤ s = le_of (f.0 + f.1) s q in omega (arith, le, a, has.1))
    (λ q. let no : away s k f ≡ false = rw (p, q) refl in false≢true (sym no ∙ h)))

all_clear : (s k : ℕ) (live : List Frames) (j : ℕ) → are_free live s k ≡ true → s ≤ j → j < s + k → IsLiveFrame live j → ⊥
all_clear s k [] j h a b has = has
all_clear s k (f ∷ fs) j h a b (inl has) = one_clear s k f j (and_parts (away s k f) (are_free fs s k) h).0 a b has
all_clear s k (f ∷ fs) j h a b (inr has) = all_clear s k fs j (and_parts (away s k f) (are_free fs s k) h).1 a b has

abbrev is_free : List Frames → ℕ → ℕ → ℕ → Bool
is_free live k frames s = nat_le (s + k) frames && are_free live s k

-- the first of n starts from s that is free, where t is the least free one
first_place : (live : List Frames) (k frames t : ℕ) → is_free live k frames t ≡ true → ((j : ℕ) → j < t → is_free live k frames j ≡ false) → (n s : ℕ) → s ≤ t → t < s + n → place_from live k frames s n ≡ Some t
first_place live k frames t here least zero s a b = absurd (let z : ⊥ = omega (arith, a, b) in z)
first_place live k frames t here least (suc n) s a b = split (nat_le t s)
    (λ p. let e : s ≡ t = (let le : t ≤ s = le_of t s p in omega (arith, a, le)) in
    let free : is_free live k frames s ≡ true = ap (λ z. is_free live k frames z) e ∙ here in rw free (ap (λ z. Some z) e))
    (λ p. let lt : s < t = lt_of t s p in rw (least s lt) (first_place live k frames t here least n (s + 1) (omega (arith, lt)) (omega (arith, b))))

no_place : (live : List Frames) (k frames : ℕ) → ((s : ℕ) → is_free live k frames s ≡ false) → (n s : ℕ) → place_from live k frames s n ≡ None
no_place live k frames none zero s = refl
no_place live k frames none (suc n) s = rw (none s) (no_place live k frames none n (s + 1))

-- what is found is free, and nothing before it is
record FoundFrom (live : List Frames) (k frames s : ℕ) (t : ℕ) : Type 0 where
  free : is_free live k frames t ≡ true
  least : (j : ℕ) → s ≤ j → j < t → is_free live k frames j ≡ false

found_from : (live : List Frames) (k frames t n s : ℕ) → place_from live k frames s n ≡ Some t → FoundFrom live k frames s t
found_from live k frames t zero s h = absurd cc
found_from live k frames t (suc n) s h = by (is_free live k frames s) refl h (λ e. found_from live k frames t n (s + 1) e)
  where
    by : (b : Bool) → is_free live k frames s ≡ b → (if b then Some s else place_from live k frames (s + 1) n) ≡ Some t
        → (place_from live k frames (s + 1) n ≡ Some t → FoundFrom live k frames (s + 1) t) → FoundFrom live k frames s t
    by true is e next =
        let same : s ≡ t = cc in
        record { free = ap (λ z. is_free live k frames z) (sym same) ∙ is; least = λ j le lt. absurd (let z : ⊥ = omega (arith, le, lt, same) in z) }
    by false is e next =
        let f = next e in
        record {
          free = f.free;
          least = λ j le lt. split (nat_le (s + 1) j) (λ p. f.least j (le_of (s + 1) j p) lt)
              (λ p. let same : j ≡ s = (let q : j < s + 1 = lt_of (s + 1) j p in omega (arith, le, q)) in ap (λ z. is_free live k frames z) same ∙ is);
        }

module _ (live : List Frames) (k frames : ℕ) (some : 1 ≤ k) (sized : AreSized live) where
  fits_free : (s : ℕ) → IsFreeRun (IsLiveFrame live) frames k s → is_free live k frames s ≡ true
  fits_free s f = rw (of_le (s + k) frames f.inside, all_away s k live some sized f.free) refl

  free_fits : (s : ℕ) → is_free live k frames s ≡ true → IsFreeRun (IsLiveFrame live) frames k s
  free_fits s h =
      let p = and_parts (nat_le (s + k) frames) (are_free live s k) h in
      record { inside = le_of (s + k) frames p.0; free = λ j a b has. all_clear s k live j p.1 a b has }

  not_free : (s : ℕ) → (IsFreeRun (IsLiveFrame live) frames k s → ⊥) → is_free live k frames s ≡ false
  not_free s never = split (is_free live k frames s) (λ free. absurd (never (free_fits s free))) (λ taken. taken)

  not_fits : (s : ℕ) → is_free live k frames s ≡ false → IsFreeRun (IsLiveFrame live) frames k s → ⊥
  not_fits s taken f = false≢true (sym taken ∙ fits_free s f)

  pub least_is_place : (s : ℕ) → IsLeastPlace (IsLiveFrame live) frames k s → place live k frames ≡ Some s
  least_is_place s p =
      let inside = p.here.inside in
      first_place live k frames s (fits_free s p.here) (λ j lt. not_free j (p.least j lt)) frames 0 (omega arith) (omega (arith, inside, some))

  pub place_is_least : (s : ℕ) → place live k frames ≡ Some s → IsLeastPlace (IsLiveFrame live) frames k s
  place_is_least s h =
      let f = found_from live k frames s frames 0 h in
      record { here = free_fits s f.free; least = λ j lt. not_fits j (f.least j (omega arith) lt) }

  pub none_no_place : ((s : ℕ) → IsFreeRun (IsLiveFrame live) frames k s → ⊥) → place live k frames ≡ None
  none_no_place never = no_place live k frames (λ s. not_free s (never s)) frames 0

  none_from : (n s : ℕ) → place_from live k frames s n ≡ None → (j : ℕ) → s ≤ j → j < s + n → is_free live k frames j ≡ false
  none_from zero s h j a b = absurd (let z : ⊥ = omega (arith, a, b) in z)
  none_from (suc n) s h j a b = by (is_free live k frames s) refl h (λ e. none_from n (s + 1) e j)
    where
      by : (t : Bool) → is_free live k frames s ≡ t → (if t then Some s else place_from live k frames (s + 1) n) ≡ None
          → (place_from live k frames (s + 1) n ≡ None → s + 1 ≤ j → j < (s + 1) + n → is_free live k frames j ≡ false) → is_free live k frames j ≡ false
      by true is e next = absurd cc
      by false is e next = split (nat_le (s + 1) j) (λ p. next e (le_of (s + 1) j p) (omega (arith, b)))
          (λ p. let same : j ≡ s = (let q : j < s + 1 = lt_of (s + 1) j p in omega (arith, a, q)) in ap (λ z. is_free live k frames z) same ∙ is)

  pub no_place_none : place live k frames ≡ None → (s : ℕ) → IsFreeRun (IsLiveFrame live) frames k s → ⊥
  no_place_none h s f = let inside = f.inside in not_fits s (none_from frames 0 h s (omega arith) (omega (arith, inside, some))) f
