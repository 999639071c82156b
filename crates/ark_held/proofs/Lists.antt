-- Lists of labels, numbers and sums.
use Rattle.std.proofs.Common.{◌≡◌, inl, inr, ℕ, zero, suc, ◌+◌, ◌<◌, ◌≤◌, nat_le, nat_lt, Bool, true, false, cond, List, [], ◌∷◌, ◌++◌, length, refl, sym, ◌∙◌, ap, subst, arith, bytes_eq}
use Rattle.std.specs.Prelude.{◌⊎◌, Option, Some, None, is_some, slice_get, unwrap_or}
use Rattle.std.specs.Option.{option_or}
use Rattle.std.specs.Map.{lookup}
use Rattle.std.specs.List.{AllByRecursion}
use Rattle.std.proofs.lemmas.Bool.{false≢true}
use Rattle.std.proofs.lemmas.Bool.Decides.{nat_tests}
use Rattle.std.proofs.lemmas.Slice.Eq.{bytes_eq-Decides}
use Rattle.ark_caps.specs.Labels.{value_at}
use Rattle.ark_caps.specs.declared.capability.Capability.{Capability}
use Rattle.ark_held.specs.Words.{Labels}
use Rattle.ark_held.specs.Totals.{total}
use Rattle.ark_held.specs.Around.{Each}
use Rattle.ark_held.specs.Held.{AreDistinctLabels}

-- by what a test gives
pub by_test : (P : Bool → Type 0) (t : Bool) → (t ≡ true → P true) → (t ≡ false → P false) → P t
by_test P true h k = h refl
by_test P false h k = k refl

pub not_some : {A : Type 0} (o : Option A) (a : A) → o ≡ None → o ≡ Some a → ⊥
not_some o a none some = false≢true (ap is_some (sym none ∙ some))

pub some_same : {A : Type 0} (o : Option A) (a b : A) → o ≡ Some a → o ≡ Some b → a ≡ b
some_same o a b p q = ap (λ z. unwrap_or z a) (sym p ∙ q)

pub none_of : {A : Type 0} (o : Option A) → is_some o ≡ false → o ≡ None
none_of None none = refl
none_of (Some a) none = absurd (false≢true (sym none))

pub or_none : {A : Type 0} (o : Option A) → option_or o None ≡ o
or_none None = refl
or_none (Some x) = refl

-- Names.

pub same_name : (l k : List ℕ) → bytes_eq l k ≡ true → l ≡ k
same_name l k h = (bytes_eq-Decides l k).0 h

pub name_same : (l k : List ℕ) → l ≡ k → bytes_eq l k ≡ true
name_same l k e = (bytes_eq-Decides l k).1 e

pub name_other : (l k : List ℕ) → (l ≡ k → ⊥) → bytes_eq l k ≡ false
name_other l k apart = by_test (λ b. bytes_eq l k ≡ b → b ≡ false) (bytes_eq l k) (λ yes q. absurd (apart (same_name l k q))) (λ n q. refl) refl

pub other_name : (l k : List ℕ) → bytes_eq l k ≡ false → l ≡ k → ⊥
other_name l k apart e = false≢true (sym apart ∙ name_same l k e)

pub turned : (l k : List ℕ) → bytes_eq l k ≡ false → bytes_eq k l ≡ false
turned l k apart = name_other k l (λ e. other_name l k apart (sym e))

-- Numbers.

pub le_true : (n m : ℕ) → n ≤ m → nat_le n m ≡ true
le_true n m le = grind (arith, nat_tests)

pub le_false : (n m : ℕ) → m < n → nat_le n m ≡ false
le_false n m lt = grind (arith, nat_tests)

pub lt_true : (n m : ℕ) → n < m → nat_lt n m ≡ true
lt_true n m lt = grind (arith, nat_tests)

pub lt_false : (n m : ℕ) → m ≤ n → nat_lt n m ≡ false
lt_false n m le = grind (arith, nat_tests)

pub number_front : (n : List ℕ) (x i g : ℕ) → slice_get n i ≡ Some g → slice_get (n ++ x ∷ []) i ≡ Some g
number_front [] x i g h = absurd (false≢true (ap is_some h))
number_front (y ∷ ys) x zero g h = h
number_front (y ∷ ys) x (suc i) g h = number_front ys x i g h

pub number_last : (n : List ℕ) (x : ℕ) → slice_get (n ++ x ∷ []) (length n) ≡ Some x
number_last [] x = refl
number_last (y ∷ ys) x = number_last ys x

pub number_cases : (n : List ℕ) (x i g : ℕ) → slice_get (n ++ x ∷ []) i ≡ Some g → (slice_get n i ≡ Some g) ⊎ ((i ≡ length n) × (g ≡ x))
number_cases [] x zero g h = inr (refl, sym (some_same (Some x) x g refl h))
number_cases [] x (suc i) g h = absurd (false≢true (ap is_some h))
number_cases (y ∷ ys) x zero g h = inl h
number_cases (y ∷ ys) x (suc i) g h = elim (number_cases ys x i g h) [ inl w ↦ inl w | inr w ↦ inr (ap suc w.0, w.1) ]

-- Look-ups.

module _ {K V : Type 0} (test : K → Bool) where
  pub lookup_front : (es : List (K × V)) (e : K × V) (v : V) → lookup test es ≡ Some v → lookup test (es ++ e ∷ []) ≡ Some v
  lookup_front [] e v is = absurd (false≢true (ap is_some is))
  lookup_front (x ∷ xs) e v is = by (test x.0) (lookup_front xs e v) is
    where
      by : (b : Bool) → (lookup test xs ≡ Some v → lookup test (xs ++ e ∷ []) ≡ Some v) → cond b (Some x.1) (lookup test xs) ≡ Some v → cond b (Some x.1) (lookup test (xs ++ e ∷ [])) ≡ Some v
      by true rest h = h
      by false rest h = rest h

  pub lookup_last : (es : List (K × V)) (e : K × V) → lookup test es ≡ None → lookup test (es ++ e ∷ []) ≡ cond (test e.0) (Some e.1) None
  lookup_last [] e none = refl
  lookup_last (x ∷ xs) e none = by (test x.0) (lookup_last xs e) none
    where
      by : (b : Bool) → (lookup test xs ≡ None → lookup test (xs ++ e ∷ []) ≡ cond (test e.0) (Some e.1) None) → cond b (Some x.1) (lookup test xs) ≡ None → cond b (Some x.1) (lookup test (xs ++ e ∷ [])) ≡ cond (test e.0) (Some e.1) None
      by true rest h = absurd (false≢true (sym (ap is_some h)))
      by false rest h = rest h

  pub lookup_other : (es : List (K × V)) (e : K × V) → test e.0 ≡ false → lookup test (es ++ e ∷ []) ≡ lookup test es
  lookup_other [] e apart = ap (λ b. cond b (Some e.1) None) apart
  lookup_other (x ∷ xs) e apart = ap (λ o. cond (test x.0) (Some x.1) o) (lookup_other xs e apart)

-- Labels.

-- a label more, at the end
pub value_last : (ps : Labels) (l : List ℕ) (c : Capability) → value_at ps l ≡ None → value_at (ps ++ (l, c) ∷ []) l ≡ Some c
value_last ps l c none = lookup_last (bytes_eq l) ps (l, c) none ∙ ap (λ b. cond b (Some c) None) (name_same l l refl)

pub value_other : (ps : Labels) (l k : List ℕ) (c : Capability) → bytes_eq l k ≡ false → value_at (ps ++ (l, c) ∷ []) k ≡ value_at ps k
value_other ps l k c apart = lookup_other (bytes_eq k) ps (l, c) (turned l k apart)

-- what is under a label then was there, unless it is the last
pub value_old : (ps : Labels) (l : List ℕ) (c : Capability) (k : List ℕ) (d : Capability) → value_at (ps ++ (l, c) ∷ []) k ≡ Some d → (d ≡ c → ⊥) → value_at ps k ≡ Some d
value_old [] l c k d is other = absurd (last_is (bytes_eq k l) is)
  where
    last_is : (b : Bool) → cond b (Some c) None ≡ Some d → ⊥
    last_is true e = other (sym (some_same (Some c) c d refl e))
    last_is false e = not_some None d refl e
value_old (p ∷ ps) l c k d is other = by (bytes_eq k p.0) (value_old ps l c k d) is
  where
    by : (b : Bool) → (value_at (ps ++ (l, c) ∷ []) k ≡ Some d → (d ≡ c → ⊥) → value_at ps k ≡ Some d) → cond b (Some p.1) (value_at (ps ++ (l, c) ∷ []) k) ≡ Some d → cond b (Some p.1) (value_at ps k) ≡ Some d
    by true rest h = h
    by false rest h = rest h other

-- what holds of all of a list holds of what is under a label
pub all_values : (P : Capability → Type 0) (ps : Labels) → AllByRecursion (λ p. P p.1) ps → (l : List ℕ) (c : Capability) → value_at ps l ≡ Some c → P c
all_values P [] all l c is = absurd (not_some None c refl is)
all_values P (p ∷ ps) all l c is = by (bytes_eq l p.0) (all_values P ps all.1 l c) is
  where
    by : (b : Bool) → (value_at ps l ≡ Some c → P c) → cond b (Some p.1) (value_at ps l) ≡ Some c → P c
    by true rest e = subst P (some_same (Some p.1) p.1 c refl e) all.0
    by false rest e = rest e

-- none of a list has the label of one that is not in it
pub head_apart : (p : List ℕ × Capability) (ps : Labels) (l : List ℕ) → value_at (p ∷ ps) l ≡ None → (bytes_eq l p.0 ≡ false) × (value_at ps l ≡ None)
head_apart p ps l none = by_test (λ b. bytes_eq l p.0 ≡ b → cond b (Some p.1) (value_at ps l) ≡ None → (bytes_eq l p.0 ≡ false) × (value_at ps l ≡ None)) (bytes_eq l p.0)
    (λ yes q h. absurd (not_some (Some p.1) p.1 h refl)) (λ no q h. (q, h)) refl none

pub apart_last : (ps : Labels) (l : List ℕ) (c : Capability) → AreDistinctLabels ps → value_at ps l ≡ None → AreDistinctLabels (ps ++ (l, c) ∷ [])
apart_last [] l c apart none = (refl, tt)
apart_last (p ∷ ps) l c apart none =
    let n = head_apart p ps l none in
    (value_other ps l p.0 c n.0 ∙ apart.0, apart_last ps l c apart.1 n.1)

-- in a list whose labels are apart, what is found behind the first is found in the whole
pub value_behind : (p : List ℕ × Capability) (ps : Labels) (l : List ℕ) (c : Capability) → AreDistinctLabels (p ∷ ps) → value_at ps l ≡ Some c → value_at (p ∷ ps) l ≡ Some c
value_behind p ps l c apart is = by_test (λ b. bytes_eq l p.0 ≡ b → cond b (Some p.1) (value_at ps l) ≡ Some c) (bytes_eq l p.0)
    (λ yes q. absurd (not_some (value_at ps l) c (ap (λ k. value_at ps k) (same_name l p.0 q) ∙ apart.0) is)) (λ no q. is) refl

pub value_first : (p : List ℕ × Capability) (ps : Labels) → value_at (p ∷ ps) p.0 ≡ Some p.1
value_first p ps = ap (λ b. cond b (Some p.1) (value_at ps p.0)) (name_same p.0 p.0 refl)

-- Sums.

pub plus_zero : (n : ℕ) → n + 0 ≡ n
plus_zero n = omega arith

pub total_last : {X : Type 0} (f : X → ℕ) (xs : List X) (y : X) → total f (xs ++ y ∷ []) ≡ total f xs + f y
total_last f [] y = omega arith
total_last f (x ∷ xs) y = let e = total_last f xs y in omega (arith, e)

pub total_zero : {X : Type 0} (f : X → ℕ) → ((x : X) → f x ≡ 0) → (xs : List X) → total f xs ≡ 0
total_zero f none [] = refl
total_zero f none (x ∷ xs) = let e = none x in let r = total_zero f none xs in omega (arith, e, r)

-- Lists whose members stand for one another.

pub each_kept : {X Y : Type 0} (P Q : X → Y → Type 0) (W : Y → Type 0) → ((x : X) (y : Y) → W y → P x y → Q x y) → (xs : List X) (ys : List Y) → AllByRecursion W ys → Each P xs ys → Each Q xs ys
each_kept P Q W f [] [] w e = tt
each_kept P Q W f (x ∷ xs) (y ∷ ys) w e = (f x y w.0 e.0, each_kept P Q W f xs ys w.1 e.1)
each_kept P Q W f [] (y ∷ ys) w e = absurd e
each_kept P Q W f (x ∷ xs) [] w e = absurd e

pub each_all : {X Y : Type 0} (P Q : X → Y → Type 0) → ((x : X) (y : Y) → P x y → Q x y) → (xs : List X) (ys : List Y) → Each P xs ys → Each Q xs ys
each_all P Q f [] [] e = tt
each_all P Q f (x ∷ xs) (y ∷ ys) e = (f x y e.0, each_all P Q f xs ys e.1)
each_all P Q f [] (y ∷ ys) e = absurd e
each_all P Q f (x ∷ xs) [] e = absurd e

pub each_length : {X Y : Type 0} (P : X → Y → Type 0) (xs : List X) (ys : List Y) → Each P xs ys → length xs ≡ length ys
each_length P [] [] e = refl
each_length P (x ∷ xs) (y ∷ ys) e = ap suc (each_length P xs ys e.1)
each_length P [] (y ∷ ys) e = absurd e
each_length P (x ∷ xs) [] e = absurd e

-- one more at the end of both
pub each_more : {X Y : Type 0} (P : X → Y → Type 0) (xs : List X) (ys : List Y) (x : X) (y : Y) → Each P xs ys → P x y → Each P (xs ++ x ∷ []) (ys ++ y ∷ [])
each_more P [] [] x y e one = (one, tt)
each_more P (z ∷ zs) (w ∷ ws) x y e one = (e.0, each_more P zs ws x y e.1 one)
each_more P [] (w ∷ ws) x y e one = absurd e
each_more P (z ∷ zs) [] x y e one = absurd e
