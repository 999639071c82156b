-- Lists of objects in which each is the one that is found at its label, and the changes that leave them so.
use Rattle.std.proofs.Common.{◌≡◌, ◌⊎◌, inl, inr, ℕ, zero, suc, Bool, true, false, not, List, [], ◌∷◌, ◌++◌, map, refl, sym, ◌∙◌, ap, subst, arith, cond}
use Rattle.std.proofs.lemmas.Bool.{false≢true}
use Rattle.std.proofs.lemmas.List.Folds.{find-append}
use Rattle.std.proofs.lemmas.List.Elements.{Contains-append_cases}
use Rattle.std.specs.Prelude.{Option, Some, None, is_some, option_map, find, filter as select, bytes_eq, Contains}
use Rattle.std.specs.Option.{option_or}
use Rattle.ark_machine.specs.Objects.{Object}
use Rattle.ark_machine.specs.Machine.{Held, holding}
use Rattle.ark_machine.proofs.Grants.{clash}
use Rattle.ark_laws.proofs.Listed.{same_bytes, bytes_eq-same}

-- the first that is held under a label
abbrev pub held_at : List ℕ → List Held → Option Held
held_at l hs = find (λ h. bytes_eq l h.label) hs

abbrev pub Once : List Held → Type 0
Once hs = (h : Held) → Contains hs h → held_at h.label hs ≡ Some h

pub none_held : (o : Option Held) → is_some o ≡ false → o ≡ None
none_held None h = refl
none_held (Some x) h = absurd (false≢true (sym h))

-- Other objects under the same labels.

module _ (f : Held → Held) (keeps : (h : Held) → (f h).label ≡ h.label) where
  pub mapped_at : (l : List ℕ) (hs : List Held) → held_at l (map f hs) ≡ option_map f (held_at l hs)
  mapped_at l [] = refl
  mapped_at l (x ∷ xs) =
      subst (λ k. cond (bytes_eq l k) (Some (f x)) (held_at l (map f xs)) ≡ option_map f (cond (bytes_eq l x.label) (Some x) (held_at l xs))) (sym (keeps x))
      (elim (bytes_eq l x.label) as (λ b. cond b (Some (f x)) (held_at l (map f xs)) ≡ option_map f (cond b (Some x) (held_at l xs))) [ true ↦ refl | false ↦ mapped_at l xs ])

  mapped_in : (hs : List Held) (h : Held) → Contains (map f hs) h → (k : Held) × Contains hs k × (f k ≡ h)
  mapped_in [] h (i, lt, e) = absurd (omega (arith, lt))
  mapped_in (x ∷ xs) h (zero, lt, e) = (x, (zero, omega arith, refl), e)
  mapped_in (x ∷ xs) h (suc i, lt, e) = let r = mapped_in xs h (i, omega (arith, lt), e) in (r.0, (suc r.1.0, omega (arith, r.1.1), r.1.2), r.2)

  pub mapped_once : (hs : List Held) → Once hs → Once (map f hs)
  mapped_once hs once h has =
      let k = mapped_in hs h has in
      subst (λ (y : Held). held_at y.label (map f hs) ≡ Some y) k.2
      (mapped_at (f k.0).label hs ∙ (ap (λ l. option_map f (held_at l hs)) (keeps k.0) ∙ ap (λ (o : Option Held). option_map f o) (once k.0 k.1)))

set_label : (l : List ℕ) (o : Object) (h : Held) → (cond (bytes_eq l h.label) (holding o h) h).label ≡ h.label
set_label l o h = elim (bytes_eq l h.label) as (λ b. (cond b (holding o h) h).label ≡ h.label) [ true ↦ refl | false ↦ refl ]

pub set_once : (l : List ℕ) (o : Object) (hs : List Held) → Once hs → Once (map (λ h. cond (bytes_eq l h.label) (holding o h) h) hs)
set_once l o hs once = mapped_once (λ h. cond (bytes_eq l h.label) (holding o h) h) (set_label l o) hs once

pub each_once : (f : Object → Object) (hs : List Held) → Once hs → Once (map (λ h. holding (f h.object) h) hs)
each_once f hs once = mapped_once (λ h. holding (f h.object) h) (λ h. refl) hs once

-- where nothing was held, nothing is
pub set_none : (l : List ℕ) (o : Object) (k : List ℕ) (hs : List Held) → held_at k hs ≡ None → held_at k (map (λ h. cond (bytes_eq l h.label) (holding o h) h) hs) ≡ None
set_none l o k hs none =
    mapped_at (λ h. cond (bytes_eq l h.label) (holding o h) h) (set_label l o) k hs ∙ ap (λ (q : Option Held). option_map (λ h. cond (bytes_eq l h.label) (holding o h) h) q) none

-- One that goes.

pub without_held : (l k : List ℕ) (hs : List Held) → held_at k (select (λ h. not (bytes_eq l h.label)) hs) ≡ cond (bytes_eq k l) None (held_at k hs)
without_held l k [] = elim (bytes_eq k l) as (λ t. ◌≡◌ {A = Option Held} None (cond t None None)) [ true ↦ refl | false ↦ refl ]
without_held l k (x ∷ xs) = by (bytes_eq l x.label) (bytes_eq k x.label) (bytes_eq k l) refl refl refl (without_held l k xs)
  where
    rest : List Held
    rest = select (λ h. not (bytes_eq l h.label)) xs

    by : (b c d : Bool) → bytes_eq l x.label ≡ b → bytes_eq k x.label ≡ c → bytes_eq k l ≡ d → held_at k rest ≡ cond d None (held_at k xs)
        → held_at k (cond (not b) (x ∷ rest) rest) ≡ cond d None (cond c (Some x) (held_at k xs))
    by true true true e f g next = next
    by true true false e f g next = absurd (clash (subst (λ y. bytes_eq k y ≡ true) (same_bytes k x.label f ∙ sym (same_bytes l x.label e)) (bytes_eq-same k)) g)
    by true false true e f g next = next
    by true false false e f g next = next
    by false true true e f g next = absurd (clash (subst (λ y. bytes_eq l y ≡ true) (sym (same_bytes k l g) ∙ same_bytes k x.label f) (bytes_eq-same l)) e)
    by false true false e f g next = rw f refl
    by false false true e f g next = rw f next
    by false false false e f g next = rw f next

selected_in : (q : Held → Bool) (hs : List Held) (h : Held) → Contains (select q hs) h → Contains hs h × (q h ≡ true)
selected_in q [] h (i, lt, e) = absurd (omega (arith, lt))
selected_in q (x ∷ xs) h has = by (selected_in q xs h) (q x) refl has
  where
    later : Contains xs h × (q h ≡ true) → Contains (x ∷ xs) h × (q h ≡ true)
    later r = ((suc r.0.0, omega (arith, r.0.1), r.0.2), r.1)

    by : (Contains (select q xs) h → Contains xs h × (q h ≡ true)) → (b : Bool) → q x ≡ b → Contains (cond b (x ∷ select q xs) (select q xs)) h → Contains (x ∷ xs) h × (q h ≡ true)
    by next true is (zero, lt, e) = ((zero, omega arith, e), subst (λ y. q y ≡ true) e is)
    by next true is (suc i, lt, e) = later (next (i, omega (arith, lt), e))
    by next false is c = later (next c)

flipped : (l k : List ℕ) (t : Bool) → bytes_eq k l ≡ t → not (bytes_eq l k) ≡ true → bytes_eq k l ≡ false
flipped l k false is h = is
flipped l k true is h = absurd (false≢true (subst (λ b. not b ≡ true) (subst (λ y. bytes_eq l y ≡ true) (sym (same_bytes k l is)) (bytes_eq-same l)) h))

pub without_once : (l : List ℕ) (hs : List Held) → Once hs → Once (select (λ h. not (bytes_eq l h.label)) hs)
without_once l hs once h has =
    let s = selected_in (λ x. not (bytes_eq l x.label)) hs h has in
    without_held l h.label hs ∙ subst (λ t. cond t None (held_at h.label hs) ≡ Some h) (sym (flipped l h.label (bytes_eq h.label l) refl s.1)) (once h s.0)

-- A new one, under a label that is not held.

pub new_once : (x : Held) (hs : List Held) → held_at x.label hs ≡ None → Once hs → Once (hs ++ x ∷ [])
new_once x hs none once h has = find-append (λ y. bytes_eq h.label y.label) hs (x ∷ []) ∙ by (Contains-append_cases hs (x ∷ []) h has)
  where
    only : Contains (x ∷ []) h → x ≡ h
    only (zero, lt, e) = e
    only (suc i, lt, e) = absurd (omega (arith, lt))

    by : Contains hs h ⊎ Contains (x ∷ []) h → option_or (held_at h.label hs) (held_at h.label (x ∷ [])) ≡ Some h
    by (inl old) = ap (λ (o : Option Held). option_or o (held_at h.label (x ∷ []))) (once h old)
    by (inr new) = subst (λ (y : Held). option_or (held_at y.label hs) (held_at y.label (x ∷ [])) ≡ Some y) (only new)
        (ap (λ (o : Option Held). option_or o (held_at x.label (x ∷ []))) none ∙ ap (λ t. cond t (Some x) None) (bytes_eq-same x.label))
