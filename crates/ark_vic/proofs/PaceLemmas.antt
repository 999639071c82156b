-- The laws of fills.
use Rattle.std.proofs.Common.{◌≡◌, ◌≤◌, ◌<◌, ◌+◌, ◌-◌, ◌*◌, ◌++◌, ◌∷◌, [], ℕ, List, Bool, true, false, cond, ◌&&◌, refl, sym, ap, subst, ◌∙◌, arith, inl, inr}
use Rattle.std.specs.Prelude.{◌⊎◌, leb}
use Rattle.std.proofs.lemmas.Bool.Decides.{nat_tests}
use Rattle.std.proofs.Math.Nat.{mul-le-mul_left}
use Rattle.ark_vic.specs.Pace.{Pace, Pass, WithinRate, NoneAfter, IsPaceOf, passed_between, passed_from, greatest, fill_of, fill_at, with_fill}

-- F is the least number with which every window that ends at T is within F + q * its length
record IsFill (q : ℕ) (p : List Pass) (T F : ℕ) : Type 0 where
  above : (s : ℕ) → s ≤ T → passed_from s p ≤ F + q * (T - s)
  met : (F ≡ 0) ⊎ ((s : ℕ) × (s ≤ T) × (F + q * (T - s) ≤ passed_from s p))

gap : (q s m t : ℕ) → s ≤ m → m ≤ t → q * (t - s) ≡ q * (t - m) + q * (m - s)
gap q s m t a b = let e : t - s ≡ (t - m) + (m - s) = omega arith in ap (λ (x : ℕ). q * x) e ∙ omega arith

longer : (q s t u : ℕ) → t ≤ u → q * (t - s) ≤ q * (u - s)
longer q s t u h = mul-le-mul_left q (omega arith)

fewer_gap : (q s m T : ℕ) → s ≤ m → q * (T - m) ≤ q * (T - s)
fewer_gap q s m T h = mul-le-mul_left q (omega arith)

no_gap : (q t : ℕ) → q * (t - t) ≡ 0
no_gap q t = let e : t - t ≡ 0 = omega arith in ap (λ (x : ℕ). q * x) e ∙ omega arith

dec_le : (a b : ℕ) → (a ≤ b) ⊎ (b < a)
dec_le a b = grind arith

cond_le : (c : Bool) (n : ℕ) → cond c n 0 ≤ n
cond_le true n = omega arith
cond_le false n = omega arith

cond_one : (s t n : ℕ) → s ≤ t → cond (leb s t) n 0 ≡ n
cond_one s t n h = grind (arith, nat_tests)

cond_in : (s u t n : ℕ) → s ≤ t → t ≤ u → cond (leb s t && leb t u) n 0 ≡ n
cond_in s u t n a b = grind (arith, nat_tests)

cond_out : (s u t n : ℕ) → (t < s) ⊎ (u < t) → cond (leb s t && leb t u) n 0 ≡ 0
cond_out s u t n h = grind (arith, nat_tests)

-- one more pass
from_step : (s a n y : ℕ) (z w : ℕ) → z ≡ y + w → cond (leb s a) n 0 + z ≡ (cond (leb s a) n 0 + y) + w
from_step s a n y z w e = omega arith

from_append : (s t n : ℕ) (p : List Pass) → passed_from s (p ++ (t, n) ∷ []) ≡ passed_from s p + cond (leb s t) n 0
from_append s t n [] = omega arith
from_append s t n (x ∷ p) = from_step s x.0 x.1 (passed_from s p) _ _ (from_append s t n p)

between_append : (s u t n : ℕ) (p : List Pass) → passed_between s u (p ++ (t, n) ∷ []) ≡ passed_between s u p + cond (leb s t && leb t u) n 0
between_append s u t n [] = omega arith
between_append s u t n (x ∷ p) = let h = between_append s u t n p in omega (arith, h)

between_step : (s u a n y z : ℕ) → y ≤ z → cond (leb s a && leb a u) n 0 + y ≤ cond (leb s a) n 0 + z
between_step s u a n y z h = grind (arith, nat_tests)

between-le-from : (s u : ℕ) (p : List Pass) → passed_between s u p ≤ passed_from s p
between-le-from s u [] = omega arith
between-le-from s u (x ∷ p) = between_step s u x.0 x.1 (passed_between s u p) (passed_from s p) (between-le-from s u p)

same_step : (s u a n y z : ℕ) → a ≤ u → y ≡ z → cond (leb s a && leb a u) n 0 + y ≡ cond (leb s a) n 0 + z
same_step s u a n y z le h = grind (arith, nat_tests)

between-all : (s u : ℕ) (p : List Pass) → NoneAfter u p → passed_between s u p ≡ passed_from s p
between-all s u [] h = refl
between-all s u (x ∷ p) h = same_step s u x.0 x.1 (passed_between s u p) (passed_from s p) h.0 (between-all s u p h.1)

past_step : (s T a n y : ℕ) → T < s → a ≤ T → y ≡ 0 → cond (leb s a) n 0 + y ≡ 0
past_step s T a n y lt le h = grind (arith, nat_tests)

from-past : (s T : ℕ) (p : List Pass) → T < s → NoneAfter T p → passed_from s p ≡ 0
from-past s T [] lt h = refl
from-past s T (x ∷ p) lt h = past_step s T x.0 x.1 (passed_from s p) lt h.0 (from-past s T p lt h.1)

later_past : (T t : ℕ) (p : List Pass) → T ≤ t → NoneAfter T p → NoneAfter t p
later_past T t [] le h = tt
later_past T t (x ∷ p) le h = (omega (arith, h.0), later_past T t p le h.1)

push_past : (t n : ℕ) (p : List Pass) → NoneAfter t p → NoneAfter t (p ++ (t, n) ∷ [])
push_past t n [] h = (omega arith, tt)
push_past t n (x ∷ p) h = (h.0, push_past t n p h.1)

-- the least number is one number
below : (q : ℕ) (p : List Pass) (T F G : ℕ) → IsFill q p T F → IsFill q p T G → F ≤ G
below q p T F G f g = by f.met
  where
    by : (F ≡ 0) ⊎ ((s : ℕ) × (s ≤ T) × (F + q * (T - s) ≤ passed_from s p)) → F ≤ G
    by (inl z) = omega arith
    by (inr (s, le, h)) = let k = g.above s le in omega (arith, k, h)

-- the passes' fill is that number
fewer_step : (s m a n y z : ℕ) → s ≤ m → y ≤ z → cond (leb m a) n 0 + y ≤ cond (leb s a) n 0 + z
fewer_step s m a n y z le h = grind (arith, nat_tests)

fewer : (s m : ℕ) (p : List Pass) → s ≤ m → passed_from m p ≤ passed_from s p
fewer s m [] le = omega arith
fewer s m (x ∷ p) le = fewer_step s m x.0 x.1 (passed_from m p) (passed_from s p) le (fewer s m p le)

zero_step : (s a n y : ℕ) → a < s → y ≡ 0 → cond (leb s a) n 0 + y ≡ 0
zero_step s a n y h e = grind (arith, nat_tests)

grow_step : (s m a n y z : ℕ) → a < s → y ≤ z → cond (leb s a) n 0 + y ≤ cond (leb m a) n 0 + z
grow_step s m a n y z h e = grind (arith, nat_tests)

own_step : (s a n y z : ℕ) → y ≤ z → cond (leb s a) n 0 + y ≤ cond (leb a a) n 0 + z
own_step s a n y z e = grind (arith, nat_tests)

both_step : (s m a n y z : ℕ) → m ≤ a → y ≤ z → cond (leb s a) n 0 + y ≤ cond (leb m a) n 0 + z
both_step s m a n y z h e = grind (arith, nat_tests)

-- m is the least tick of xs from s on, or no bytes of xs are from s on
abbrev Least : List Pass → ℕ → List Pass → Type 0
Least p s xs = (passed_from s xs ≡ 0) ⊎ ((m : ℕ) × (s ≤ m) × (passed_from s xs ≤ passed_from m xs)
    × ((T : ℕ) → NoneAfter T xs → m ≤ T) × ((q T : ℕ) → passed_from m p - q * (T - m) ≤ greatest q T p xs))

least_tick : (p : List Pass) (s : ℕ) (xs : List Pass) → Least p s xs
least_tick p s [] = inl refl
least_tick p s (x ∷ xs) = by (dec_le s x.0) (least_tick p s xs)
  where
    by : (s ≤ x.0) ⊎ (x.0 < s) → Least p s xs → Least p s (x ∷ xs)
    by (inr lt) (inl z) = inl (zero_step s x.0 x.1 (passed_from s xs) lt z)
    by (inr lt) (inr (m, sm, h, mT, g)) = inr (m, sm, grow_step s m x.0 x.1 (passed_from s xs) (passed_from m xs) lt h, λ T all. mT T all.1, λ q T. let k = g q T in omega (arith, k))
    by (inl le) (inl z) = inr (x.0, le, own_step s x.0 x.1 (passed_from s xs) (passed_from x.0 xs) (omega (arith, z)), λ T all. all.0, λ q T. omega arith)
    by (inl le) (inr (m, sm, h, mT, g)) = two (dec_le m x.0)
      where
        two : (m ≤ x.0) ⊎ (x.0 < m) → Least p s (x ∷ xs)
        two (inl a) = inr (m, sm, both_step s m x.0 x.1 (passed_from s xs) (passed_from m xs) a h, λ T all. mT T all.1, λ q T. let k = g q T in omega (arith, k))
        two (inr b) = let f = fewer x.0 m xs (omega arith) in inr (x.0, le, own_step s x.0 x.1 (passed_from s xs) (passed_from x.0 xs) (omega (arith, h, f)), λ T all. all.0, λ q T. omega arith)

greatest_met : (q T : ℕ) (p xs : List Pass) → NoneAfter T xs
    → (greatest q T p xs ≡ 0) ⊎ ((s : ℕ) × (s ≤ T) × (greatest q T p xs + q * (T - s) ≤ passed_from s p))
greatest_met q T p [] h = inl refl
greatest_met q T p (x ∷ xs) h = by (dec_le (passed_from x.0 p - q * (T - x.0)) (greatest q T p xs)) (dec_le (passed_from x.0 p) (q * (T - x.0))) (greatest_met q T p xs h.1)
  where
    by : (passed_from x.0 p - q * (T - x.0) ≤ greatest q T p xs) ⊎ (greatest q T p xs < passed_from x.0 p - q * (T - x.0))
        → (passed_from x.0 p ≤ q * (T - x.0)) ⊎ (q * (T - x.0) < passed_from x.0 p)
        → (greatest q T p xs ≡ 0) ⊎ ((s : ℕ) × (s ≤ T) × (greatest q T p xs + q * (T - s) ≤ passed_from s p))
        → (greatest q T p (x ∷ xs) ≡ 0) ⊎ ((s : ℕ) × (s ≤ T) × (greatest q T p (x ∷ xs) + q * (T - s) ≤ passed_from s p))
    by (inl a) c (inl z) = inl (omega (arith, z))
    by (inl a) c (inr (s, le, k)) = inr (s, le, omega (arith, k))
    by (inr b) (inl c) r = absurd (omega arith)
    by (inr b) (inr c) r = inr (x.0, h.0, omega arith)

fill_is_fill : (q : ℕ) (p : List Pass) (T : ℕ) → NoneAfter T p → IsFill q p T (fill_of q p T)
fill_is_fill q p T past = record {
  above = λ s le. by s (least_tick p s p);
  met = greatest_met q T p p past;
}
  where
    by : (s : ℕ) → Least p s p → passed_from s p ≤ greatest q T p p + q * (T - s)
    by s (inl z) = omega (arith, z)
    by s (inr (m, sm, h, mT, g)) = let k = g q T in let l = fewer_gap q s m T sm in omega (arith, h, k, l)

-- a later fill, with one more pass
module _ (q : ℕ) (p : List Pass) (T F t n : ℕ) (le : T ≤ t) (past : NoneAfter T p) (f : IsFill q p T F) where
  now_at : ℕ
  now_at = F - q * (t - T)

  -- each window that ends at t or later holds at most this
  window : (s u : ℕ) → s ≤ t → t ≤ u → passed_from s p ≤ (F - q * (t - T)) + q * (u - s)
  window s u st tu = by (dec_le s T)
    where
      by : (s ≤ T) ⊎ (T < s) → passed_from s p ≤ (F - q * (t - T)) + q * (u - s)
      by (inl a) = let k = f.above s a in let g = gap q s T t a le in let l = longer q s t u tu in omega (arith, k, g, l)
      by (inr b) = let z = from-past s T p b past in omega (arith, z)

  keeps_more : (b : ℕ) → WithinRate q b p → (F - q * (t - T)) + n ≤ b → WithinRate q b (p ++ (t, n) ∷ [])
  keeps_more b kept fits s u su = by (dec_le s t) (dec_le t u)
    where
      by : (s ≤ t) ⊎ (t < s) → (t ≤ u) ⊎ (u < t) → passed_between s u (p ++ (t, n) ∷ []) ≤ b + q * (u - s)
      by (inl a) (inl c) = let k = between_append s u t n p in let w = window s u a c in let l = between-le-from s u p in let o = cond_le (leb s t && leb t u) n in omega (arith, k, w, l, o)
      by (inl a) (inr c) = let k = between_append s u t n p in let z = cond_out s u t n (inr c) in let h = kept s u su in omega (arith, k, z, h)
      by (inr a) c = let k = between_append s u t n p in let z = cond_out s u t n (inl a) in let h = kept s u su in omega (arith, k, z, h)

  fits_again : (b : ℕ) → WithinRate q b (p ++ (t, n) ∷ []) → (F - q * (t - T)) + n ≤ b
  fits_again b kept = by f.met
    where
      at_t : n ≤ b
      at_t = let k = kept t t (omega arith) in let e = between_append t t t n p in let i = cond_in t t t n (omega arith) (omega arith) in let o = no_gap q t in omega (arith, k, e, i, o)

      by : (F ≡ 0) ⊎ ((s : ℕ) × (s ≤ T) × (F + q * (T - s) ≤ passed_from s p)) → (F - q * (t - T)) + n ≤ b
      by (inl z) = omega (arith, at_t)
      by (inr (s, a, h)) =
          let k = kept s t (omega arith) in
          let e = between_append s t t n p in
          let i = cond_in s t t n (omega arith) (omega arith) in
          let all = between-all s t p (later_past T t p le past) in
          let g = gap q s T t a le in
          omega (arith, at_t, k, e, i, all, g, h)

  fill_more : IsFill q (p ++ (t, n) ∷ []) t ((F - q * (t - T)) + n)
  fill_more = record {
    above = λ s st. let e = from_append s t n p in let w = window s t st (omega arith) in let o = cond_le (leb s t) n in omega (arith, e, w, o);
    met = by f.met;
  }
    where
      at_t : n ≤ passed_from t (p ++ (t, n) ∷ [])
      at_t = let e = from_append t t n p in let i = cond_one t t n (omega arith) in omega (arith, e, i)

      by : (F ≡ 0) ⊎ ((s : ℕ) × (s ≤ T) × (F + q * (T - s) ≤ passed_from s p))
          → ((F - q * (t - T)) + n ≡ 0) ⊎ ((s : ℕ) × (s ≤ t) × ((F - q * (t - T)) + n + q * (t - s) ≤ passed_from s (p ++ (t, n) ∷ [])))
      by (inl z) = inr (t, omega arith, let o = no_gap q t in omega (arith, at_t, o))
      by (inr (s, a, h)) = two (dec_le F (q * (t - T)))
        where
          two : (F ≤ q * (t - T)) ⊎ (q * (t - T) < F) → ((F - q * (t - T)) + n ≡ 0) ⊎ ((s : ℕ) × (s ≤ t) × ((F - q * (t - T)) + n + q * (t - s) ≤ passed_from s (p ++ (t, n) ∷ [])))
          two (inl small) = inr (t, omega arith, let o = no_gap q t in omega (arith, at_t, o))
          two (inr large) =
              let e = from_append s t n p in
              let i = cond_one s t n (omega arith) in
              let g = gap q s T t a le in
              inr (s, omega arith, omega (arith, e, i, g, h))

-- without the last pass
keeps_less : (q b t n : ℕ) (p : List Pass) → WithinRate q b (p ++ (t, n) ∷ []) → WithinRate q b p
keeps_less q b t n p kept s u su = let k = kept s u su in let e = between_append s u t n p in omega (arith, k, e)

-- the fill at a later tick
fill_later : (q : ℕ) (p : List Pass) (T F u : ℕ) → T ≤ u → NoneAfter T p → IsFill q p T F → IsFill q p u (F - q * (u - T))
fill_later q p T F u le past f = record {
  above = λ s su. by s su (dec_le s T);
  met = turned f.met;
}
  where
    by : (s : ℕ) → s ≤ u → (s ≤ T) ⊎ (T < s) → passed_from s p ≤ (F - q * (u - T)) + q * (u - s)
    by s su (inl a) = let k = f.above s a in let g = gap q s T u a le in omega (arith, k, g)
    by s su (inr b) = let z = from-past s T p b past in omega (arith, z)

    turned : (F ≡ 0) ⊎ ((s : ℕ) × (s ≤ T) × (F + q * (T - s) ≤ passed_from s p))
        → (F - q * (u - T) ≡ 0) ⊎ ((s : ℕ) × (s ≤ u) × ((F - q * (u - T)) + q * (u - s) ≤ passed_from s p))
    turned (inl z) = inl (omega (arith, z))
    turned (inr (s, a, h)) = two (dec_le F (q * (u - T)))
      where
        two : (F ≤ q * (u - T)) ⊎ (q * (u - T) < F) → (F - q * (u - T) ≡ 0) ⊎ ((s : ℕ) × (s ≤ u) × ((F - q * (u - T)) + q * (u - s) ≤ passed_from s p))
        two (inl small) = inl (omega arith)
        two (inr large) = let g = gap q s T u a le in inr (s, omega arith, omega (arith, g, h))

-- two numbers that are the fill are one
same_fill : (q : ℕ) (p : List Pass) (T F G : ℕ) → IsFill q p T F → IsFill q p T G → F ≡ G
same_fill q p T F G f g = let a = below q p T F G f g in let b = below q p T G F g f in omega (arith, a, b)

-- the fill of passes of which none is after t, with one more at t
fill_added : (q t n : ℕ) (p : List Pass) → NoneAfter t p → IsFill q (p ++ (t, n) ∷ []) t (fill_of q p t + n)
fill_added q t n p past =
    let e : (fill_of q p t - q * (t - t)) + n ≡ fill_of q p t + n = let z = no_gap q t in omega (arith, z) in
    subst (λ F. IsFill q (p ++ (t, n) ∷ []) t F) e (fill_more q p t (fill_of q p t) t n (omega arith) past (fill_is_fill q p t past))

pub kept_law : (q b t n : ℕ) (p : List Pass) → NoneAfter t p → (WithinRate q b (p ++ (t, n) ∷ []) → WithinRate q b p × (fill_of q p t + n ≤ b)) × (WithinRate q b p × (fill_of q p t + n ≤ b) → WithinRate q b (p ++ (t, n) ∷ []))
kept_law q b t n p past =
    let f = fill_is_fill q p t past in
    let z = no_gap q t in (
      λ kept. (keeps_less q b t n p kept, let h = fits_again q p t (fill_of q p t) t n (omega arith) past f b kept in omega (arith, h, z)),
      λ (kept, fits). keeps_more q p t (fill_of q p t) t n (omega arith) past f b kept (omega (arith, fits, z)),
    )

pub later_law : (q t u : ℕ) (p : List Pass) → NoneAfter t p → t ≤ u → fill_of q p u ≡ fill_of q p t - q * (u - t)
later_law q t u p past le =
    same_fill q p u _ _ (fill_is_fill q p u (later_past t u p le past)) (fill_later q p t (fill_of q p t) u le past (fill_is_fill q p t past))

pub added_law : (q t n u : ℕ) (p : List Pass) → NoneAfter t p → t ≤ u → fill_of q (p ++ (t, n) ∷ []) u ≡ (fill_of q p t + n) - q * (u - t)
added_law q t n u p past le =
    let all = push_past t n p past in
    let own = fill_is_fill q (p ++ (t, n) ∷ []) u (later_past t u (p ++ (t, n) ∷ []) le all) in
    same_fill q (p ++ (t, n) ∷ []) u _ _ own (fill_later q (p ++ (t, n) ∷ []) t (fill_of q p t + n) u le all (fill_added q t n p past))

-- a rate that stands for p
pub may_law : (r : Pace) (p : List Pass) (n t : ℕ) → IsPaceOf r p → r.tick ≤ t → (fill_at r t + n ≤ r.burst → WithinRate r.per_tick r.burst (p ++ (t, n) ∷ [])) × (WithinRate r.per_tick r.burst (p ++ (t, n) ∷ []) → fill_at r t + n ≤ r.burst)
may_law r p n t st le =
    let f = subst (λ F. IsFill r.per_tick p r.tick F) (sym st.fill_is) (fill_is_fill r.per_tick p r.tick st.past) in
    (keeps_more r.per_tick p r.tick r.fill t n le st.past f r.burst st.kept, fits_again r.per_tick p r.tick r.fill t n le st.past f r.burst)

pub passed_law : (r : Pace) (p : List Pass) (n t : ℕ) → IsPaceOf r p → r.tick ≤ t → fill_at r t + n ≤ r.burst → IsPaceOf (with_fill r n t) (p ++ (t, n) ∷ [])
passed_law r p n t st le fits =
    let f = subst (λ F. IsFill r.per_tick p r.tick F) (sym st.fill_is) (fill_is_fill r.per_tick p r.tick st.past) in
    let past = push_past t n p (later_past r.tick t p le st.past) in
    let more = fill_more r.per_tick p r.tick r.fill t n le st.past f in
    let own = fill_is_fill r.per_tick (p ++ (t, n) ∷ []) t past in
    record {
      kept = keeps_more r.per_tick p r.tick r.fill t n le st.past f r.burst st.kept fits;
      past = past;
      fill_is = let a = below r.per_tick (p ++ (t, n) ∷ []) t _ _ more own in let b = below r.per_tick (p ++ (t, n) ∷ []) t _ _ own more in omega (arith, a, b);
    }
