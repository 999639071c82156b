-- The places of a descriptor's blocks: the closed form goes from one to the next as it should.
use Rattle.std.proofs.Common.{◌≡◌, ◌⊎◌, inl, inr, ⊎_elim, ℕ, zero, suc, ◌+◌, ◌-◌, ◌%◌, ◌<◌, ◌≤◌, ◌==◌, ◌&&◌, not, refl, sym, ap, ◌∙◌, arith}
use Rattle.std.proofs.Math.Nat.{add-mod_left, suc-mod, mod-lt, mod-zero, zero-mod, mod_self, mod-eq_of_lt}
use Rattle.std.proofs.lemmas.Bool.{cond-true, cond-false}
use Rattle.std.proofs.lemmas.Bool.Decides.{nat_tests}
use Rattle.ark_region.proofs.Putting.{at_or_below}
use Rattle.ark_vsic.specs.Places.{next_place, place_after, is_wrapped, place_of}

module _ (n wrap : ℕ) where
  goes_on : (p : ℕ) → (n ≤ p) ⊎ ((p + 1 < n) ⊎ (wrap ≡ 0)) → next_place n wrap p ≡ p + 1
  goes_on p h = cond-false (p + 1 == n && not (wrap == 0)) wrap (p + 1) (grind (arith, nat_tests))

  goes_back : (p : ℕ) → p + 1 ≡ n → 0 < wrap → next_place n wrap p ≡ wrap
  goes_back p e some = cond-true (p + 1 == n && not (wrap == 0)) wrap (p + 1) (grind (arith, nat_tests))

  straight : (first k : ℕ) → (n ≤ first) ⊎ ((first + k < n) ⊎ (wrap ≡ 0)) → place_of n wrap first k ≡ first + k
  straight first k h = cond-false (is_wrapped n wrap first k) _ _ (grind (arith, nat_tests))

  round : (first k j : ℕ) → first < n → first + k ≡ n + j → 0 < wrap → place_of n wrap first k ≡ wrap + j % (n - wrap)
  round first k j lt e some =
      let d : first + k - n ≡ j = omega (arith, e) in
      cond-true (is_wrapped n wrap first k) _ _ (grind (arith, nat_tests)) ∙ ap (λ x. wrap + x % (n - wrap)) d

  on_straight : (first k : ℕ) → place_of n wrap first k ≡ first + k → next_place n wrap (first + k) ≡ first + k + 1 → place_of n wrap first (suc k) ≡ first + suc k
      → next_place n wrap (place_of n wrap first k) ≡ place_of n wrap first (suc k)
  on_straight first k here next there = let e : first + k + 1 ≡ first + suc k = omega arith in ap (next_place n wrap) here ∙ next ∙ e ∙ sym there

  -- behind the last block, where those from `wrap` on are m
  turns : (j m : ℕ) → m ≡ n - wrap → wrap < n → 0 < wrap → next_place n wrap (wrap + j % m) ≡ wrap + suc j % m
  turns j m is lt some =
      let low : j % m < m = mod-lt j (let s : 0 < m = omega (arith, is, lt) in s) in
      ⊎_elim
      (λ last.
      let full : suc (j % m) ≡ m = omega (arith, low, last) in
      let here : wrap + j % m + 1 ≡ n = omega (arith, full, is, lt) in
      let back : suc j % m ≡ 0 = suc-mod j m ∙ ap (λ x. x % m) full ∙ mod_self m in
      let none : wrap ≡ wrap + 0 = omega arith in
      goes_back (wrap + j % m) here some ∙ none ∙ sym (ap (λ x. wrap + x) back))
      (λ before.
      let on : wrap + j % m + 1 < n = omega (arith, before, is, lt) in
      let next : suc j % m ≡ suc (j % m) = suc-mod j m ∙ mod-eq_of_lt before in
      let sum : wrap + j % m + 1 ≡ wrap + suc (j % m) = omega arith in
      goes_on (wrap + j % m) (inr (inl on)) ∙ sum ∙ sym (ap (λ x. wrap + x) next))
      (at_or_below m (suc (j % m)))

  -- where `wrap` is no place of the area, none of those behind it is
  leaves : (j m : ℕ) → m ≡ n - wrap → n ≤ wrap → next_place n wrap (wrap + j % m) ≡ wrap + suc j % m
  leaves j m is le =
      let none : m ≡ 0 = omega (arith, is, le) in
      let here : wrap + j % m ≡ wrap + j = ap (λ x. wrap + j % x) none ∙ ap (λ x. wrap + x) (mod-zero j) in
      let there : wrap + suc j % m ≡ wrap + suc j = ap (λ x. wrap + suc j % x) none ∙ ap (λ x. wrap + x) (mod-zero (suc j)) in
      let far : n ≤ wrap + j = omega (arith, le) in
      let sum : wrap + j + 1 ≡ wrap + suc j = omega arith in
      ap (next_place n wrap) here ∙ goes_on (wrap + j) (inl far) ∙ sum ∙ sym there

  goes_round : (first k : ℕ) → first < n → 0 < wrap → n ≤ first + k → next_place n wrap (place_of n wrap first k) ≡ place_of n wrap first (suc k)
  goes_round first k lt some past =
      let j = first + k - n in
      let e : first + k ≡ n + j = omega (arith, past) in
      let f : first + suc k ≡ n + suc j = omega (arith, e) in
      ap (next_place n wrap) (round first k j lt e some)
      ∙ ⊎_elim (leaves j (n - wrap) refl) (λ in_area. turns j (n - wrap) refl in_area some) (at_or_below n wrap)
      ∙ sym (round first (suc k) (suc j) lt f some)

  turns_first : (first k : ℕ) → first < n → 0 < wrap → first + suc k ≡ n → next_place n wrap (place_of n wrap first k) ≡ place_of n wrap first (suc k)
  turns_first first k lt some is =
      let below : first + k < n = omega (arith, is) in
      let here : first + k + 1 ≡ n = omega (arith, is) in
      let f : first + suc k ≡ n + 0 = omega (arith, is) in
      let none : wrap ≡ wrap + 0 = omega arith in
      ap (next_place n wrap) (straight first k (inr (inl below))) ∙ goes_back (first + k) here some ∙ none
      ∙ sym (round first (suc k) 0 lt f some ∙ ap (λ x. wrap + x) (zero-mod (n - wrap)))

  next_is : (first k : ℕ) → next_place n wrap (place_of n wrap first k) ≡ place_of n wrap first (suc k)
  next_is first k =
      ⊎_elim
      (λ away. let far : n ≤ first + k = omega (arith, away) in on_straight first k (straight first k (inl away)) (goes_on (first + k) (inl far)) (straight first (suc k) (inl away)))
      (λ lt.
      ⊎_elim
      (λ le. let none : wrap ≡ 0 = omega (arith, le) in on_straight first k (straight first k (inr (inr none))) (goes_on (first + k) (inr (inr none))) (straight first (suc k) (inr (inr none))))
      (λ some.
      ⊎_elim (goes_round first k lt some)
      (λ below.
      ⊎_elim
      (λ le. let is : first + suc k ≡ n = omega (arith, le, below) in turns_first first k lt some is)
      (λ less.
      let next : first + k + 1 < n = omega (arith, less) in
      on_straight first k (straight first k (inr (inl below))) (goes_on (first + k) (inr (inl next))) (straight first (suc k) (inr (inl less))))
      (at_or_below n (first + suc k)))
      (at_or_below n (first + k)))
      (at_or_below wrap 0))
      (at_or_below n first)

  starts : (first : ℕ) → place_of n wrap first 0 ≡ first
  starts first =
      let e : first + 0 ≡ first = omega arith in
      straight first 0 (⊎_elim (λ away. inl away) (λ lt. inr (inl (let h : first + 0 < n = omega (arith, lt) in h))) (at_or_below n first)) ∙ e

pub stepwise : (n wrap first k : ℕ) → place_of n wrap first k ≡ place_after n wrap first k
stepwise n wrap first zero = starts n wrap first
stepwise n wrap first (suc k) = sym (next_is n wrap first k) ∙ ap (next_place n wrap) (stepwise n wrap first k)

-- from `wrap` on the area is a ring, and the places go round in it
pub in_ring : (n wrap first k : ℕ) → 0 < wrap → wrap ≤ first → first < n → place_of n wrap first k ≡ wrap + (first - wrap + k) % (n - wrap)
in_ring n wrap first k some from lt =
    ⊎_elim
    (λ past.
    let j = first + k - n in
    let e : first + k ≡ n + j = omega (arith, past) in
    let turned : first - wrap + k ≡ (n - wrap) + j = omega (arith, e, from, lt) in
    round n wrap first k j lt e some ∙ sym (ap (λ x. wrap + x) (ap (λ x. x % (n - wrap)) turned ∙ add-mod_left (n - wrap) j)))
    (λ below.
    let small : first - wrap + k < n - wrap = omega (arith, below, from, lt) in
    let sum : first + k ≡ wrap + (first - wrap + k) = omega (arith, from) in
    straight n wrap first k (inr (inl below)) ∙ sum ∙ sym (ap (λ x. wrap + x) (mod-eq_of_lt small)))
    (at_or_below n (first + k))
