-- Other blocks of the area of one grant.
use Rattle.std.proofs.Common.{◌≡◌, ℕ, zero, suc, ◌<◌, ◌≤◌, true, false, not, cond, ◌&&◌, List, [], ◌∷◌, length, set, get_or, nat_eq, refl, sym, ◌∙◌, ap, subst, arith}
use Rattle.std.specs.Prelude.{Option, Some, None, is_none, is_some, option_map, find, position, nat_lt, slice_get}
use Rattle.std.specs.List.{position_or_len}
use Rattle.std.proofs.lemmas.Option.{slice_get_past}
use Rattle.std.proofs.lemmas.List.Folds.{find_at}
use Rattle.std.proofs.lemmas.List.Quantifiers.{position-Some}
use Rattle.std.specs.Map.{lookup}
use Rattle.std.proofs.lemmas.Bool.Decides.{nat_tests}
use Rattle.ark_held.specs.declared.areas.Area.{Area}
use Rattle.ark_held.specs.Words.{AreaList, are_once, with_spans}
use Rattle.ark_held.specs.Keeps.{IsSpread}
use Rattle.ark_held.proofs.Lists.{by_test, some_same}
use Rattle.ark_held.proofs.Spreading.{spread_same}

module _ (g : ℕ) (spans : List ℕ) where
  abbrev spanned : ℕ × Area → ℕ × Area
  spanned x = (x.0, record x.1 { spans = spans })

  -- the area at the first place of the grant is changed
  pub spans_set : (xs : AreaList) (i : ℕ) (d : ℕ × Area) → i < length xs → nat_eq (get_or xs i d).0 g ≡ true → ((k : ℕ) → k < i → nat_eq (get_or xs k d).0 g ≡ false) → set xs i (spanned (get_or xs i d)) ≡ with_spans xs g spans
  spans_set [] i d lt at before = absurd (omega (arith, lt))
  spans_set (x ∷ xs) zero d lt at before = let here : nat_eq g x.0 ≡ true = grind (arith, nat_tests, at) in sym (ap (λ b. cond b (spanned x ∷ xs) (x ∷ with_spans xs g spans)) here)
  spans_set (x ∷ xs) (suc i) d lt at before =
      let first = before 0 (omega arith) in
      let other : nat_eq g x.0 ≡ false = grind (arith, nat_tests, first) in
      ap (λ (zs : AreaList). x ∷ zs) (spans_set xs i d (omega (arith, lt)) at (λ k below. before (suc k) (omega (arith, below))))
      ∙ sym (ap (λ b. cond b (spanned x ∷ xs) (x ∷ with_spans xs g spans)) other)

  pub spans_counted : (xs : AreaList) → length (with_spans xs g spans) ≡ length xs
  spans_counted [] = refl
  spans_counted (x ∷ xs) = by_test (λ b. length (cond b (spanned x ∷ xs) (x ∷ with_spans xs g spans)) ≡ suc (length xs)) (nat_eq g x.0) (λ yes. refl) (λ no. ap (λ n. suc n) (spans_counted xs))

  -- each grant that has an area has one still, and no other
  pub spans_has : (k : ℕ) (xs : AreaList) → is_some (lookup (nat_eq k) (with_spans xs g spans)) ≡ is_some (lookup (nat_eq k) xs)
  spans_has k [] = refl
  spans_has k (x ∷ xs) = by_test (λ b. is_some (lookup (nat_eq k) (cond b (spanned x ∷ xs) (x ∷ with_spans xs g spans))) ≡ is_some (lookup (nat_eq k) (x ∷ xs))) (nat_eq g x.0)
      (λ yes. by_test (λ t. is_some (cond t (Some (record x.1 { spans = spans })) (lookup (nat_eq k) xs)) ≡ is_some (cond t (Some x.1) (lookup (nat_eq k) xs))) (nat_eq k x.0) (λ yes. refl) (λ no. refl))
      (λ no. by_test (λ t. is_some (cond t (Some x.1) (lookup (nat_eq k) (with_spans xs g spans))) ≡ is_some (cond t (Some x.1) (lookup (nat_eq k) xs))) (nat_eq k x.0) (λ yes. refl) (λ no. spans_has k xs))

  none_not : (o : Option Area) → is_none o ≡ not (is_some o)
  none_not None = refl
  none_not (Some a) = refl

  spans_none : (k : ℕ) (xs : AreaList) → is_none (lookup (nat_eq k) (with_spans xs g spans)) ≡ is_none (lookup (nat_eq k) xs)
  spans_none k xs = none_not (lookup (nat_eq k) (with_spans xs g spans)) ∙ ap (λ b. not b) (spans_has k xs) ∙ sym (none_not (lookup (nat_eq k) xs))

  pub spans_once : (xs : AreaList) → are_once (with_spans xs g spans) ≡ are_once xs
  spans_once [] = refl
  spans_once (x ∷ xs) = by_test (λ b. are_once (cond b (spanned x ∷ xs) (x ∷ with_spans xs g spans)) ≡ are_once (x ∷ xs)) (nat_eq g x.0)
      (λ yes. refl) (λ no. (λ i. spans_none x.0 xs i && spans_once xs i))

  -- the grant has the area with them, and each other what it had
  pub spans_found : (xs : AreaList) → lookup (nat_eq g) (with_spans xs g spans) ≡ option_map (λ (a : Area). record a { spans = spans }) (lookup (nat_eq g) xs)
  spans_found [] = refl
  spans_found (x ∷ xs) = by_test
      (λ b. nat_eq g x.0 ≡ b → lookup (nat_eq g) (cond b (spanned x ∷ xs) (x ∷ with_spans xs g spans)) ≡ option_map (λ (a : Area). record a { spans = spans }) (cond b (Some x.1) (lookup (nat_eq g) xs))) (nat_eq g x.0)
      (λ yes q. ap (λ b. cond b (Some (record x.1 { spans = spans })) (lookup (nat_eq g) xs)) q)
      (λ no q. ap (λ b. cond b (Some x.1) (lookup (nat_eq g) (with_spans xs g spans))) q ∙ spans_found xs) refl

  pub spans_others : (k : ℕ) → nat_eq k g ≡ false → (xs : AreaList) → lookup (nat_eq k) (with_spans xs g spans) ≡ lookup (nat_eq k) xs
  spans_others k apart [] = refl
  spans_others k apart (x ∷ xs) = by_test
      (λ b. nat_eq g x.0 ≡ b → lookup (nat_eq k) (cond b (spanned x ∷ xs) (x ∷ with_spans xs g spans)) ≡ cond (nat_eq k x.0) (Some x.1) (lookup (nat_eq k) xs)) (nat_eq g x.0)
      (λ yes q.
      let other : nat_eq k x.0 ≡ false = grind (arith, nat_tests, apart, q) in
      ap (λ b. cond b (Some (record x.1 { spans = spans })) (lookup (nat_eq k) xs)) other ∙ sym (ap (λ b. cond b (Some x.1) (lookup (nat_eq k) xs)) other))
      (λ no q. ap (λ o. cond (nat_eq k x.0) (Some x.1) o) (spans_others k apart xs)) refl

  -- a grant that had none has none
  pub spans_unused : (k : ℕ) (xs : AreaList) → lookup (nat_eq k) xs ≡ None → lookup (nat_eq k) (with_spans xs g spans) ≡ None
  spans_unused k xs none = by_test (λ b. nat_eq k g ≡ b → lookup (nat_eq k) (with_spans xs g spans) ≡ None) (nat_eq k g)
      (λ yes q.
      let same : g ≡ k = grind (arith, nat_tests, q) in
      subst (λ (j : ℕ). lookup (nat_eq j) xs ≡ None → lookup (nat_eq j) (with_spans xs g spans) ≡ None) same (λ e. spans_found xs ∙ ap (λ (o : Option Area). option_map (λ (a : Area). record a { spans = spans }) o) e) none)
      (λ no q. spans_others k q xs ∙ none) refl

  -- each grant has an area spread over as many blocks or more, where this one has
  pub spans_spread : (b : Area) (xs : AreaList) → lookup (nat_eq g) xs ≡ Some b → length b.spans ≤ length spans → (k : ℕ) (a : Area) → lookup (nat_eq k) (with_spans xs g spans) ≡ Some a → IsSpread (lookup (nat_eq k) xs) a
  spans_spread b xs there more k a is = by_test (λ t. nat_eq k g ≡ t → IsSpread (lookup (nat_eq k) xs) a) (nat_eq k g)
      (λ yes q.
      let same : g ≡ k = grind (arith, nat_tests, q) in
      let had : lookup (nat_eq k) xs ≡ Some b = subst (λ (j : ℕ). lookup (nat_eq j) xs ≡ Some b) same there in
      let now : Some (record b { spans = spans }) ≡ Some a =
      sym (subst (λ (j : ℕ). lookup (nat_eq j) (with_spans xs g spans) ≡ Some (record b { spans = spans })) same (spans_found xs ∙ ap (λ (o : Option Area). option_map (λ (z : Area). record z { spans = spans }) o) there)) ∙ is in
      let it : record b { spans = spans } ≡ a = some_same (Some a) (record b { spans = spans }) a (sym now) refl in
      subst (λ (o : Option Area). IsSpread o a) (sym had) (subst (λ (z : Area). IsSpread (Some b) z) it (refl, more)))
      (λ no q. spread_same xs k a (sym (spans_others k q xs) ∙ is)) refl

  -- by the place of the first area of the grant

  pub spans_placed : (xs : AreaList) (i : ℕ) (d : ℕ × Area) → position (λ a. nat_eq a.0 g) xs ≡ Some i → set xs i (spanned (get_or xs i d)) ≡ with_spans xs g spans
  spans_placed xs i d is = let at = position-Some (λ (a : ℕ × Area). nat_eq a.0 g) xs i d is in spans_set xs i d at.0 at.1 at.2

  unfound : (xs : AreaList) → find (λ a. nat_eq a.0 g) xs ≡ None → with_spans xs g spans ≡ xs
  unfound [] none = refl
  unfound (x ∷ xs) none = by_test (λ b. nat_eq x.0 g ≡ b → cond b (Some x) (find (λ a. nat_eq a.0 g) xs) ≡ None → with_spans (x ∷ xs) g spans ≡ x ∷ xs) (nat_eq x.0 g)
      (λ yes q e. absurd (cc (e)))
      (λ no q e.
      let other : nat_eq g x.0 ≡ false = grind (arith, nat_tests, q) in
      ap (λ b. cond b (spanned x ∷ xs) (x ∷ with_spans xs g spans)) other ∙ ap (λ (zs : AreaList). x ∷ zs) (unfound xs e)) refl none

  pub spans_unplaced : (xs : AreaList) → position (λ a. nat_eq a.0 g) xs ≡ None → with_spans xs g spans ≡ xs
  spans_unplaced xs none = unfound xs (find_at (λ (a : ℕ × Area). nat_eq a.0 g) xs ∙ by_test
      (λ b. nat_lt (position_or_len (λ (a : ℕ × Area). nat_eq a.0 g) xs) (length xs) ≡ b → cond b (Some (position_or_len (λ (a : ℕ × Area). nat_eq a.0 g) xs)) None ≡ None → slice_get xs (position_or_len (λ (a : ℕ × Area). nat_eq a.0 g) xs) ≡ None)
      (nat_lt (position_or_len (λ (a : ℕ × Area). nat_eq a.0 g) xs) (length xs))
      (λ yes q e. absurd (cc (e))) (λ no q e. slice_get_past xs (position_or_len (λ (a : ℕ × Area). nat_eq a.0 g) xs) (grind (arith, nat_tests, q))) refl none)
