-- The blocks of a ring outside a list, and those of them that are not zero.
use Rattle.std.proofs.Common.{◌≡◌, ◌⊎◌, inl, inr, ℕ, zero, suc, ◌+◌, ◌-◌, ◌%◌, ◌<◌, ◌≤◌, List, [], ◌∷◌, ◌++◌, true, false, length, get_or, refl, sym, ◌∙◌, ap, subst, arith, if◌then◌else◌}
use Rattle.std.specs.Prelude.{All, Contains, not, ◌==◌}
use Rattle.std.proofs.lemmas.Bool.{cases_lt, eqb-true}
use Rattle.std.proofs.lemmas.List.{ext_get_or, get_or-replicate}
use Rattle.std.proofs.lemmas.List.Elements.{All-nil, All-push, All-same, All-filter, All-get_or, Contains-append_left, Contains-push, filter-append}
use Rattle.std.proofs.lemmas.List.Sums.{AllPass-from_list_all}
use Rattle.ark_media.specs.Journal.{block, zero_block}
use Rattle.ark_entry.specs.Header.{is_zero}
use Rattle.ark_chain.specs.Repair.{outside, not_zero}
use Rattle.ark_chain.proofs.Clearing.{inside_more, outside_more}

-- bytes that are all zero
pub zeros_are : (content : List ℕ) → length content ≡ 512 → is_zero content ≡ true → content ≡ zero_block
zeros_are content long are =
    let size : length zero_block ≡ 512 = refl in
    ext_get_or 0 content zero_block (long ∙ sym size)
    (λ k lt. eqb-true (get_or content k 0) 0 (All-get_or (λ x. (x == 0) ≡ true) content k 0 lt (AllPass-from_list_all _ content are)) ∙ sym (get_or-replicate 512 k 0 0 (omega (arith, lt, long))))

module _ (room start used : ℕ) where
  -- a block of the ring outside the list
  abbrev pub IsOutside : ℕ → Type 0
  IsOutside p = (q : ℕ) × (p ≡ suc q) × (q < room) × (used ≤ (q + room - start) % room)

  pub all_outside : (n : ℕ) → n ≤ room → All IsOutside (outside room start used n)
  all_outside zero le = All-nil IsOutside
  all_outside (suc q) le = elim (cases_lt ((q + room - start) % room) used) [
    | inl lt ↦ All-same IsOutside _ _ (inside_more room start used q (suc q) refl lt) (all_outside q (omega (arith, le)))
    | inr ge ↦ All-same IsOutside _ _ (outside_more room start used q (suc q) refl ge) (All-push IsOutside _ (suc q) (all_outside q (omega (arith, le))) (q, refl, omega (arith, le), ge))
  ]

  module _ (image : List (List ℕ)) where
    pub noted_outside : All IsOutside (not_zero image (outside room start used room))
    noted_outside = All-filter _ IsOutside (outside room start used room) (all_outside room (omega arith))

    -- each that is not zero is noted
    pub noted_all : (n q : ℕ) → q < n → used ≤ (q + room - start) % room → is_zero (block image (suc q)) ≡ false → Contains (not_zero image (outside room start used n)) (suc q)
    noted_all zero q lt past some = absurd (omega (arith, lt))
    noted_all (suc n) q lt past some = elim (cases_lt q n) [
      | inl less ↦ earlier (noted_all n q less past some) (cases_lt ((n + room - start) % room) used)
      | inr more ↦
          let is : q ≡ n = omega (arith, lt, more) in
          let all = outside_more room start used n (suc n) refl (subst (λ m. used ≤ (m + room - start) % room) is past) in
          let one : not_zero image (suc n ∷ []) ≡ suc n ∷ [] = ap (λ b. if not b then suc n ∷ [] else []) (subst (λ m. is_zero (block image (suc m)) ≡ false) is some) in
          subst (λ m. Contains (not_zero image (outside room start used (suc n))) (suc m)) (sym is)
          (subst (λ l. Contains l (suc n)) (sym (ap (not_zero image) all ∙ filter-append _ (outside room start used n) (suc n ∷ []) ∙ ap (λ l. not_zero image (outside room start used n) ++ l) one))
          (Contains-push (not_zero image (outside room start used n)) (suc n)))
    ]
      where
        earlier : Contains (not_zero image (outside room start used n)) (suc q) → ((n + room - start) % room < used) ⊎ (used ≤ (n + room - start) % room) → Contains (not_zero image (outside room start used (suc n))) (suc q)
        earlier has (inl inside) = subst (λ l. Contains (not_zero image l) (suc q)) (sym (inside_more room start used n (suc n) refl inside)) has
        earlier has (inr past) = subst (λ l. Contains l (suc q)) (sym (ap (not_zero image) (outside_more room start used n (suc n) refl past) ∙ filter-append _ (outside room start used n) (suc n ∷ [])))
            (Contains-append_left (not_zero image (outside room start used n)) (not_zero image (suc n ∷ [])) (suc q) has)
