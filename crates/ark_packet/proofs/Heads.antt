-- A list of known length, element by element.
use Rattle.std.proofs.Common.{◌≡◌, ℕ, List, [], ◌∷◌, ◌++◌, length, get_or, arith, refl, ap, ◌∙◌}

pub four_before : (xs ys : List ℕ) → length xs ≡ 4 → get_or xs 0 0 ∷ (get_or xs 1 0 ∷ (get_or xs 2 0 ∷ (get_or xs 3 0 ∷ ys))) ≡ xs ++ ys
four_before [] ys h = absurd (omega arith)
four_before (a ∷ []) ys h = absurd (omega arith)
four_before (a ∷ (b ∷ [])) ys h = absurd (omega arith)
four_before (a ∷ (b ∷ (c ∷ []))) ys h = absurd (omega arith)
four_before (a ∷ (b ∷ (c ∷ (d ∷ [])))) ys h = refl
four_before (a ∷ (b ∷ (c ∷ (d ∷ (e ∷ xs))))) ys h = absurd (omega arith)

pub six_before : (xs ys : List ℕ) → length xs ≡ 6
    → get_or xs 0 0 ∷ (get_or xs 1 0 ∷ (get_or xs 2 0 ∷ (get_or xs 3 0 ∷ (get_or xs 4 0 ∷ (get_or xs 5 0 ∷ ys))))) ≡ xs ++ ys
six_before [] ys h = absurd (omega arith)
six_before (a ∷ []) ys h = absurd (omega arith)
six_before (a ∷ (b ∷ [])) ys h = absurd (omega arith)
six_before (a ∷ (b ∷ (c ∷ []))) ys h = absurd (omega arith)
six_before (a ∷ (b ∷ (c ∷ (d ∷ [])))) ys h = absurd (omega arith)
six_before (a ∷ (b ∷ (c ∷ (d ∷ (e ∷ []))))) ys h = absurd (omega arith)
six_before (a ∷ (b ∷ (c ∷ (d ∷ (e ∷ (f ∷ [])))))) ys h = refl
six_before (a ∷ (b ∷ (c ∷ (d ∷ (e ∷ (f ∷ (g ∷ xs))))))) ys h = absurd (omega arith)

-- two lists of six one after another
pub twelve_before : (xs ys zs : List ℕ) → length xs ≡ 6 → length ys ≡ 6
    → get_or xs 0 0 ∷ (get_or xs 1 0 ∷ (get_or xs 2 0 ∷ (get_or xs 3 0 ∷ (get_or xs 4 0 ∷ (get_or xs 5 0
    ∷ (get_or ys 0 0 ∷ (get_or ys 1 0 ∷ (get_or ys 2 0 ∷ (get_or ys 3 0 ∷ (get_or ys 4 0 ∷ (get_or ys 5 0 ∷ zs))))))))))) ≡ xs ++ (ys ++ zs)
twelve_before xs ys zs hx hy =
    ap (λ t. get_or xs 0 0 ∷ (get_or xs 1 0 ∷ (get_or xs 2 0 ∷ (get_or xs 3 0 ∷ (get_or xs 4 0 ∷ (get_or xs 5 0 ∷ t)))))) (six_before ys zs hy)
    ∙ six_before xs (ys ++ zs) hx

pub four_elim : (P : List ℕ → Type 0) → ((a b c d : ℕ) → P (a ∷ (b ∷ (c ∷ (d ∷ []))))) → (xs : List ℕ) → length xs ≡ 4 → P xs
four_elim P each [] h = absurd (omega arith)
four_elim P each (a ∷ []) h = absurd (omega arith)
four_elim P each (a ∷ (b ∷ [])) h = absurd (omega arith)
four_elim P each (a ∷ (b ∷ (c ∷ []))) h = absurd (omega arith)
four_elim P each (a ∷ (b ∷ (c ∷ (d ∷ [])))) h = each a b c d
four_elim P each (a ∷ (b ∷ (c ∷ (d ∷ (e ∷ xs))))) h = absurd (omega arith)
