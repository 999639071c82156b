-- A list changed from its front on.
use Rattle.std.proofs.Common.{◌≡◌, ℕ, ◌+◌, ◌<◌, zero, suc, List, [], ◌∷◌, ◌++◌, length, map, take, drop, get_or, set, arith, refl, sym, ap, ◌∙◌, add-one}

unchanged : {X : Type 0} (f : X → X) (xs : List X) (i : ℕ) (d : X) → i < length xs → get_or (map f (take i xs) ++ drop i xs) i d ≡ get_or xs i d
unchanged f [] i d h = absurd (omega arith)
unchanged f (x ∷ xs) zero d h = refl
unchanged f (x ∷ xs) (suc i) d h = unchanged f xs i d (omega arith)

changed : {X : Type 0} (f : X → X) (xs : List X) (i : ℕ) (d : X) → i < length xs
    → set (map f (take i xs) ++ drop i xs) i (f (get_or xs i d)) ≡ map f (take (suc i) xs) ++ drop (suc i) xs
changed f [] i d h = absurd (omega arith)
changed f (x ∷ xs) zero d h = refl
changed f (x ∷ xs) (suc i) d h = ap (λ t. f x ∷ t) (changed f xs i d (omega arith))

pub mapped_more : {X : Type 0} (f : X → X) (xs ys : List X) (i : ℕ) (d y : X) → i < length xs → ys ≡ map f (take i xs) ++ drop i xs → y ≡ f (get_or ys i d)
    → set ys i y ≡ map f (take (i + 1) xs) ++ drop (i + 1) xs
mapped_more f xs ys i d y h e ey =
    let old : get_or ys i d ≡ get_or xs i d = ap (λ t. get_or t i d) e ∙ unchanged f xs i d h in
    ap (λ t. set t i y) e ∙ ap (set (map f (take i xs) ++ drop i xs) i) (ey ∙ ap f old) ∙ changed f xs i d h
    ∙ ap (λ n. map f (take n xs) ++ drop n xs) (sym (add-one i))
