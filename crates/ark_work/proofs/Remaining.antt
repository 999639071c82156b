-- What is left of the script, one line at a time.
use Rattle.std.proofs.Common.{◌≡◌, ℕ, zero, suc, ◌+◌, ◌-◌, List, [], ◌∷◌, ◌++◌, drop, refl, sym, ap, ◌∙◌}
use Rattle.std.specs.Prelude.{Some, None}
use Rattle.std.specs.List.{slice_get}
use Rattle.std.proofs.lemmas.List.{drop_more}
use Rattle.std.proofs.lemmas.Option.{none-some, slice_get_within, get_or_from_slice_get}
use native.Mathlib.Numerals.{unary_clauses}
use Rattle.ark_work.specs.Generated.{next, drawn, line_of, lines_from}

-- the line at this place comes next
pub at_place : (lines rest : List (List ℕ)) (n : ℕ) (line : List ℕ) → slice_get lines n ≡ Some line → drop n lines ++ rest ≡ line ∷ (drop (n + 1) lines ++ rest)
at_place lines rest n line is =
    ap (λ t. t ++ rest) (drop_more lines n [] (slice_get_within lines n line is))
    ∙ ap (λ t. t ∷ (drop (n + 1) lines ++ rest)) (get_or_from_slice_get lines n line [] is)

-- a place with no line is behind them all
pub behind : (lines rest : List (List ℕ)) (n : ℕ) → slice_get lines n ≡ None → drop n lines ++ rest ≡ rest
behind [] rest zero is = refl
behind [] rest (suc n) is = refl
behind (line ∷ lines) rest zero is = absurd (none-some line (sym is))
behind (line ∷ lines) rest (suc n) is = behind lines rest n is

-- the first of the lines that are drawn
pub first_drawn : (x n : ℕ) → (n ≡ 0 → ⊥)
    → lines_from x n ≡ line_of (drawn (next x)) (drawn (next (next x))) (drawn (next (next (next x)))) ∷ lines_from (next (next (next x))) (n - 1)
first_drawn x zero some = absurd (some refl)
first_drawn x (suc n) some = simp unary_clauses refl
