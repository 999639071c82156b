-- What is kept of a line.
use Rattle.std.proofs.Common.{◌≡◌, ℕ, suc, ◌+◌, ◌-◌, ◌<◌, ◌≤◌, List, [], ◌∷◌, ◌++◌, take, drop, length, Vec, inl, inr, refl, sym, ◌∙◌, ap, arith, length-append}
use Rattle.std.specs.Prelude.{◌⊎◌, min}
use Rattle.std.specs.Vec.{with_items}
use Rattle.std.proofs.lemmas.Bool.{cases_lt}
use Rattle.std.proofs.lemmas.List.{take_all, take-take, length-take, length-drop, take-append-le, with_items_is}
use Rattle.std.proofs.Math.Seq.{take-append-add}
use Rattle.ark_cli.specs.Line.{kept, limit, within_limit}

joined_by : (now bytes : List ℕ) (n : ℕ) → length now ≤ 66001 → n ≡ min (length bytes) (66001 - length now) → (length bytes < 66001 - length now) ⊎ (66001 - length now ≤ length bytes) → now ++ take n bytes ≡ take 66001 (now ++ bytes)
joined_by now bytes n room is (inl short) =
    let all : length bytes ≤ n = omega arith in
    let fits : length (now ++ bytes) ≤ 66001 = omega (arith, length-append now bytes) in
    ap (λ t. now ++ t) (take_all n bytes all) ∙ sym (take_all 66001 (now ++ bytes) fits)
joined_by now bytes n room is (inr long) =
    let whole : length now + n ≡ 66001 = omega arith in
    sym (take-append-add now bytes n) ∙ ap (λ k. take k (now ++ bytes)) whole

-- bytes more, as far as there is room for them
pub kept_joined : (now bytes : List ℕ) (n : ℕ) → length now ≤ 66001 → n ≡ min (length bytes) (66001 - length now) → now ++ take n bytes ≡ kept (now ++ bytes)
unfolding kept
kept_joined now bytes n room is = joined_by now bytes n room is (cases_lt (length bytes) (66001 - length now))

-- the same, where they are written behind those that are kept
pub kept_extended : (items now bytes rest : List ℕ) (len n : ℕ) → length items ≡ 66001 → len ≤ 66001 → take len items ≡ now → n ≡ min (length bytes) (66001 - len) → take (len + n) (take len items ++ (take n bytes ++ rest)) ≡ kept (now ++ bytes)
kept_extended items now bytes rest len n full fits e is =
    let front : length (take len items) ≡ len = length-take len items ∙ omega arith in
    let size : length now ≡ len = ap length (sym e) ∙ front in
    let count : length (take n bytes) ≡ n = length-take n bytes ∙ omega arith in
    let some : take n (take n bytes ++ rest) ≡ take n bytes = take-append-le n (take n bytes) rest (omega arith) ∙ take_all n (take n bytes) (omega arith) in
    ap (λ k. take (k + n) (take len items ++ (take n bytes ++ rest))) (sym front)
    ∙ take-append-add (take len items) (take n bytes ++ rest) n
    ∙ ap (λ t. take len items ++ t) some ∙ ap (λ t. t ++ take n bytes) e
    ∙ kept_joined now bytes n (omega arith) (omega arith)

pub kept_written : {Z : Type 0} (v : Vec ℕ Z) (now bytes written : List ℕ) (len n : ℕ) → length v.items ≡ 66001 → len ≤ 66001 → take len v.items ≡ now → n ≡ min (length bytes) (66001 - len)
    → written ≡ take len v.items ++ (take n bytes ++ drop (len + n) v.items) → take (len + n) (with_items v written).items ≡ kept (now ++ bytes)
kept_written v now bytes written len n full fits e is w =
    let size : length written ≡ v.len = ap length w ∙ length-append (take len v.items) (take n bytes ++ drop (len + n) v.items) ∙ omega (arith, length-append (take n bytes) (drop (len + n) v.items), length-take len v.items, length-take n bytes, length-drop (len + n) v.items, v.ok.0) in
    ap (take (len + n)) (with_items_is v written size ∙ w) ∙ kept_extended v.items now bytes (drop (len + n) v.items) len n full fits e is

-- what is kept of a line that lies whole
pub kept_front : (line : List ℕ) → take (min (length line) 66001) line ≡ kept line
unfolding kept
kept_front line = by (cases_lt (length line) 66001)
  where
    by : (length line < 66001) ⊎ (66001 ≤ length line) → take (min (length line) 66001) line ≡ take 66001 line
    by (inl short) = take_all (min (length line) 66001) line (omega arith) ∙ sym (take_all 66001 line (omega arith))
    by (inr long) = let most : min (length line) 66001 ≡ 66001 = omega arith in ap (λ n. take n line) most

kept_by : (n : ℕ) (line more : List ℕ) → (length line < n) ⊎ (n ≤ length line) → take n (take n line ++ more) ≡ take n (line ++ more)
kept_by n line more (inr h) =
    let front : length (take n line) ≡ n = length-take n line ∙ omega arith in
    take-append-le n (take n line) more (omega (arith, front)) ∙ take-take n n line (omega arith) ∙ sym (take-append-le n line more h)
kept_by n line more (inl h) = ap (λ t. take n (t ++ more)) (take_all n line (omega arith))

-- what is kept of what was kept and bytes more: by the length of the line
kept_more_any : (n : ℕ) (line more : List ℕ) → take n (take n line ++ more) ≡ take n (line ++ more)
kept_more_any n line more = kept_by n line more (cases_lt (length line) n)

pub kept_more : (line more : List ℕ) → kept (kept line ++ more) ≡ kept (line ++ more)
unfolding kept
kept_more line more = kept_more_any 66001 line more

pub kept_none : kept [] ≡ []
unfolding kept
kept_none = refl

-- what is kept of a line that is not too long is the line
pub kept_same : (line : List ℕ) → length (kept line) ≤ 66000 → kept line ≡ line
unfolding kept
kept_same line h = take_all 66001 line (omega (arith, length-take 66001 line))

pub kept_long : (line : List ℕ) → 66000 < length (kept line) → 66000 < length line
unfolding kept
kept_long line h = omega (arith, length-take 66001 line)

-- nothing is kept of nothing alone
empty_take : (n : ℕ) (line : List ℕ) → take (suc n) line ≡ [] → line ≡ []
empty_take n [] h = refl
empty_take n (b ∷ bs) h = cc

pub kept_empty : (line : List ℕ) → kept line ≡ [] → line ≡ []
unfolding kept
kept_empty line h = empty_take 66000 line h

take_whole : (n : ℕ) (front rest : List ℕ) → length front ≡ n → take n (front ++ rest) ≡ front
take_whole n front rest h = take-append-le n front rest (omega (arith, h)) ∙ take_all n front (omega (arith, h))

-- a script as long as the limit, and bytes behind it
pub within_limit-more : (script rest : List ℕ) → length script ≡ limit → within_limit (script ++ rest) ≡ script
unfolding within_limit
within_limit-more script rest h = take_whole limit script rest h
