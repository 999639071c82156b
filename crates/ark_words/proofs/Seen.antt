-- What the kind of a word says of it, and how clap reads it.
use Rattle.std.proofs.Common.{◌≡◌, ◌∙◌, ◌⊎◌, ◌==◌, ℕ, Bool, true, false, cond, [], ◌∷◌, ◌++◌, Option, Some, None, take, drop, refl, sym, ap, subst, codes, bytes_eq, inl, inr, eqb-true, take-append-drop, true≢false, one-add}
use Rattle.std.specs.List.{before_first, position_or_len}
use Rattle.std.proofs.lemmas.Bool.{false≢true, both_ways}
use Rattle.std.proofs.lemmas.Slice.Eq.{bytes_eq-Decides}
use Rattle.clap.specs.Lexer.{long_of, short_of, name_and_value}
use Rattle.ark_words.specs.Sorted.{Text, Kind, ends, new, new_is, fault, plain, kind_of, is_dashed, begins_with_new_is}

abbrev pub ReadsPlain : Text → Type 0
ReadsPlain w = (bytes_eq w (45 ∷ 45 ∷ []) ≡ false) × (long_of w ≡ None) × (short_of w ≡ None)

-- `--name` or `--name=value` of another name than `new`
abbrev pub ReadsLong : Text → Type 0
ReadsLong w = (p : Text × Option Text) × (long_of w ≡ Some p) × (bytes_eq (codes "new") p.0 ≡ false)

-- flags of one letter
abbrev pub ReadsFlags : Text → Type 0
ReadsFlags w = (x : ℕ) × (xs : Text) × (long_of w ≡ None) × (short_of w ≡ Some (x ∷ xs)) × (w ≡ 45 ∷ x ∷ xs)

abbrev pub ReadsOther : Text → Type 0
ReadsOther w = (bytes_eq w (45 ∷ 45 ∷ []) ≡ false) × (ReadsLong w ⊎ ReadsFlags w)

abbrev pub Seen : Kind → Text → Type 0
Seen ends w = w ≡ codes "--"
Seen new w = w ≡ codes "--new"
Seen (new_is v) w = w ≡ codes "--new=" ++ v
Seen fault w = (is_dashed w ≡ true) × ReadsOther w
Seen plain w = (is_dashed w ≡ false) × ReadsPlain w

reads_plain : (w : Text) → is_dashed w ≡ false → ReadsPlain w
reads_plain [] e = (refl, refl, refl)
reads_plain (c ∷ []) e = go (c == 45) refl
  where
    go : (b : Bool) → (c == 45) ≡ b → ReadsPlain (c ∷ [])
    go true h = rw h (refl, refl, refl)
    go false h = rw h (refl, refl, refl)
reads_plain (c ∷ d ∷ rest) e = rw e (refl, refl, refl)

-- what follows the first part
cut_at : (t : Text) → (drop (position_or_len (λ x. x == 61) t) t ≡ []) ⊎ ((v : Text) × (drop (position_or_len (λ x. x == 61) t) t ≡ 61 ∷ v))
cut_at [] = inl refl
cut_at (x ∷ xs) = go (x == 61) refl (cut_at xs)
  where
    go : (b : Bool) → (x == 61) ≡ b → (drop (position_or_len (λ y. y == 61) xs) xs ≡ []) ⊎ ((v : Text) × (drop (position_or_len (λ y. y == 61) xs) xs ≡ 61 ∷ v))
        → (drop (position_or_len (λ y. y == 61) (x ∷ xs)) (x ∷ xs) ≡ []) ⊎ ((v : Text) × (drop (position_or_len (λ y. y == 61) (x ∷ xs)) (x ∷ xs) ≡ 61 ∷ v))
    go true h ih = rw h (inr (xs, ap (λ y. y ∷ xs) (eqb-true x 61 h)))
    go false h ih = rw (h, one-add) ih

-- a text whose first part is `new`
named_new : (t : Text) → before_first (λ x. x == 61) t ≡ codes "new" → (t ≡ codes "new") ⊎ ((v : Text) × (t ≡ codes "new=" ++ v))
named_new t e =
    let n = position_or_len (λ x. x == 61) t in
    let whole : codes "new" ++ drop n t ≡ t = ap (λ a. a ++ drop n t) (sym e) ∙ take-append-drop n t in
    elim (cut_at t) [
      | inl none ↦ inl (sym whole ∙ ap (λ b. codes "new" ++ b) none)
      | inr some ↦ inr (some.0, sym whole ∙ ap (λ b. codes "new" ++ b) some.1)
    ]

other_long : (x : ℕ) (xs : Text) → bytes_eq (codes "--new") (45 ∷ 45 ∷ x ∷ xs) ≡ false → begins_with_new_is (45 ∷ 45 ∷ x ∷ xs) ≡ false → ReadsLong (45 ∷ 45 ∷ x ∷ xs)
other_long x xs differs begins = (name_and_value (x ∷ xs), refl, go (bytes_eq (codes "new") (before_first (λ y. y == 61) (x ∷ xs))) refl)
  where
    go : (b : Bool) → bytes_eq (codes "new") (before_first (λ y. y == 61) (x ∷ xs)) ≡ b → b ≡ false
    go false e = refl
    go true e = elim (named_new (x ∷ xs) (sym ((bytes_eq-Decides _ _).0 e))) [
      | inl is ↦ absurd (both_ways _ differs (ap (λ t. bytes_eq (codes "--new") (45 ∷ 45 ∷ t)) is))
      | inr is ↦ absurd (both_ways _ begins (ap (λ t. begins_with_new_is (45 ∷ 45 ∷ t)) is.1))
    ]

abbrev Other : ℕ → ℕ → Text → Type 0
Other x y rest = bytes_eq (codes "--") (x ∷ y ∷ rest) ≡ false → bytes_eq (codes "--new") (x ∷ y ∷ rest) ≡ false → begins_with_new_is (x ∷ y ∷ rest) ≡ false → ReadsOther (x ∷ y ∷ rest)

other_dashed : (rest : Text) → Other 45 45 rest
other_dashed [] a b c = absurd (true≢false a)
other_dashed (x ∷ xs) a b c = (refl, inl (other_long x xs b c))

other_flags : (y : ℕ) (rest : Text) → (y == 45) ≡ false → ReadsOther (45 ∷ y ∷ rest)
other_flags y rest e = rw e (refl, inr (y, rest, refl, refl, refl))

other_second : (y : ℕ) (rest : Text) → Other 45 y rest
other_second y rest = go (y == 45) refl
  where
    go : (t : Bool) → (y == 45) ≡ t → Other 45 y rest
    go true e = subst (λ z. Other 45 z rest) (sym (eqb-true y 45 e)) (other_dashed rest)
    go false e = λ a b c. other_flags y rest e

other : (w : Text) → bytes_eq (codes "--") w ≡ false → bytes_eq (codes "--new") w ≡ false → begins_with_new_is w ≡ false → is_dashed w ≡ true → ReadsOther w
other [] a b c d = absurd (false≢true d)
other (x ∷ []) a b c d = absurd (false≢true d)
other (x ∷ y ∷ rest) a b c d = subst (λ z. Other z y rest) (sym (eqb-true x 45 d)) (other_second y rest) a b c

value_of : (w : Text) → begins_with_new_is w ≡ true → w ≡ codes "--new=" ++ drop 6 w
value_of w e =
    let front : take 6 w ≡ codes "--new=" = sym ((bytes_eq-Decides (codes "--new=") (take 6 w)).0 e) in
    sym (take-append-drop 6 w) ∙ ap (λ t. t ++ drop 6 w) front

pub seen : (w : Text) → Seen (kind_of w) w
seen w = go (bytes_eq (codes "--") w) refl (bytes_eq (codes "--new") w) refl (begins_with_new_is w) refl (is_dashed w) refl
  where
    go : (a : Bool) → bytes_eq (codes "--") w ≡ a → (b : Bool) → bytes_eq (codes "--new") w ≡ b → (c : Bool) → begins_with_new_is w ≡ c → (d : Bool) → is_dashed w ≡ d
        → Seen (cond a ends (cond b new (cond c (new_is (drop 6 w)) (cond d fault plain)))) w
    go true ea b eb c ec d ed = sym ((bytes_eq-Decides _ _).0 ea)
    go false ea true eb c ec d ed = sym ((bytes_eq-Decides _ _).0 eb)
    go false ea false eb true ec d ed = value_of w ec
    go false ea false eb false ec true ed = (ed, other w ea eb ec ed)
    go false ea false eb false ec false ed = (ed, reads_plain w ed)
