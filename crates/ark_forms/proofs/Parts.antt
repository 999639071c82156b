-- Parts of bytes between separators.
use Rattle.std.proofs.Common.{◌≡◌, ℕ, ◌+◌, ◌<◌, nat_eq, ltb, cond, Bool, true, false, List, [], ◌∷◌, length, get_or, take, drop, Some, None, refl, ap, inl, inr, ◌≤◌, arith}
use Rattle.std.specs.List.{position, position_or_len, onto_first}
use Rattle.std.specs.Prelude.{Option}
use Rattle.std.proofs.lemmas.Bool.{cases_Bool, eq-eqb, eqb-true, le-ltb, lt-ltb, ltb-true, ltb-false, ne_eqb}
use Rattle.std.proofs.lemmas.List.Sums.{position_or_len_is}
use Rattle.memchr.specs.Find.{IsFirstByte, is_byte}
use Rattle.std.proofs.lemmas.List.Splits.{slice_split_first}
use Rattle.std.proofs.lemmas.Option.{cond_some}
use Rattle.ark_script.specs.Words.{parts_of}
use Rattle.ark_forms.specs.Reading.{one_of}

onto_first_some : (x : ℕ) (parts : List (List ℕ)) → (p : List ℕ) × (ps : List (List ℕ)) × (onto_first x parts ≡ p ∷ ps)
onto_first_some x [] = (_, _, refl)
onto_first_some x (part ∷ parts) = (_, _, refl)

-- there is a first part
pub parts_some : (separator : ℕ) (bytes : List ℕ) → (p : List ℕ) × (ps : List (List ℕ)) × (parts_of separator bytes ≡ p ∷ ps)
parts_some separator [] = (_, _, refl)
parts_some separator (b ∷ bs) =
    elim (cases_Bool (nat_eq b separator)) [
      | inl same ↦ rw same (_, _, refl)
      | inr other ↦ rw other (onto_first_some b (parts_of separator bs))
    ]

-- a part with others behind it is not the only one
pub one_of_more : (a : List ℕ) (separator : ℕ) (bytes : List ℕ) → one_of (a ∷ parts_of separator bytes) ≡ None
unfolding one_of
one_of_more a separator bytes = let some = parts_some separator bytes in rw some.2 refl

whole : (separator : ℕ) (bytes : List ℕ) → length bytes ≤ position_or_len (λ b. nat_eq b separator) bytes → parts_of separator bytes ≡ bytes ∷ []
whole separator [] h = refl
whole separator (b ∷ bs) h =
    elim (cases_Bool (nat_eq b separator)) [
      | inl same ↦ absurd (let le = rw same at h in omega arith)
      | inr other ↦ rw other (ap (onto_first b) (whole separator bs (let le = rw other at h in omega arith)))
    ]

cond_none : {A : Type 0} (b : Bool) (x : A) → cond b (Some x) None ≡ None → b ≡ false
cond_none true x h = cc
cond_none false x h = refl

-- without a separator all is one part
pub parts_whole : (separator : ℕ) (bytes : List ℕ) → position (λ b. nat_eq b separator) bytes ≡ None → parts_of separator bytes ≡ bytes ∷ []
parts_whole separator bytes h = whole separator bytes (ltb-false _ _ (cond_none _ _ h))

-- the part before the first separator, and those behind it
pub parts_first : (separator : ℕ) (bytes : List ℕ) (at : ℕ) → position (λ b. nat_eq b separator) bytes ≡ Some at
    → parts_of separator bytes ≡ take at bytes ∷ parts_of separator (drop (at + 1) bytes)
parts_first separator bytes at h =
    let found = cond_some _ _ _ h in
    let parts = slice_split_first (λ b. nat_eq b separator) bytes 0 (ltb-true _ _ found.0) in
    rw (← found.1) parts

-- the first place of a byte, where it stands
pub found_position : (byte : ℕ) (bytes : List ℕ) (k : ℕ) → k < length bytes → ((j : ℕ) → j < k → get_or bytes j 0 ≡ byte → ⊥) → get_or bytes k 0 ≡ byte
    → Some k ≡ position (λ b. nat_eq b byte) bytes
found_position byte bytes k inside before here =
    let at : position_or_len (λ b. nat_eq b byte) bytes ≡ k =
    position_or_len_is (λ b. nat_eq b byte) bytes k 0 (omega arith) (λ j below. ne_eqb _ _ (before j below)) (λ in_it. eq-eqb _ _ here) in
    rw (at, lt-ltb _ _ inside) refl

-- and where it stands nowhere
pub no_position : (byte : ℕ) (bytes : List ℕ) → ((j : ℕ) → j < length bytes → get_or bytes j 0 ≡ byte → ⊥) → None ≡ position (λ b. nat_eq b byte) bytes
no_position byte bytes nowhere =
    let at : position_or_len (λ b. nat_eq b byte) bytes ≡ length bytes =
    position_or_len_is (λ b. nat_eq b byte) bytes (length bytes) 0 (omega arith) (λ j below. ne_eqb _ _ (nowhere j below)) (λ in_it. absurd (omega arith)) in
    let outside : ltb (length bytes) (length bytes) ≡ false = le-ltb _ _ (omega arith) in
    rw (at, outside) refl

-- as a search finds it
pub first_position : (byte : ℕ) (bytes : List ℕ) (r : Option ℕ) → IsFirstByte (is_byte byte) bytes r → r ≡ position (λ b. nat_eq b byte) bytes
first_position byte bytes None h = no_position byte bytes (λ j below e. h j (omega arith) below (eq-eqb _ _ e))
first_position byte bytes (Some k) h = found_position byte bytes k h.0.high (λ j below e. h.0.before j (omega arith) below (eq-eqb _ _ e)) (eqb-true _ _ h.1)
