-- Numbers in decimal.
use Rattle.std.proofs.Common.{◌≡◌, ℕ, ◌<◌, ◌^◌, Bool, true, ◌&&◌, nat_le, List, bytes_eq, decimal, Some, None, refl, sym, ap, ◌∙◌, inl, inr, arith}
use Rattle.std.specs.Str.Parse.{digits_value}
use Rattle.std.proofs.lemmas.Bool.{cases_Bool, and_parts, and_from, leb-true, le-leb}
use Rattle.std.proofs.lemmas.Fmt.{decimal_is_IsNumeral}
use Rattle.std.proofs.lemmas.Option.{cond_some}
use Rattle.std.proofs.lemmas.Slice.Eq.{bytes_eq-Decides}
use Rattle.ark_script.specs.Arguments.{IsNumber}
use Rattle.ark_forms.specs.Reading.{number_of}

pub bytes_same : (xs : List ℕ) → bytes_eq xs xs ≡ true
bytes_same xs = (bytes_eq-Decides xs xs).1 refl

value_of_decimal : (n : ℕ) → n < 2 ^ 64 → digits_value 10 (decimal n) ≡ n
value_of_decimal n h = (decimal_is_IsNumeral n h).1

-- what reading as a number tests
abbrev is_read : ℕ → ℕ → List ℕ → Bool
is_read low high word = bytes_eq (decimal (digits_value 10 word)) word && (nat_le low (digits_value 10 word) && nat_le (digits_value 10 word) high)

pub number_read : (low high : ℕ) (word : List ℕ) (n : ℕ) → number_of low high word ≡ Some n → IsNumber low high n word
unfolding number_of
number_read low high word n h =
    let found = cond_some _ _ _ h in
    let parts = and_parts (bytes_eq (decimal (digits_value 10 word)) word) _ found.0 in
    let bounds = and_parts (nat_le low (digits_value 10 word)) _ parts.1 in
    let word_is = (bytes_eq-Decides _ word).0 parts.0 in
    rw (← found.1) (sym word_is, leb-true _ _ bounds.0, leb-true _ _ bounds.1)

pub number_gives : (low high : ℕ) (word : List ℕ) (n : ℕ) → high < 2 ^ 64 → IsNumber low high n word → number_of low high word ≡ Some n
unfolding number_of
number_gives low high word n small h =
    let value : digits_value 10 word ≡ n = ap (digits_value 10) h.0 ∙ value_of_decimal n (omega arith) in
    let same : bytes_eq (decimal n) word ≡ true = (bytes_eq-Decides _ word).1 (sym h.0) in
    let bounds = and_from (nat_le low n) (nat_le n high) (le-leb _ _ h.1) (le-leb _ _ h.2) in
    rw (value, and_from (bytes_eq (decimal n) word) (nat_le low n && nat_le n high) same bounds) refl

pub number_none : (low high : ℕ) (word : List ℕ) → ((n : ℕ) → IsNumber low high n word → ⊥) → number_of low high word ≡ None
unfolding number_of
number_none low high word none =
    elim (cases_Bool (is_read low high word)) [
      | inl read ↦ absurd (none _ (number_read low high word (digits_value 10 word) (rw read refl)))
      | inr other ↦ rw other refl
    ]
