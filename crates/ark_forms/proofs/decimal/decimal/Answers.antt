use Rattle.std.proofs.Common.{◌≡◌, ℕ, ◌+◌, ◌*◌, ◌<◌, ◌≤◌, ◌^◌, List, [], ◌∷◌, length, get_or, slice_index, take, arith, sym, ap, ◌∙◌, inl, inr, subst, decimal}
use Rattle.std.specs.Char.{digit_value}
use Rattle.std.specs.Int.{IsInRange}
use Rattle.std.specs.Str.Parse.{AllDigits, digits_value}
use Rattle.std.proofs.lemmas.Bool.{false≢true, cases_eq}
use Rattle.std.proofs.lemmas.Fmt.{decimal_is_IsNumeral, decimal-digits_value, first_decimal, decimal_digit}
use Rattle.std.proofs.lemmas.Int.Digits.{digits_push, digits_value_more}
use Rattle.std.proofs.lemmas.List.{take_all, take_more}
use Rattle.std.proofs.lemmas.Str.{digit_value_digit}
use Rattle.std.proofs.lemmas.Str.Parse.{IsNumeralModel, numerals_by_value, tells_digits, digit_at, digits_value-take-le}
use Rattle.ark_forms.proofs.decimal.decimal.Goals as goal

own : IsNumeralModel (AllDigits 10) (digits_value 10)
own = numerals_by_value (AllDigits 10) tells_digits

abbrev Begins : List ℕ → Type 0
Begins text = IsInRange 48 57 (slice_index text 0) × (slice_index text 0 ≡ 48 → length text ≡ 1)

-- the decimal text of a number begins with a digit, and with 0 only where it is 0
begins_decimal : (n : ℕ) → n < 2 ^ 64 → Begins (decimal n)
begins_decimal n small =
    let numeral = (decimal_is_IsNumeral n small).0 in
    let digit : IsInRange 48 57 (get_or (decimal n) 0 0) = digit_at (decimal n) 0 numeral.1 numeral.0 in (
      digit,
      λ zero_first. elim (cases_eq n 0) [
        | inl none ↦ rw none (ap length (decimal_digit 0 (omega arith)))
        | inr some ↦ let low : 48 < get_or (decimal n) 0 0 = first_decimal n (omega arith) small in absurd (omega arith)
      ],
    )

begins : (text : List ℕ) (n : ℕ) → n < 2 ^ 64 → text ≡ decimal n → Begins text
begins text n small is = rw is (begins_decimal n small)

some_digit : (text : List ℕ) → Begins text → 0 < length text
some_digit [] b = absurd (omega (arith, b.0.0))
some_digit (x ∷ xs) b = omega arith

-- one digit more does not fit where 64 bits do not hold it, or it is none
no_number : (text : List ℕ) (i n : ℕ) → i < length text → n < 2 ^ 64 → text ≡ decimal n
    → (digit_value (get_or text i 0) < 10 → 2 ^ 64 ≤ digits_value 10 (take i text) * 10 + digit_value (get_or text i 0)) → ⊥
no_number text i n inside small is large =
    let numeral = decimal_is_IsNumeral n small in
    let digits : AllDigits 10 text = subst (AllDigits 10) (sym is) numeral.0.1 in
    let value : digits_value 10 text ≡ n = ap (digits_value 10) is ∙ numeral.1 in
    let at : IsInRange 48 57 (get_or text i 0) = digit_at text i digits inside in
    let digit : digit_value (get_or text i 0) + 48 ≡ get_or text i 0 = digit_value_digit (get_or text i 0) at in
    let more = digits_value_more 10 text i inside in
    let within = digits_value-take-le 10 text (i + 1) (omega arith) in
    omega (arith, large (omega (arith, at.1, digit)), more, within, value, small)

pub returns-then-not-begins_number-clause-none : goal.returns-then-not-begins_number-clause-none
returns-then-not-begins_number-clause-none c n small is = false≢true (c.if-not-begins_number.ensures.1 (begins c.args.word.now n small is))

pub returns-in_err-n-clause-none : goal.returns-in_err-n-clause-none
returns-in_err-n-clause-none c =
    rw c.from_residual.ensures
    (λ n small is. no_number c.args.word.now c.loop-b.b-index n c.loop-b-test.true small is (rw (← c.loop-b.invariant.1) c.in_err-n.ensures.none))

pub loop-b-preserved : goal.loop-b-preserved
loop-b-preserved c =
    let made = c.in_ok-n.ensures.value in
    let i = c.loop-b.b-index in
    let word = c.args.word.now in
    let inside = c.loop-b-test.true in (
      subst (AllDigits 10) (sym (take_more word i 0 inside)) (digits_push 10 (take i word) (get_or word i 0) c.loop-b.invariant.0 made.0),
      omega (arith, digits_value_more 10 word i inside, made.1, c.loop-b.invariant.1),
      made.2,
    )

pub returns : goal.returns
returns c =
    let whole = take_all c.loop-b.b-index c.args.word.now (omega (arith, c.loop-b-test.false)) in
    let digits : AllDigits 10 c.args.word.now = subst (AllDigits 10) whole c.loop-b.invariant.0 in
    let value : c.loop-b.n ≡ digits_value 10 c.args.word.now = c.loop-b.invariant.1 ∙ ap (digits_value 10) whole in
    let b : Begins c.args.word.now = c.begins_number.ensures.0 c.if-not-begins_number.false in
    record {
      value = sym (ap decimal value ∙ decimal-digits_value own c.args.word.now digits (some_digit c.args.word.now b) b.1 (omega (arith, value, c.loop-b.invariant.2)));
      none = tt;
    }
