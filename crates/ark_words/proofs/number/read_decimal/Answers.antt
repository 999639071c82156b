use Rattle.std.proofs.Common.{◌≡◌, ◌∙◌, ℕ, ◌<◌, ◌≤◌, ◌^◌, zero, suc, List, length, get_or, slice_index, arith, refl, sym, subst, rules, codes, decimal}
use Rattle.std.specs.Prelude.{Option, IfSome, IfNone, Result, Ok, Err}
use Rattle.std.specs.Int.{IsInRange}
use Rattle.std.specs.Result.{result_ok}
use Rattle.std.specs.Str.Parse.{AllDigits, digits_value, ParsesUnsigned}
use Rattle.std.proofs.lemmas.Bool.{false≢true}
use Rattle.std.proofs.lemmas.Fmt.{decimal_digit, decimal_is_IsNumeral, decimal-digits_value, first_decimal}
use Rattle.std.proofs.lemmas.Str.Parse.{IsNumeralModel, numerals_by_value, tells_digits, parse_plain, digit_at}
use Rattle.ark_words.proofs.number.read_decimal.Goals as goal

own : IsNumeralModel (AllDigits 10) (digits_value 10)
own = numerals_by_value (AllDigits 10) tells_digits

zero_is : decimal 0 ≡ codes "0"
zero_is = decimal_digit 0 (omega arith)

-- the decimal text of a number begins with a digit other than 0
first_digit : (text : List ℕ) (n : ℕ) → 0 < n → n < 2 ^ 64 → text ≡ decimal n → (49 ≤ get_or text 0 0) × (get_or text 0 0 ≤ 57)
first_digit text n some small is =
    let numeral = (decimal_is_IsNumeral n small).0 in
    let digit : IsInRange 48 57 (get_or (decimal n) 0 0) = digit_at (decimal n) 0 numeral.1 numeral.0 in
    let low : 48 < get_or (decimal n) 0 0 = first_decimal n some small in
    rw is (omega arith, omega arith)

-- a number whose text is not `0` is above 0
above : (text : List ℕ) (n : ℕ) → (text ≡ codes "0" → ⊥) → text ≡ decimal n → 0 < n
above text zero other is = absurd (other (is ∙ zero_is))
above text (suc n) other is = omega arith

-- what a text gives that begins with a digit other than 0
number_read : {E : Type 0} (text : List ℕ) (r : Result ℕ E) (o : Option ℕ) → ParsesUnsigned 64 10 text r → o ≡ result_ok r → 49 ≤ get_or text 0 0
    → IfSome o (λ n. text ≡ decimal n)
number_read {E} text (Ok n) o parsed e low =
    let plain : (AllDigits 10 text × (0 < length text) × (digits_value 10 text < 2 ^ 64)) × (n ≡ digits_value 10 text) = parse_plain own {E = E} 64 text (Ok n) parsed (λ x. omega arith) in
    let same : decimal (digits_value 10 text) ≡ text = decimal-digits_value own text plain.0.0 plain.0.1 (λ x. absurd (omega arith)) (omega arith) in
    rw (e, plain.1) (sym same)
number_read {E} text (Err f) o parsed e low = rw e tt

none_read : {E : Type 0} (text : List ℕ) (r : Result ℕ E) (o : Option ℕ) → ParsesUnsigned 64 10 text r → o ≡ result_ok r → 49 ≤ get_or text 0 0
    → IfNone o ((n : ℕ) → n < 2 ^ 64 → text ≡ decimal n → ⊥)
none_read {E} text (Ok m) o parsed e low = rw e tt
none_read {E} text (Err f) o parsed e low = rw e (λ n small is.
    let numeral : (((0 < length (decimal n)) × AllDigits 10 (decimal n)) × (digits_value 10 (decimal n) ≡ n)) = decimal_is_IsNumeral n small in
    let value : digits_value 10 (decimal n) < 2 ^ 64 = rw numeral.1 small in
    parse_plain own {E = E} 64 text (Err f) parsed (λ x. omega arith) (rw is (numeral.0.1, numeral.0.0, value)))

pub returns-then-eq-clause-number : goal.returns-then-eq-clause-number
returns-then-eq-clause-number c =
    let is : c.args.text.now ≡ codes "0" = search rules in
    is ∙ sym zero_is

pub returns-then-not-begins_with_digit-clause-none :
    goal.returns-then-not-begins_with_digit-clause-none
returns-then-not-begins_with_digit-clause-none c n small is =
    let other : c.args.text.now ≡ codes "0" → ⊥ = search rules in
    let first = first_digit c.args.text.now n (above _ n other is) small is in
    false≢true (c.if-not-begins_with_digit.ensures.1 (rw c.as_bytes.ensures.value first))

pub returns-clause-number : goal.returns-clause-number
returns-clause-number c =
    let low = subst (λ t. 49 ≤ slice_index t 0) c.as_bytes.ensures.value (c.if-not-begins_with_digit.ensures.0 refl).0 in
    number_read c.args.text.now c.parse.result c.ok.result c.parse.ensures.value.0 c.ok.ensures.value low

pub returns-clause-none : goal.returns-clause-none
returns-clause-none c =
    let low = subst (λ t. 49 ≤ slice_index t 0) c.as_bytes.ensures.value (c.if-not-begins_with_digit.ensures.0 refl).0 in
    none_read c.args.text.now c.parse.result c.ok.result c.parse.ensures.value.0 c.ok.ensures.value low
