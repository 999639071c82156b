-- Each argument is read just where a word spells it.
use Rattle.std.proofs.Common.{◌≡◌, ◌⊎◌, ℕ, ◌*◌, ◌/◌, ◌%◌, ◌<◌, ◌≤◌, ◌^◌, ◌==◌, true, false, nat_le, bytes_eq, cond, List, [], ◌∷◌, length, codes, Option, Some, None, refl, ap, subst, inl, inr, arith}
use Rattle.std.specs.List.{list_all}
use Rattle.std.proofs.lemmas.Bool.{and_parts, leb-true, le-leb, eqb-true, eq-eqb, cases_Bool, false_from_ne_true}
use Rattle.std.proofs.lemmas.Option.{cond_some, same_Some}
use Rattle.std.proofs.lemmas.Slice.Eq.{bytes_eq-Decides}
use Rattle.hex.specs.Hex.{is_hex_digit}
use Rattle.ark_base.specs.Name.{is_name}
use Rattle.ark_script.specs.Arguments.{IsName, IsOptional, IsNumber, IsRingSize, IsHex, IsHex0}
use Rattle.ark_script.specs.Line.{spelled}
use Rattle.ark_forms.specs.Reading.{name_of, optional_of, number_of, size_of, hex_of, hex0_of}
use Rattle.ark_script.proofs.Digits.{length-spelled}
use Rattle.ark_forms.proofs.Numbers.{number_read, number_gives}
use Rattle.ark_forms.proofs.Readers.{Reads, bind_some}

-- which way a test on a word went
pub chosen : {A : Type 0} (word text : List ℕ) (x y : A) (o : Option A) → cond (bytes_eq word text) (Some x) o ≡ Some y → ((word ≡ text) × (x ≡ y)) ⊎ ((bytes_eq word text ≡ false) × (o ≡ Some y))
chosen word text x y o h =
    elim (cases_Bool (bytes_eq word text)) [
      | inl same ↦ inl ((bytes_eq-Decides word text).0 same, same_Some _ _ (rw same at h))
      | inr other ↦ inr (other, rw other at h)
    ]

pub other_text : (word text : List ℕ) → (word ≡ text → ⊥) → bytes_eq word text ≡ false
other_text word text other = false_from_ne_true _ (λ e. other ((bytes_eq-Decides word text).0 e))

no_dash : is_name (codes "-") ≡ true → ⊥
no_dash h = cc h

one_digit : (len n : ℕ) → len ≡ 1 → len ≡ 2 * n → ⊥
one_digit len n one twice = omega arith

pub name_reads : Reads name_of IsName
unfolding name_of
name_reads = record { sound = sound; complete = complete }
  where
    sound : (word name : List ℕ) → name_of word ≡ Some name → IsName name word
    sound word name h = let found = cond_some _ _ _ h in (found.1, rw (← found.1) found.0)

    complete : (word name : List ℕ) → IsName name word → name_of word ≡ Some name
    complete word name h = rw (h.0, h.1) refl

pub number_reads : (low high : ℕ) → high < 2 ^ 64 → Reads (number_of low high) (IsNumber low high)
number_reads low high small = record { sound = λ word n h. number_read low high word n h; complete = λ word n h. number_gives low high word n small h }

pub optional_reads : Reads optional_of IsOptional
unfolding optional_of
optional_reads = record { sound = sound; complete = complete }
  where
    sound : (word : List ℕ) (name : Option (List ℕ)) → optional_of word ≡ Some name → IsOptional name word
    sound word name h =
        elim (chosen word (codes "-") None name _ h) [
          | inl none ↦ subst (λ (o : Option (List ℕ)). IsOptional o word) none.1 none.0
          | inr some ↦
              let found = bind_some (name_of word) _ name some.1 in
              subst (λ (o : Option (List ℕ)). IsOptional o word) (same_Some _ _ found.2) (name_reads.sound word found.0 found.1)
        ]

    complete : (word : List ℕ) (name : Option (List ℕ)) → IsOptional name word → optional_of word ≡ Some name
    complete word None h = rw h refl
    complete word (Some name) h =
        let other : bytes_eq word (codes "-") ≡ false = other_text word (codes "-") (λ e. no_dash (rw (← h.0, e) at h.1)) in
        rw (other, name_reads.complete word name h) refl

pub size_reads : Reads size_of IsRingSize
unfolding size_of
size_reads = record { sound = sound; complete = complete }
  where
    sound : (word : List ℕ) (n : ℕ) → size_of word ≡ Some n → IsRingSize n word
    sound word n h =
        let found = bind_some (number_of 2 256 word) _ n h in
        let size = cond_some _ _ _ found.2 in
        subst (λ (m : ℕ). IsRingSize m word) size.1 (number_read 2 256 word found.0 found.1, size.0)

    complete : (word : List ℕ) (n : ℕ) → IsRingSize n word → size_of word ≡ Some n
    complete word n h = rw (number_gives 2 256 word n (omega arith) h.0, h.1) refl

pub hex_reads : (fewest most : ℕ) → Reads (hex_of fewest most) (IsHex fewest most)
unfolding hex_of
hex_reads fewest most = record { sound = sound; complete = complete }
  where
    sound : (word bytes : List ℕ) → hex_of fewest most word ≡ Some bytes → IsHex fewest most bytes word
    sound word bytes h =
        let found = cond_some _ _ _ h in
        let digits = and_parts _ (list_all is_hex_digit word) found.0 in
        let high = and_parts _ (nat_le (length word / 2) most) digits.0 in
        let low = and_parts _ (nat_le fewest (length word / 2)) high.0 in
        let even : length word % 2 ≡ 0 = eqb-true _ _ low.0 in
        let least : fewest ≤ length word / 2 = leb-true _ _ low.1 in
        let greatest : length word / 2 ≤ most = leb-true _ _ high.1 in
        let len : length (spelled word) ≡ length word / 2 = length-spelled word (length word / 2) (omega arith) in
        subst (λ (xs : List ℕ). IsHex fewest most xs word) found.1 (digits.1, omega (arith, len), refl, omega (arith, len), omega (arith, len))

    complete : (word bytes : List ℕ) → IsHex fewest most bytes word → hex_of fewest most word ≡ Some bytes
    complete word bytes h =
        let even : (length word % 2 == 0) ≡ true = eq-eqb _ _ (omega (arith, h.1)) in
        let low : nat_le fewest (length word / 2) ≡ true = le-leb _ _ (omega (arith, h.1, h.3)) in
        let high : nat_le (length word / 2) most ≡ true = le-leb _ _ (omega (arith, h.1, h.4)) in
        rw (even, low, high, h.0, h.2) refl

pub hex0_reads : (most : ℕ) → Reads (hex0_of most) (IsHex0 most)
unfolding hex0_of
hex0_reads most = record { sound = sound; complete = complete }
  where
    some : (word bytes : List ℕ) → IsHex 1 most bytes word → IsHex0 most bytes word
    some word [] h = absurd (omega (arith, h.3))
    some word (b ∷ bs) h = h

    sound : (word bytes : List ℕ) → hex0_of most word ≡ Some bytes → IsHex0 most bytes word
    sound word bytes h =
        elim (chosen word (codes "-") [] bytes _ h) [
          | inl none ↦ subst (λ (xs : List ℕ). IsHex0 most xs word) none.1 none.0
          | inr more ↦ some word bytes ((hex_reads 1 most).sound word bytes more.1)
        ]

    complete : (word bytes : List ℕ) → IsHex0 most bytes word → hex0_of most word ≡ Some bytes
    complete word [] h = rw h refl
    complete word (b ∷ bs) h =
        let other : bytes_eq word (codes "-") ≡ false = other_text word (codes "-") (λ e. one_digit _ _ (ap length e) h.1) in
        rw other ((hex_reads 1 most).complete word (b ∷ bs) h)
