-- The words of the program are those of the language.
use Rattle.std.proofs.Common.{◌≡◌, ℕ, true, bytes_eq, nat_eq, List, [], ◌∷◌, map, Some, refl, sym, ap, ◌∙◌, inl, inr}
use Rattle.std.specs.List.{list_all, list_any, onto_first}
use Rattle.std.specs.Option.{is_some}
use Rattle.std.specs.Map.{lookup}
use Rattle.std.proofs.lemmas.Bool.{cases_Bool, and_parts}
use Rattle.std.proofs.lemmas.Option.{same_Some}
use Rattle.std.proofs.lemmas.Slice.Eq.{bytes_eq-Decides}
use Rattle.ark_reading.specs.Word.{table, word_at}
use Rattle.ark_script.specs.Words.{first_word, known_words, words_of}
use Rattle.ark_reading.specs.declared.word.Word.{Word}
use Rattle.ark_reading.proofs.WordOf.{spelling}

found_spelled : (entries : List (List ℕ × Word)) (bytes : List ℕ) (k : Word) → list_all (λ e. bytes_eq e.0 (spelling e.1)) entries ≡ true
    → lookup (bytes_eq bytes) entries ≡ Some k → bytes ≡ spelling k
found_spelled [] bytes k all h = cc
found_spelled (e ∷ es) bytes k all h =
    let parts = and_parts (bytes_eq e.0 (spelling e.1)) (list_all (λ e. bytes_eq e.0 (spelling e.1)) es) all in
    elim (cases_Bool (bytes_eq bytes e.0)) [
      | inl same ↦
          let found : e.1 ≡ k = same_Some _ _ (rw same at h) in
          (bytes_eq-Decides bytes e.0).0 same ∙ (bytes_eq-Decides e.0 (spelling e.1)).0 parts.0 ∙ ap spelling found
      | inr other ↦ found_spelled es bytes k parts.1 (rw other at h)
    ]

-- a word that is found is spelled so
pub word_spelled : (bytes : List ℕ) (k : Word) → word_at bytes ≡ Some k → bytes ≡ spelling k
unfolding word_at
word_spelled bytes k h = found_spelled table bytes k refl h

is_found : (entries : List (List ℕ × Word)) (bytes : List ℕ) → list_any (bytes_eq bytes) (map (λ e. e.0) entries) ≡ is_some (lookup (bytes_eq bytes) entries)
is_found [] bytes = refl
is_found (e ∷ es) bytes =
    elim (cases_Bool (bytes_eq bytes e.0)) [
      | inl same ↦ rw same refl
      | inr other ↦ rw other (is_found es bytes)
    ]

-- the words that are found are those of the language
pub is_known : (bytes : List ℕ) → list_any (bytes_eq bytes) known_words ≡ is_some (word_at bytes)
unfolding word_at
is_known bytes = is_found table bytes

head : List (List ℕ) → List ℕ
head [] = []
head (first ∷ words) = first

onto_head : (b : ℕ) (parts : List (List ℕ)) → head (onto_first b parts) ≡ b ∷ head parts
unfolding head
onto_head b [] = refl
onto_head b (part ∷ parts) = refl

first_head : (line : List ℕ) → first_word line ≡ head (words_of line)
unfolding head
first_head [] = refl
first_head (b ∷ bs) =
    elim (cases_Bool (nat_eq b 32)) [
      | inl space ↦ rw space refl
      | inr other ↦ rw other (ap (λ (t : List ℕ). b ∷ t) (first_head bs) ∙ sym (onto_head b (words_of bs)))
    ]

-- the bytes up to the first space are the first of the words
pub first_of_words : (line first : List ℕ) (words : List (List ℕ)) → words_of line ≡ first ∷ words → first_word line ≡ first
unfolding head
first_of_words line first words h = first_head line ∙ ap head h
