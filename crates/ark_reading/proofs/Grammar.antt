-- A line means what its words mean when they are read from left to right.
use Rattle.std.proofs.Common.{◌≡◌, ℕ, ◌≤◌, bytes_eq, List, ◌∷◌, length, Option, Some, None, Result, Ok, Err, refl, sym, ap, ◌∙◌, subst}
use Rattle.std.specs.Prelude.{IfOk, MatchResult}
use Rattle.std.specs.List.{list_any}
use Rattle.std.specs.Option.{is_some}
use Rattle.std.proofs.lemmas.Bool.{false≢true}
use Rattle.std.proofs.lemmas.Option.{same_Some}
use Rattle.ark_base.specs.declared.refusal.Refusal.{Refusal}
use Rattle.ark_reading.specs.declared.word.Word.{Word}
use Rattle.ark_script.specs.declared.step.Step.{Step}
use Rattle.ark_script.specs.Form.{IsForm, Sentence, AreArguments, word_of}
use Rattle.ark_script.specs.Line.{Line, line_of}
use Rattle.ark_script.specs.Lines.{Says, max_line}
use Rattle.ark_reading.specs.Meant.{Means, meaning_of, word_meaning, or_syntax}
use Rattle.ark_script.specs.Ranges.{InRange}
use Rattle.ark_reading.specs.Shape.{line_read}
use Rattle.ark_reading.specs.Word.{word_at}
use Rattle.ark_script.specs.Words.{first_word, known_words, words_of}
use Rattle.ark_reading.proofs.Completing.{complete}
use Rattle.ark_forms.proofs.Parts.{parts_some}
use Rattle.ark_reading.proofs.Ranging.{in_range}
use Rattle.ark_reading.proofs.Sounding.{sound}
use Rattle.ark_reading.proofs.WordOf.{spelling, spelling_of, word_at-word_of, kind_of_line}
use Rattle.ark_reading.proofs.Wording.{word_spelled, is_known, first_of_words}

-- whether the first word is known
pub known_is : (line first : List ℕ) (words : List (List ℕ)) (o : Option Word) → words_of line ≡ first ∷ words → word_at first ≡ o
    → list_any (bytes_eq (first_word line)) known_words ≡ is_some o
known_is line first words o e h = rw (first_of_words line first words e) (is_known first ∙ ap is_some h)

pub form_is : (line first : List ℕ) (words : List (List ℕ)) (asked : Line) → words_of line ≡ first ∷ words → IsForm asked line → (first ≡ word_of asked) × AreArguments asked words
form_is line first words asked e h = subst (λ (ws : List (List ℕ)). Sentence (word_of asked) (AreArguments asked) ws) e h

pub is_form : (line first : List ℕ) (words : List (List ℕ)) (asked : Line) → words_of line ≡ first ∷ words → first ≡ word_of asked → AreArguments asked words → IsForm asked line
is_form line first words asked e h k = subst (λ (ws : List (List ℕ)). Sentence (word_of asked) (AreArguments asked) ws) (sym e) (h, k)

-- a known word, by what it gives with the words behind it
known_says : (line first : List ℕ) (words : List (List ℕ)) (k : Word) (read : Option Line) → length line ≤ max_line → words_of line ≡ first ∷ words
    → word_at first ≡ Some k → line_read k words ≡ read → Says line (or_syntax read)
known_says line first words k (Some asked) short e found read =
    let formed = sound k words asked read in
    let spelled : first ≡ word_of asked = word_spelled first k found ∙ ap spelling (sym formed.0) ∙ spelling_of asked in
    (short, is_form line first words asked e spelled formed.1)
known_says line first words k None short e found read = (
  short,
  known_is line first words (Some k) e found,
  λ asked form.
      let parts = form_is line first words asked e form in
      let same : kind_of_line asked ≡ k = same_Some _ _ (sym (word_at-word_of asked) ∙ ap word_at (sym parts.0) ∙ found) in
      let given = rw same at (complete asked words parts.1) in
      cc (read, given),
)

says_word : (line first : List ℕ) (words : List (List ℕ)) (o : Option Word) → length line ≤ max_line → words_of line ≡ first ∷ words
    → word_at first ≡ o → Says line (word_meaning o words)
says_word line first words None short e found = (short, λ known. false≢true (sym (known_is line first words None e found) ∙ known))
says_word line first words (Some k) short e found = known_says line first words k (line_read k words) short e found refl

pub says : (line : List ℕ) → length line ≤ max_line → Says line (meaning_of (words_of line))
says line short =
    let parts = parts_some 32 line in
    subst (Says line) (ap meaning_of (sym parts.2)) (says_word line parts.0 parts.1 (word_at parts.0) short parts.2 refl)

pub says_result : (line : List ℕ) (r : Result Step Refusal) → length line ≤ max_line → Means r (meaning_of (words_of line))
    → MatchResult r (λ step. Says line (Ok (line_of step))) (λ refusal. Says line (Err refusal))
says_result line (Ok step) short h = subst (Says line) h (says line short)
says_result line (Err refusal) short h = subst (Says line) h (says line short)

-- what a line asks for is in its range
pub ranges_result : (line : List ℕ) (r : Result Step Refusal) → length line ≤ max_line → Means r (meaning_of (words_of line)) → IfOk r (λ step. InRange (line_of step))
ranges_result line (Ok step) short h =
    let parts = parts_some 32 line in
    let form : Says line (Ok (line_of step)) = says_result line (Ok step) short h in
    in_range (line_of step) parts.1 (form_is line parts.0 parts.1 (line_of step) parts.2 form.1).1
ranges_result line (Err refusal) short h = tt
