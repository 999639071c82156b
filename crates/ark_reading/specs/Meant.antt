-- What the words of a line mean, read from left to right.
use Rattle.std.specs.Prelude.{◌≡◌, ℕ, List, [], ◌∷◌, Option, Some, None, Result, Ok, Err}
use Rattle.ark_base.specs.declared.refusal.Refusal.{Refusal}
use Rattle.ark_base.specs.declared.refusal.Refusal.TheVariants.{Syntax, UnknownWord}
use Rattle.ark_script.specs.Line.{Line, line_of}
use Rattle.ark_script.specs.Lines.{Meaning}
use Rattle.ark_reading.specs.Shape.{line_read}
use Rattle.ark_reading.specs.Word.{word_at}
use Rattle.ark_reading.specs.declared.word.Word.{Word}
use Rattle.ark_script.specs.declared.step.Step.{Step}

-- a line that is wrong in syntax, if nothing was read
abbrev pub or_syntax : Option Line → Meaning
or_syntax (Some asked) = Ok asked
or_syntax None = Err Syntax

abbrev pub word_meaning : Option Word → List (List ℕ) → Meaning
word_meaning (Some word) words = or_syntax (line_read word words)
word_meaning None words = Err UnknownWord

abbrev pub sentence_meaning : List ℕ → List (List ℕ) → Meaning
sentence_meaning first words = word_meaning (word_at first) words

abbrev pub meaning_of : List (List ℕ) → Meaning
meaning_of [] = Err UnknownWord
meaning_of (first ∷ words) = sentence_meaning first words

-- what a function returned is this meaning
abbrev pub Means : Result Step Refusal → Meaning → Type 0
Means (Ok step) meaning = meaning ≡ Ok (line_of step)
Means (Err refusal) meaning = meaning ≡ Err refusal
