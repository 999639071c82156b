-- Each line has one meaning, and no other.
use Rattle.std.proofs.Common.{◌≡◌, ℕ, ◌<◌, ◌≤◌, List, ◌∷◌, length, Option, Some, None, Ok, Err, refl, sym, ap, ◌∙◌, inl, inr, arith}
use Rattle.std.proofs.lemmas.Bool.{cases_lt, false≢true}
use Rattle.ark_base.specs.declared.refusal.Refusal.TheVariants as r
use Rattle.ark_reading.specs.declared.word.Word.{Word}
use Rattle.ark_script.specs.Form.{IsForm}
use Rattle.ark_script.specs.Line.{Line}
use Rattle.ark_script.specs.Lines.{Meaning, Says, max_line}
use Rattle.ark_reading.specs.Meant.{meaning_of, word_meaning, or_syntax}
use Rattle.ark_reading.specs.Shape.{line_read}
use Rattle.ark_reading.specs.Word.{word_at}
use Rattle.ark_script.specs.Words.{IsKnown, words_of}
use Rattle.ark_reading.proofs.Completing.{complete}
use Rattle.ark_reading.proofs.Grammar.{known_is, form_is, is_form, says}
use Rattle.ark_forms.proofs.Parts.{parts_some}
use Rattle.ark_reading.proofs.Sounding.{sound}
use Rattle.ark_reading.proofs.WordOf.{spelling, spelling_of, word_at-word_of}
use Rattle.ark_reading.proofs.Wording.{word_spelled}

asked_only : (line first : List ℕ) (words : List (List ℕ)) (asked : Line) → words_of line ≡ first ∷ words → IsForm asked line → word_meaning (word_at first) words ≡ Ok asked
asked_only line first words asked e form =
    let parts = form_is line first words asked e form in
    rw (parts.0, word_at-word_of asked, complete asked words parts.1) refl

unknown_only : (line first : List ℕ) (words : List (List ℕ)) (o : Option Word) → words_of line ≡ first ∷ words → (IsKnown line → ⊥) → word_at first ≡ o → word_meaning o words ≡ Err r.UnknownWord
unknown_only line first words None e never found = refl
unknown_only line first words (Some k) e never found = absurd (never (known_is line first words (Some k) e found))

no_form : (line first : List ℕ) (words : List (List ℕ)) (k : Word) (read : Option Line) → words_of line ≡ first ∷ words → ((asked : Line) → IsForm asked line → ⊥)
    → word_at first ≡ Some k → line_read k words ≡ read → or_syntax read ≡ Err r.Syntax
no_form line first words k None e never found read = refl
no_form line first words k (Some asked) e never found read =
    let formed = sound k words asked read in
    absurd (never asked (is_form line first words asked e (word_spelled first k found ∙ ap spelling (sym formed.0) ∙ spelling_of asked) formed.1))

syntax_only : (line first : List ℕ) (words : List (List ℕ)) (o : Option Word) → words_of line ≡ first ∷ words → IsKnown line → ((asked : Line) → IsForm asked line → ⊥)
    → word_at first ≡ o → word_meaning o words ≡ Err r.Syntax
syntax_only line first words None e known never found = absurd (false≢true (sym (known_is line first words None e found) ∙ known))
syntax_only line first words (Some k) e known never found = no_form line first words k (line_read k words) e never found refl

-- what is said of a line that is not too long is what its words mean
pub short_only : (line : List ℕ) (m : Meaning) → length line ≤ max_line → Says line m → meaning_of (words_of line) ≡ m
short_only line (Ok asked) short h =
    let parts = parts_some 32 line in ap meaning_of parts.2 ∙ asked_only line parts.0 parts.1 asked parts.2 h.1
short_only line (Err r.Syntax) short h =
    let parts = parts_some 32 line in ap meaning_of parts.2 ∙ syntax_only line parts.0 parts.1 (word_at parts.0) parts.2 h.1 h.2 refl
short_only line (Err r.UnknownWord) short h =
    let parts = parts_some 32 line in ap meaning_of parts.2 ∙ unknown_only line parts.0 parts.1 (word_at parts.0) parts.2 h.1 refl
short_only line (Err r.NoApplication) short h = absurd h
short_only line (Err r.NameTaken) short h = absurd h
short_only line (Err (r.NoGrant label)) short h = absurd h
short_only line (Err r.WrongKind) short h = absurd h
short_only line (Err r.Limit) short h = absurd h
short_only line (Err r.NoNic) short h = absurd h
short_only line (Err r.OutOfRange) short h = absurd h
short_only line (Err r.NoSpace) short h = absurd h
short_only line (Err r.Scattered) short h = absurd h
short_only line (Err (r.Overlap app label)) short h = absurd h
short_only line (Err r.RingFull) short h = absurd h
short_only line (Err r.NoBuffer) short h = absurd h
short_only line (Err r.Lent) short h = absurd h
short_only line (Err r.Busy) short h = absurd h
short_only line (Err r.LogFailed) short h = absurd h
short_only line (Err r.LogFull) short h = absurd h
short_only line (Err r.NoEntry) short h = absurd h
short_only line (Err r.NoMemory) short h = absurd h
short_only line (Err r.DeviceFault) short h = absurd h
short_only line (Err r.TableFailed) short h = absurd h
short_only line (Err (r.Damaged entry)) short h = absurd h
short_only line (Err r.TooLong) short h = absurd (omega (arith, h))

pub long_only : (line : List ℕ) (m : Meaning) → max_line < length line → Says line m → Err r.TooLong ≡ m
long_only line (Ok asked) long h = absurd (omega (arith, h.0))
long_only line (Err r.Syntax) long h = absurd (omega (arith, h.0))
long_only line (Err r.UnknownWord) long h = absurd (omega (arith, h.0))
long_only line (Err r.NoApplication) long h = absurd h
long_only line (Err r.NameTaken) long h = absurd h
long_only line (Err (r.NoGrant label)) long h = absurd h
long_only line (Err r.WrongKind) long h = absurd h
long_only line (Err r.Limit) long h = absurd h
long_only line (Err r.NoNic) long h = absurd h
long_only line (Err r.OutOfRange) long h = absurd h
long_only line (Err r.NoSpace) long h = absurd h
long_only line (Err r.Scattered) long h = absurd h
long_only line (Err (r.Overlap app label)) long h = absurd h
long_only line (Err r.RingFull) long h = absurd h
long_only line (Err r.NoBuffer) long h = absurd h
long_only line (Err r.Lent) long h = absurd h
long_only line (Err r.Busy) long h = absurd h
long_only line (Err r.LogFailed) long h = absurd h
long_only line (Err r.LogFull) long h = absurd h
long_only line (Err r.NoEntry) long h = absurd h
long_only line (Err r.NoMemory) long h = absurd h
long_only line (Err r.DeviceFault) long h = absurd h
long_only line (Err r.TableFailed) long h = absurd h
long_only line (Err (r.Damaged entry)) long h = absurd h
long_only line (Err r.TooLong) long h = refl

pub some_meaning : (line : List ℕ) → (m : Meaning) × Says line m
some_meaning line =
    elim (cases_lt max_line (length line)) [
      | inl long ↦ (Err r.TooLong, long)
      | inr short ↦ (meaning_of (words_of line), says line short)
    ]

pub one_meaning : (line : List ℕ) (m n : Meaning) → Says line m → Says line n → m ≡ n
one_meaning line m n h k =
    elim (cases_lt max_line (length line)) [
      | inl long ↦ sym (long_only line m long h) ∙ long_only line n long k
      | inr short ↦ sym (short_only line m short h) ∙ short_only line n short k
    ]
