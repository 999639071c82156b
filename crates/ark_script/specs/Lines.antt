-- The lines of a script, and what each of them means.
use Rattle.std.specs.Prelude.{◌≡◌, ℕ, ◌+◌, ◌<◌, ◌≤◌, true, List, [], ◌∷◌, ◌++◌, length, if◌then◌else◌, nat_eq, Result, Ok, Err}
use Rattle.ark_base.specs.declared.refusal.Refusal.{Refusal}
use Rattle.ark_base.specs.declared.refusal.Refusal.TheVariants.{Syntax, UnknownWord, TooLong}
use Rattle.ark_script.specs.Text.{no_newline}
use Rattle.ark_script.specs.Line.{Line}
use Rattle.ark_script.specs.Form.{IsForm}
use Rattle.ark_script.specs.Words.{IsKnown}

-- a byte before the lines of the rest: it begins the first of them
abbrev pub begin_first : ℕ → List (List ℕ) → List (List ℕ)
begin_first b [] = (b ∷ []) ∷ []
begin_first b (line ∷ lines) = (b ∷ line) ∷ lines

-- a newline ends a line; bytes after the last newline are a last line
abbrev pub lines_of : List ℕ → List (List ℕ)
lines_of [] = []
lines_of (b ∷ bs) = if nat_eq b 10 then [] ∷ lines_of bs else begin_first b (lines_of bs)

-- lines one after another, each with its newline
abbrev pub ended : List (List ℕ) → List ℕ
ended [] = []
ended (line ∷ lines) = line ++ 10 ∷ ended lines

-- no line has a newline in it
abbrev pub EachClean : List (List ℕ) → Type 0
EachClean [] = Unit {0}
EachClean (line ∷ lines) = (no_newline line ≡ true) × EachClean lines

-- how many newlines there are
abbrev pub newlines : List ℕ → ℕ
newlines [] = 0
newlines (b ∷ bs) = if nat_eq b 10 then newlines bs + 1 else newlines bs

-- a longer line is not read
abbrev pub max_line : ℕ
max_line = 66000

-- what a line means: what it asks for, or why it is refused at sight
abbrev pub Meaning : Type 0
Meaning = Result Line Refusal

-- The line means this. A refusal at sight comes in the order 24, 2, 1.
abbrev pub Says : List ℕ → Meaning → Type 0
Says line (Ok asked) = (length line ≤ max_line) × IsForm asked line
Says line (Err TooLong) = max_line < length line
Says line (Err UnknownWord) = (length line ≤ max_line) × (IsKnown line → ⊥)
Says line (Err Syntax) = (length line ≤ max_line) × IsKnown line × ((asked : Line) → IsForm asked line → ⊥)
Says line (Err _) = ⊥

-- each of the lines has its meaning
abbrev pub EachSays : List (List ℕ) → List Meaning → Type 0
EachSays [] [] = Unit {0}
EachSays [] (m ∷ ms) = ⊥
EachSays (line ∷ lines) [] = ⊥
EachSays (line ∷ lines) (m ∷ ms) = Says line m × EachSays lines ms

-- these are the meanings of the first lines
abbrev pub FirstSay : List (List ℕ) → List Meaning → Type 0
FirstSay lines [] = Unit {0}
FirstSay [] (m ∷ ms) = ⊥
FirstSay (line ∷ lines) (m ∷ ms) = Says line m × FirstSay lines ms
