-- Each reply of a run is that of the machines, given what the plane recorded.
use Rattle.std.specs.Prelude.{◌≡◌, ◌⊎◌, ℕ, Bool, true, false, List, [], ◌∷◌, ◌++◌, length, drop, bytes_eq, Ok, Err, IsTrue}
use Rattle.std.specs.List.{list_any}
use Rattle.ark_base.specs.declared.refusal.Refusal.TheVariants as r
use Rattle.ark_media.specs.Journal.{Event, output_of, device_events}
use Rattle.ark_script.specs.Attributes.{Ask, attributes, no_memory}
use Rattle.ark_script.specs.Line.{Line}
use Rattle.ark_script.specs.Lines.{Meaning, Says, FirstSay}
use Rattle.ark_script.specs.Text.{text}
use Rattle.ark_script.specs.declared.said.Said.TheVariants as said
use Rattle.ark_machine.specs.System.{System, Turn}
use Rattle.ark_machine.specs.Built.{turn}
use Rattle.ark_machine.specs.Follow.{Performs, ends_of}

-- whether the part is that of a line that found no memory
abbrev pub has_lacked : List Event → Bool
has_lacked part = bytes_eq (output_of part) (text (said.Refused r.NoMemory) [])

-- whether it is memory that may be wanting
abbrev pub is_memory : Ask → Bool
is_memory no_memory = true
is_memory _ = false

-- the words that ask for it may find none
abbrev pub may_lack : Line → Bool
may_lack line = list_any is_memory (attributes line).asks

abbrev pub MayLack : Meaning → Bool → Type 0
MayLack (Ok line) true = IsTrue (may_lack line)
MayLack (Err refusal) true = ⊥
MayLack m false = Unit {0}

-- the turn of a line whose whole part this is
abbrev pub turn_for : System → Meaning → List Event → Turn
turn_for s m part = turn s m (ends_of (device_events part)) (has_lacked part)

-- the system after lines with these whole parts
abbrev pub system_after : System → List Meaning → List (List Event) → System
system_after s [] parts = s
system_after s (m ∷ ms) [] = s
system_after s (m ∷ ms) (part ∷ parts) = system_after (turn_for s m part).after ms parts

-- a whole part answers its line: its output is the text of the turn's reply, and its device events are the turn's calls
pub record Answers (s : System) (m : Meaning) (part : List Event) : Type 0 where
  pub output : output_of part ≡ text (turn_for s m part).said (turn_for s m part).bytes
  pub calls : Performs s m (turn_for s m part).calls (device_events part)
  pub memory : MayLack m (has_lacked part)

-- each line has its part, which answers it
abbrev pub EachAnswers : System → List Meaning → List (List Event) → Type 0
EachAnswers s [] [] = Unit {0}
EachAnswers s [] (part ∷ parts) = ⊥
EachAnswers s (m ∷ ms) [] = ⊥
EachAnswers s (m ∷ ms) (part ∷ parts) = Answers s m part × EachAnswers (turn_for s m part).after ms parts

-- device events with which a line has begun: they go on to its calls, for some outcomes that begin with theirs
pub record IsBegun (s : System) (m : Meaning) (es : List Event) : Type 0 where
  pub more : List Event
  pub calls : Performs s m (turn s m (ends_of (es ++ more)) false).calls (es ++ more)

-- the part that is not whole: nothing was done to the disk, or it has begun the next of the lines
abbrev pub Begins : System → List (List ℕ) → List Event → Type 0
Begins s [] es = es ≡ []
Begins s (line ∷ lines) es = (es ≡ []) ⊎ ((m : Meaning) × Says line m × IsBegun s m es)

-- From a system on, the lines of a script are answered by whole parts in turn, as far as they go; the unfinished part has
-- begun the next line.
pub record Replies (s : System) (lines : List (List ℕ)) (whole : List (List Event)) (unfinished : List Event) : Type 0 where
  -- of the lines that have their parts
  pub meanings : List Meaning
  pub say : FirstSay lines meanings
  pub each : EachAnswers s meanings whole
  pub begins : Begins (system_after s meanings whole) (drop (length whole) lines) (device_events unfinished)
