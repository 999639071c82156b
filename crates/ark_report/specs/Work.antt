-- The line that the command `work` puts, behind the replies of its script.
use Rattle.std.specs.Prelude.{◌≡◌, ℕ, ◌+◌, Bool, true, false, not, ◌&&◌, List, [], ◌∷◌, length, ◌||◌, nat_eq, nat_le, Ok, Err}
use Rattle.std.specs.List.{list_all, list_any}
use Rattle.ark_work.specs.Generated.{prelude, generated}
use Rattle.ark_work.specs.Tallied.{summary}
use Rattle.ark_media.specs.Journal.{Event}
use Rattle.ark_script.specs.Lines.{Meaning, EachSays}
use Rattle.ark_script.specs.Text.{text}
use Rattle.ark_script.specs.declared.said.Said.TheVariants.{Refused}
use Rattle.ark_machine.specs.Row.{Ended}
use Rattle.ark_machine.specs.System.{System, Turn, fresh_system, quiet_turn, line_turn}
use Rattle.ark_machine.specs.Follow.{ends_of}
use Rattle.ark_machine.specs.Replies.{may_lack}

-- Whose replies these are.

-- what a line does, by the system before it, its meaning, how its device calls ended, and whether it found no memory
abbrev pub Turning : Type 0
Turning = System → Meaning → List Ended → Bool → Turn

-- by the rows of all words
abbrev pub meant_turn : Turning
meant_turn s (Ok line) ends memory = line_turn s line ends memory
meant_turn s (Err refusal) ends memory = quiet_turn s (Refused refusal)

-- one line, by its place: those at the places of `full` find no memory
abbrev pub turn_at : Turning → System → List ℕ → ℕ → Meaning → List Event → Turn
turn_at by s full place m es = by s m (ends_of es) (list_any (nat_eq place) full)

-- The replies to lines in turn, of which the first stands at this place. Each line has its device events.
abbrev pub replies_to : Turning → System → List ℕ → ℕ → List Meaning → List (List Event)
    → List (List ℕ)
replies_to by s full place [] lists = []
replies_to by s full place (m ∷ ms) [] = []
replies_to by s full place (m ∷ ms) (es ∷ lists) =
    text (turn_at by s full place m es).said (turn_at by s full place m es).bytes
    ∷ replies_to by (turn_at by s full place m es).after full (place + 1) ms lists

-- a line whose word may find no memory
abbrev pub can_lack : Meaning → Bool
can_lack (Ok line) = may_lack line
can_lack (Err refusal) = false

-- of lines in turn, the first at this place, only such lines are at the places of `full`
abbrev pub lack_rightly : List ℕ → ℕ → List Meaning → Bool
lack_rightly full place [] = true
lack_rightly full place (m ∷ ms) =
    (not (list_any (nat_eq place) full) || can_lack m) && lack_rightly full (place + 1) ms

-- `work` makes a device of so many blocks
abbrev pub work_blocks : ℕ
work_blocks = 4096

-- The line of `work`, given the lines of the prelude that found no memory, by their places from 1 on, and the device events of
-- each line of the script.
pub record Summary (by : Turning) (seed lines : ℕ) (full : List ℕ) (lists : List (List Event))
    (words : List ℕ) : Type 0 where
  pub meanings : List Meaning
  pub say : EachSays (generated seed lines) meanings
  pub each : length lists ≡ length meanings
  pub in_prelude : list_all (λ place. nat_le place (length prelude)) full ≡ true
  pub lacking : lack_rightly full 1 meanings ≡ true
  pub counts : words
      ≡ summary lines (replies_to by (fresh_system work_blocks) full 1 meanings lists)
