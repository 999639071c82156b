-- What came of a line whose reply was not put out in whole.
use Rattle.std.specs.Prelude.{◌≡◌, ◌⊎◌, ℕ, Bool, List, [], ◌∷◌, ◌++◌, length, drop}
use Rattle.ark_media.specs.Journal.{Event, output_of, device_events}
use Rattle.ark_script.specs.Lines.{Meaning, Says, FirstSay}
use Rattle.ark_script.specs.Text.{text}
use Rattle.ark_machine.specs.System.{System, Turn}
use Rattle.ark_machine.specs.Built.{turn}
use Rattle.ark_machine.specs.Follow.{Performs, ends_of}
use Rattle.ark_machine.specs.Confined.{IsConfined}
use Rattle.ark_machine.specs.Sending.{SendsFront, DeliversFront}
use Rattle.ark_machine.specs.Replies.{MayLack, system_after, Replies}

-- the turn of the line whose part this is, by whether it found no memory: its reply may not show that
abbrev pub cut_turn : System → Meaning → List Event → Bool → Turn
cut_turn s m part lacked = turn s m (ends_of (device_events part)) lacked

-- The calls of the line's turn were made, and the first bytes of its reply's line came out: none, some or all.
pub record IsFront (s : System) (m : Meaning) (part : List Event) : Type 0 where
  pub lacked : Bool
  pub memory : MayLack m lacked
  pub calls : Performs s m (cut_turn s m part lacked).calls (device_events part)
  -- the bytes that did not come out
  pub more : List ℕ
  pub front : text (cut_turn s m part lacked).said (cut_turn s m part lacked).bytes
      ≡ output_of part ++ more

-- behind the whole parts stands nothing, or what came of the next line
abbrev pub ShowsFront : System → List (List ℕ) → List Event → Type 0
ShowsFront s [] part = part ≡ []
ShowsFront s (line ∷ lines) part = (part ≡ []) ⊎ ((m : Meaning) × Says line m × IsFront s m part)

-- From a system on, the lines of a script are answered by whole parts in turn, and the next one by a front of its part: so
-- the output is a front of what the machines reply.
pub record CutReplies (s : System) (lines : List (List ℕ)) (whole : List (List Event))
    (part : List Event) : Type 0 where
  pub replies : Replies s lines whole part
  pub shows : ShowsFront (system_after s replies.meanings whole) (drop (length whole) lines) part

-- The part touches only what its line may touch, and the frame of which the first bytes of its reply show something was let out or
-- in, within the rate of its card's queue.
pub record IsCutConfined (s : System) (m : Meaning) (part : List Event) : Type 0 where
  pub device : IsConfined s m (device_events part)
  pub sends : SendsFront s m (output_of part)
  pub delivers : DeliversFront s m (output_of part)

-- behind the whole parts stands nothing, or what the next line may send or have delivered
abbrev pub ShowsConfined : System → List (List ℕ) → List Event → Type 0
ShowsConfined s [] part = part ≡ []
ShowsConfined s (line ∷ lines) part =
    (part ≡ []) ⊎ ((m : Meaning) × Says line m × IsCutConfined s m part)

-- The cut reply keeps to what its line may do, with the system as it is before the line: so its frame is let out or in.
pub record CutConfined (s : System) (lines : List (List ℕ)) (whole : List (List Event))
    (part : List Event) : Type 0 where
  pub meanings : List Meaning
  pub say : FirstSay lines meanings
  pub count : length meanings ≡ length whole
  pub shows : ShowsConfined (system_after s meanings whole) (drop (length whole) lines) part
