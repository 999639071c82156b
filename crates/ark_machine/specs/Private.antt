-- What one application sees of a run: what comes to it, and the replies that it is given.
use Rattle.std.specs.Prelude.{ℕ, Bool, List, [], ◌∷◌, ◌++◌, Option, Some, None, option_map, find, unwrap_or, if◌then◌else◌, bytes_eq}
use Rattle.ark_packet.specs.declared.own.Own.{Own}
use Rattle.ark_script.specs.Line as w
use Rattle.ark_script.specs.Line.{Line}
use Rattle.ark_script.specs.declared.said.Said.{Said}
use Rattle.ark_script.specs.declared.said.Said.TheVariants as said
use Rattle.ark_machine.specs.Machine.{Machine}
use Rattle.ark_machine.specs.Row.{Row, Call, Ended, Given, says}
use Rattle.ark_machine.specs.Control.{is_label}
use Rattle.ark_machine.specs.Asked.{part_for}
use Rattle.ark_machine.specs.Network.{arrive}
use Rattle.ark_machine.specs.Step.{step, ticked}
use Rattle.ark_machine.specs.Plane.{LiveFilter, recorded}
use Rattle.ark_machine.specs.System.{System, Turn, owner, takes, line_turn}

-- a line of a run, with how its device calls ended and whether it found no memory
pub record Play : Type 0 where
  pub line : Line
  pub ends : List Ended
  pub memory : Bool

abbrev pub play_turn : System → Play → Turn
play_turn s x = line_turn s x.line x.ends x.memory

-- the system after these lines
abbrev pub after_plays : System → List Play → System
after_plays s [] = s
after_plays s (x ∷ xs) = after_plays (play_turn s x).after xs

-- what a line answers, with its device calls
pub record Reply : Type 0 where
  pub said : Said
  pub bytes : List ℕ
  pub calls : List Call

-- What comes to an application.

pub data Input : Type 0 where
  -- a line of its own, with what its word asks for of what is given beside the machine
  asks : Line → Given → Input
  -- a frame at its card of this label
  comes : List ℕ → List ℕ → Input
  -- ticks
  passes : ℕ → Input

-- a line of application b
abbrev pub line_inputs : List ℕ → List ℕ → Line → Given → List Input
line_inputs a b line g = if bytes_eq a b then asks line (part_for line g) ∷ [] else []

-- a frame, by the filter that takes it
abbrev pub frame_inputs : List ℕ → List ℕ → Option LiveFilter → List Input
frame_inputs a frame None = []
frame_inputs a frame (Some f) = if bytes_eq a f.owner then comes (unwrap_or f.card []) frame ∷ [] else []

-- the filter that takes a frame, once this end has its addresses
abbrev pub taker : System → List ℕ → Option Own → Option LiveFilter
taker s frame None = None
taker s frame (Some own) = find (λ f. takes own frame f) s.plane.filters

-- a line of no application
abbrev pub common_inputs : List ℕ → System → Line → List Input
common_inputs a s (w.tick n) = passes n ∷ []
common_inputs a s (w.wire frame) = frame_inputs a frame (taker s frame s.plane.own)
common_inputs a s _ = []

abbrev pub inputs_by : List ℕ → System → Play → Option (List ℕ) → List Input
inputs_by a s x None = common_inputs a s x.line
inputs_by a s x (Some b) = line_inputs a b x.line (recorded s.plane x.line x.ends x.memory)

-- what a line brings to application a
abbrev pub inputs_in : List ℕ → System → Play → List Input
inputs_in a s x = inputs_by a s x (owner x.line)

abbrev pub inputs_of : List ℕ → System → List Play → List Input
inputs_of a s [] = []
inputs_of a s (x ∷ xs) = inputs_in a s x ++ inputs_of a (play_turn s x).after xs

-- What it is told.

-- the application that a line's reply concerns: whose line it is, or to whose card the frame comes
abbrev pub concerned : System → Line → Option (List ℕ)
concerned s (w.wire frame) = option_map (λ f. f.owner) (taker s frame s.plane.own)
concerned s line = owner line

abbrev pub reply_of : Turn → Reply
reply_of t = record { said = t.said; bytes = t.bytes; calls = t.calls }

abbrev pub replies_in : List ℕ → System → Play → List Reply
replies_in a s x = if is_label a (concerned s x.line) then reply_of (play_turn s x) ∷ [] else []

-- the replies of a run that concern application a
abbrev pub replies_to : List ℕ → System → List Play → List Reply
replies_to a s [] = []
replies_to a s (x ∷ xs) = replies_in a s x ++ replies_to a (play_turn s x).after xs

-- What its private machine answers.

-- the row of an input; ticks answer nothing
abbrev pub private_row : List ℕ → Machine → Input → Row
private_row a m (asks line g) = step m line g
private_row a m (comes v frame) = arrive a m v frame
private_row a m (passes n) = says (ticked n m) said.Ok

abbrev pub told : Input → Row → List Reply
told (asks line g) row = (record { said = row.said; bytes = row.bytes; calls = row.calls }) ∷ []
told (comes v frame) row = (record { said = row.said; bytes = row.bytes; calls = row.calls }) ∷ []
told (passes n) row = []

-- the replies of a machine to its inputs, with nothing else
abbrev pub private_replies : List ℕ → Machine → List Input → List Reply
private_replies a m [] = []
private_replies a m (i ∷ is) = told i (private_row a m i) ++ private_replies a (private_row a m i).machine is

abbrev pub private_machine : List ℕ → Machine → List Input → Machine
private_machine a m [] = m
private_machine a m (i ∷ is) = private_machine a (private_row a m i).machine is
