-- Which calls fail.
use Rattle.std.specs.Prelude.{ℕ, ◌<◌, ◌≤◌, ◌==◌, leb, List, [], ◌∷◌, if◌then◌else◌}
use Rattle.ark_memory.specs.declared.schedule.Fail.{Fail}
use Rattle.ark_memory.specs.declared.schedule.Turn.{Turn}
use Rattle.ark_memory.specs.declared.schedule.Turn.TheVariants as turn

-- what a plan says of a call: the first failure of this number counts
abbrev pub planned_for : List Fail → ℕ → Turn
planned_for [] call = turn.Works
planned_for (fail ∷ fails) call = if fail.call == call then turn.Fails fail.took fail.part else planned_for fails call

-- so many calls there are in all; from there on nothing is done
abbrev pub turn_of : List Fail → ℕ → ℕ → Turn
turn_of plan calls call = if leb calls call then turn.Over else planned_for plan call

-- whether there is a call of this number
abbrev pub IsTurn : Turn → ℕ → ℕ → Type 0
IsTurn turn.Works made calls = made < calls
IsTurn (turn.Fails took part) made calls = made < calls
IsTurn turn.Over made calls = calls ≤ made
