-- What a plan says of a call.
use Rattle.std.proofs.Common.{ℕ, ◌<◌, ◌==◌, if◌then◌else◌, Bool, true, false, List, [], ◌∷◌}
use Rattle.ark_memory.specs.declared.schedule.Fail.{Fail}
use Rattle.ark_memory.specs.declared.schedule.Turn.TheVariants as turn
use Rattle.ark_memory.specs.Plan.{planned_for, IsTurn}

-- a plan ends no calls
pub is_turn : (plan : List Fail) (call made calls : ℕ) → made < calls → IsTurn (planned_for plan call) made calls
is_turn [] call made calls due = due
is_turn (fail ∷ fails) call made calls due = at (fail.call == call) (is_turn fails call made calls due)
  where
    at : (same : Bool) → IsTurn (planned_for fails call) made calls → IsTurn (if same then turn.Fails fail.took fail.part else planned_for fails call) made calls
    at true other = due
    at false other = other
