-- What a move of its card makes of an open log.
use Rattle.std.specs.Prelude.{◌≡◌, ℕ, List, [], ◌∷◌, Some, if◌then◌else◌}
use Rattle.ark_media.specs.Journal.{Event, History}
use Rattle.ark_media.specs.Calls.{Makes}
use Rattle.ark_media.specs.Standing.{after}
use Rattle.ark_region.specs.Frames.{Space}
use Rattle.ark_vsic.specs.Card.{Areas, Card}
use Rattle.ark_vsic.specs.Moves.{Leaves, answer_of, calls_of, due_of, worked}
use Rattle.ark_vsic.specs.declared.due.Moved.{Moved}
use Rattle.ark_caladan.specs.Chain.{Opened}
use Rattle.ark_caladan.specs.Stages.{event_took}
use Rattle.ark_log.specs.declared.stage.Stage.{Stage}
use Rattle.ark_log.specs.Stands.{stage_does}

-- a card has moved, for an application that holds these areas, with these events and this answer
pub record HasMoved (card : Card) (held : Areas) (now : ℕ) (h : History) (old new : Space) (events : List Event) (result : Moved) : Type 0 where
  pub makes : Makes (calls_of card (due_of card held now) old) (worked result) events
  pub answer : result ≡ answer_of card (due_of card held now) (worked result)
  pub taken : new.taken ≡ old.taken
  pub leaves : Leaves card (due_of card held now) (worked result) (Some (after h events)) old new

-- the write of a stage that decides has taken, or not; others decide nothing
abbrev pub decided_by : Stage → Event → Opened → Opened
decided_by stage e o = record o { decided = if (stage_does stage).1 then event_took e else o.decided }

abbrev pub decided_by_all : Stage → List Event → Opened → Opened
decided_by_all stage [] o = o
decided_by_all stage (e ∷ es) o = decided_by_all stage es (decided_by stage e o)
