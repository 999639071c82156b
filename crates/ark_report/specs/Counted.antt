-- Lines of a script that were answered, whose replies were counted and not put out.
use Rattle.std.specs.Prelude.{◌≡◌, ℕ, List, ◌++◌, length, map}
use Rattle.ark_work.specs.Tallied.{Tells}
use Rattle.ark_work.specs.declared.tally.Tally.{Tally}
use Rattle.ark_media.specs.Journal.{Event, output_of, device_events}
use Rattle.ark_media.specs.Calls.{Told}
use Rattle.ark_media.specs.Parts.{EachIsWhole, joined}
use Rattle.ark_media.specs.Standing.{after}
use Rattle.ark_script.specs.Lines.{Meaning, EachSays}
use Rattle.ark_machine.specs.Replies.{system_after, EachAnswers}
use Rattle.ark_machine.specs.Fronts.{EachAtFronts}
use Rattle.ark_host.specs.declared.host.Host.{Host}
use Rattle.ark_host.specs.Stands.{Stands}
use Rattle.ark_answer.specs.Answered.{Whatever}

-- From the first host on, the lines of the script up to those that are left were answered: these are their parts, as a run puts
-- them out. The device's events came, and the tally is of the replies.
pub record CountedSoFar (first : Host) (script left : List (List ℕ)) (events : List Event)
    (host : Host) (told : Told) (tally : Tally) : Type 0 where
  pub lines : List (List ℕ)
  pub cut : script ≡ lines ++ left
  pub meanings : List Meaning
  pub says : EachSays lines meanings
  pub whole : List (List Event)
  pub parts : EachIsWhole whole
  pub count : length whole ≡ length meanings
  pub devices : device_events (joined whole) ≡ events
  pub tells : Tells tally (map output_of whole)
  pub each : Whatever first told events (λ s h. EachAnswers s meanings whole)
  pub stands : Whatever first told events (λ s h.
      Stands host told.blocks (after h events) (system_after s meanings whole))
  pub fronts : Whatever first told events (λ s h. EachAtFronts h.base h.journal s meanings whole)
