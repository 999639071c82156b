-- What a world in memory tells, and what each of its calls leaves.
use Rattle.std.specs.Prelude.{◌≡◌, ◌+◌, min, List, Some}
use Rattle.ark_media.specs.Journal.{Event}
use Rattle.ark_media.specs.Calls.{Told, Beside, Moves}
use Rattle.ark_memory.specs.Reels.{told_of}
use Rattle.ark_memory.specs.Plan.{turn_of}
use Rattle.ark_memory.specs.declared.world.MemoryWorld.{MemoryWorld}
use Rattle.ark_memory.specs.declared.schedule.Turn.{Turn}

abbrev pub told_by : MemoryWorld → Told
told_by w = told_of w.device w.disk_faults

abbrev pub beside_by : MemoryWorld → Beside
beside_by w = record {
  script = Some w.source;
  openings = w.openings.asked;
  attach_faults = w.attach_faults;
  source_faults = w.source_faults;
  sink_faults = w.sink_faults;
}

-- from the one to the other by calls of the disk alone
abbrev pub goes_by : MemoryWorld → List Event → MemoryWorld → Type 0
goes_by v events w = Moves events (told_by v) (told_by w) (beside_by v) (beside_by w)

-- what becomes of the next call
abbrev pub turn_at : MemoryWorld → Turn
turn_at w = turn_of w.schedule.fails.items w.schedule.calls w.schedule.made

-- a call was counted, and the plan and what can be attached or made stay
pub record TurnsOn (old new : MemoryWorld) : Type 0 where
  pub made : new.schedule.made ≡ min (old.schedule.made + 1) old.schedule.calls
  pub calls : new.schedule.calls ≡ old.schedule.calls
  pub plan : new.schedule.fails.items ≡ old.schedule.fails.items
  pub found : new.found.items ≡ old.found.items
  pub room : new.room ≡ old.room
