-- A log or queue as its machine has it and as its area has it, at each moment. No standard fixes it.
use Rattle.std.specs.Prelude.{◌≡◌, ℕ, ◌-◌, Bool, true, false, not, List, get_or, Option, Some, None, if◌then◌else◌}
use Rattle.ark_media.specs.Journal.{Event, History}
use Rattle.ark_entry.specs.Found.{found}
use Rattle.ark_caladan.specs.Chain.{Log, Opened, commands, entries}
use Rattle.ark_caladan.specs.Listed.{IsListed}
use Rattle.ark_caladan.specs.Stages.{Stage, syncs, calls_of, took_by}
use Rattle.ark_caladan.specs.Open.{Layout, oldest_stages, log_moment, IsOpenWith}

-- What a log's card has of it: nothing; a descriptor that has made so many calls; one that has ended, with all calls made or not.
pub data Progress : Type 0 where
  idle : Progress
  posted : ℕ → Progress
  ended : Bool → Progress

-- so many calls of the stage are made
abbrev pub calls_made : Stage → Progress → ℕ
calls_made s idle = 0
calls_made s (posted n) = n
calls_made s (ended ok) = calls_of s

-- whether the log makes calls: it has not failed, and its descriptor has not ended badly
abbrev pub makes_calls : Opened → Progress → Bool
makes_calls o idle = not o.failed
makes_calls o (posted n) = not o.failed
makes_calls o (ended ok) = if ok then not o.failed else false

-- the stage of the oldest command that is next or under way
abbrev pub stage_at : Log → Opened → Layout → Stage
stage_at g o p = get_or (oldest_stages g.kind (g.blocks - 1) p (entries g.list) (commands o)) o.done syncs

-- an open log that goes on with its commands
pub record Proceeds (history : History) (blocks : List ℕ) (g : Log) (o : Opened) (p : Layout) (progress : Progress) : Type 0 where
  pub list : g.list ≡ found (entries g.list)
  pub is_open : IsOpenWith g.kind (g.blocks - 1) history blocks p (entries g.list) (commands o) o.done (calls_made (stage_at g o p) progress)
  pub decided : o.decided ≡ (log_moment g.kind (g.blocks - 1) p (entries g.list) (commands o) o.done (calls_made (stage_at g o p) progress)).took

-- A log proceeds, or it makes no calls: it is closed, damaged, or has failed.
abbrev pub OpenStands : Bool → History → List ℕ → Log → Opened → Layout → Progress → Type 0
OpenStands true history blocks g o p progress = Proceeds history blocks g o p progress
OpenStands false history blocks g o p progress = IsListed history blocks g

abbrev pub LogStandsAs : History → List ℕ → Log → Layout → Progress → Option Opened → Type 0
LogStandsAs history blocks g p progress None = IsListed history blocks g
LogStandsAs history blocks g p progress (Some o) = OpenStands (makes_calls o progress) history blocks g o p progress

abbrev pub LogStands : History → List ℕ → Log → Layout → Progress → Type 0
LogStands history blocks g p progress = LogStandsAs history blocks g p progress g.opened

-- what an event of a call of its stage leaves of the opened log
abbrev pub after_event : Opened → Stage → Event → Opened
after_event o s e = record o { decided = took_by o.decided s e }
