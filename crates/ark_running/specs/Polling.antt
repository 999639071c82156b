-- What a poll makes of an open log, as its machine has it.
use Rattle.std.specs.Prelude.{◌+◌, true, false, drop, Some}
use Rattle.ark_entry.specs.Found.{found}
use Rattle.ark_caladan.specs.Chain.{Command, Log, Opened, after_command, entries}

-- it has failed
abbrev pub failing : Opened → Opened
failing o = record o { failed = true }

-- the oldest command waits no more
abbrev pub oldest_done : Opened → Opened
oldest_done o = record o { waiting = drop 1 o.waiting; done = 0; decided = false }

-- it is applied to the list
abbrev pub acknowledging : Command → Log → Opened → Log
acknowledging c g o = record g { list = found (after_command (entries g.list) c); opened = Some (oldest_done o) }

-- one more of its stages is whole
abbrev pub one_done : Opened → Opened
one_done o = record o { done = o.done + 1 }
