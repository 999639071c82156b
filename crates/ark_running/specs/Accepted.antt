-- A command that an open log accepts, as its machine has it.
use Rattle.std.specs.Prelude.{[], ◌∷◌, ◌++◌, Some}
use Rattle.ark_caladan.specs.Chain as log
use Rattle.ark_caladan.specs.Chain.{Log, Opened}

-- one more command waits
abbrev pub with_one_more : Opened → log.Waiting → Opened
with_one_more o m = record o { waiting = o.waiting ++ m ∷ [] }

-- the log, open so
abbrev pub with_opened : Log → Opened → Log
with_opened g o = record g { opened = Some o }
