-- A task as the command that it is.
use Rattle.ark_words.specs.Words.{Command, run, check, work}
use Rattle.ark_words.specs.declared.task.Task.{Task}
use Rattle.ark_words.specs.declared.task.Task.TheVariants.{Run, Check, Work}

abbrev pub told : Task → Command
told (Run new device) = run new device.now
told (Check device) = check device.now
told (Work seed lines device) = work seed lines device.now
