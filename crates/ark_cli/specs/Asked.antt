-- What words ask for, as the code says it.
use Rattle.std.specs.Prelude.{◌≡◌, ℕ, List, Some, None}
use Rattle.ark_words.specs.Words.{Command, run, check, work}
use Rattle.ark_cli.specs.Words.{IsRun, IsCheck, IsWork}
use Rattle.ark_cli.specs.declared.words.Asked.{Asked}
use Rattle.ark_cli.specs.declared.words.Asked.TheVariants.{New, Old, Check, Work}

-- a command is of this kind
abbrev pub IsOf : Asked → Command → Type 0
IsOf (New blocks device) c = c ≡ run (Some blocks) device.now
IsOf (Old device) c = c ≡ run None device.now
IsOf (Check device) c = c ≡ check device.now
IsOf (Work seed lines device) c = c ≡ work seed lines device.now

-- these words ask for it
abbrev pub IsAsked : List (List ℕ) → Asked → Type 0
IsAsked words (New blocks device) = IsRun words (Some blocks) device.now
IsAsked words (Old device) = IsRun words None device.now
IsAsked words (Check device) = IsCheck words device.now
IsAsked words (Work seed lines device) = IsWork words seed lines device.now
