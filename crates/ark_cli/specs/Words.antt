-- The words of the command line that the program runs.
use Rattle.std.specs.Prelude.{◌≡◌, ◌⊎◌, ℕ, List, Option, Some, None}
use Rattle.ark_words.specs.Words.{IsCommand, run, check, work}
use Rattle.ark_report.specs.Work.{work_blocks}

-- the command `run` on a device, which is made first where a number of blocks is given
abbrev pub IsRun : List (List ℕ) → Option ℕ → List ℕ → Type 0
IsRun words blocks device = IsCommand words (run blocks device)

-- the command `check` on a device
abbrev pub IsCheck : List (List ℕ) → List ℕ → Type 0
IsCheck words device = IsCommand words (check device)

-- the command `work` with this seed, and so many lines behind the prelude
abbrev pub IsWork : List (List ℕ) → ℕ → ℕ → List ℕ → Type 0
IsWork words seed lines device = IsCommand words (work seed lines device)

-- a command that runs a script on a device of this name, which is to be made of so many blocks or attached as it is
abbrev pub RunsScript : List (List ℕ) → Option ℕ → List ℕ → Type 0
RunsScript words blocks device =
    IsRun words blocks device
    ⊎ ((blocks ≡ Some work_blocks) × (seed : ℕ) × (lines : ℕ) × IsWork words seed lines device)

-- any command on it
abbrev pub AsksFor : List (List ℕ) → Option ℕ → List ℕ → Type 0
AsksFor words blocks device =
    RunsScript words blocks device ⊎ ((blocks ≡ None) × IsCheck words device)

-- the words are no command
abbrev pub AreNoCommand : List (List ℕ) → Type 0
AreNoCommand words = (blocks : Option ℕ) (device : List ℕ) → AsksFor words blocks device → ⊥
