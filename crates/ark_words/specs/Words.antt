-- The set of commands, as words of the command line.
use Rattle.std.specs.Prelude.{◌≡◌, ◌≢◌, ◌≤◌, ◌<◌, ◌^◌, ℕ, List, [], ◌∷◌, Option, Some, None, IfSome, codes, decimal}
use Rattle.ark_words.specs.Sorted.{Text, Sorted, sorted}

-- what a command asks for, as plain data
pub data Command : Type 0 where
  -- the blocks of the device, where it is to be made, and the device
  run : Option ℕ → Text → Command
  -- the device
  check : Text → Command
  -- the seed, the lines and the device
  work : ℕ → ℕ → Text → Command

-- the first word is the name, and those after it sort into these
abbrev pub SortsInto : List Text → Text → Sorted → Type 0
SortsInto words name s = (rest : List Text) × (words ≡ name ∷ rest) × (sorted rest ≡ Some s)

-- the words for a number that may be given: in decimal, with no sign and no leading zero
abbrev pub given : Option ℕ → List Text
given None = []
given (Some n) = decimal n ∷ []

-- a device that is made has from 130 to 1,048,576 blocks
abbrev pub IsDeviceSize : ℕ → Type 0
IsDeviceSize n = (130 ≤ n) × (n ≤ 1048576)

-- the words are of the set of commands, and give this one
abbrev pub IsCommand : List Text → Command → Type 0
IsCommand words (run blocks device) =
    SortsInto words (codes "run") (record { new = given blocks; plain = device ∷ [] }) × IfSome blocks IsDeviceSize × (device ≢ [])
IsCommand words (check device) =
    SortsInto words (codes "check") (record { new = []; plain = device ∷ [] }) × (device ≢ [])
IsCommand words (work seed lines device) =
    SortsInto words (codes "work") (record { new = []; plain = decimal seed ∷ decimal lines ∷ device ∷ [] })
    × (seed < 2 ^ 64) × (lines ≤ 1000000) × (device ≢ [])
