-- What an acknowledged command gives.
use Rattle.std.specs.Prelude.{ℕ, List, [], get_or}
use Rattle.ark_entry.specs.Found.{Entries}
use Rattle.ark_caladan.specs.Chain.{Command, append, trim, pop}

-- a pop the payload of the entry that it drops; others nothing
abbrev pub given_by : Entries → Command → List ℕ
given_by l (append n payload) = []
given_by l (trim n) = []
given_by l (pop n) = get_or l.payloads 0 []
