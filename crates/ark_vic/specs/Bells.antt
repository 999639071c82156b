-- How often each bell of a door rang.
use Rattle.std.specs.Prelude.{ℕ, ◌+◌, ◌-◌, ◌^◌, min, Bool, true, false, List, [], ◌∷◌, if◌then◌else◌}
use Rattle.ark_vic.specs.declared.door.Bell.{Bell}
use Rattle.ark_vic.specs.declared.door.Bell.TheVariants.{Rx, Tx, Io}
use Rattle.ark_vic.specs.declared.door.Counts.{Counts}

-- a count stands still at the end of its type
abbrev pub standing : ℕ → ℕ
standing n = min n (2 ^ 64 - 1)

abbrev pub is_rx : Bell → Bool
is_rx Rx = true
is_rx Tx = false
is_rx Io = false

abbrev pub is_tx : Bell → Bool
is_tx Rx = false
is_tx Tx = true
is_tx Io = false

abbrev pub is_io : Bell → Bool
is_io Rx = false
is_io Tx = false
is_io Io = true

-- how many of the bells are of a kind
abbrev pub times : (Bell → Bool) → List Bell → ℕ
times is [] = 0
times is (bell ∷ bells) = (if is bell then 1 else 0) + times is bells

-- what a door counts at which these bells rang
abbrev pub counts_of : List Bell → Counts
counts_of bells = record { rx = standing (times is_rx bells); tx = standing (times is_tx bells); io = standing (times is_io bells) }

-- the counts after one more ring
abbrev pub one_more : Counts → Bell → Counts
one_more c Rx = record c { rx = standing (c.rx + 1) }
one_more c Tx = record c { tx = standing (c.tx + 1) }
one_more c Io = record c { io = standing (c.io + 1) }
