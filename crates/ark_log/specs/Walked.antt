-- How an acknowledged entry is read.
use Rattle.std.specs.Prelude.{◌≡◌, ◌≤◌, ◌<◌, ℕ, ◌+◌, ◌-◌, ◌%◌, ◌^◌, List, [], ◌∷◌, take, sum_by, true, false, Result, Ok, Err}
use Rattle.ark_media.specs.Journal.{Event}
use Rattle.ark_media.specs.Calls.{Went}
use Rattle.ark_entry.specs.Entry.{entry_blocks}
use Rattle.ark_chain.specs.declared.reading.Reading.{Reading}
use Rattle.ark_chain.specs.Survey.{reads_at}
use Rattle.ark_chain.specs.Single.{behind}
use Rattle.ark_log.specs.declared.walking.ReadAt.{ReadAt}
use Rattle.ark_log.specs.declared.walking.ReadAt.TheVariants.{NoEntry, DeviceFault}
use Rattle.ark_log.specs.Open.{OpenChain}
use Rattle.ark_log.specs.Refused.{length_of}

-- the blocks of the first so many entries
abbrev pub blocks_before : OpenChain → ℕ → ℕ
blocks_before v entries = sum_by entry_blocks (take entries v.lengths)

-- an entry of this number is acknowledged, and no command drops it
abbrev pub HasAt : OpenChain → ℕ → Type 0
HasAt v n = (v.coming ≤ n) × (n < v.first + v.count)

-- the block of the ring where it begins
abbrev pub place_of : OpenChain → ℕ → ℕ
place_of v n = (v.start + blocks_before v (n - v.first)) % v.room

-- it is there, so long, and its ring is seen so from it on
pub record IsEntryAt (v : OpenChain) (n len : ℕ) (from : Reading) : Type 0 where
  pub there : HasAt v n
  pub is : len ≡ length_of v n
  pub short : len ≤ 32768
  pub fits : entry_blocks len ≤ v.room
  pub some : 0 < v.room
  pub few : v.room + 1 < 2 ^ 32
  pub seen : from ≡ record { start = place_of v n; room = v.room }

-- there is none; or there is, and a read failed
abbrev pub IsNotRead : OpenChain → ℕ → ReadAt → Type 0
IsNotRead v n NoEntry = ¬ HasAt v n
IsNotRead v n DeviceFault = HasAt v n

-- its blocks were read in turn, up to the first read that failed
abbrev pub WentToRead : {D : Type 0} → (D → List Event → D → Type 0) → OpenChain → ℕ → Result ℕ ReadAt → D → D → Type 0
WentToRead goes v n (Ok len) old new = Went goes (reads_at v.room (place_of v n) (0 ∷ behind (entry_blocks (length_of v n)))) true old new
WentToRead goes v n (Err NoEntry) old new = Went goes [] true old new
WentToRead goes v n (Err DeviceFault) old new =
    (count : ℕ) × (count ≤ entry_blocks (length_of v n)) × Went goes (reads_at v.room (place_of v n) (0 ∷ behind count)) false old new
