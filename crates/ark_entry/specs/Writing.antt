-- The blocks of an entry as they are written, and a ring while that is done.
use Rattle.std.specs.Prelude.{◌≡◌, ◌⊎◌, ◌<◌, ◌≤◌, ℕ, ◌+◌, ◌%◌, ◌^◌, List, ◌++◌, length, drop, get_or, replicate}
use Rattle.ark_media.specs.Blocks.{blocks_in}
use Rattle.ark_media.specs.Journal.{zero_block}
use Rattle.ark_entry.specs.Entry.{entry_blocks, entry_bytes, marked}
use Rattle.ark_entry.specs.Reading.{Stands}

-- the block at a place of a ring that is zero behind these blocks
abbrev pub at : List (List ℕ) → ℕ → List ℕ
at blocks u = get_or blocks u zero_block

-- at each place the block of the one ring or of the other
abbrev pub Between : ℕ → List (List ℕ) → List (List ℕ) → (ℕ → List ℕ) → Type 0
Between room a b r = (u : ℕ) → u < room → (r u ≡ at a u) ⊎ (r u ≡ at b u)

-- the blocks of an entry, without the marker and with it
abbrev pub draft : ℕ → ℕ → List ℕ → List (List ℕ)
draft number next payload = blocks_in (entry_blocks (length payload)) (entry_bytes number next payload)

abbrev pub final : ℕ → ℕ → List ℕ → List (List ℕ)
final number next payload = blocks_in (entry_blocks (length payload)) (marked (entry_bytes number next payload))

-- The entries of a list stand in a ring's first blocks, and zeros behind them; one more entry has room there.
pub record Appends (room start : ℕ) (stored : List (List ℕ)) (first : ℕ) (acked : List (List ℕ)) (payload : List ℕ) : Type 0 where
  pub stands : Stands room start (at stored) 0 first acked (length stored)
  pub short : length payload ≤ 32768
  pub low : first + length acked ≤ 2 ^ 62
  pub fits : length stored + entry_blocks (length payload) ≤ room
  pub few : room < 2 ^ 32

-- the place behind the new entry, as its blocks say it
abbrev pub next_place : ℕ → ℕ → List (List ℕ) → List ℕ → ℕ
next_place room start stored payload = (start + length stored + entry_blocks (length payload)) % room

-- the new entry's blocks behind the stored ones, without the marker and with it
abbrev pub drafted : ℕ → ℕ → List (List ℕ) → ℕ → List (List ℕ) → List ℕ → List (List ℕ)
drafted room start stored first acked payload = stored ++ draft (first + length acked) (next_place room start stored payload) payload

abbrev pub finished : ℕ → ℕ → List (List ℕ) → ℕ → List (List ℕ) → List ℕ → List (List ℕ)
finished room start stored first acked payload = stored ++ final (first + length acked) (next_place room start stored payload) payload

-- the stored blocks, of which the first z are zero
abbrev pub zeroed : ℕ → List (List ℕ) → List (List ℕ)
zeroed z stored = replicate z zero_block ++ drop z stored
