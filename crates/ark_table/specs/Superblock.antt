-- Block 0 of a device, and how a device is formatted.
use Rattle.std.specs.Prelude.{ℕ, List, [], ◌∷◌, ◌++◌, codes, replicate}
use Rattle.std.specs.Int.{w16, w64, to_be_bytes}
use Rattle.ark_media.specs.Calls.{Call, Writes, Syncs}

-- so many slots has a device's table
abbrev pub slot_count : ℕ
slot_count = 128

-- the superblock of a device of so many blocks: the magic word, its number of blocks, its number of slots, zeros
unfoldable pub superblock : ℕ → List ℕ
superblock blocks = codes "ARRAKIS1" ++ (to_be_bytes w64 blocks ++ (to_be_bytes w16 slot_count ++ replicate 494 0))

-- the device calls that format a device of so many blocks
abbrev pub format_calls : ℕ → List Call
format_calls blocks = Writes 0 (superblock blocks) ∷ Syncs ∷ []
