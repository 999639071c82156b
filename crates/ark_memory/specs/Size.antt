-- The base that is told has the size of the device, in blocks of 512 bytes.
use Rattle.std.specs.Prelude.{◌≡◌, ℕ, Bool, true, false, [], Option, Some, None, length, refl}
use Rattle.std.proofs.Common.{subst}
use Rattle.ark_media.specs.Journal.{History, AllBlocks, onto}
use Rattle.ark_memory.specs.Reels.{Reel, history_of, told_history}

-- the size of the base is this, where a history is told
abbrev HasSize : ℕ → Option History → Type 0
HasSize n None = Unit {0}
HasSize n (Some h) = length h.base ≡ n

has_size : (lost : Bool) (h : History) → HasSize (length h.base) (told_history lost h)
has_size true h = tt
has_size false h = refl

pub size_told : (r : Reel) (h : History) → history_of r ≡ Some h → length h.base ≡ length r.base
size_told r h is = subst (HasSize (length r.base)) is (has_size r.lost (record { base = r.base; journal = onto r.events [] }))

-- each block of the base has 512 bytes, where a history is told
abbrev HasBlocks : Option History → Type 0
HasBlocks None = Unit {0}
HasBlocks (Some h) = AllBlocks h.base

has_blocks : (lost : Bool) (h : History) → AllBlocks h.base → HasBlocks (told_history lost h)
has_blocks true h whole = tt
has_blocks false h whole = whole

pub blocks_told : (r : Reel) → AllBlocks r.base → (h : History) → history_of r ≡ Some h → AllBlocks h.base
blocks_told r whole h is = subst HasBlocks is (has_blocks r.lost (record { base = r.base; journal = onto r.events [] }) whole)
