-- Devices and their slots, worked out.
use Rattle.std.proofs.Common.{◌≡◌, ℕ, List, [], ◌∷◌, take, replicate, set, codes, refl, Ok, Err, slice_range}
use Rattle.ark_base.specs.declared.kind.Kind.TheVariants.{Raw}
use Rattle.ark_media.specs.Journal.{zero_block}
use Rattle.std.specs.List.{range_with_len}
use Rattle.ark_table.specs.Superblock.{superblock}
use Rattle.ark_table.specs.Slots.{Slot, slot_bytes, slots_of}

superblock_begins : take 18 (superblock 200) ≡ 65 ∷ (82 ∷ (82 ∷ (65 ∷ (75 ∷ (73 ∷ (83 ∷ (49 ∷ (0 ∷ (0 ∷ (0 ∷ (0 ∷ (0 ∷ (0 ∷ (0 ∷ (200 ∷ (0 ∷ (128 ∷ [])))))))))))))))))
unfolding superblock
superblock_begins = refl

-- the application a has the label s on the 71 blocks of data of 200 blocks
one : Slot
one = record { index = 1; app = codes "a"; label = codes "s"; kind = Raw; blocks = range_with_len 129 71 }

slot_begins : take 10 (slot_bytes one) ≡ 86 ∷ (83 ∷ (65 ∷ (49 ∷ (1 ∷ (1 ∷ (1 ∷ (97 ∷ (0 ∷ (0 ∷ [])))))))))
unfolding one
slot_begins = refl

slot_run : slice_range (slot_bytes one) 38 47 ≡ 0 ∷ (0 ∷ (0 ∷ (129 ∷ (0 ∷ (0 ∷ (0 ∷ (71 ∷ (0 ∷ []))))))))
unfolding one
slot_run = refl

image : List (List ℕ)
image = superblock 200 ∷ (slot_bytes one ∷ replicate 198 zero_block)

slots : slots_of image ≡ Ok (one ∷ [])
unfolding image one superblock
slots = refl

-- a byte 1 at the end of block 0
last_byte : slots_of (set image 0 (set (superblock 200) 511 1)) ≡ Err 0
unfolding image one superblock
last_byte = refl

-- one block fewer than the superblock says
cut : slots_of (take 199 image) ≡ Err 0
unfolding image one superblock
cut = refl

no_block : slots_of [] ≡ Err 0
no_block = refl

-- a byte 1 behind the slot's one run
past_the_run : slots_of (set image 1 (set (slot_bytes one) 46 1)) ≡ Err 1
unfolding image one superblock
past_the_run = refl

-- the same slot twice: the second breaks a rule against the first
twice : slots_of (set image 2 (slot_bytes one)) ≡ Err 2
unfolding image one superblock
twice = refl
