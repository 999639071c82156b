-- Reports of two devices, worked out.
use Rattle.std.specs.Fmt.{digits}
use Rattle.std.proofs.Common.{◌≡◌, ℕ, true, List, [], ◌∷◌, replicate, set, take, codes, refl, Ok, Err}
use Rattle.ark_base.specs.declared.kind.Kind.TheVariants.{Raw, Log}
use Rattle.ark_media.specs.Journal.{block, zero_block}
use Rattle.std.specs.List.{range_with_len}
use Rattle.ark_table.specs.Superblock.{superblock}
use Rattle.ark_table.specs.Slots.{Slot, slot_bytes}
use Rattle.ark_script.specs.Line as w
use Rattle.ark_machine.specs.Row.{answer}
use Rattle.ark_machine.specs.Step.{step}
use Rattle.ark_machine.specs.System.{fresh_system}
use Rattle.ark_worked.proofs.Images.{image_after}
use Rattle.ark_worked.proofs.Playing.{Played, replies, performed}
use Rattle.ark_worked.proofs.Scripts as scripts
use Rattle.ark_base.specs.declared.status.Status.TheVariants.{Damaged}
use Rattle.ark_base.specs.Status.{code_of}
use Rattle.ark_cli.specs.Ending.{closing_words}
use Rattle.ark_check.specs.Report.{report}

area : ℕ → List ℕ → List ℕ → Slot
area i label blocks = record { index = i; app = codes "a"; label = label; kind = Raw; blocks = blocks }

-- one area of all blocks
full : List (List ℕ)
full = superblock 200 ∷ (slot_bytes (area 1 (codes "s") (range_with_len 129 71)) ∷ replicate 198 zero_block)

full_report : report full ≡ Ok (codes "device 200 1" ∷ (codes "slot 1 a s raw 71 1" ∷ []))
unfolding full area superblock digits
full_report = refl

-- an area that grew behind another one
grown : List (List ℕ)
grown =
    superblock 200
    ∷ (slot_bytes (area 1 (codes "s") (129 ∷ (130 ∷ (132 ∷ (133 ∷ [])))))
    ∷ (slot_bytes (area 2 (codes "t") (131 ∷ [])) ∷ replicate 197 zero_block))

grown_report : report grown ≡ Ok (codes "device 200 2" ∷ (codes "slot 1 a s raw 4 2" ∷ (codes "slot 2 a t raw 1 1" ∷ [])))
unfolding grown area superblock digits
grown_report = refl

-- a log of zeros
logs : List (List ℕ)
logs = superblock 200 ∷ (slot_bytes (record { index = 1; app = codes "a"; label = codes "l"; kind = Log; blocks = range_with_len 129 4 }) ∷ replicate 198 zero_block)

log_report : report logs ≡ Ok (codes "device 200 1" ∷ (codes "slot 1 a l log 4 1 1 0" ∷ []))
unfolding logs superblock digits
log_report = refl

no_superblock : report (replicate 200 zero_block) ≡ Err 0
unfolding superblock
no_superblock = refl

-- a device that was formatted, and no more
formatted_report : report (image_after 200 []) ≡ Ok (codes "device 200 0" ∷ [])
unfolding superblock digits
formatted_report = refl

-- A script that grants all blocks to one application, and none to a second one; and the image that it leaves.

abbrev all_taken : List Played
all_taken =
    scripts.app (codes "a")
    ∷ (w.vsa (codes "a") (codes "s") 71 Raw, scripts.granting (scripts.area 1 (codes "a") (codes "s") Raw 129 71))
    ∷ scripts.app (codes "b")
    ∷ scripts.quiet (w.vsa (codes "b") (codes "t") 1 Raw)
    ∷ []

all_taken_replies : replies (fresh_system 200) all_taken ≡ codes "ok" ∷ (codes "ok" ∷ (codes "ok" ∷ (codes "refused 10 no space" ∷ [])))
unfolding step answer digits
all_taken_replies = refl

all_taken_performed : performed (fresh_system 200) all_taken ≡ true
unfolding step answer
all_taken_performed = refl

abbrev left : List (List ℕ)
left = image_after 200 all_taken

left_report : report left ≡ Ok (codes "device 200 1" ∷ (codes "slot 1 a s raw 71 1" ∷ []))
unfolding superblock digits
left_report = refl

-- the same image with another byte at a place of a block
abbrev with_byte : ℕ → ℕ → ℕ → List (List ℕ)
with_byte n place byte = set left n (set (block left n) place byte)

-- the last byte of the superblock is no zero
wrong_superblock : report (with_byte 0 511 1) ≡ Err 0
unfolding superblock
wrong_superblock = refl

-- the device was cut short
cut_short : report (take 199 left) ≡ Err 0
unfolding superblock
cut_short = refl

-- a byte of the slot's unused part is no zero
wrong_slot : report (with_byte 1 46 1) ≡ Err 1
unfolding superblock
wrong_slot = refl

-- the closing line and the status of a device that is damaged there
damaged_line : closing_words (Damaged 0) ≡ codes "fault damaged 0"
unfolding digits
damaged_line = refl

damaged_code : code_of (Damaged 0) ≡ 6
damaged_code = refl
