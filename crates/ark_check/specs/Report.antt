-- What the command `check` reports of a device.
use Rattle.std.specs.Prelude.{ℕ, List, [], ◌∷◌, ◌++◌, length, map, flat_map, codes, decimal, Result, Ok, Err}
use Rattle.ark_base.specs.declared.kind.Kind.{Kind}
use Rattle.ark_base.specs.declared.kind.Kind.TheVariants.{Raw, Log, Queue}
use Rattle.ark_extents.specs.Blocks.{runs_of}
use Rattle.ark_extents.specs.Views.{view_image}
use Rattle.ark_table.specs.Slots.{Slot, slots_of}
use Rattle.ark_entry.specs.Found.{Found, found, damaged, found_of}

abbrev pub kind_word : Kind → List ℕ
kind_word Raw = codes "raw"
kind_word Log = codes "log"
kind_word Queue = codes "queue"

-- of a list its first number and its length
abbrev pub found_words : Found → List ℕ
found_words (found l) = codes " " ++ decimal l.first ++ codes " " ++ decimal (length l.payloads)
found_words (damaged n) = codes " damaged " ++ decimal n

-- what is found in the blocks of a log or queue
abbrev pub contents : Kind → List (List ℕ) → List ℕ
contents Raw view = []
contents Log view = found_words (found_of Log view)
contents Queue view = found_words (found_of Queue view)

-- the number of a slot, whose area it has, its kind, and how many blocks it has in how many runs
abbrev pub slot_words : Slot → List ℕ
slot_words s =
    codes "slot " ++ decimal s.index ++ codes " " ++ s.app ++ codes " " ++ s.label ++ codes " " ++ kind_word s.kind
    ++ codes " " ++ decimal (length s.blocks) ++ codes " " ++ decimal (length (runs_of s.blocks))

abbrev pub slot_line : List (List ℕ) → Slot → List ℕ
slot_line image s = slot_words s ++ contents s.kind (view_image s.blocks image)

abbrev pub device_line : ℕ → ℕ → List ℕ
device_line blocks slots = codes "device " ++ decimal blocks ++ codes " " ++ decimal slots

-- the lines of a device with these slots
abbrev pub lines_with : List (List ℕ) → List Slot → List (List ℕ)
lines_with image slots = device_line (length image) (length slots) ∷ map (slot_line image) slots

abbrev pub report_lines : List (List ℕ) → Result (List Slot) ℕ → Result (List (List ℕ)) ℕ
report_lines image (Ok slots) = Ok (lines_with image slots)
report_lines image (Err block) = Err block

-- the lines of the report, or the block at which the slots are damaged
abbrev pub report : List (List ℕ) → Result (List (List ℕ)) ℕ
report image = report_lines image (slots_of image)

-- lines, each with its newline
abbrev pub text_of : List (List ℕ) → List ℕ
text_of lines = flat_map (λ l. l ++ 10 ∷ []) lines
