-- The slots of a device: blocks 1 to 128 of its image.
use Rattle.std.specs.Prelude.{◌≡◌, ◌<◌, ◌≤◌, Contains, ℕ, ◌+◌, List, [], ◌∷◌, ◌++◌, length, take, drop, map, count_by, Bool, true, false, not, ◌&&◌, nat_le, bytes_eq, Result, Ok, Err}
use Rattle.std.specs.List.{list_all}
use Rattle.ark_base.specs.declared.block.Span.{Span}
use Rattle.ark_base.specs.declared.kind.Kind.{Kind}
use Rattle.ark_base.specs.Name.{is_name}
use Rattle.ark_media.specs.Journal.{block}
use Rattle.ark_extents.specs.Blocks.{blocks_of, runs_of, AreDistinct}
use Rattle.ark_extents.specs.Runs.{are_apart}
use Rattle.ark_table.specs.Superblock.{superblock, slot_count}
use Rattle.ark_table.specs.Area.{Area, area_in, area_bytes, is_free, is_used, least_blocks}

-- a slot in use, with the blocks of its area in order
pub record Slot : Type 0 where
  pub index : ℕ
  pub app : List ℕ
  pub label : List ℕ
  pub kind : Kind
  pub blocks : List ℕ

abbrev pub slot_at : ℕ → Area → Slot
slot_at i a = record { index = i; app = a.app; label = a.label; kind = a.kind; blocks = blocks_of a.runs }

abbrev pub area_of : Slot → Area
area_of s = record { app = s.app; label = s.label; kind = s.kind; runs = runs_of s.blocks }

-- the block that says this slot
abbrev pub slot_bytes : Slot → List ℕ
slot_bytes s = area_bytes (area_of s)

-- the rules of a slot by itself, on a device of so many blocks
pub record IsRight (size : ℕ) (s : Slot) : Type 0 where
  pub app : is_name s.app ≡ true
  pub label : is_name s.label ≡ true
  pub some : least_blocks s.kind ≤ length s.blocks
  pub data_part : (n : ℕ) → Contains s.blocks n → (129 ≤ n) × (n < size)
  pub distinct : AreDistinct s.blocks
  pub few_runs : length (runs_of s.blocks) ≤ 16

-- an area, and the slot that says so
pub record HeldSlot : Type 0 where
  pub index : ℕ
  pub area : Area

-- no block is in both
abbrev pub share_no_block : List Span → List Span → Bool
share_no_block xs ys = list_all (λ x. list_all (are_apart x) ys) xs

abbrev pub is_same : Area → Area → Bool
is_same a b = bytes_eq a.app b.app && bytes_eq a.label b.label

-- so many of the areas are this application's
abbrev pub areas_with : List ℕ → List HeldSlot → ℕ
areas_with app held = count_by (λ h. bytes_eq app h.area.app) held

-- The rules against other slots: no shared block, no (application, label) twice, at most 8 slots of one application.
abbrev pub goes_with : List HeldSlot → Area → Bool
goes_with held a =
    list_all (λ h. share_no_block a.runs h.area.runs && not (is_same a h.area)) held
    && nat_le (areas_with a.app held + 1) 8

-- The slots up to some block, in rising order of their index, or the first block that breaks a rule.
abbrev Slots : Type 0
Slots = Result (List HeldSlot) ℕ

abbrev pub with_area : List HeldSlot → ℕ → Area → Bool → Slots
with_area held i a true = Ok (held ++ record { index = i; area = a } ∷ [])
with_area held i a false = Err i

-- with a block in use that may break a rule by itself
abbrev pub with_used : List HeldSlot → ℕ → List ℕ → Bool → Slots
with_used held i content true = with_area held i (area_in content) (goes_with held (area_in content))
with_used held i content false = Err i

abbrev pub with_block : ℕ → List HeldSlot → ℕ → List ℕ → Bool → Slots
with_block size held i content true = Ok held
with_block size held i content false = with_used held i content (is_used size content)

-- the block of slot i comes after those of the slots below it
abbrev pub and_then : ℕ → Slots → ℕ → List ℕ → Slots
and_then size (Err bad) i content = Err bad
and_then size (Ok held) i content = with_block size held i content (is_free content)

-- after these blocks, of slot i and of those that follow it
abbrev pub held_after : ℕ → Slots → ℕ → List (List ℕ) → Slots
held_after size slots i [] = slots
held_after size slots i (content ∷ blocks) = held_after size (and_then size slots i content) (i + 1) blocks

-- 130 to 1,048,576 blocks, and the superblock of a device of so many
abbrev pub is_device : List (List ℕ) → Bool
is_device image = nat_le 130 (length image) && (nat_le (length image) 1048576 && bytes_eq (block image 0) (superblock (length image)))

abbrev pub held_if : Bool → List (List ℕ) → Slots
held_if true image = held_after (length image) (Ok []) 1 (take slot_count (drop 1 image))
held_if false image = Err 0

-- the slots of an image, or the block at which it is damaged
abbrev pub held_of : List (List ℕ) → Result (List HeldSlot) ℕ
held_of image = held_if (is_device image) image

abbrev pub as_slots : Slots → Result (List Slot) ℕ
as_slots (Ok held) = Ok (map (λ h. slot_at h.index h.area) held)
as_slots (Err bad) = Err bad

abbrev pub slots_of : List (List ℕ) → Result (List Slot) ℕ
slots_of image = as_slots (held_of image)
