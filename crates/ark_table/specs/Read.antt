-- What reading a slot's block comes to.
use Rattle.std.specs.Prelude.{◌≡◌, ℕ, List, true, false}
use Rattle.ark_table.specs.declared.reading.Content.{Content}
use Rattle.ark_table.specs.declared.reading.Content.TheVariants.{Free, Used, Broken}
use Rattle.ark_table.specs.Area.{area_in, is_free, is_used}
use Rattle.ark_table.specs.Stated.{stated}

-- a block was read as a slot's, on a device of so many blocks
abbrev pub IsRead : ℕ → List ℕ → Content → Type 0
IsRead size block Free = is_free block ≡ true
IsRead size block (Used slot) = (is_free block ≡ false) × (is_used size block ≡ true) × (stated slot ≡ area_in block)
IsRead size block Broken = (is_free block ≡ false) × (is_used size block ≡ false)
