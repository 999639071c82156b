-- Where the blocks of an application's areas lie.
use Rattle.std.specs.Prelude.{ℕ, ◌<◌, All}
use Rattle.ark_held.specs.Words.{AreaList}

-- a device of so many blocks has each block of these areas
abbrev pub AreasInside : ℕ → AreaList → Type 0
AreasInside size areas = All (λ area. All (λ n. n < size) area.1.spans) areas
