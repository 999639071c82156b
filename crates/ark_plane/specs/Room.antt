-- Why no more blocks are granted.
use Rattle.std.specs.Prelude.{◌≡◌, ◌<◌, ◌≤◌, ℕ, true, false, length, take}
use Rattle.ark_base.specs.declared.refusal.Refusal.{Refusal}
use Rattle.ark_base.specs.declared.refusal.Refusal.TheVariants as refusal
use Rattle.ark_extents.specs.Blocks.{runs_of}
use Rattle.ark_plane.specs.declared.plane.Plane.{Plane}

-- a plane has no room for so many more blocks, and this is the first reason
abbrev pub HasNoRoom : Plane → ℕ → Refusal → Type 0
HasNoRoom p n refusal.TableFailed = p.failed ≡ true
HasNoRoom p n refusal.NoSpace = (p.failed ≡ false) × (length p.free < n)
HasNoRoom p n refusal.Scattered = (p.failed ≡ false) × (n ≤ length p.free) × (16 < length (runs_of (take n p.free)))
HasNoRoom p n _ = ⊥
