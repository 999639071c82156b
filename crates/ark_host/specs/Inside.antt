-- What the host grants, and what it has left, lies on the device, and no block is in two of that.
use Rattle.std.specs.Prelude.{ℕ, ◌<◌, ◌≤◌, All}
use Rattle.ark_held.specs.Inside.{AreasInside}
use Rattle.ark_plane.specs.Shared.{IsShared}
use Rattle.ark_host.specs.declared.host.Host.{Host}

-- a device of so many blocks, as large as one may be, has each block of the applications' areas, and each free one
abbrev pub IsInside : ℕ → Host → Type 0
IsInside size host = (130 ≤ size) × (size ≤ 1048576) × All (λ app. AreasInside size app.areas) host.apps.items × All (λ n. n < size) host.plane.free
    × IsShared size host.plane.table host.plane.free host.plane.failed

-- what lay on a device lies there still
abbrev pub KeepsInside : Host → Host → Type 0
KeepsInside old new = (size : ℕ) → IsInside size old → IsInside size new
