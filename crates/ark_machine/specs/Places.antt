-- The frames that buffers have, one by one.
use Rattle.std.specs.Prelude.{◌+◌, ◌<◌, ◌≤◌, ◌⊎◌, ℕ, List, [], ◌∷◌}
use Rattle.std.specs.List.{AllByRecursion}
use Rattle.ark_machine.specs.Bytes.{Frames}

-- frame j is one of these neighbouring frames
abbrev pub HasFrame : Frames → ℕ → Type 0
HasFrame f j = (f.0 ≤ j) × (j < f.0 + f.1)

-- frame j is one of those of a live buffer
abbrev pub IsLiveFrame : List Frames → ℕ → Type 0
IsLiveFrame [] j = ⊥
IsLiveFrame (f ∷ live) j = HasFrame f j ⊎ IsLiveFrame live j

-- each buffer has a frame at least
abbrev pub AreSized : List Frames → Type 0
AreSized live = AllByRecursion (λ f. 1 ≤ f.1) live
