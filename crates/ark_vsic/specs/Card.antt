-- A storage card, and the areas that its descriptors may name.
use Rattle.std.specs.Prelude.{ℕ, ◌==◌, ◌++◌, Bool, not, List, [], ◌∷◌, Option, filter as select, if◌then◌else◌, slice_get}
use Rattle.std.specs.List.{list_any}
use Rattle.ark_vic.specs.Pace.{Pace}
use Rattle.ark_vic.specs.Queue.{Queue}
use Rattle.ark_vic.specs.declared.descriptor.Descriptor.{Descriptor}

-- what contracts see of a storage card: its ring, the grants of the areas that are bound to it, and what paces it
pub record Card : Type 0 where
  pub ring : Queue
  pub bound : List ℕ
  pub pace : Option Pace

-- of each area that an application holds, its grant and its blocks
abbrev pub Areas : Type 0
Areas = List (ℕ × List ℕ)

-- whether the area of a grant is among those bound
abbrev pub is_bound : ℕ → List ℕ → Bool
is_bound grant bound = list_any (λ b. b == grant) bound

-- with one more bound, unless it was
abbrev pub bound_with : ℕ → List ℕ → List ℕ
bound_with grant bound = if is_bound grant bound then bound else bound ++ grant ∷ []

abbrev pub bound_without : ℕ → List ℕ → List ℕ
bound_without grant bound = select (λ b. not (b == grant)) bound

-- the descriptor that the next move is of
abbrev pub head_of : Queue → Option Descriptor
head_of q = slice_get q.posted 0
