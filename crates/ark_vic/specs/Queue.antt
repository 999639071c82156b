-- A ring as two lists.
use Rattle.std.specs.Prelude.{◌+◌, ◌++◌, ◌∷◌, ℕ, List, [], length, drop}
use Rattle.ark_base.specs.declared.kind.Outcome.{Outcome}
use Rattle.ark_vic.specs.declared.descriptor.Descriptor.{Descriptor}
use Rattle.ark_vic.specs.declared.descriptor.Completion.{Completion}

-- what contracts see of a ring: the posted descriptors and the unreaped completions, oldest first, how many blocks the oldest
-- posted descriptor has moved, and how many members there may be
pub record Queue : Type 0 where
  pub posted : List Descriptor
  pub unreaped : List Completion
  pub moved : ℕ
  pub size : ℕ

-- how many there are in both lists together
abbrev pub members : Queue → ℕ
members q = length q.posted + length q.unreaped

-- what is left of a descriptor that has ended
abbrev pub completion_of : Descriptor → Outcome → ℕ → Completion
completion_of d outcome len = record { job = d.job; tag = d.tag; outcome = outcome; len = len; buf = d.buf }

-- the ring after its oldest posted descriptor d has ended
abbrev pub finished : Queue → Descriptor → Outcome → ℕ → Queue
finished q d outcome len = record q { posted = drop 1 q.posted; unreaped = q.unreaped ++ completion_of d outcome len ∷ []; moved = 0 }
