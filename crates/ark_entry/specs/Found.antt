-- The list that is found in the blocks of a log or queue.
use Rattle.std.specs.Prelude.{ℕ, zero, suc, ◌+◌, ◌%◌, List, [], ◌∷◌, length, nat_le, nat_lt, Option, Some, None, if◌then◌else◌}
use Rattle.ark_base.specs.declared.kind.Kind.{Kind}
use Rattle.ark_entry.specs.Header.{Header, header_of}
use Rattle.ark_entry.specs.Entry.{entry_blocks, entry_at}

-- a first number and the payloads from it on
pub record Entries : Type 0 where
  pub first : ℕ
  pub payloads : List (List ℕ)

-- the list, or the number at which it is damaged
pub data Found : Type 0 where
  found : Entries → Found
  damaged : ℕ → Found

-- the payload, where so many blocks were used and its blocks fit the ring too
abbrev pub that_fits : ℕ → ℕ → Option (List ℕ) → Option (List ℕ)
that_fits room used None = None
that_fits room used (Some payload) = if nat_le (used + entry_blocks (length payload)) room then Some payload else None

-- The entries one behind another from place p on, of this number and those after it, while they fit. No ring has more
-- entries than blocks: `n` is how many may still come.
abbrev pub taken : List (List ℕ) → ℕ → ℕ → ℕ → ℕ → List (List ℕ)
taken ring zero p number used = []
taken ring (suc n) p number used = elim (that_fits (length ring) used (entry_at ring p number)) as (λ _. List (List ℕ)) [
  | None ↦ []
  | Some payload ↦ payload ∷ taken ring n ((p + entry_blocks (length payload)) % length ring) (number + 1) (used + entry_blocks (length payload))
]

-- fewer entries than the header counts: damaged at the first that is missing
abbrev pub counted : Header → List (List ℕ) → Found
counted h payloads = if nat_lt (length payloads) h.count then damaged (h.first + length payloads) else found (record { first = h.first; payloads = payloads })

abbrev pub found_from : Option Header → List (List ℕ) → Found
found_from None ring = damaged 0
found_from (Some h) ring = counted h (taken ring (length ring) h.start h.first 0)

-- what the blocks of an area say, its header first
abbrev pub found_of : Kind → List (List ℕ) → Found
found_of kind [] = damaged 0
found_of kind (header ∷ ring) = found_from (header_of kind (length ring) header) ring
