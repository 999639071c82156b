-- Where the header and the first block of the ring are zeros, the list is empty.
use Rattle.std.proofs.Common.{◌≡◌, ℕ, zero, suc, ◌<◌, ◌+◌, ◌-◌, ◌%◌, List, [], ◌∷◌, ◌&&◌, Option, Some, None, length, refl, ap, arith}
use Rattle.ark_base.specs.declared.kind.Kind.{Kind}
use Rattle.ark_media.specs.Journal.{block, zero_block}
use Rattle.ark_entry.specs.Header.{empty}
use Rattle.ark_entry.specs.Entry.{entry_at, is_head, is_marked, entry_blocks, length_in, payload_if}
use Rattle.ark_entry.specs.Found.{found, found_of, taken, that_fits, counted}

-- a zero block begins no entry
pub no_entry : (ring : List (List ℕ)) (p number : ℕ) → block ring p ≡ zero_block → entry_at ring p number ≡ None
no_entry ring p number zeros = ap (λ (head : List ℕ). payload_if (is_head (length ring) p number head && is_marked (block ring ((p + entry_blocks (length_in (block ring p)) - 1) % length ring))) ring p) zeros

pub none_taken : (ring : List (List ℕ)) (n p number used : ℕ) → entry_at ring p number ≡ None → taken ring n p number used ≡ []
none_taken ring zero p number used none = refl
none_taken ring (suc n) p number used none = ap (λ (o : Option (List ℕ)). elim (that_fits (length ring) used o) as (λ _. List (List ℕ)) [
  | None ↦ []
  | Some payload ↦ payload ∷ taken ring n ((p + entry_blocks (length payload)) % length ring) (number + 1) (used + entry_blocks (length payload))
]) none

first_none : (ring : List (List ℕ)) → (0 < length ring → block ring 0 ≡ zero_block) → taken ring (length ring) 0 1 0 ≡ []
first_none [] zeros = refl
first_none (b ∷ ring) zeros = none_taken (b ∷ ring) (length (b ∷ ring)) 0 1 0 (no_entry (b ∷ ring) 0 1 (zeros (omega arith)))

pub zeros_are_empty : (kind : Kind) (ring : List (List ℕ)) → (0 < length ring → block ring 0 ≡ zero_block) → found_of kind (zero_block ∷ ring) ≡ found (record { first = 1; payloads = [] })
zeros_are_empty kind ring zeros = ap (λ (payloads : List (List ℕ)). counted empty payloads) (first_none ring zeros)
