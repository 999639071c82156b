-- Which places an opening has to write: those of the ring behind the list that are not zero, and the header's.
use Rattle.std.proofs.Common.{◌≡◌, ◌⊎◌, inl, inr, ⊎_elim, ℕ, zero, suc, ◌+◌, ◌-◌, ◌%◌, ◌<◌, List, length, get_or, sym, ◌∙◌, ap, arith, if◌then◌else◌}
use Rattle.std.proofs.lemmas.Bool.{cases_lt, lt-ltb, le-ltb}
use Rattle.ark_media.specs.Journal.{block, zero_block}
use Rattle.ark_caladan.specs.Views.{repaired}

-- What a loop over the ring tests of each block is what `IsRepair` asks for: a block of the list is left, a zero block behind it too, and
-- any other is written; and so is the header.
pub places_suffice : (room start used : ℕ) (header : List ℕ) (seen : List (List ℕ)) (places : List ℕ)
    → ((q : ℕ) → q < room → ((q + room - start) % room < used) ⊎ ((block seen (suc q) ≡ zero_block) ⊎ ((i : ℕ) × (i < length places) × (get_or places i 0 ≡ suc q))))
    → ((i : ℕ) × (i < length places) × (get_or places i 0 ≡ 0))
    → (k : ℕ) → k < suc room → (block seen k ≡ repaired room start used header (block seen) k) ⊎ ((i : ℕ) × (i < length places) × (get_or places i 0 ≡ k))
places_suffice room start used header seen places ring first zero lt = inr first
places_suffice room start used header seen places ring first (suc q) lt = elim (cases_lt ((q + room - start) % room) used) [
  | inl inside ↦ inl (sym (ap (λ b. if b then block seen (suc q) else zero_block) (lt-ltb ((q + room - start) % room) used inside)))
  | inr past ↦ ⊎_elim
      (λ inside. absurd (omega (arith, inside, past)))
      (λ other. ⊎_elim (λ is. inl (is ∙ sym (ap (λ b. if b then block seen (suc q) else zero_block) (le-ltb ((q + room - start) % room) used past)))) (λ at. inr at) other)
      (ring q (omega (arith, lt)))
]
