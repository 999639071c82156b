-- A log in five blocks of a device, worked out: what the laws of open logs ask of a device can be met.
use Rattle.std.proofs.Common.{◌≡◌, ◌<◌, ℕ, zero, suc, List, [], ◌∷◌, ◌+◌, length, get_or, refl, arith}
use Rattle.ark_media.specs.Journal.{AllBlocks, block, zero_block}
use Rattle.ark_entry.proofs.WorkedRings.{stored}
use Rattle.ark_caladan.specs.Views.{OnDisk, view_of}
use Rattle.ark_caladan.proofs.WorkedRings.{ring, draft_ring}

-- the header in block 1, and the ring in blocks 2 to 5
abbrev pub blocks : List ℕ
blocks = 1 ∷ (2 ∷ (3 ∷ (4 ∷ (5 ∷ []))))

abbrev pub device : List (List ℕ)
device = zero_block ∷ (zero_block ∷ ring)

place : (k : ℕ) → k < 5 → get_or blocks k 0 ≡ k + 1
place zero lt = refl
place (suc zero) lt = refl
place (suc (suc zero)) lt = refl
place (suc (suc (suc zero))) lt = refl
place (suc (suc (suc (suc zero)))) lt = refl
place (suc (suc (suc (suc (suc k))))) lt = absurd (omega (arith, lt))

pub on_device : (base : List (List ℕ)) → length base ≡ 6 → OnDisk blocks base
on_device base six = record { inside = λ k lt. omega (arith, place k lt, six); apart = λ i k li lk same. omega (arith, place i li, place k lk, same) }

pub stands : (k : ℕ) → k < 5 → block device (get_or blocks k 0) ≡ view_of 4 zero_block 0 stored k
stands zero lt = refl
stands (suc zero) lt = refl
stands (suc (suc zero)) lt = refl
stands (suc (suc (suc zero))) lt = refl
stands (suc (suc (suc (suc zero)))) lt = refl
stands (suc (suc (suc (suc (suc k))))) lt = absurd (omega (arith, lt))

pub whole : AllBlocks device
whole zero lt = refl
whole (suc zero) lt = refl
whole (suc (suc zero)) lt = refl
whole (suc (suc (suc zero))) lt = refl
whole (suc (suc (suc (suc zero)))) lt = refl
whole (suc (suc (suc (suc (suc zero))))) lt = refl
whole (suc (suc (suc (suc (suc (suc n)))))) lt = absurd (omega (arith, lt))

-- a device whose ring has the whole draft, as an opening may find it
abbrev pub left_over : List (List ℕ)
left_over = zero_block ∷ (zero_block ∷ draft_ring)
