-- An opening that finds a whole entry without its marker behind the list, worked out.
use Rattle.std.proofs.Common.{inl, inr, ◌≡◌, ◌<◌, ◌⊎◌, ℕ, zero, suc, true, [], ◌∷◌, get_or, refl, arith}
use Rattle.ark_base.specs.declared.kind.Kind.TheVariants.{Log}
use Rattle.ark_media.specs.Blocks.{blocks_in}
use Rattle.ark_media.specs.Journal.{Event, History, Write, Sync, block, zero_block}
use Rattle.ark_media.specs.Standing.{after}
use Rattle.ark_entry.specs.Header.{empty}
use Rattle.ark_entry.specs.Entry.{AreWhole}
use Rattle.ark_caladan.specs.Views.{contents_at}
use Rattle.ark_caladan.specs.Leading.{AllIn}
use Rattle.ark_caladan.specs.Repairing.{Repair, IsRepair, repaired_view, Repairing}
use Rattle.ark_caladan.proofs.WorkedRings.{one, with_draft_found, repaired, repaired_header}
use Rattle.ark_caladan.proofs.WorkedDevice.{blocks, on_device, left_over}
use Rattle.ark_caladan.proofs.Repairing.{repair_begins, repair_moved}

-- the blocks of the entry are places 2 and 3, and the header is place 0
abbrev repair : Repair
repair = record { seen = contents_at left_over blocks; says = empty; list = one; header = repaired_header; new = repaired; places = 2 ∷ (3 ∷ (0 ∷ [])) }

all_whole : AreWhole (contents_at left_over blocks)
unfolding blocks_in
all_whole zero lt = refl
all_whole (suc zero) lt = refl
all_whole (suc (suc zero)) lt = refl
all_whole (suc (suc (suc zero))) lt = refl
all_whole (suc (suc (suc (suc zero)))) lt = refl
all_whole (suc (suc (suc (suc (suc k))))) lt = absurd (omega (arith, lt))

places_in : AllIn 5 (2 ∷ (3 ∷ (0 ∷ [])))
places_in zero lt = omega arith
places_in (suc zero) lt = omega arith
places_in (suc (suc zero)) lt = omega arith
places_in (suc (suc (suc i))) lt = absurd (omega (arith, lt))

all_differ : (k : ℕ) → k < 5 → (block (contents_at left_over blocks) k ≡ repaired_view 4 repair k) ⊎ ((i : ℕ) × (i < 3) × (get_or (2 ∷ (3 ∷ (0 ∷ []))) i 0 ≡ k))
unfolding blocks_in
all_differ zero lt = inr (2, omega arith, refl)
all_differ (suc zero) lt = inl refl
all_differ (suc (suc zero)) lt = inr (0, omega arith, refl)
all_differ (suc (suc (suc zero))) lt = inr (1, omega arith, refl)
all_differ (suc (suc (suc (suc zero)))) lt = inl refl
all_differ (suc (suc (suc (suc (suc k))))) lt = absurd (omega (arith, lt))

right : IsRepair Log 4 repair
unfolding blocks_in
right = record {
  size = refl;
  whole = all_whole;
  read = refl;
  is_found = with_draft_found;
  new_read = refl;
  first = refl;
  start = refl;
  count = omega arith;
  inside = places_in;
  all = all_differ;
}

abbrev synced : History
synced = record { base = left_over; journal = Sync true ∷ [] }

begun : Repairing Log 4 synced blocks repair 0 0
unfolding blocks_in
begun = repair_begins Log 4 blocks repair (record { base = left_over; journal = [] }) (Sync true) refl (omega arith) (on_device left_over refl) refl right refl

-- its first block is made zero
abbrev first_zero : Event
first_zero = Write 3 zero_block true true

moved : Repairing Log 4 (after synced (first_zero ∷ [])) blocks repair 0 1
unfolding blocks_in
moved = repair_moved Log 4 blocks repair synced 0 0 begun first_zero (omega arith) (true, (λ x. x), refl)
