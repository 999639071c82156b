-- A list on the blocks of a ring of four, worked out: what the laws of its commands ask for can be met.
use Rattle.std.proofs.Common.{◌≡◌, ◌<◌, ◌≤◌, ◌⊎◌, inl, inr, ℕ, zero, suc, List, [], ◌∷◌, ◌++◌, replicate, refl, arith}
use Rattle.ark_base.specs.declared.kind.Kind.TheVariants.{Log}
use Rattle.ark_media.specs.Blocks.{blocks_in}
use Rattle.ark_media.specs.Journal.{zero_block}
use Rattle.ark_entry.specs.Header.{Header, header_bytes, empty}
use Rattle.ark_entry.specs.Entry.{AreWhole}
use Rattle.ark_entry.specs.Found.{Entries, found, found_of}
use Rattle.ark_entry.specs.Reading.{reading}
use Rattle.ark_entry.specs.Writing.{zeroed}
use Rattle.ark_entry.proofs.WorkedRings.{acked, payload, stands, stored}
use Rattle.ark_caladan.specs.Chain.{append, trim, after_command}
use Rattle.ark_caladan.specs.Numbers.{CanFollow}
use Rattle.ark_caladan.specs.Leaves.{LiesInRing, AreRingBlocks, RingHolds, HasRoom, with_draft, with_entry, HeaderAfter, Repairs}
use Rattle.ark_caladan.proofs.Leaving.{rest_is_found, draft_is_found, marker_is_found, entry_lies, dropped_is_found, rest_lies, rest_holds}
use Rattle.ark_caladan.proofs.Opening.{repaired_is_found, repaired_lies, repaired_holds}

-- one entry; the header is zeros
abbrev pub one : Entries
one = record { first = 1; payloads = acked }

abbrev pub ring : List (List ℕ)
ring = stored ++ replicate 3 zero_block

pub lies : LiesInRing Log 4 zero_block empty stored one
lies = record { read = refl; first = refl; count = omega arith; stands = stands; fits = omega arith }

pub has_room : HasRoom 4 stored one payload
has_room = record { short = omega arith; low = omega arith; fits = omega arith; few = omega arith }

is_ring : AreRingBlocks ring
is_ring = record { whole = whole; some = omega arith }
  where
    whole : AreWhole ring
    whole zero lt = refl
    whole (suc zero) lt = refl
    whole (suc (suc zero)) lt = refl
    whole (suc (suc (suc zero))) lt = refl
    whole (suc (suc (suc (suc u)))) lt = absurd (omega (arith, lt))

holds : RingHolds ring empty stored stored
holds zero lt = inl refl
holds (suc zero) lt = inl refl
holds (suc (suc zero)) lt = inl refl
holds (suc (suc (suc zero))) lt = inl refl
holds (suc (suc (suc (suc u)))) lt = absurd (omega (arith, lt))

at_rest : found_of Log (zero_block ∷ ring) ≡ found one
at_rest = rest_is_found Log zero_block empty ring stored one is_ring lies holds

-- an entry of two blocks behind it, without its marker and with it
abbrev pub draft : List (List ℕ)
draft = with_draft 4 empty stored one payload

abbrev pub final : List (List ℕ)
final = with_entry 4 empty stored one payload

abbrev pub draft_ring : List (List ℕ)
draft_ring = draft ++ zero_block ∷ []

abbrev pub final_ring : List (List ℕ)
final_ring = final ++ zero_block ∷ []

is_draft_ring : AreRingBlocks draft_ring
unfolding blocks_in
is_draft_ring = record { whole = whole; some = omega arith }
  where
    whole : AreWhole draft_ring
    whole zero lt = refl
    whole (suc zero) lt = refl
    whole (suc (suc zero)) lt = refl
    whole (suc (suc (suc zero))) lt = refl
    whole (suc (suc (suc (suc u)))) lt = absurd (omega (arith, lt))

is_final_ring : AreRingBlocks final_ring
unfolding blocks_in
is_final_ring = record { whole = whole; some = omega arith }
  where
    whole : AreWhole final_ring
    whole zero lt = refl
    whole (suc zero) lt = refl
    whole (suc (suc zero)) lt = refl
    whole (suc (suc (suc zero))) lt = refl
    whole (suc (suc (suc (suc u)))) lt = absurd (omega (arith, lt))

holds_draft : RingHolds draft_ring empty stored draft
unfolding blocks_in
holds_draft zero lt = inr refl
holds_draft (suc zero) lt = inr refl
holds_draft (suc (suc zero)) lt = inr refl
holds_draft (suc (suc (suc zero))) lt = inr refl
holds_draft (suc (suc (suc (suc u)))) lt = absurd (omega (arith, lt))

holds_final : RingHolds final_ring empty draft final
unfolding blocks_in
holds_final zero lt = inr refl
holds_final (suc zero) lt = inr refl
holds_final (suc (suc zero)) lt = inr refl
holds_final (suc (suc (suc zero))) lt = inr refl
holds_final (suc (suc (suc (suc u)))) lt = absurd (omega (arith, lt))

pub with_draft_found : found_of Log (zero_block ∷ draft_ring) ≡ found one
unfolding blocks_in
with_draft_found = draft_is_found Log zero_block empty draft_ring stored one is_draft_ring lies payload has_room holds_draft

one_or_two : (found_of Log (zero_block ∷ final_ring) ≡ found one) ⊎ (found_of Log (zero_block ∷ final_ring) ≡ found (after_command one (append 2 payload)))
unfolding blocks_in
one_or_two = marker_is_found Log zero_block empty final_ring stored one is_final_ring lies payload has_room holds_final

two_lie : LiesInRing Log 4 zero_block empty final (after_command one (append 2 payload))
two_lie = entry_lies Log 4 zero_block empty stored one lies payload has_room

-- a trim of the entry, and its header
pub fits : CanFollow one (trim 2)
fits = (omega arith, omega arith)

abbrev pub trimmed : Header
trimmed = record { first = 2; start = 1; count = 0; end = 1 }

abbrev pub trimmed_header : List ℕ
trimmed_header = header_bytes Log 2 1 0 1

pub header_after : HeaderAfter Log 4 trimmed_header empty one (trim 2) trimmed
header_after = record { read = refl; first = refl; start = refl; count = omega arith }

holds_zeroed : RingHolds ring empty stored (zeroed 1 stored)
holds_zeroed zero lt = inl refl
holds_zeroed (suc zero) lt = inl refl
holds_zeroed (suc (suc zero)) lt = inl refl
holds_zeroed (suc (suc (suc zero))) lt = inl refl
holds_zeroed (suc (suc (suc (suc u)))) lt = absurd (omega (arith, lt))

trimmed_found : found_of Log (trimmed_header ∷ ring) ≡ found (after_command one (trim 2))
trimmed_found = dropped_is_found Log zero_block trimmed_header empty trimmed ring stored one (trim 2) is_ring lies fits (omega arith) header_after holds_zeroed

none_lie : LiesInRing Log 4 trimmed_header trimmed [] (after_command one (trim 2))
none_lie = rest_lies Log 4 zero_block trimmed_header empty trimmed stored one (trim 2) lies fits (omega arith) header_after

zeros_ring : AreRingBlocks (replicate 4 zero_block)
zeros_ring = record { whole = all_whole; some = omega arith }
  where
    all_whole : AreWhole (replicate 4 zero_block)
    all_whole zero lt = refl
    all_whole (suc zero) lt = refl
    all_whole (suc (suc zero)) lt = refl
    all_whole (suc (suc (suc zero))) lt = refl
    all_whole (suc (suc (suc (suc u)))) lt = absurd (omega (arith, lt))

holds_zeros : RingHolds (replicate 4 zero_block) empty (zeroed 1 stored) (zeroed 1 stored)
holds_zeros zero lt = inl refl
holds_zeros (suc zero) lt = inl refl
holds_zeros (suc (suc zero)) lt = inl refl
holds_zeros (suc (suc (suc zero))) lt = inl refl
holds_zeros (suc (suc (suc (suc u)))) lt = absurd (omega (arith, lt))

none_hold : RingHolds (replicate 4 zero_block) trimmed [] []
none_hold = rest_holds Log zero_block trimmed_header empty trimmed (replicate 4 zero_block) stored one (trim 2) zeros_ring lies fits (omega arith) header_after holds_zeros

-- an opening that found the draft behind the list makes it zero, and writes a header that counts the entry
abbrev pub repaired : Header
repaired = record { first = 1; start = 0; count = 1; end = 1 }

abbrev pub repaired_header : List ℕ
repaired_header = header_bytes Log 1 0 1 1

repairs : Repairs Log zero_block empty draft_ring one repaired_header repaired ring
unfolding blocks_in
repairs = record { read = refl; first = refl; start = refl; count = omega arith; size = refl; zeroes = record { kept = kept; rest = rest } }
  where
    kept : (v : ℕ) → v < 1 → reading ring 0 v ≡ reading draft_ring 0 v
    kept zero lt = refl
    kept (suc v) lt = absurd (omega (arith, lt))

    rest : (v : ℕ) → 1 ≤ v → v < 4 → (reading ring 0 v ≡ reading draft_ring 0 v) ⊎ (reading ring 0 v ≡ zero_block)
    rest zero le lt = absurd (omega (arith, le))
    rest (suc zero) le lt = inr refl
    rest (suc (suc zero)) le lt = inr refl
    rest (suc (suc (suc zero))) le lt = inr refl
    rest (suc (suc (suc (suc v)))) le lt = absurd (omega (arith, lt))

repaired_found : found_of Log (repaired_header ∷ ring) ≡ found one
unfolding blocks_in
repaired_found = repaired_is_found Log zero_block empty draft_ring one is_draft_ring refl with_draft_found repaired_header repaired ring is_ring repairs

repaired_lie : LiesInRing Log 4 repaired_header repaired stored one
unfolding blocks_in
repaired_lie = repaired_lies Log zero_block empty draft_ring one is_draft_ring refl with_draft_found repaired_header repaired ring is_ring repairs

repaired_hold : RingHolds ring repaired stored stored
unfolding blocks_in
repaired_hold = repaired_holds Log zero_block empty draft_ring one is_draft_ring refl with_draft_found repaired_header repaired ring is_ring repairs behind
  where
    behind : (v : ℕ) → 1 ≤ v → v < 4 → reading ring 0 v ≡ zero_block
    behind zero le lt = absurd (omega (arith, le))
    behind (suc zero) le lt = refl
    behind (suc (suc zero)) le lt = refl
    behind (suc (suc (suc zero))) le lt = refl
    behind (suc (suc (suc (suc v)))) le lt = absurd (omega (arith, lt))
