-- Rings worked out: what the laws ask for can be met.
use Rattle.std.proofs.Common.{◌≡◌, ◌<◌, ◌≤◌, ◌⊎◌, inl, inr, ℕ, zero, suc, List, [], ◌∷◌, ◌++◌, Some, take, drop, replicate, length, refl, arith}
use Rattle.ark_base.specs.declared.kind.Kind.TheVariants.{Log}
use Rattle.ark_media.specs.Blocks.{blocks_in}
use Rattle.ark_media.specs.Journal.{zero_block}
use Rattle.ark_entry.specs.Header.{header_bytes}
use Rattle.ark_entry.specs.Entry.{AreWhole, entry_bytes, marked, entry_at}
use Rattle.ark_entry.specs.Found.{Entries, found, found_of}
use Rattle.ark_entry.specs.Reading.{reading, Finds, Stands, HasList, IsDamaged}
use Rattle.ark_entry.specs.Repair.{blocks_read, Zeroes}
use Rattle.ark_entry.specs.Writing.{at, Between, Appends, drafted, finished, zeroed}
use Rattle.ark_entry.proofs.Worked.{wrapped}
use Rattle.ark_entry.proofs.Entries.{written_is_found}
use Rattle.ark_entry.proofs.Readings.{found_stands, stands_is_list, damaged_means}
use Rattle.ark_entry.proofs.Appending.{idle_finds, body_finds, marking_finds, more_stands}
use Rattle.ark_entry.proofs.Dropping.{dropping_finds}
use Rattle.ark_entry.proofs.Repairing.{repair_finds, read_stands}

-- the entry whose two blocks are the last and the first of a ring of three
wrapped_ring : List (List ℕ)
wrapped_ring = drop 512 wrapped ∷ (zero_block ∷ (take 512 wrapped ∷ []))

wrapped_whole : AreWhole wrapped_ring
unfolding wrapped_ring
wrapped_whole zero lt = refl
wrapped_whole (suc zero) lt = refl
wrapped_whole (suc (suc zero)) lt = refl
wrapped_whole (suc (suc (suc u))) lt = absurd (omega (arith, lt))

wrapped_is_found : entry_at wrapped_ring 2 2 ≡ Some (replicate 600 7)
unfolding wrapped_ring
wrapped_is_found = written_is_found wrapped_ring 2 2 (replicate 600 7) wrapped_whole (omega arith) (omega arith) (omega arith) (omega arith) (omega arith) refl

wrapped_list : Entries
wrapped_list = record { first = 2; payloads = replicate 600 7 ∷ [] }

has_wrapped : HasList Log (header_bytes Log 2 2 1 1) wrapped_ring wrapped_list
unfolding wrapped_ring wrapped_list
has_wrapped = found_stands Log (header_bytes Log 2 2 1 1) wrapped_ring wrapped_whole (omega arith) wrapped_list refl

finds_wrapped : found_of Log (header_bytes Log 2 2 1 1 ∷ wrapped_ring) ≡ found wrapped_list
unfolding wrapped_ring wrapped_list
finds_wrapped = stands_is_list Log (header_bytes Log 2 2 1 1) wrapped_ring wrapped_whole (omega arith) wrapped_list has_wrapped

-- the header counts one more
one_missing : IsDamaged Log (header_bytes Log 2 2 2 1) wrapped_ring 3
unfolding wrapped_ring
one_missing = damaged_means Log (header_bytes Log 2 2 2 1) wrapped_ring wrapped_whole (omega arith) 3 refl

-- entry 1 with the one byte 104, the first of a ring of four blocks
abbrev pub stored : List (List ℕ)
stored = marked (entry_bytes 1 1 (104 ∷ [])) ∷ []

abbrev pub acked : List (List ℕ)
acked = (104 ∷ []) ∷ []

pub stands : Stands 4 0 (at stored) 0 1 acked 1
stands = (
  record {
    tag = refl;
    size = refl;
    short = omega arith;
    num = refl;
    low = omega arith;
    next = refl;
    fits = omega arith;
    mark = refl;
    content = refl;
  },
  refl,
)

-- an entry of two blocks has room behind it
abbrev pub payload : List ℕ
payload = replicate 485 3

appends : Appends 4 0 stored 1 acked payload
appends = record { stands = stands; short = omega arith; low = omega arith; fits = omega arith; few = omega arith }

idle : Finds 4 0 (at stored) 0 1 acked
idle = idle_finds 4 0 stored 1 acked stands (omega arith) (at stored) (λ u lt. inl refl)

with_draft : Finds 4 0 (at (drafted 4 0 stored 1 acked payload)) 0 1 acked
with_draft = body_finds 4 0 stored 1 acked payload appends (at (drafted 4 0 stored 1 acked payload)) (λ u lt. inr refl)

with_marker : Finds 4 0 (at (finished 4 0 stored 1 acked payload)) 0 1 acked ⊎ Finds 4 0 (at (finished 4 0 stored 1 acked payload)) 0 1 (acked ++ payload ∷ [])
with_marker = marking_finds 4 0 stored 1 acked payload appends (at (finished 4 0 stored 1 acked payload)) (λ u lt. inr refl)

both_stand : Stands 4 0 (at (finished 4 0 stored 1 acked payload)) 0 1 (acked ++ payload ∷ []) 3
unfolding blocks_in
both_stand = more_stands 4 0 stored 1 acked payload appends

-- the ring after the entry is dropped, its block zero already
dropped_ring : List (List ℕ)
dropped_ring = replicate 4 zero_block

dropped_between : Between 4 stored (zeroed 1 stored) (reading dropped_ring 0)
unfolding dropped_ring
dropped_between zero lt = inr refl
dropped_between (suc zero) lt = inr refl
dropped_between (suc (suc zero)) lt = inr refl
dropped_between (suc (suc (suc zero))) lt = inr refl
dropped_between (suc (suc (suc (suc u)))) lt = absurd (omega (arith, lt))

dropped : Finds 4 1 (reading dropped_ring 1) 0 2 []
unfolding dropped_ring
dropped = dropping_finds dropped_ring 0 stored 1 acked [] stands (omega arith) (omega arith) 1 stands dropped_between

-- a draft behind the list is made zero
drafted_whole : (v : ℕ) → v < 4 → length (at (drafted 4 0 stored 1 acked payload) v) ≡ 512
unfolding blocks_in
drafted_whole zero lt = refl
drafted_whole (suc zero) lt = refl
drafted_whole (suc (suc zero)) lt = refl
drafted_whole (suc (suc (suc v))) lt = refl

zeroes : Zeroes 4 1 (at (drafted 4 0 stored 1 acked payload)) (at stored)
zeroes = record { kept = kept; rest = rest }
  where
    kept : (v : ℕ) → v < 1 → at stored v ≡ at (drafted 4 0 stored 1 acked payload) v
    kept zero lt = refl
    kept (suc v) lt = absurd (omega (arith, lt))

    rest : (v : ℕ) → 1 ≤ v → v < 4 → (at stored v ≡ at (drafted 4 0 stored 1 acked payload) v) ⊎ (at stored v ≡ zero_block)
    rest zero le lt = absurd (omega (arith, le))
    rest (suc v) le lt = inr refl

repaired : Finds 4 0 (at stored) 0 1 acked
repaired = repair_finds 4 0 (at (drafted 4 0 stored 1 acked payload)) (at stored) 1 acked drafted_whole zeroes with_draft

read_again : Stands 4 0 (at (blocks_read (at (drafted 4 0 stored 1 acked payload)) 0 1)) 0 1 acked 1
read_again = read_stands 4 0 (at (drafted 4 0 stored 1 acked payload)) 1 acked with_draft
