-- Logs and queues, worked out.
use Rattle.std.proofs.Common.{◌≡◌, ℕ, List, [], ◌∷◌, ◌++◌, take, drop, replicate, codes, refl}
use Rattle.ark_base.specs.declared.kind.Kind.TheVariants.{Log, Queue}
use Rattle.ark_media.specs.Journal.{zero_block}
use Rattle.ark_entry.specs.Header.{header_bytes}
use Rattle.ark_entry.specs.Entry.{entry_blocks, entry_bytes, marked}
use Rattle.ark_entry.specs.Found.{found, damaged, found_of}

-- the entry 1 with the one byte 104 in a ring of three blocks, at its first
draft : List ℕ
draft = entry_bytes 1 1 (104 ∷ [])

draft_is : draft ≡ codes "ENT1" ++ (0 ∷ 0 ∷ 0 ∷ 1 ∷ 0 ∷ 0 ∷ 0 ∷ 0 ∷ 0 ∷ 0 ∷ 0 ∷ 1 ∷ 0 ∷ 0 ∷ 0 ∷ 1 ∷ 104 ∷ (replicate 483 0 ++ replicate 8 0))
unfolding draft
draft_is = refl

marked_is : marked draft ≡ codes "ENT1" ++ (0 ∷ 0 ∷ 0 ∷ 1 ∷ 0 ∷ 0 ∷ 0 ∷ 0 ∷ 0 ∷ 0 ∷ 0 ∷ 1 ∷ 0 ∷ 0 ∷ 0 ∷ 1 ∷ 104 ∷ (replicate 483 0 ++ codes "CALADAN!"))
unfolding draft
marked_is = refl

view : List ℕ → List (List ℕ)
view block = zero_block ∷ (block ∷ (zero_block ∷ (zero_block ∷ [])))

with_marker : found_of Log (view (marked draft)) ≡ found (record { first = 1; payloads = (104 ∷ []) ∷ [] })
unfolding draft view
with_marker = refl

without_marker : found_of Log (view draft) ≡ found (record { first = 1; payloads = [] })
unfolding draft view
without_marker = refl

-- a header that says of it that it is there
said_by : ℕ → ℕ → List ℕ → List (List ℕ)
said_by first count block = header_bytes Log first 0 count 1 ∷ (block ∷ (zero_block ∷ (zero_block ∷ [])))

counted : found_of Log (said_by 1 1 (marked draft)) ≡ found (record { first = 1; payloads = (104 ∷ []) ∷ [] })
unfolding draft said_by
counted = refl

-- the header counts more than there are
one_missing : found_of Log (said_by 1 2 (marked draft)) ≡ damaged 2
unfolding draft said_by
one_missing = refl

not_marked : found_of Log (said_by 1 1 draft) ≡ damaged 1
unfolding draft said_by
not_marked = refl

-- a queue is no log
other_kind : found_of Queue (said_by 1 1 (marked draft)) ≡ damaged 0
unfolding draft said_by
other_kind = refl

zeros : found_of Queue (replicate 8 zero_block) ≡ found (record { first = 1; payloads = [] })
zeros = refl

-- an entry of 600 bytes whose two blocks are the last and the first of a ring of three
abbrev pub wrapped : List ℕ
wrapped = marked (entry_bytes 2 1 (replicate 600 7))

wrapped_view : List (List ℕ)
wrapped_view = header_bytes Log 2 2 0 2 ∷ (drop 512 wrapped ∷ (zero_block ∷ (take 512 wrapped ∷ [])))

wraps : found_of Log wrapped_view ≡ found (record { first = 2; payloads = replicate 600 7 ∷ [] })
unfolding wrapped_view
wraps = refl

-- 1, 1, 2 and 65 blocks
blocks_taken : entry_blocks 0 ∷ (entry_blocks 484 ∷ (entry_blocks 485 ∷ (entry_blocks 32768 ∷ []))) ≡ 1 ∷ (1 ∷ (2 ∷ (65 ∷ [])))
blocks_taken = refl
