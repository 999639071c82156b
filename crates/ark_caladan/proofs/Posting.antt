-- The calls of a command's descriptors are those of its stages.
use Rattle.std.proofs.Common.{◌≡◌, ◌⊎◌, inl, inr, ℕ, zero, suc, ◌+◌, ◌-◌, ◌*◌, ◌%◌, ◌<◌, ◌≤◌, List, length, drop, replicate, get_or, refl, sym, ◌∙◌, ap, arith, if◌then◌else◌}
use Rattle.std.proofs.Math.Nat.{mod-lt, mod-eq_of_lt, add-mod_left, mod-add-mod}
use Rattle.std.proofs.lemmas.Bool.{cases_lt, lt-ltb, le-ltb}
use Rattle.std.proofs.lemmas.List.{length-replicate, get_or-replicate, get_or_append_left, get_or-append_right, take_all}
use Rattle.ark_base.specs.declared.kind.Kind.{Kind}
use Rattle.ark_media.specs.Journal.{zero_block}
use Rattle.ark_media.specs.Calls.{Reads, Writes}
use Rattle.ark_entry.specs.Header.{Header}
use Rattle.ark_entry.specs.Entry.{entry_blocks, entry_bytes, marked}
use Rattle.ark_entry.specs.Found.{Entries}
use Rattle.ark_entry.specs.Writing.{at, draft, final, next_place, zeroed}
use Rattle.ark_entry.proofs.Drafts.{at_blocks}
use Rattle.ark_entry.proofs.Readings.{some_block}
use Rattle.ark_caladan.specs.Chain.{blocks_of, next_number}
use Rattle.ark_caladan.specs.Leaves.{with_draft, with_entry}
use Rattle.ark_caladan.specs.Views.{view_of}
use Rattle.ark_caladan.specs.Stages.{syncs, calls_of, call_of}
use Rattle.ark_caladan.specs.Plans.{ring_place, ring_places, append_stages, drop_stages}
use Rattle.ark_caladan.specs.Postings.{flushes, walked, bytes_block, posted_call, buffer_of, append_postings, drop_postings}
use Rattle.ark_caladan.proofs.Places.{view_at}
use Rattle.ark_caladan.proofs.Viewed.{length-ring_places, at_ring_place}

-- a descriptor's blocks wrap as the ring's places do
pub ring_walks : (room start u k : ℕ) → 0 < room → k < room → walked (suc room) (ring_place room start u) k ≡ ring_place room start (u + k)
ring_walks room start u k some lt = by (cases_lt (suc s + k) (suc room))
  where
    s : ℕ
    s = (start + u) % room

    low : (start + u) % room < room
    low = mod-lt (start + u) some

    goal_place : ((start + u) % room + k) % room ≡ (start + (u + k)) % room
    goal_place = let e : start + u + k ≡ start + (u + k) = omega arith in mod-add-mod (start + u) room k ∙ ap (λ n. n % room) e

    by : (suc ((start + u) % room) + k < suc room) ⊎ (suc room ≤ suc ((start + u) % room) + k) → walked (suc room) (ring_place room start u) k ≡ ring_place room start (u + k)
    by (inl inside) =
        let less : (start + u) % room + k < room = omega (arith, inside) in
        let out : suc ((start + u) % room) + k ≡ suc ((start + u) % room + k) = omega arith in
        ap (λ b. if b then suc ((start + u) % room) + k else 1 + (suc ((start + u) % room) + k - suc room)) (lt-ltb (suc ((start + u) % room) + k) (suc room) inside)
        ∙ out ∙ ap suc (sym (mod-eq_of_lt less) ∙ goal_place)
    by (inr past) =
        let whole : (start + u) % room + k ≡ room + ((start + u) % room + k - room) = omega (arith, past) in
        let rest : (start + u) % room + k - room < room = omega (arith, low, lt) in
        let same : 1 + (suc ((start + u) % room) + k - suc room) ≡ suc ((start + u) % room + k - room) = omega arith in
        ap (λ b. if b then suc ((start + u) % room) + k else 1 + (suc ((start + u) % room) + k - suc room)) (le-ltb (suc ((start + u) % room) + k) (suc room) past)
        ∙ same ∙ ap suc (sym (ap (λ n. n % room) whole ∙ add-mod_left room ((start + u) % room + k - room) ∙ mod-eq_of_lt rest) ∙ goal_place)

module _ (kind : Kind) (room : ℕ) (some : 0 < room) (blocks : List ℕ) (size : length blocks ≡ suc room) (header : List ℕ) (h : Header) (stored : List (List ℕ)) (l : Entries)
    (ls : h.start < room) (many : length stored ≡ blocks_of l.payloads) (fits : length stored ≤ room) where
  abbrev disk : ℕ → ℕ
  disk k = get_or blocks k 0

  -- block k of a descriptor over the ring
  walk : (u k n : ℕ) → k < n → n ≤ room → disk (walked (length blocks) (ring_place room h.start u) k) ≡ disk (get_or (ring_places room h.start u n) k 0)
  walk u k n lt le = ap disk (ap (λ m. walked m (ring_place room h.start u) k) size ∙ ring_walks room h.start u k some (omega (arith, lt, le)) ∙ sym (at_ring_place room h.start u n k lt))

  -- what a view has there
  shows : (head : List ℕ) (bs : List (List ℕ)) (u n k : ℕ) → k < n → u + n ≤ room → view_of room head h.start bs (get_or (ring_places room h.start u n) k 0) ≡ at bs (u + k)
  shows head bs u n k lt le = ap (view_of room head h.start bs) (at_ring_place room h.start u n k lt) ∙ view_at room head h.start bs (u + k) ls (omega (arith, lt, le))

  write_same : (a b : ℕ) (x y : List ℕ) → a ≡ b → x ≡ y → Writes a x ≡ Writes b y
  write_same a b x y e f = ap (λ (n : ℕ). Writes n x) e ∙ ap (λ (c : List ℕ). Writes b c) f

  module _ (payload : List ℕ) (room_for : length stored + entry_blocks (length payload) ≤ room) where
    abbrev count : ℕ
    count = entry_blocks (length payload)

    abbrev bytes : List ℕ
    bytes = entry_bytes (l.first + length l.payloads) (next_place room h.start stored payload) payload

    same_bytes : buffer_of room (h.start + blocks_of l.payloads) (next_number l) payload ≡ bytes
    same_bytes = ap (λ n. entry_bytes (l.first + length l.payloads) ((h.start + n + entry_blocks (length payload)) % room) payload) (sym many)

    append_first : (k : ℕ) → k < entry_blocks (length payload) → posted_call blocks (get_or (append_postings room h.start l payload) 0 flushes) k ≡ call_of blocks (get_or (append_stages room header h stored l payload) 0 syncs) k
    append_first k lt = write_same
        (disk (walked (length blocks) (ring_place room h.start (blocks_of l.payloads)) k)) (disk (get_or (ring_places room h.start (length stored) (entry_blocks (length payload))) k 0))
        (bytes_block (buffer_of room (h.start + blocks_of l.payloads) (next_number l) payload) k)
        (view_of room header h.start (with_draft room h stored l payload) (get_or (ring_places room h.start (length stored) (entry_blocks (length payload))) k 0))
        (ap (λ u. disk (walked (length blocks) (ring_place room h.start u) k)) (sym many) ∙ walk (length stored) k (entry_blocks (length payload)) lt (omega (arith, room_for)))
        (ap (λ (bs : List ℕ). bytes_block bs k) same_bytes ∙ sym (at_blocks (entry_blocks (length payload)) k bytes lt) ∙ sym there)
      where
        there : view_of room header h.start (with_draft room h stored l payload) (get_or (ring_places room h.start (length stored) (entry_blocks (length payload))) k 0)
            ≡ at (draft (l.first + length l.payloads) (next_place room h.start stored payload) payload) k
        there =
            let back : length stored + k - length stored ≡ k = omega arith in
            shows header (with_draft room h stored l payload) (length stored) (entry_blocks (length payload)) k lt room_for
            ∙ get_or-append_right stored (draft (l.first + length l.payloads) (next_place room h.start stored payload) payload) (length stored) (length stored + k) zero_block refl (omega arith)
            ∙ ap (at (draft (l.first + length l.payloads) (next_place room h.start stored payload) payload)) back

    append_second : posted_call blocks (get_or (append_postings room h.start l payload) 2 flushes) 0 ≡ call_of blocks (get_or (append_stages room header h stored l payload) 2 syncs) 0
    append_second = write_same
        (disk (walked (length blocks) (ring_place room h.start (blocks_of l.payloads + entry_blocks (length payload) - 1)) 0)) (disk (suc ((h.start + (length stored + entry_blocks (length payload) - 1)) % room)))
        (bytes_block (drop (512 * (entry_blocks (length payload) - 1)) (marked (buffer_of room (h.start + blocks_of l.payloads) (next_number l) payload))) 0)
        (view_of room header h.start (with_entry room h stored l payload) (suc ((h.start + (length stored + entry_blocks (length payload) - 1)) % room)))
        (ap (λ u. disk (walked (length blocks) (ring_place room h.start (u + entry_blocks (length payload) - 1)) 0)) (sym many)
        ∙ walk (length stored + entry_blocks (length payload) - 1) 0 1 (omega arith) (omega (arith, some)) ∙ ap disk (at_ring_place room h.start (length stored + entry_blocks (length payload) - 1) 1 0 (omega arith) ∙ zero_on))
        (ap (λ (bs : List ℕ). bytes_block (drop (512 * (entry_blocks (length payload) - 1)) (marked bs)) 0) same_bytes
        ∙ sym (at_blocks (entry_blocks (length payload)) (entry_blocks (length payload) - 1) (marked bytes) (omega (arith, some_block (length payload)))) ∙ sym there)
      where
        zero_on : suc ((h.start + (length stored + entry_blocks (length payload) - 1 + 0)) % room) ≡ suc ((h.start + (length stored + entry_blocks (length payload) - 1)) % room)
        zero_on = let e : h.start + (length stored + entry_blocks (length payload) - 1 + 0) ≡ h.start + (length stored + entry_blocks (length payload) - 1) = omega arith in ap (λ n. suc (n % room)) e

        there : view_of room header h.start (with_entry room h stored l payload) (suc ((h.start + (length stored + entry_blocks (length payload) - 1)) % room))
            ≡ at (final (l.first + length l.payloads) (next_place room h.start stored payload) payload) (entry_blocks (length payload) - 1)
        there =
            let last : length stored + entry_blocks (length payload) - 1 - length stored ≡ entry_blocks (length payload) - 1 = omega arith in
            view_at room header h.start (with_entry room h stored l payload) (length stored + entry_blocks (length payload) - 1) ls (omega (arith, room_for, some_block (length payload)))
            ∙ get_or-append_right stored (final (l.first + length l.payloads) (next_place room h.start stored payload) payload) (length stored) (length stored + entry_blocks (length payload) - 1) zero_block refl (omega (arith, some_block (length payload)))
            ∙ ap (at (final (l.first + length l.payloads) (next_place room h.start stored payload) payload)) last

    pub append_posts : (i k : ℕ) → i < 4 → k < calls_of (get_or (append_stages room header h stored l payload) i syncs)
        → posted_call blocks (get_or (append_postings room h.start l payload) i flushes) k ≡ call_of blocks (get_or (append_stages room header h stored l payload) i syncs) k
    append_posts zero k low lt = append_first k (omega (arith, lt, length-ring_places room h.start (length stored) (entry_blocks (length payload))))
    append_posts (suc zero) k low lt = refl
    append_posts (suc (suc zero)) zero low lt = append_second
    append_posts (suc (suc zero)) (suc k) low lt = absurd (omega (arith, lt))
    append_posts (suc (suc (suc zero))) k low lt = refl
    append_posts (suc (suc (suc (suc i)))) k low lt = absurd (omega (arith, low))

  module _ (new_header : List ℕ) (freed : ℕ) (low : freed ≤ length stored) where
    zeros_there : (k : ℕ) → k < freed → at (zeroed freed stored) (0 + k) ≡ zero_block
    zeros_there k lt =
        let e : 0 + k ≡ k = omega arith in
        ap (at (zeroed freed stored)) e ∙ get_or_append_left (replicate freed zero_block) (drop freed stored) zero_block k (omega (arith, lt, length-replicate freed zero_block)) ∙ get_or-replicate freed k zero_block zero_block lt

    drop_clears : (k : ℕ) → k < freed → posted_call blocks (get_or (drop_postings room new_header h.start freed) 2 flushes) k ≡ call_of blocks (get_or (drop_stages room new_header h stored freed) 2 syncs) k
    drop_clears k lt = write_same
        (disk (walked (length blocks) (ring_place room h.start 0) k)) (disk (get_or (ring_places room h.start 0 freed) k 0))
        zero_block (view_of room new_header h.start (zeroed freed stored) (get_or (ring_places room h.start 0 freed) k 0))
        (walk 0 k freed lt (omega (arith, low, fits)))
        (sym (shows new_header (zeroed freed stored) 0 freed k lt (omega (arith, low, fits)) ∙ zeros_there k lt))

    drop_heads : length new_header ≡ 512 → posted_call blocks (get_or (drop_postings room new_header h.start freed) 0 flushes) 0 ≡ call_of blocks (get_or (drop_stages room new_header h stored freed) 0 syncs) 0
    drop_heads long =
        let inside : 0 + 0 < length blocks = omega (arith, size) in
        write_same (disk (walked (length blocks) 0 0)) (disk 0) (bytes_block new_header 0) new_header
        (ap (λ b. disk (if b then 0 + 0 else 1 + (0 + 0 - length blocks))) (lt-ltb (0 + 0) (length blocks) inside)) (take_all 512 new_header (omega (arith, long)))

    pub drop_posts : length new_header ≡ 512 → (i k : ℕ) → i < 4 → k < calls_of (get_or (drop_stages room new_header h stored freed) i syncs)
        → posted_call blocks (get_or (drop_postings room new_header h.start freed) i flushes) k ≡ call_of blocks (get_or (drop_stages room new_header h stored freed) i syncs) k
    drop_posts long zero zero less lt = drop_heads long
    drop_posts long zero (suc k) less lt = absurd (omega (arith, lt))
    drop_posts long (suc zero) k less lt = refl
    drop_posts long (suc (suc zero)) k less lt = drop_clears k (omega (arith, lt, length-ring_places room h.start 0 freed))
    drop_posts long (suc (suc (suc zero))) k less lt = refl
    drop_posts long (suc (suc (suc (suc i)))) k less lt = absurd (omega (arith, less))

    pub pop_loads : (k : ℕ) → k < freed → Reads (disk (walked (length blocks) (ring_place room h.start 0) k)) ≡ Reads (disk (get_or (ring_places room h.start 0 freed) k 0))
    pop_loads k lt = ap Reads (walk 0 k freed lt (omega (arith, low, fits)))
