-- What a log posts writes whole blocks.
use Rattle.std.proofs.Common.{◌≡◌, ℕ, zero, suc, ◌+◌, ◌-◌, ◌*◌, ◌<◌, List, length, take, drop, get_or, ◌%◌, refl, ap, ◌∙◌, arith, length-append, length-drop}
use Rattle.std.proofs.lemmas.List.{length-take-le}
use Rattle.ark_base.specs.declared.kind.Kind.{Kind}
use Rattle.ark_entry.specs.Header.{Header, bytes_of}
use Rattle.ark_entry.specs.Entry.{entry_blocks, entry_bytes, marked, marker}
use Rattle.ark_entry.specs.Found.{Entries}
use Rattle.ark_entry.proofs.Entries.{length-spelling, marked-is}
use Rattle.ark_entry.proofs.Readings.{some_block}
use Rattle.ark_caladan.specs.Chain.{Command, append, trim, pop, blocks_of, next_number}
use Rattle.ark_caladan.specs.Leaves.{freed_by}
use Rattle.ark_caladan.specs.Listed.{WritesFull}
use Rattle.ark_caladan.specs.Plans.{drop_stages, header_after, stages_of}
use Rattle.ark_caladan.specs.Postings.{buffer_of, bytes_block, drop_postings, flushes, posted_call, postings_of}
use Rattle.ark_caladan.specs.Stages.{calls_of, syncs}
use Rattle.ark_caladan.proofs.Viewed.{length-ring_places}

block_full : (bytes : List ℕ) (n k : ℕ) → length bytes ≡ 512 * n → k < n → length (bytes_block bytes k) ≡ 512
block_full bytes n k long less =
    let left = length-drop (512 * k) bytes in
    length-take-le 512 (drop (512 * k) bytes) (omega (arith, left, long, less))

marked_long : (number next : ℕ) (payload : List ℕ) → length (marked (entry_bytes number next payload)) ≡ 512 * entry_blocks (length payload)
marked_long number next payload = ap length (marked-is number next payload) ∙ length-spelling number next payload

entry_long : (number next : ℕ) (payload : List ℕ) → length (entry_bytes number next payload) ≡ 512 * entry_blocks (length payload)
entry_long number next payload =
    let xs = entry_bytes number next payload in
    let some = some_block (length payload) in
    let whole = marked_long number next payload in
    let both = length-append (take (length (entry_bytes number next payload) - 8) (entry_bytes number next payload)) marker in
    let front = length-take-le (length (entry_bytes number next payload) - 8) (entry_bytes number next payload) (omega arith) in
    let eight : length marker ≡ 8 = refl in
    omega (arith, some, whole, both, front, eight)

module _ (kind : Kind) (room : ℕ) (blocks header : List ℕ) (h : Header) (stored : List (List ℕ)) (l : Entries) where
  drops : (new_header : List ℕ) (freed : ℕ) → length new_header ≡ 512 → (i k : ℕ) → k < calls_of (get_or (drop_stages room new_header h stored freed) i syncs) → WritesFull (posted_call blocks (get_or (drop_postings room new_header h.start freed) i flushes) k)
  drops new_header freed long zero k less = block_full new_header 1 k (omega (arith, long)) less
  drops new_header freed long (suc zero) k less = tt
  drops new_header freed long (suc (suc zero)) k less = refl
  drops new_header freed long (suc (suc (suc zero))) k less = tt
  drops new_header freed long (suc (suc (suc (suc i)))) k less = tt

  pub posts_full : (c : Command) (i k : ℕ) → k < calls_of (get_or (stages_of kind room header h stored l c) i syncs) → WritesFull (posted_call blocks (get_or (postings_of kind room h l c) i flushes) k)
  posts_full (append n payload) zero k less =
      block_full (buffer_of room (h.start + blocks_of l.payloads) (next_number l) payload) (entry_blocks (length payload)) k (entry_long (next_number l) ((h.start + blocks_of l.payloads + entry_blocks (length payload)) % room) payload)
      (let many = length-ring_places room h.start (length stored) (entry_blocks (length payload)) in omega (arith, less, many))
  posts_full (append n payload) (suc zero) k less = tt
  posts_full (append n payload) (suc (suc zero)) k less =
      let whole = marked_long (next_number l) ((h.start + blocks_of l.payloads + entry_blocks (length payload)) % room) payload in
      let left = length-drop (512 * (entry_blocks (length payload) - 1)) (marked (buffer_of room (h.start + blocks_of l.payloads) (next_number l) payload)) in
      let some = some_block (length payload) in
      block_full (drop (512 * (entry_blocks (length payload) - 1)) (marked (buffer_of room (h.start + blocks_of l.payloads) (next_number l) payload))) 1 k (omega (arith, left, whole, some)) less
  posts_full (append n payload) (suc (suc (suc zero))) k less = tt
  posts_full (append n payload) (suc (suc (suc (suc i)))) k less = tt
  posts_full (trim n) i k less = drops (bytes_of kind (header_after room h l (trim n))) (freed_by l (trim n)) refl i k less
  posts_full (pop n) zero k less = tt
  posts_full (pop n) (suc i) k less = drops (bytes_of kind (header_after room h l (pop n))) (freed_by l (pop n)) refl i k less
