-- The blocks of an entry, without the marker and with it.
use Rattle.std.proofs.Common.{◌≡◌, ℕ, zero, suc, ◌+◌, ◌-◌, ◌*◌, ◌%◌, ◌^◌, ◌<◌, ◌≤◌, List, ◌++◌, length, take, drop, replicate, refl, sym, ◌∙◌, ap, arith, slice_range, length-append}
use Rattle.std.specs.Int.{w32, w64, from_be_bytes}
use Rattle.std.proofs.Math.Seq.{drop-append-add}
use Rattle.std.proofs.lemmas.List.{take_all, take-take, take-append-drop, take-append-le, drop-drop, drop-take, drop-append-le, length-take-le, length-drop, length-replicate, drop-replicate}
use Rattle.std.proofs.lemmas.Nat.{from_be_bytes-to_be_bytes_4, from_be_bytes-to_be_bytes_8}
use Rattle.ark_media.specs.Blocks.{blocks_in}
use Rattle.ark_media.proofs.Flat.{length-blocks_in, none_left}
use Rattle.ark_entry.specs.Entry.{entry_blocks, length_in, marker, head_bytes, entry_bytes, marked}
use Rattle.ark_entry.specs.Reading.{bytes_from, Entry}
use Rattle.ark_entry.specs.Writing.{at, draft, final}
use Rattle.ark_entry.proofs.Entries.{blocks_hold, gap, spelling, length-spelling, marked-is, last_bytes, middle_bytes, says_length}
use Rattle.ark_entry.proofs.Readings.{some_block}
use Rattle.ark_entry.proofs.Standing.{bytes_same}

pub at_blocks : (n k : ℕ) (bytes : List ℕ) → k < n → at (blocks_in n bytes) k ≡ take 512 (drop (512 * k) bytes)
unfolding blocks_in
at_blocks zero k bytes lt = absurd (omega arith)
at_blocks (suc n) zero bytes lt = refl
at_blocks (suc n) (suc k) bytes lt =
    let e : 512 + 512 * k ≡ 512 * suc k = omega arith in
    at_blocks n k (drop 512 bytes) (omega arith) ∙ ap (λ t. take 512 t) (drop-drop (512 * k) 512 bytes ∙ ap (λ j. drop j bytes) e)

bytes_of_blocks : (n : ℕ) (bytes : List ℕ) → length bytes ≡ 512 * n → bytes_from (at (blocks_in n bytes)) 0 n ≡ bytes
unfolding blocks_in
bytes_of_blocks zero bytes is = sym (none_left bytes (omega (arith, is)))
bytes_of_blocks (suc n) bytes is =
    let left : length (drop 512 bytes) ≡ 512 * n = length-drop 512 bytes ∙ omega (arith, is) in
    let rest : bytes_from (at (blocks_in (suc n) bytes)) (0 + 1) n ≡ bytes_from (at (blocks_in n (drop 512 bytes))) 0 n =
    bytes_same (at (blocks_in (suc n) bytes)) (at (blocks_in n (drop 512 bytes))) (0 + 1) 0 n (λ k lt.
    let one : 0 + 1 + k ≡ suc k = omega arith in
    let none : k ≡ 0 + k = omega arith in
    ap (at (blocks_in (suc n) bytes)) one ∙ ap (at (blocks_in n (drop 512 bytes))) none) in
    ap (λ t. take 512 bytes ++ t) (rest ∙ bytes_of_blocks n (drop 512 bytes) left) ∙ take-append-drop 512 bytes

-- the last eight of zeros behind some bytes
zeros_end : (bytes : List ℕ) (n m : ℕ) → n ≡ m + 8 → drop (length bytes + m) (bytes ++ replicate n 0) ≡ replicate 8 0
zeros_end bytes n m is =
    let eight : n - m ≡ 8 = omega (arith, is) in
    drop-append-add bytes (replicate n 0) m ∙ drop-replicate m n 0 ∙ ap (λ j. replicate j 0) eight

module _ (number next : ℕ) (payload : List ℕ) where
  abbrev blocks : ℕ
  blocks = entry_blocks (length payload)

  length-entry_bytes : length (entry_bytes number next payload) ≡ 512 * blocks
  length-entry_bytes =
      let len = length payload in
      let hold : 28 + len ≤ 512 * entry_blocks len = (blocks_hold len).0 in
      let zeros : List ℕ = replicate (512 * entry_blocks len - (20 + len)) 0 in
      let many : length zeros ≡ 512 * entry_blocks len - (20 + len) = length-replicate {A = ℕ} (512 * entry_blocks len - (20 + len)) 0 in
      let rest : length (payload ++ zeros) ≡ len + length zeros = length-append payload zeros in
      let whole : length (entry_bytes number next payload) ≡ 20 + length (payload ++ zeros) = length-append (head_bytes len number next) (payload ++ zeros) in
      omega (arith, whole, rest, many, hold)

  pub length-draft : length (draft number next payload) ≡ blocks
  length-draft = length-blocks_in blocks (entry_bytes number next payload)

  pub length-final : length (final number next payload) ≡ blocks
  length-final = length-blocks_in blocks (marked (entry_bytes number next payload))

  -- the last eight bytes
  last_of : (bytes : List ℕ) → length bytes ≡ 512 * blocks → drop 504 (at (blocks_in blocks bytes) (blocks - 1)) ≡ drop (512 * blocks - 8) bytes
  last_of bytes long =
      let some : 1 ≤ blocks = some_block (length payload) in
      let left : length (drop (512 * (blocks - 1)) bytes) ≡ length bytes - 512 * (blocks - 1) = length-drop (512 * (blocks - 1)) bytes in
      let cut : 512 * (blocks - 1) + 504 ≡ 512 * blocks - 8 = omega (arith, some) in
      ap (λ t. drop 504 t) (at_blocks blocks (blocks - 1) bytes (omega (arith, some)) ∙ take_all 512 (drop (512 * (blocks - 1)) bytes) (omega (arith, left, long, some)))
      ∙ drop-drop 504 (512 * (blocks - 1)) bytes ∙ ap (λ j. drop j bytes) cut

  -- zeros behind the payload, and how many of them stand before the last eight
  abbrev pad : ℕ
  pad = 512 * entry_blocks (length payload) - (20 + length payload)

  abbrev before_last : ℕ
  before_last = 512 * entry_blocks (length payload) - 28 - length payload

  ends_front : drop (512 * blocks - 8) (entry_bytes number next payload) ≡ drop (length payload + before_last) (payload ++ replicate pad 0)
  ends_front =
      let hold : 28 + length payload ≤ 512 * entry_blocks (length payload) = (blocks_hold (length payload)).0 in
      let cut : 512 * entry_blocks (length payload) - 8 ≡ 20 + (length payload + before_last) = omega (arith, hold) in
      ap (λ j. drop j (entry_bytes number next payload)) cut
      ∙ drop-append-add (head_bytes (length payload) number next) (payload ++ replicate pad 0) (length payload + before_last)

  ends_back : drop (length payload + before_last) (payload ++ replicate pad 0) ≡ replicate 8 0
  ends_back = let hold : 28 + length payload ≤ 512 * entry_blocks (length payload) = (blocks_hold (length payload)).0 in zeros_end payload pad before_last (omega (arith, hold))

  pub draft_ends : drop 504 (at (draft number next payload) (blocks - 1)) ≡ replicate 8 0
  draft_ends = last_of (entry_bytes number next payload) length-entry_bytes ∙ ends_front ∙ ends_back

  length-marked : length (marked (entry_bytes number next payload)) ≡ 512 * blocks
  length-marked = ap (λ t. length t) (marked-is number next payload) ∙ length-spelling number next payload

  pub final_ends : drop 504 (at (final number next payload) (blocks - 1)) ≡ marker
  final_ends = last_of (marked (entry_bytes number next payload)) length-marked ∙ ap (λ t. drop (512 * blocks - 8) t) (marked-is number next payload) ∙ last_bytes number next payload

  -- the first block says the entry's length
  draft_head : at (draft number next payload) 0 ≡ take 512 (entry_bytes number next payload)
  draft_head = at_blocks blocks 0 (entry_bytes number next payload) (some_block (length payload))

  pub draft_says : length payload < 2 ^ 32 → length_in (at (draft number next payload) 0) ≡ length payload
  draft_says few = ap length_in draft_head ∙ says_length (length payload) number next (payload ++ replicate (512 * entry_blocks (length payload) - (20 + length payload)) 0) few

  final_head : at (final number next payload) 0 ≡ take 512 (spelling number next payload)
  final_head = at_blocks blocks 0 (marked (entry_bytes number next payload)) (some_block (length payload)) ∙ ap (λ t. take 512 t) (marked-is number next payload)

  -- the marker changes the last block alone
  pub final_others : (k : ℕ) → k < blocks - 1 → at (final number next payload) k ≡ at (draft number next payload) k
  final_others k lt =
      let bytes : List ℕ = entry_bytes number next payload in
      let cut : length bytes - 8 ≡ 512 * k + (length bytes - 8 - 512 * k) = omega (arith, length-entry_bytes, lt) in
      let front : length (take (length bytes - 8) bytes) ≡ length bytes - 8 = length-take-le (length bytes - 8) bytes (omega arith) in
      let left : length (drop (512 * k) (take (length bytes - 8) bytes)) ≡ length (take (length bytes - 8) bytes) - 512 * k = length-drop (512 * k) (take (length bytes - 8) bytes) in
      at_blocks blocks k (marked bytes) (omega (arith, lt))
      ∙ ap (λ t. take 512 t) (drop-append-le (512 * k) (take (length bytes - 8) bytes) marker (omega (arith, front, length-entry_bytes, lt)))
      ∙ take-append-le 512 (drop (512 * k) (take (length bytes - 8) bytes)) marker (omega (arith, left, front, length-entry_bytes, lt))
      ∙ ap (λ j. take 512 (drop (512 * k) (take j bytes))) cut
      ∙ ap (λ t. take 512 t) (drop-take (512 * k) (length bytes - 8 - 512 * k) bytes)
      ∙ take-take 512 (length bytes - 8 - 512 * k) (drop (512 * k) bytes) (omega (arith, length-entry_bytes, lt))
      ∙ sym (at_blocks blocks k bytes (omega (arith, lt)))

  -- where the final blocks stand in a reading, the entry stands
  pub final_stands : (room start u : ℕ) (r : ℕ → List ℕ) → length payload ≤ 32768 → number ≤ 2 ^ 62 → u + blocks ≤ room → next < 2 ^ 32 → next ≡ (start + u + blocks) % room
      → ((k : ℕ) → k < blocks → r (u + k) ≡ at (final number next payload) k) → Entry room start r u number payload
  unfolding spelling gap
  final_stands room start u r short low fits few is same =
      let some : 1 ≤ blocks = some_block (length payload) in
      let u0 : u ≡ u + 0 = omega arith in
      let head : r u ≡ take 512 (spelling number next payload) = ap r u0 ∙ same 0 some ∙ final_head in
      let end : u + blocks - 1 ≡ u + (blocks - 1) = omega (arith, some) in
      record {
        tag = ap (λ (t : List ℕ). take 4 t) head;
        size = ap length_in head ∙ from_be_bytes-to_be_bytes_4 (length payload) (omega (arith, short));
        short = short;
        num = ap (λ (t : List ℕ). from_be_bytes w64 (slice_range t 8 16)) head ∙ from_be_bytes-to_be_bytes_8 number (omega (arith, low));
        low = low;
        next = ap (λ (t : List ℕ). from_be_bytes w32 (slice_range t 16 20)) head ∙ from_be_bytes-to_be_bytes_4 next few ∙ is;
        fits = fits;
        mark = ap (λ j. drop 504 (r j)) end ∙ ap (λ (t : List ℕ). drop 504 t) (same (blocks - 1) (omega (arith, some))) ∙ final_ends;
        content = ap (λ (t : List ℕ). slice_range t 20 (20 + length payload))
            (bytes_same r (at (final number next payload)) u 0 blocks (λ k lt. let none : k ≡ 0 + k = omega arith in same k lt ∙ ap (at (final number next payload)) none)
            ∙ bytes_of_blocks blocks (marked (entry_bytes number next payload)) length-marked ∙ marked-is number next payload)
            ∙ middle_bytes number next payload;
      }
