-- An entry that was read whole, and what its blocks say of it.
use Rattle.std.proofs.Common.{◌≡◌, ℕ, ◌+◌, ◌-◌, ◌*◌, ◌%◌, ◌<◌, ◌≤◌, List, [], true, false, Some, None, length, map, take, drop, slice_range, refl, sym, ◌∙◌, ap, arith}
use Rattle.std.proofs.lemmas.List.{length-drop, get_or-drop}
use Rattle.ark_media.specs.Journal.{Event, History, AllBlocks, block, current}
use Rattle.ark_media.specs.Calls.{Told, Tells, Went, OnTold}
use Rattle.ark_entry.specs.Entry.{entry_blocks, is_marked, entry_at, AreWhole, ring_bytes}
use Rattle.ark_chain.specs.Survey.{block_at, reads_at}
use Rattle.ark_chain.specs.Walking.{IsHead}
use Rattle.ark_chain.specs.Single.{AddsBlock, AreRead}
use Rattle.ark_chain.proofs.Looking.{still_told, same_blocks, image_long}
use Rattle.ark_chain.proofs.Payloads.{first_read, unmarked_there, marked_there, last_bytes}

-- what the marker tells of an entry that was read
pub record Seen (image : List (List ℕ)) (room p number len : ℕ) (out last : List ℕ) : Type 0 where
  pub long : length (drop 1 image) ≡ room
  pub marked : is_marked last ≡ true → entry_at (drop 1 image) p number ≡ Some (slice_range out 20 (20 + len))
  pub unmarked : is_marked last ≡ false → entry_at (drop 1 image) p number ≡ None

-- the ring of an image whose blocks have 512 bytes
ring_whole : (image : List (List ℕ)) → AllBlocks image → AreWhole (drop 1 image)
ring_whole image whole u lt = let e : 1 + u ≡ u + 1 = omega arith in ap length (get_or-drop 1 image u [] ∙ ap (block image) e) ∙ whole (u + 1) (omega (arith, lt, length-drop 1 image))

module _ {D : Type 0} (goes : D → List Event → D → Type 0) (told : D → Told) (tells : (a b : D) (es : List Event) → goes a es b → Tells es (told a) (told b)) (size_is : (d : D) (h : History) → (told d).history ≡ Some h → length h.base ≡ (told d).blocks) where
  pub seen : (p number : ℕ) (start mid end : D) (room : ℕ) → room + 1 ≡ (told start).blocks → p + 1 < (told start).blocks → (one : List ℕ) → Went goes (reads_at room p one) true start mid → (more : List ℕ) → Went goes (reads_at room p more) true mid end
      → (none out all : List ℕ) → OnTold (told mid) (AddsBlock room p 0 none out) → (first : List ℕ) → first ≡ take 512 (drop 0 out) → (len : ℕ) → IsHead room p 0 number first len → (blocks : ℕ) → blocks ≡ entry_blocks len
      → OnTold (told end) (λ image. AreRead room p 1 out image → AreRead room p blocks all image) → (last : List ℕ) → last ≡ take 512 (drop (512 * (blocks - 1)) all)
      → (h : History) → (told end).history ≡ Some h → AllBlocks (current h.base h.journal) → Seen (current h.base h.journal) room p number len all last
  seen p number start mid end room ring inside one went more on none out all adds first first_is len begins blocks blocks_are bytes last last_is h is whole =
      let image = current h.base h.journal in
      let here = still_told goes told tells (map (λ u. block_at room p u) more) true mid end on (AddsBlock room p 0 none out) adds h is in
      let size = image_long goes told tells size_is (reads_at room p more) true mid end on (room + 1) (ring ∙ sym (same_blocks goes told tells (reads_at room p one) true start mid went)) h is in
      let long : length (drop 1 image) ≡ room = omega (arith, length-drop 1 image, size) in
      let head : block image (block_at room p 0) ≡ first = sym (first_is ∙ here) in
      let low : p < room = omega (arith, ring, inside) in
      let read = bytes h is (first_read room p none out image here) long in
      let some : 1 ≤ blocks = omega (arith, blocks_are) in
      let ends = last_is ∙ last_bytes (drop 1 image) p blocks (512 * (blocks - 1)) 512 all (ring_whole image whole) (omega (arith, long, low)) some refl refl read ∙ ap (λ n. block (drop 1 image) ((p + n - 1) % length (drop 1 image))) blocks_are in
      record {
        long = long;
        marked = λ ended. marked_there image room p number long low first head len begins last ends all ended (ap (λ n. take (512 * n) all) (sym blocks_are) ∙ read ∙ ap (λ n. ring_bytes (drop 1 image) p n) blocks_are);
        unmarked = unmarked_there image room p number long low first head len begins last ends;
      }
