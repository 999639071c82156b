-- The entry that stands next in the ring, or that none does.
use Rattle.std.proofs.Common.{◌≡◌, ℕ, ◌+◌, ◌-◌, ◌%◌, ◌<◌, List, [], ◌&&◌, true, false, Some, None, Bool, length, drop, refl, sym, ◌∙◌, ap, subst, arith}
use Rattle.std.specs.Prelude.{is_some}
use Rattle.std.proofs.lemmas.Bool.{and_parts, false≢true}
use Rattle.std.proofs.lemmas.List.{length-drop, get_or-drop}
use Rattle.ark_media.specs.Journal.{AllBlocks, block}
use Rattle.ark_entry.specs.Entry.{entry_blocks, AreWhole, length_in, is_head, is_marked, is_entry, payload_at, payload_if, entry_at}
use Rattle.ark_entry.specs.Reading.{reading, Entry}
use Rattle.ark_entry.proofs.Readings.{last_place, length-payload_at, entry_stands, entry_is_there}
use Rattle.ark_chain.specs.Survey.{block_at}
use Rattle.ark_chain.specs.Walking.{IsHead, IsNoHead, IsNext}

module _ (image : List (List ℕ)) (start behind number : ℕ) (whole : AllBlocks image) (some : 0 < length (drop 1 image)) where
  abbrev ring : List (List ℕ)
  ring = drop 1 image

  abbrev at : ℕ → ℕ
  at u = (start + u) % length ring

  -- a block of the ring is the area's one behind
  in_ring : (p : ℕ) → block ring p ≡ block image (p + 1)
  in_ring p = let e : 1 + p ≡ p + 1 = omega arith in get_or-drop 1 image p [] ∙ ap (block image) e

  ring_whole : AreWhole ring
  ring_whole u lt = ap length (in_ring u) ∙ whole (u + 1) (omega (arith, lt, length-drop 1 image))

  module _ (first : List ℕ) (is : block image (block_at (length ring) start behind) ≡ first) where
    abbrev head : List ℕ
    head = block ring (at behind)

    head_is : head ≡ first
    head_is = in_ring (at behind) ∙ is

    next_some : (len : ℕ) → IsHead (length ring) start behind number first len → is_marked (block image (block_at (length ring) start (behind + entry_blocks len - 1))) ≡ true
        → (payload : List ℕ) × (length payload ≡ len) × Entry (length ring) start (reading ring start) behind number payload
    next_some len begins marked =
        let size : length_in head ≡ len = ap length_in head_is ∙ sym begins.size in
        let says : is_head (length ring) (at behind) number head ≡ true = ap (λ t. is_head (length ring) (at behind) number t) head_is ∙ begins.is in
        let ends : is_marked (block ring ((at behind + entry_blocks (length_in head) - 1) % length ring)) ≡ true =
        ap (λ n. is_marked (block ring ((at behind + entry_blocks n - 1) % length ring))) size ∙ ap (λ q. is_marked (block ring q)) (last_place ring start ring_whole some behind len)
        ∙ ap is_marked (in_ring (at (behind + entry_blocks len - 1))) ∙ marked in
        let there : entry_at ring (at behind) number ≡ Some (payload_at ring (at behind) (length_in head)) = ap (λ b. payload_if b ring (at behind)) (λ i. says i && ends i) in
        let long : length (payload_at ring (at behind) (length_in head)) ≡ len = length-payload_at ring start ring_whole some behind (length_in head) ∙ size in (
          payload_at ring (at behind) (length_in head),
          long,
          entry_stands ring start ring_whole some behind number (payload_at ring (at behind) (length_in head)) there (omega (arith, begins.fits.fits, ap entry_blocks long)),
        )

    parts_of : (payload : List ℕ) → Entry (length ring) start (reading ring start) behind number payload → is_entry ring (at behind) number ≡ true
    parts_of payload e = by (is_entry ring (at behind) number) refl (entry_is_there ring start ring_whole some behind number payload e)
      where
        by : (b : Bool) → is_entry ring (at behind) number ≡ b → payload_if b ring (at behind) ≡ Some payload → is_entry ring (at behind) number ≡ true
        by true same there = same
        by false same there = absurd (false≢true (ap is_some there))

    next_none : IsNoHead (length ring) start behind number first → (payload : List ℕ) → Entry (length ring) start (reading ring start) behind number payload → ⊥
    next_none none payload e =
        let both = and_parts (is_head (length ring) (at behind) number head) _ (parts_of payload e) in
        let size : length_in first ≡ length payload = sym (ap length_in head_is) ∙ e.size in
        none (sym (ap (λ t. is_head (length ring) (at behind) number t) head_is) ∙ both.0) (omega (arith, e.fits, ap entry_blocks size))

    next_unmarked : (len : ℕ) → IsHead (length ring) start behind number first len → is_marked (block image (block_at (length ring) start (behind + entry_blocks len - 1))) ≡ false
        → (payload : List ℕ) → Entry (length ring) start (reading ring start) behind number payload → ⊥
    next_unmarked len begins unmarked payload e =
        let size : length_in head ≡ len = ap length_in head_is ∙ sym begins.size in
        let both = and_parts (is_head (length ring) (at behind) number head) _ (parts_of payload e) in
        let ends : is_marked (block ring ((at behind + entry_blocks (length_in head) - 1) % length ring)) ≡ false =
        ap (λ n. is_marked (block ring ((at behind + entry_blocks n - 1) % length ring))) size ∙ ap (λ q. is_marked (block ring q)) (last_place ring start ring_whole some behind len)
        ∙ ap is_marked (in_ring (at (behind + entry_blocks len - 1))) ∙ unmarked in
        false≢true (sym ends ∙ both.1)

-- the same with the ring's number of blocks said otherwise
module _ (image : List (List ℕ)) (room start behind number : ℕ) (long : length image ≡ room + 1) (some : 0 < room) (first : List ℕ) (is : block image (block_at room start behind) ≡ first) where
  ring_long : room ≡ length (drop 1 image)
  ring_long = omega (arith, length-drop 1 image, long)

  pub some_next : (len : ℕ) → IsHead room start behind number first len → is_marked (block image (block_at room start (behind + entry_blocks len - 1))) ≡ true → IsNext room start behind number (Some len) image
  some_next len begins marked whole =
      subst (λ (n : ℕ). 0 < n → block image (block_at n start behind) ≡ first → IsHead n start behind number first len → is_marked (block image (block_at n start (behind + entry_blocks len - 1))) ≡ true
      → (payload : List ℕ) × (length payload ≡ len) × Entry n start (reading (drop 1 image) start) behind number payload) (sym ring_long)
      (λ some here begins marked. next_some image start behind number whole some first here len begins marked)
      some is begins marked

  pub none_next : IsNoHead room start behind number first → IsNext room start behind number None image
  none_next none whole =
      subst (λ (n : ℕ). 0 < n → block image (block_at n start behind) ≡ first → IsNoHead n start behind number first
      → (payload : List ℕ) → Entry n start (reading (drop 1 image) start) behind number payload → ⊥) (sym ring_long)
      (λ some here none. next_none image start behind number whole some first here none)
      some is none

  pub unmarked_next : (len : ℕ) → IsHead room start behind number first len → is_marked (block image (block_at room start (behind + entry_blocks len - 1))) ≡ false → IsNext room start behind number None image
  unmarked_next len begins unmarked whole =
      subst (λ (n : ℕ). 0 < n → block image (block_at n start behind) ≡ first → IsHead n start behind number first len → is_marked (block image (block_at n start (behind + entry_blocks len - 1))) ≡ false
      → (payload : List ℕ) → Entry n start (reading (drop 1 image) start) behind number payload → ⊥) (sym ring_long)
      (λ some here begins unmarked. next_unmarked image start behind number whole some first here len begins unmarked)
      some is begins unmarked
