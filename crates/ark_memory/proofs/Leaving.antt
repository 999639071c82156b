-- What a stop may leave, found event by event and block by block.
use Rattle.std.proofs.Common.{◌≡◌, ◌⊎◌, inl, inr, ℕ, zero, suc, ◌+◌, ◌-◌, ◌*◌, ◌/◌, ◌<◌, ◌≤◌, ◌==◌, Bool, true, false, ◌||◌, List, [], ◌∷◌, length, take, drop, get_or, bytes_eq, if◌then◌else◌, refl, sym, ◌∙◌, ap, subst, arith}
use Rattle.std.specs.Bool.{Decides}
use Rattle.std.proofs.lemmas.Bool.{cases_lt}
use Rattle.std.proofs.lemmas.Bool.Decides.{Decides-eqb}
use Rattle.std.proofs.lemmas.Slice.Eq.{bytes_eq-Decides}
use Rattle.std.proofs.Math.Seq.{take-suc}
use Rattle.std.proofs.lemmas.List.{drop-drop}
use Rattle.ark_media.specs.Journal.{Event, Read, Write, Sync, Out, onto, block, current}
use Rattle.ark_media.specs.Blocks.{blocks_in, whole_blocks}
use Rattle.ark_media.specs.Stops.{MayHold, Whole}
use Rattle.ark_media.proofs.Flat.{length-blocks_in}
use Rattle.ark_media.proofs.Stopping.{current_same, current_other}
use Rattle.ark_memory.specs.Holding.{written, after, holding}
use Rattle.ark_memory.specs.Leaving.{front_of, MayLeaveBytes}
use Rattle.ark_memory.specs.Reels.{Reel}
use Rattle.ark_memory.specs.declared.holding.Holding.{Holding}
use Rattle.ark_memory.proofs.Recording.{onto_end}

-- a block of bytes
block-blocks_in : (count n : ℕ) (bytes : List ℕ) → n < count → block (blocks_in count bytes) n ≡ take 512 (drop (512 * n) bytes)
unfolding blocks_in
block-blocks_in zero n bytes inside = absurd (omega (arith, inside))
block-blocks_in (suc count) zero bytes inside = refl
block-blocks_in (suc count) (suc n) bytes inside =
    let at : 512 + 512 * n ≡ 512 * suc n = omega arith in
    block-blocks_in count n (drop 512 bytes) (omega (arith, inside)) ∙ ap (λ l. take 512 l) (drop-drop (512 * n) 512 bytes) ∙ ap (λ k. take 512 (drop k bytes)) at

pub block_at : (bytes : List ℕ) (n : ℕ) → n < length (whole_blocks bytes) → block (whole_blocks bytes) n ≡ take 512 (drop (512 * n) bytes)
block_at bytes n inside = block-blocks_in (length bytes / 512) n bytes (omega (arith, inside, length-blocks_in (length bytes / 512) bytes))

pub block_fits : (bytes : List ℕ) (n : ℕ) → n < length (whole_blocks bytes) → 512 * n + 512 ≤ length bytes
block_fits bytes n inside = omega (arith, inside, length-blocks_in (length bytes / 512) bytes)

-- the part of whole blocks that is a block
pub part_at : (bytes : List ℕ) (count n : ℕ) → length bytes ≡ 512 * count → n < count → take (512 * n + 512 - 512 * n) (drop (512 * n) bytes) ≡ block (whole_blocks bytes) n
part_at bytes count n size inside =
    let long : 512 * n + 512 - 512 * n ≡ 512 = omega arith in
    ap (λ k. take k (drop (512 * n) bytes)) long ∙ sym (block_at bytes n (omega (arith, size, inside, length-blocks_in (length bytes / 512) bytes)))

-- one event more
pub one_more : (base : List (List ℕ)) (es : List Event) (i n : ℕ) (content : List ℕ) → i < length es
    → after n content (get_or es i (Sync false)) (holding base (onto (take i es) []) n content) ≡ holding base (onto (take (i + 1) es) []) n content
one_more base es i n content inside =
    let next : i + 1 ≡ suc i = omega arith in
    ap (λ (j : List Event). holding base j n content)
    (sym (ap (λ k. onto (take k es) []) next ∙ ap (λ (l : List Event). onto l []) (take-suc es i (Sync false) inside) ∙ onto_end (take i es) (get_or es i (Sync false))))

module _ (base : List (List ℕ)) (n : ℕ) (content : List ℕ) (inside : n < length base) where
  abbrev now : List Event → Holding
  now j = holding base j n content

  -- a write, of this block or of another
  write_stands : (j : List Event) (m : ℕ) (b : List ℕ) (took ok : Bool) → Decides (now j).stands (block (current base j) n ≡ content) → (same : Bool) → (m == n) ≡ same
      → Decides (if same then written (bytes_eq b content) took (now j) else now j).stands (block (current base (Write m b took ok ∷ j)) n ≡ content)
  write_stands j m b true ok before true is =
      let here : n ≡ m = sym ((Decides-eqb m n).0 is) in
      let new : block (current base (Write m b true ok ∷ j)) n ≡ b = subst (λ (k : ℕ). block (current base (Write m b true ok ∷ j)) k ≡ b) (sym here) (current_same base j m b ok (subst (λ (k : ℕ). k < length base) here inside)) in
      let decides = bytes_eq-Decides b content in
      (λ yes_same. new ∙ decides.0 yes_same, λ stands. decides.1 (sym new ∙ stands))
  write_stands j m b false ok before true is = before
  write_stands j m b took ok before false is =
      let apart : n ≡ m → ⊥ = λ same. absurd (cc (is, (Decides-eqb m n).1 (sym same))) in
      let old : block (current base (Write m b took ok ∷ j)) n ≡ block (current base j) n = current_other base j m n b took ok apart in
      (λ h. old ∙ before.0 h, λ stands. before.1 (sym old ∙ stands))

  stands_is : (j : List Event) → Decides (now j).stands (block (current base j) n ≡ content)
  stands_is [] = bytes_eq-Decides (block base n) content
  stands_is (Write m b took ok ∷ j) = write_stands j m b took ok (stands_is j) (m == n) refl
  stands_is (Sync true ∷ j) = stands_is j
  stands_is (Sync false ∷ j) = stands_is j
  stands_is (Read m ok ∷ j) = stands_is j
  stands_is (Out bytes ∷ j) = stands_is j

  abbrev Holds : List Event → Type 0
  Holds j = MayHold Whole base j n content

  either : (j : List Event) (m : ℕ) (b : List ℕ) (same : Bool) (left : Bool) → m ≡ n → (same ≡ true → content ≡ b) → (content ≡ b → same ≡ true) → Decides left (Holds j)
      → Decides (left || same) (((m ≡ n) × (content ≡ b)) ⊎ Holds j)
  either j m b same true here to from before = (λ h. inr (before.0 refl), λ h. refl)
  either j m b same false here to from before = (λ h. inl (here, to h), λ h. any h)
    where
      any : (((m ≡ n) × (content ≡ b)) ⊎ Holds j) → (false || same) ≡ true
      any (inl new) = from new.1
      any (inr old) = absurd (cc (before.1 old))

  write_left : (j : List Event) (m : ℕ) (b : List ℕ) (took : Bool) → Decides (now j).left (Holds j) → (same : Bool) → (m == n) ≡ same
      → Decides (if same then written (bytes_eq b content) took (now j) else now j).left (((m ≡ n) × (content ≡ b)) ⊎ Holds j)
  write_left j m b took before true is =
      let decides = bytes_eq-Decides b content in
      either j m b (bytes_eq b content) (now j).left ((Decides-eqb m n).0 is) (λ h. sym (decides.0 h)) (λ h. decides.1 (sym h)) before
  write_left j m b took before false is = (λ h. inr (before.0 h), λ h. old h)
    where
      old : (((m ≡ n) × (content ≡ b)) ⊎ Holds j) → (now j).left ≡ true
      old (inl new) = absurd (cc (is, (Decides-eqb m n).1 new.0))
      old (inr h) = before.1 h

  -- what a stop may leave
  pub left_is : (j : List Event) → Decides (now j).left (Holds j)
  left_is [] = let decides = bytes_eq-Decides (block base n) content in (λ h. sym (decides.0 h), λ h. decides.1 (sym h))
  left_is (Write m b took ok ∷ j) = write_left j m b took (left_is j) (m == n) refl
  left_is (Sync true ∷ j) = let decides = stands_is j in (λ h. sym (decides.0 h), λ h. decides.1 (sym h))
  left_is (Sync false ∷ j) = left_is j
  left_is (Read m ok ∷ j) = left_is j
  left_is (Out bytes ∷ j) = left_is j

-- the first blocks of an image may all be left
abbrev pub FirstLeft : List (List ℕ) → List Event → List (List ℕ) → ℕ → Type 0
FirstLeft base j image count = (n : ℕ) → n < count → MayHold Whole base j n (block image n)

pub one_left : (base : List (List ℕ)) (j : List Event) (image : List (List ℕ)) (count : ℕ) → FirstLeft base j image count → MayHold Whole base j count (block image count)
    → FirstLeft base j image (count + 1)
one_left base j image count before next n inside = by (cases_lt n count)
  where
    by : (n < count) ⊎ (count ≤ n) → MayHold Whole base j n (block image n)
    by (inl less) = before n less
    by (inr more) = let last : count ≡ n = omega (arith, more, inside) in subst (λ (k : ℕ). MayHold Whole base j k (block image k)) last next

module _ (r : Reel) (front : ℕ) (bytes : List ℕ) where
  -- bytes that may be left are as many as those of the base
  pub size_left : MayLeaveBytes r front bytes → length bytes ≡ 512 * length r.base
  size_left h = omega (arith, h.whole, h.blocks.size, length-blocks_in (length bytes / 512) bytes)

  pub all_left : length bytes ≡ 512 * length r.base → FirstLeft r.base (front_of r front) (whole_blocks bytes) (length r.base) → MayLeaveBytes r front bytes
  all_left size each = record {
    whole = omega (arith, size);
    blocks = record { size = omega (arith, size, length-blocks_in (length bytes / 512) bytes); each = each };
  }
