-- The payload of an entry, read block by block.
use Rattle.std.proofs.Common.{◌≡◌, inl, inr, ℕ, zero, suc, ◌+◌, ◌-◌, ◌*◌, ◌≤◌, List, [], ◌++◌, length, take, drop, refl, sym, ◌∙◌, ap, arith, length-append}
use Rattle.std.specs.Prelude.{min}
use Rattle.std.proofs.Math.Nat.{min-eq_left, min-eq_right, min-le_left, min-le_right, min-zero}
use Rattle.std.proofs.Math.Seq.{take-append-add}
use Rattle.std.proofs.lemmas.Bool.{cases_lt}
use Rattle.std.proofs.lemmas.List.{append-nil, drop-append-le, length-drop, take-append-le, take_all}
use Rattle.ark_media.specs.Journal.{block}
use Rattle.ark_entry.specs.Entry.{entry_blocks, ring_bytes}
use Rattle.ark_entry.proofs.Entries.{blocks_hold}
use Rattle.ark_chain.specs.Survey.{block_at}
use Rattle.ark_chain.specs.Single.{AddsPart, HasPart, IsPayload, head_in, payload_in}
use Rattle.ark_chain.proofs.Payloads.{at_room, blocks_more}

-- one more part of a list, of which so much stands in front
more_of : (len m : ℕ) (xs ys : List ℕ) → length xs ≡ m → (e : ℕ) → min len m ≤ e → e ≤ len → take (min len m) xs ++ take (e - min len m) ys ≡ take e (xs ++ ys)
more_of len m xs ys long e low high = elim (cases_lt len m) [
  | inl inside ↦ (
      let least : min len m ≡ len = min-eq_left (omega (arith, inside)) in
      let all : min len m ≡ e = omega (arith, least, low, high) in
      let none : e - min len m ≡ 0 = omega (arith, all) in
      (λ i. take (all i) xs ++ take (none i) ys) ∙ append-nil (take e xs) ∙ sym (take-append-le e xs ys (omega (arith, long, inside, high)))
      )
  | inr past ↦ (
      let least : min len m ≡ m = min-eq_right (omega (arith, past)) in
      let sum : length xs + (e - m) ≡ e = omega (arith, long, least, low) in
      (λ i. take (least i) xs ++ take (e - least i) ys) ∙ ap (λ t. t ++ take (e - m) ys) (take_all m xs (omega (arith, long))) ∙ sym (take-append-add xs ys (e - m)) ∙ ap (λ n. take n (xs ++ ys)) sum
      )
]

module _ (room start len : ℕ) (old new content : List ℕ) (image : List (List ℕ)) (whole : length content ≡ 512) where
  pub part_added : (k : ℕ) → content ≡ block image (block_at room start k) → take (payload_in len (k + 1)) new ≡ take (payload_in len k) old ++ take (payload_in len (k + 1) - payload_in len k) (drop (head_in k) content)
      → AddsPart room start len k old new image
  part_added k is put has long = (
    ap (λ t. length t) all ∙ length-append bytes content ∙ (let was = (has long).0 in omega (arith, was, whole)),
    put ∙ ap (λ t. t ++ take (payload_in len (k + 1) - payload_in len k) (drop (head_in k) content)) (has long).1 ∙ by k (has long).0 ∙ ap (λ t. take (payload_in len (k + 1)) (drop 20 t)) (sym all),
  )
    where
      bytes : List ℕ
      bytes = ring_bytes (drop 1 image) start k

      all : ring_bytes (drop 1 image) start (k + 1) ≡ bytes ++ content
      all =
          let one : k + 1 ≡ suc k = omega arith in
          ap (λ n. ring_bytes (drop 1 image) start n) one ∙ blocks_more (drop 1 image) start k ∙ ap (λ t. bytes ++ t) (sym (is ∙ at_room room start old new image k long))

      by : (k : ℕ) → length (ring_bytes (drop 1 image) start k) ≡ 512 * k
          → take (payload_in len k) (drop 20 (ring_bytes (drop 1 image) start k)) ++ take (payload_in len (k + 1) - payload_in len k) (drop (head_in k) content)
          ≡ take (payload_in len (k + 1)) (drop 20 (ring_bytes (drop 1 image) start k ++ content))
      by zero size =
          let none : payload_in len 0 ≡ 0 = min-zero len in
          let same : payload_in len 1 - payload_in len 0 ≡ payload_in len 1 = omega (arith, none) in
          (λ i. take (none i) [] ++ take (same i) (drop 20 content))
      by (suc k) size =
          let front : List ℕ = ring_bytes (drop 1 image) start (suc k) in
          let rest : length (drop 20 front) ≡ 512 * suc k - 20 = length-drop 20 front ∙ ap (λ n. n - 20) size in
          let low : min len (512 * suc k - 20) ≤ payload_in len (suc k + 1) = omega (arith, min-le_left len (512 * suc k - 20), min-le_right len (512 * suc k - 20)) in
          more_of len (512 * suc k - 20) (drop 20 front) content rest (payload_in len (suc k + 1)) low (min-le_left len (512 * (suc k + 1) - 20))
          ∙ ap (λ t. take (payload_in len (suc k + 1)) t) (sym (drop-append-le 20 front content (omega (arith, size))))

module _ (room start len : ℕ) (out : List ℕ) (image : List (List ℕ)) where
  -- before the first block
  pub no_part : HasPart room start len 0 out image
  no_part long = (refl, let none : payload_in len 0 ≡ 0 = min-zero len in ap (λ n. take n out) none ∙ sym (ap (λ n. take n []) none))

  -- behind the last block
  pub all_parts : (k : ℕ) → k ≡ entry_blocks len → HasPart room start len k out image → IsPayload room start len out image
  all_parts k last has long =
      let hold = (blocks_hold len).0 in
      let all : payload_in len k ≡ len = min-eq_left (omega (arith, hold, last)) in
      let size : 20 + len - 20 ≡ len = omega arith in
      ap (λ n. take n out) (sym all) ∙ (has long).1 ∙ (λ i. take (all i) (drop 20 (ring_bytes (drop 1 image) start (last i)))) ∙ ap (λ n. take n (drop 20 (ring_bytes (drop 1 image) start (entry_blocks len)))) (sym size)
