-- What is found while the blocks outside the list are made zero, as an opening does.
use Rattle.std.proofs.Common.{◌≡◌, ◌⊎◌, ⊎_elim, ℕ, zero, suc, ◌+◌, ◌-◌, ◌*◌, ◌%◌, ◌<◌, ◌≤◌, List, [], ◌∷◌, length, take, drop, refl, sym, ◌∙◌, ap, subst, arith, slice_range, length-append, append-nil}
use Rattle.std.proofs.lemmas.List.{length-take-le, length-drop}
use Rattle.ark_media.specs.Journal.{zero_block}
use Rattle.std.specs.Int.{w32, w64, from_be_bytes}
use Rattle.ark_entry.specs.Entry.{entry_blocks, length_in}
use Rattle.ark_entry.specs.Reading.{bytes_from, Entry, Finds, Stands}
use Rattle.ark_entry.specs.Repair.{used_by, Zeroes, blocks_read}
use Rattle.ark_entry.specs.Writing.{at}
use Rattle.ark_entry.proofs.Entries.{blocks_hold}
use Rattle.ark_entry.proofs.Readings.{some_block}
use Rattle.ark_entry.proofs.Standing.{stands_same, stands_then, none_zero}
use Rattle.ark_entry.proofs.Appending.{zeros_unmarked}

module _ (room start : ℕ) where
  -- the entries stand, and behind them is none
  pub finds_stands : (r : ℕ → List ℕ) (u number : ℕ) (xs : List (List ℕ)) → Finds room start r u number xs
      → Stands room start r u number xs (u + used_by xs) × ((x : List ℕ) → Entry room start r (u + used_by xs) (number + length xs) x → ⊥)
  finds_stands r u number [] none =
      let u0 : u ≡ u + 0 = omega arith in
      let n0 : number ≡ number + 0 = omega arith in
      (u0, λ x. subst (λ (v : ℕ). Entry room start r v (number + 0) x → ⊥) u0 (subst (λ (m : ℕ). Entry room start r u m x → ⊥) n0 (none x)))
  finds_stands r u number (x ∷ xs) f =
      let rest = finds_stands r (u + entry_blocks (length x)) (number + 1) xs f.1 in
      let end : u + entry_blocks (length x) + used_by xs ≡ u + (entry_blocks (length x) + used_by xs) = omega arith in
      let next : number + 1 + length xs ≡ number + suc (length xs) = omega arith in (
        (f.0, subst (λ (to : ℕ). Stands room start r (u + entry_blocks (length x)) (number + 1) xs to) end rest.0),
        λ y. subst (λ (v : ℕ). Entry room start r v (number + suc (length xs)) y → ⊥) end (subst (λ (m : ℕ). Entry room start r (u + entry_blocks (length x) + used_by xs) m y → ⊥) next (rest.1 y)),
      )

  length-bytes_from : (r : ℕ → List ℕ) (u n : ℕ) → u + n ≤ room → ((v : ℕ) → v < room → length (r v) ≡ 512) → length (bytes_from r u n) ≡ 512 * n
  length-bytes_from r u zero fits whole = refl
  length-bytes_from r u (suc n) fits whole =
      let here : length (r u) ≡ 512 = whole u (omega (arith, fits)) in
      let rest : length (bytes_from r (u + 1) n) ≡ 512 * n = length-bytes_from r (u + 1) n (omega (arith, fits)) whole in
      let sum : length (bytes_from r u (suc n)) ≡ length (r u) + length (bytes_from r (u + 1) n) = length-append (r u) (bytes_from r (u + 1) n) in
      omega (arith, here, rest, sum)

  -- an entry that some zeroed blocks show would show in the old blocks too, with other bytes
  was_entry : (r s : ℕ → List ℕ) (u number : ℕ) (x : List ℕ) → ((v : ℕ) → v < room → length (r v) ≡ 512) → ((v : ℕ) → u ≤ v → v < room → (s v ≡ r v) ⊎ (s v ≡ zero_block))
      → Entry room start s u number x → (y : List ℕ) × Entry room start r u number y
  was_entry r s u number x whole either e = ⊎_elim here (λ zeros. absurd (none_zero room start s u number x zeros e)) (either u (omega arith) (omega (arith, b, e.fits)))
    where
      b : 1 ≤ entry_blocks (length x)
      b = some_block (length x)

      y : List ℕ
      y = slice_range (bytes_from r u (entry_blocks (length x))) 20 (20 + length x)

      long : length (slice_range (bytes_from r u (entry_blocks (length x))) 20 (20 + length x)) ≡ length x
      long =
          let hold : 28 + length x ≤ 512 * entry_blocks (length x) = (blocks_hold (length x)).0 in
          let all : length (bytes_from r u (entry_blocks (length x))) ≡ 512 * entry_blocks (length x) = length-bytes_from r u (entry_blocks (length x)) e.fits whole in
          let rest : length (drop 20 (bytes_from r u (entry_blocks (length x)))) ≡ length (bytes_from r u (entry_blocks (length x))) - 20 = length-drop 20 (bytes_from r u (entry_blocks (length x))) in
          let n : 20 + length x - 20 ≡ length x = omega arith in
          length-take-le (20 + length x - 20) (drop 20 (bytes_from r u (entry_blocks (length x)))) (omega (arith, hold, all, rest)) ∙ n

      made : s u ≡ r u → s (u + entry_blocks (length x) - 1) ≡ r (u + entry_blocks (length x) - 1) → (y : List ℕ) × Entry room start r u number y
      made head last = (
        slice_range (bytes_from r u (entry_blocks (length x))) 20 (20 + length x),
        record {
          tag = ap (λ (t : List ℕ). take 4 t) (sym head) ∙ e.tag;
          size = ap length_in (sym head) ∙ e.size ∙ sym long;
          short = subst (λ (n : ℕ). n ≤ 32768) (sym long) e.short;
          num = ap (λ (t : List ℕ). from_be_bytes w64 (slice_range t 8 16)) (sym head) ∙ e.num;
          low = e.low;
          next = ap (λ (t : List ℕ). from_be_bytes w32 (slice_range t 16 20)) (sym head) ∙ e.next ∙ ap (λ n. (start + u + entry_blocks n) % room) (sym long);
          fits = subst (λ (n : ℕ). u + entry_blocks n ≤ room) (sym long) e.fits;
          mark = ap (λ n. drop 504 (r (u + entry_blocks n - 1))) long ∙ ap (λ (t : List ℕ). drop 504 t) (sym last) ∙ e.mark;
          content = ap (λ n. slice_range (bytes_from r u (entry_blocks n)) 20 (20 + n)) long;
        },
      )

      here : s u ≡ r u → (y : List ℕ) × Entry room start r u number y
      here head = ⊎_elim (made head)
          (λ zeros. absurd (zeros_unmarked (sym (ap (λ (t : List ℕ). drop 504 t) zeros) ∙ e.mark)))
          (either (u + entry_blocks (length x) - 1) (omega (arith, b)) (omega (arith, b, e.fits)))

  -- the list stays while blocks behind it are made zero
  pub repair_finds : (r s : ℕ → List ℕ) (number : ℕ) (xs : List (List ℕ)) → ((v : ℕ) → v < room → length (r v) ≡ 512) → Zeroes room (used_by xs) r s → Finds room start r 0 number xs → Finds room start s 0 number xs
  repair_finds r s number xs whole zeroes finds =
      let both = finds_stands r 0 number xs finds in
      subst (λ (l : List (List ℕ)). Finds room start s 0 number l) (append-nil xs)
      (stands_then room start s 0 number xs [] (0 + used_by xs)
      (stands_same room start r s 0 number xs (0 + used_by xs) (λ v from to. sym (zeroes.kept v (omega (arith, to)))) both.0)
      (λ x e. let was = was_entry r s (0 + used_by xs) (number + length xs) x whole (λ v from to. zeroes.rest v (omega (arith, from)) to) e in both.1 was.0 was.1))

  -- the blocks of the list, and zeros behind them
  pub at_read : (r : ℕ → List ℕ) (u n k : ℕ) → k < n → at (blocks_read r u n) k ≡ r (u + k)
  at_read r u zero k lt = absurd (omega arith)
  at_read r u (suc n) zero lt = let e : u ≡ u + 0 = omega arith in ap r e
  at_read r u (suc n) (suc k) lt = let e : u + 1 + k ≡ u + suc k = omega arith in at_read r (u + 1) n k (omega arith) ∙ ap r e

  pub length-read : (r : ℕ → List ℕ) (u n : ℕ) → length (blocks_read r u n) ≡ n
  length-read r u zero = refl
  length-read r u (suc n) = ap suc (length-read r (u + 1) n)

  pub read_stands : (r : ℕ → List ℕ) (number : ℕ) (xs : List (List ℕ)) → Finds room start r 0 number xs → Stands room start (at (blocks_read r 0 (used_by xs))) 0 number xs (length (blocks_read r 0 (used_by xs)))
  read_stands r number xs finds =
      let end : 0 + used_by xs ≡ length (blocks_read r 0 (used_by xs)) = omega (arith, length-read r 0 (used_by xs)) in
      subst (λ (to : ℕ). Stands room start (at (blocks_read r 0 (used_by xs))) 0 number xs to) end
      (stands_same room start r (at (blocks_read r 0 (used_by xs))) 0 number xs (0 + used_by xs)
      (λ v from to. let e : 0 + v ≡ v = omega arith in sym (at_read r 0 (used_by xs) v (omega (arith, to)) ∙ ap r e)) (finds_stands r 0 number xs finds).0)

  pub finds_fit : (r : ℕ → List ℕ) (u number : ℕ) (xs : List (List ℕ)) → u ≤ room → Finds room start r u number xs → u + used_by xs ≤ room
  finds_fit r u number [] le none = omega (arith, le)
  finds_fit r u number (x ∷ xs) le f = let rest : u + entry_blocks (length x) + used_by xs ≤ room = finds_fit r (u + entry_blocks (length x)) (number + 1) xs f.0.fits f.1 in omega (arith, rest)
