-- What is found after entries were dropped, while their blocks are made zero.
use Rattle.std.proofs.Common.{◌≡◌, ◌⊎◌, inl, inr, ⊎_elim, ℕ, ◌+◌, ◌-◌, ◌%◌, ◌<◌, ◌≤◌, List, [], ◌∷◌, ◌++◌, length, drop, replicate, refl, sym, ◌∙◌, ap, subst, arith, slice_range}
use Rattle.std.specs.Int.{w64, from_be_bytes}
use Rattle.std.proofs.lemmas.Bool.{cases_lt}
use Rattle.std.proofs.lemmas.List.{length-drop, length-replicate, get_or-replicate, get_or-drop, get_or_append_left, get_or-append_right, get_or_past}
use Rattle.std.proofs.Math.Nat.{mod-add-mod, add-mod_right}
use Rattle.ark_media.specs.Journal.{block, zero_block}
use Rattle.ark_entry.specs.Entry.{entry_blocks}
use Rattle.ark_entry.specs.Reading.{reading, Finds, Stands}
use Rattle.ark_entry.specs.Writing.{at, Between}
use Rattle.ark_entry.proofs.Readings.{some_block}
use Rattle.ark_entry.proofs.Standing.{stands_le, stands_shift, stands_behind}
use Rattle.ark_entry.proofs.Appending.{rest_finds}

-- entries end at one place
one_end : (room start : ℕ) (r s : ℕ → List ℕ) (u number : ℕ) (xs : List (List ℕ)) (a b : ℕ) → Stands room start r u number xs a → Stands room start s u number xs b → a ≡ b
one_end room start r s u number [] a b x y = sym x ∙ y
one_end room start r s u number (z ∷ zs) a b x y = one_end room start r s (u + entry_blocks (length z)) (number + 1) zs a b x.1 y.1

-- the same ring, read from a later start
pub later : (ring : List (List ℕ)) (start z v : ℕ) → reading ring ((start + z) % length ring) v ≡ reading ring start (z + v)
later ring start z v =
    let e : start + z + v ≡ start + (z + v) = omega arith in
    ap (block ring) (mod-add-mod (start + z) (length ring) v ∙ ap (λ q. q % length ring) e)

-- and a place past its end is one at its front
pub around : (ring : List (List ℕ)) (start u : ℕ) → reading ring start (u + length ring) ≡ reading ring start u
around ring start u = let e : start + (u + length ring) ≡ start + u + length ring = omega arith in ap (block ring) (ap (λ q. q % length ring) e ∙ add-mod_right (start + u) (length ring))

module _ (ring : List (List ℕ)) (start : ℕ) (stored : List (List ℕ)) (first : ℕ) (dropped kept : List (List ℕ))
    (stands : Stands (length ring) start (at stored) 0 first (dropped ++ kept) (length stored)) (some : 1 ≤ length dropped) (fit : length stored ≤ length ring)
    (z : ℕ) (gone : Stands (length ring) start (at stored) 0 first dropped z)
    (between : Between (length ring) stored (replicate z zero_block ++ drop z stored) (reading ring start)) where
  parts : (mid : ℕ) × Stands (length ring) start (at stored) 0 first dropped mid × Stands (length ring) start (at stored) mid (first + length dropped) kept (length stored)
  parts = stands_behind (length ring) start (at stored) 0 first dropped kept (length stored) stands

  same_end : parts.0 ≡ z
  same_end = one_end (length ring) start (at stored) (at stored) 0 first dropped parts.0 z parts.1 gone

  z_fits : z ≤ length stored
  z_fits = let le : parts.0 ≤ length stored = stands_le (length ring) start (at stored) parts.0 (first + length dropped) kept (length stored) parts.2 in omega (arith, le, same_end)

  -- the kept entries stand from the later start on
  kept_stand : Stands (length ring) ((start + z) % length ring) (at (drop z stored)) 0 (first + length dropped) kept (length (drop z stored))
  kept_stand =
      let size : length stored ≡ z + length (drop z stored) = omega (arith, length-drop z stored, z_fits) in
      let z0 : parts.0 ≡ z + 0 = omega (arith, same_end) in
      let t = subst (λ (to : ℕ). Stands (length ring) start (at stored) parts.0 (first + length dropped) kept to) size parts.2 in
      let t0 = subst (λ (from : ℕ). Stands (length ring) start (at stored) from (first + length dropped) kept (z + length (drop z stored))) z0 t in
      stands_shift (length ring) start z (at stored) (at (drop z stored)) 0 (first + length dropped) kept (length (drop z stored)) (λ v. sym (get_or-drop z stored v zero_block)) t0

  -- the blocks behind the dropped ones stay
  stays : (u : ℕ) → z ≤ u → u < length ring → reading ring start u ≡ at stored u
  stays u from to = ⊎_elim (λ x. x) (λ x. x ∙ behind) (between u to)
    where
      behind : at (replicate z zero_block ++ drop z stored) u ≡ at stored u
      behind =
          let there : z + (u - z) ≡ u = omega (arith, from) in
          get_or-append_right (replicate z zero_block) (drop z stored) z u zero_block (length-replicate z zero_block) from
          ∙ get_or-drop z stored (u - z) zero_block ∙ ap (at stored) there

  -- the first of the dropped ones is there, or zero
  first_gone : 0 < z → (x : List ℕ) (xs : List (List ℕ)) → dropped ≡ x ∷ xs → (reading ring start 0 ≡ zero_block) ⊎ (from_be_bytes w64 (slice_range (reading ring start 0) 8 16) ≡ first)
  first_gone pos x xs is = ⊎_elim
      (λ old. inr (ap (λ (t : List ℕ). from_be_bytes w64 (slice_range t 8 16)) old ∙ (subst (λ (l : List (List ℕ)). Stands (length ring) start (at stored) 0 first l z) is gone).0.num))
      (λ new. inl (new ∙ get_or_append_left (replicate z zero_block) (drop z stored) zero_block 0 (omega (arith, length-replicate z zero_block, pos)) ∙ get_or-replicate z 0 zero_block zero_block pos))
      (between 0 (omega (arith, pos, z_fits, fit)))

  some_gone : (x : List ℕ) (xs : List (List ℕ)) → dropped ≡ x ∷ xs → 0 < z
  some_gone x xs is =
      let b : 1 ≤ entry_blocks (length x) = some_block (length x) in
      let le : 0 + entry_blocks (length x) ≤ z = stands_le (length ring) start (at stored) (0 + entry_blocks (length x)) (first + 1) xs z (subst (λ (l : List (List ℕ)). Stands (length ring) start (at stored) 0 first l z) is gone).1 in
      omega (arith, b, le)

  by_first : (ds : List (List ℕ)) → dropped ≡ ds → Finds (length ring) ((start + z) % length ring) (reading ring ((start + z) % length ring)) 0 (first + length dropped) kept
  by_first [] is = let none : length dropped ≡ 0 = ap (λ (l : List (List ℕ)). length l) is in absurd (omega (arith, none, some))
  by_first (x ∷ xs) is = rest_finds (length ring) ((start + z) % length ring) (drop z stored) (first + length dropped) kept kept_stand (reading ring ((start + z) % length ring)) front behind
    where
      size : length (drop z stored) ≡ length stored - z
      size = length-drop z stored

      front : (v : ℕ) → v < length (drop z stored) → reading ring ((start + z) % length ring) v ≡ at (drop z stored) v
      front v lt = later ring start z v ∙ stays (z + v) (omega arith) (omega (arith, lt, size, fit)) ∙ sym (get_or-drop z stored v zero_block)

      behind : length (drop z stored) < length ring → (reading ring ((start + z) % length ring) (length (drop z stored)) ≡ zero_block)
          ⊎ (from_be_bytes w64 (slice_range (reading ring ((start + z) % length ring) (length (drop z stored))) 8 16) ≡ first + length dropped + length kept → ⊥)
      behind lt =
          let there : z + length (drop z stored) ≡ length stored = omega (arith, size, z_fits) in
          let is_there : reading ring ((start + z) % length ring) (length (drop z stored)) ≡ reading ring start (length stored) = later ring start z (length (drop z stored)) ∙ ap (reading ring start) there in
          elim (cases_lt (length stored) (length ring)) [
            | inl free ↦ inl (is_there ∙ stays (length stored) z_fits free ∙ get_or_past stored (length stored) zero_block (omega arith))
            | inr full ↦
                let whole : length stored ≡ 0 + length ring = omega (arith, fit, full) in
                let at_first : reading ring ((start + z) % length ring) (length (drop z stored)) ≡ reading ring start 0 = is_there ∙ ap (reading ring start) whole ∙ around ring start 0 in
                ⊎_elim
                (λ zeros. inl (at_first ∙ zeros))
                (λ old. inr (λ same.
                let number : first ≡ first + length dropped + length kept = sym old ∙ sym (ap (λ (t : List ℕ). from_be_bytes w64 (slice_range t 8 16)) at_first) ∙ same in
                omega (arith, number, some)))
                (first_gone (some_gone x xs is) x xs is)
          ]

  pub dropping_finds : Finds (length ring) ((start + z) % length ring) (reading ring ((start + z) % length ring)) 0 (first + length dropped) kept
  dropping_finds = by_first dropped refl
