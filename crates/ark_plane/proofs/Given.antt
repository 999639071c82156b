-- The free blocks once a slot's blocks are given back.
use Rattle.std.proofs.Common.{◌≡◌, ◌⊎◌, inl, inr, ⊎_elim, ℕ, suc, ◌+◌, ◌-◌, ◌<◌, ◌≤◌, true, false, not, ◌==◌, eqb-true, List, [], ◌∷◌, refl, sym, ◌∙◌, ap, subst, arith, Contains}
use Rattle.std.specs.Prelude.{slice_index}
use Rattle.std.specs.List.{range_with_len}
use Rattle.std.specs.List.Sorted.{IsStrictlyIncreasing}
use Rattle.std.proofs.lemmas.Bool.{false≢true}
use Rattle.ark_extents.specs.Free.{Gains}
use Rattle.ark_extents.proofs.Holding.{range_contains}
use Rattle.ark_table.specs.Slots.{Slot}
use Rattle.ark_machine.specs.Plane.{is_granted, free_blocks}
use Rattle.ark_machine.specs.Granting.{without_slot}
use Rattle.ark_machine.specs.Grants.{has_block, SlotsAgree}
use Rattle.ark_held.proofs.Members.{In, contains_in, in_contains}
use Rattle.ark_plane.specs.Shared.{slots_on}
use Rattle.ark_plane.proofs.Tests.{by_test}
use Rattle.ark_plane.proofs.Lists.{any_in, in_select}
use Rattle.ark_plane.proofs.Sharing.{has}
use Rattle.ark_plane.proofs.Freeing.{Rises, rising}
use Rattle.ark_plane.proofs.Removed.{any_found, in_selected, fits, not_granted, granted_front, stayed}

-- Lists that rise are the same where their members are.

rises_low : (s n : ℕ) (xs : List ℕ) → Rises s xs → In xs n → s ≤ n
rises_low s n [] rises among = absurd among
rises_low s n (x ∷ xs) rises (inl e) = omega (arith, rises.0, e)
rises_low s n (x ∷ xs) rises (inr among) = let rest = rises_low (suc x) n xs rises.1 among in omega (arith, rises.0, rest)

pub same_rising : (s r : ℕ) (xs ys : List ℕ) → Rises s xs → Rises r ys → ((n : ℕ) → In xs n → In ys n) → ((n : ℕ) → In ys n → In xs n) → xs ≡ ys
same_rising s r [] [] a b there back = refl
same_rising s r [] (y ∷ ys) a b there back = absurd (back y (inl refl))
same_rising s r (x ∷ xs) [] a b there back = absurd (there x (inl refl))
same_rising s r (x ∷ xs) (y ∷ ys) a b there back =
    let low : y ≤ x = ⊎_elim (λ e. omega (arith, e)) (λ among. let l = rises_low (suc y) x ys b.1 among in omega (arith, l)) (there x (inl refl)) in
    let high : x ≤ y = ⊎_elim (λ e. omega (arith, e)) (λ among. let l = rises_low (suc x) y xs a.1 among in omega (arith, l)) (back y (inl refl)) in
    let same : x ≡ y = omega (arith, low, high) in
    ap (λ n. n ∷ xs) same
    ∙ ap (λ (zs : List ℕ). y ∷ zs) (same_rising (suc x) (suc y) xs ys a.1 b.1
    (λ n among. ⊎_elim (λ e. let l = rises_low (suc x) n xs a.1 among in absurd (omega (arith, e, l, same))) (λ h. h) (there n (inr among)))
    (λ n among. ⊎_elim (λ e. let l = rises_low (suc y) n ys b.1 among in absurd (omega (arith, e, l, same))) (λ h. h) (back n (inr among))))

rises_behind : (x : ℕ) (xs : List ℕ) → IsStrictlyIncreasing (x ∷ xs) → Rises (suc x) xs
rises_behind x [] rises = tt
rises_behind x (y ∷ ys) rises = (
  (let first : x < y = rises 0 (omega arith) in omega (arith, first)),
  rises_behind y ys (λ k lt.
      let e : suc k + 1 ≡ suc (k + 1) = omega arith in
      subst (λ m. slice_index (y ∷ ys) k < slice_index (x ∷ y ∷ ys) m) e (rises (suc k) (omega (arith, lt)))),
)

pub rises_all : (xs : List ℕ) → IsStrictlyIncreasing xs → Rises 0 xs
rises_all [] rises = tt
rises_all (x ∷ xs) rises = (omega arith, rises_behind x xs rises)

pub block_in : (blocks : List ℕ) (n : ℕ) → has_block blocks n ≡ true → Contains blocks n
block_in blocks n is = let f = any_found (λ b. b == n) blocks is in subst (λ m. Contains blocks m) (eqb-true f.0 n f.2) (in_contains blocks f.0 f.1)

-- A block that is free lies on the device, and no slot has it.
module _ (size : ℕ) (ss : List Slot) (n : ℕ) where
  free_is : Contains (free_blocks (slots_on size ss)) n → Contains (range_with_len 129 (size - 129)) n × (is_granted ss n ≡ false)
  free_is has =
      let r = in_select (λ k. not (is_granted ss k)) (range_with_len 129 (size - 129)) n (contains_in (free_blocks (slots_on size ss)) n has) in
      (in_contains (range_with_len 129 (size - 129)) n r.0, by_test (is_granted ss n) (λ b. is_granted ss n ≡ b → b ≡ false) (λ yes q. absurd (false≢true (sym (ap not q) ∙ r.1))) (λ no q. refl) refl)

  is_free : Contains (range_with_len 129 (size - 129)) n → is_granted ss n ≡ false → In (free_blocks (slots_on size ss)) n
  is_free has none = in_selected (λ k. not (is_granted ss k)) (range_with_len 129 (size - 129)) n (contains_in (range_with_len 129 (size - 129)) n has) (ap not none)

module _ (size : ℕ) (ss : List Slot) (agree : SlotsAgree size ss) (t : Slot) (held : Contains ss t) where
  -- none of a slot's blocks is free
  pub not_free : (n : ℕ) → Contains t.blocks n → Contains (free_blocks (slots_on size ss)) n → ⊥
  not_free n its free =
      let granted : is_granted ss n ≡ true = any_in (λ (s : Slot). has_block s.blocks n) ss t (contains_in ss t held) (has t.blocks n its) in
      false≢true (sym (free_is size ss n free).1 ∙ granted)

  abbrev rest : List Slot
  rest = without_slot t ss

  pub given_free : (old new : List ℕ) → free_blocks (slots_on size ss) ≡ old → Gains old new t.blocks → IsStrictlyIncreasing new → free_blocks (slots_on size (without_slot t ss)) ≡ new
  given_free old new was gains rises = same_rising 129 0 (free_blocks (slots_on size rest)) new (rising (λ k. not (is_granted rest k)) 129 (size - 129)) (rises_all new rises)
      (λ n among.
      let f = free_is size rest n (in_contains (free_blocks (slots_on size rest)) n among) in
      contains_in new n ((gains n).1 (by_test (has_block t.blocks n) (λ b. has_block t.blocks n ≡ b → Contains old n ⊎ Contains t.blocks n)
      (λ yes q. inr (block_in t.blocks n q))
      (λ no q. inl (subst (λ (xs : List ℕ). Contains xs n) was (in_contains (free_blocks (slots_on size ss)) n (is_free size ss n f.0 (by_test (is_granted ss n) (λ b. is_granted ss n ≡ b → b ≡ false)
      (λ granted g. absurd (⊎_elim (λ h. false≢true (sym q ∙ h)) (λ h. false≢true (sym f.1 ∙ h)) (granted_front size ss agree t held n g))) (λ free g. refl) refl))))) refl)))
      (λ n among. ⊎_elim
      (λ before.
      let f = free_is size ss n (subst (λ (xs : List ℕ). Contains xs n) (sym was) before) in
      is_free size rest n f.0 (by_test (is_granted rest n) (λ b. is_granted rest n ≡ b → b ≡ false) (λ granted g. absurd (false≢true (sym f.1 ∙ still n g))) (λ free g. refl) refl))
      (λ its.
      let d = (fits size ss agree t held).data_part n its in
      is_free size rest n (range_contains 129 (size - 129) n d.0 (let low = d.0 in let high = d.1 in omega (arith, low, high))) (not_granted size ss agree t held n (has t.blocks n its)))
      ((gains n).0 (in_contains new n among)))
    where
      -- what a slot has that stays was granted before
      still : (n : ℕ) → is_granted rest n ≡ true → is_granted ss n ≡ true
      still n is =
          let f = any_found (λ (s : Slot). has_block s.blocks n) rest is in
          any_in (λ (s : Slot). has_block s.blocks n) ss f.0 (contains_in ss f.0 (stayed size ss agree t held f.0 (in_contains rest f.0 f.1)).0) f.2
