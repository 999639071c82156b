-- Places of a ring from its start on and back, and the view of a ring there.
use Rattle.std.proofs.Common.{◌≡◌, ◌⊎◌, inl, inr, ⊎_elim, ℕ, zero, suc, ◌+◌, ◌-◌, ◌%◌, ◌<◌, ◌≤◌, List, [], ◌∷◌, length, drop, replicate, get_or, refl, sym, ◌∙◌, ap, arith}
use Rattle.std.proofs.Math.Nat.{mod-lt, mod-eq_of_lt, mod-add-mod, add-mod-mod, add-mod_left, add-mod_right}
use Rattle.std.proofs.lemmas.Bool.{cases_lt}
use Rattle.std.proofs.lemmas.List.{length-drop, length-replicate, get_or-replicate, get_or_append_left, get_or-append_right, get_or_past}
use Rattle.ark_media.specs.Journal.{block, zero_block}
use Rattle.ark_entry.specs.Writing.{at, zeroed}
use Rattle.ark_caladan.specs.Views.{contents_at, view_of}

-- the place of a ring's block, from its start, and back
wrap : (room start u : ℕ) → start < room → u < room → ((start + u) % room ≡ start + u) ⊎ ((room ≤ start + u) × ((start + u) % room ≡ start + u - room))
wrap room start u ls lu = elim (cases_lt (start + u) room) [
  | inl lt ↦ inl (mod-eq_of_lt lt)
  | inr ge ↦
      let whole : start + u ≡ room + (start + u - room) = omega (arith, ge) in
      let rest : start + u - room < room = omega (arith, ge, ls, lu) in
      inr (ge, ap (λ (n : ℕ). n % room) whole ∙ add-mod_left room (start + u - room) ∙ mod-eq_of_lt rest)
]

pub place_back : (room start u : ℕ) → start < room → u < room → ((start + u) % room + room - start) % room ≡ u
place_back room start u ls lu = ⊎_elim
    (λ same. let e : (start + u) % room + room - start ≡ u + room = omega (arith, same, ls) in ap (λ n. n % room) e ∙ add-mod_right u room ∙ mod-eq_of_lt lu)
    (λ past. let e : (start + u) % room + room - start ≡ u = omega (arith, past.0, past.1, ls) in ap (λ n. n % room) e ∙ mod-eq_of_lt lu)
    (wrap room start u ls lu)

pub place_forth : (room start p : ℕ) → start < room → p < room → (start + (p + room - start) % room) % room ≡ p
place_forth room start p ls lp =
    let e : start + (p + room - start) ≡ p + room = omega (arith, ls) in
    add-mod-mod start (p + room - start) room ∙ ap (λ n. n % room) e ∙ add-mod_right p room ∙ mod-eq_of_lt lp

-- the view of a ring at the place of a block behind the start
pub view_at : (room : ℕ) (header : List ℕ) (start : ℕ) (stored : List (List ℕ)) (u : ℕ) → start < room → u < room → view_of room header start stored (suc ((start + u) % room)) ≡ at stored u
view_at room header start stored u ls lu = ap (at stored) (place_back room start u ls lu)

pub ring_at : (image : List (List ℕ)) (rest : List ℕ) (p : ℕ) → p < length rest → block (contents_at image rest) p ≡ block image (get_or rest p 0)
ring_at image [] p lt = absurd (omega arith)
ring_at image (n ∷ rest) zero lt = refl
ring_at image (n ∷ rest) (suc p) lt = ring_at image rest p (omega arith)

-- the view of a ring whose first z blocks are zero is that of what is left, from the later start on
pub zeroed_view : (room : ℕ) (header : List ℕ) (start : ℕ) (stored : List (List ℕ)) (z k : ℕ) → start < room → z ≤ length stored → length stored ≤ room → k < suc room
    → view_of room header start (zeroed z stored) k ≡ view_of room header ((start + z) % room) (drop z stored) k
zeroed_view room header start stored z zero ls small fit lt = refl
zeroed_view room header start stored z (suc p) ls small fit lt = elim (cases_lt (z + u) room) [
  | inl inside ↦
      let left : z + u - z ≡ u = omega arith in
      ap (at (zeroed z stored)) (place ∙ mod-eq_of_lt inside)
      ∙ get_or-append_right (replicate z zero_block) (drop z stored) z (z + u) zero_block (length-replicate z zero_block) (omega arith) ∙ ap (at (drop z stored)) left
  | inr past ↦
      let whole : z + u ≡ room + (z + u - room) = omega (arith, past) in
      let low : z + u - room < z = omega (arith, past, u_low) in
      ap (at (zeroed z stored)) (place ∙ ap (λ n. n % room) whole ∙ add-mod_left room (z + u - room) ∙ mod-eq_of_lt (omega (arith, low, small, fit)))
      ∙ get_or_append_left (replicate z zero_block) (drop z stored) zero_block (z + u - room) (omega (arith, length-replicate z zero_block, low))
      ∙ get_or-replicate z (z + u - room) zero_block zero_block low
      ∙ sym (get_or_past (drop z stored) u zero_block (omega (arith, length-drop z stored, past, fit, small)))
]
  where
    u : ℕ
    u = (p + room - (start + z) % room) % room

    pos : 0 < room
    pos = omega (arith, ls)

    u_low : (p + room - (start + z) % room) % room < room
    u_low = mod-lt (p + room - (start + z) % room) pos

    -- the same block of the ring
    same : (start + (z + (p + room - (start + z) % room) % room) % room) % room ≡ p
    same =
        let e : start + (z + (p + room - (start + z) % room) % room) ≡ start + z + (p + room - (start + z) % room) % room = omega arith in
        add-mod-mod start (z + (p + room - (start + z) % room) % room) room ∙ ap (λ n. n % room) e
        ∙ sym (mod-add-mod (start + z) room ((p + room - (start + z) % room) % room)) ∙ place_forth room ((start + z) % room) p (mod-lt (start + z) pos) (omega arith)

    place : (p + room - start) % room ≡ (z + (p + room - (start + z) % room) % room) % room
    place = ap (λ n. (n + room - start) % room) (sym same) ∙ place_back room start ((z + (p + room - (start + z) % room) % room) % room) ls (mod-lt (z + (p + room - (start + z) % room) % room) pos)
