-- What is found in a ring while an entry is written, and after entries were dropped.
use Rattle.std.proofs.Common.{◌≡◌, ◌⊎◌, inl, inr, ⊎_elim, ℕ, ◌+◌, ◌-◌, ◌%◌, ◌^◌, ◌<◌, ◌≤◌, List, [], ◌∷◌, ◌++◌, length, drop, get_or, replicate, refl, sym, ◌∙◌, ap, subst, arith, slice_range, length-append, append-nil}
use Rattle.std.specs.Int.{w64, from_be_bytes}
use Rattle.std.proofs.lemmas.Bool.{cases_eq, cases_lt}
use Rattle.std.proofs.lemmas.List.{length-drop, get_or-drop, get_or_append_left, get_or-append_right, get_or_past}
use Rattle.std.proofs.Math.Nat.{mod-lt}
use Rattle.ark_media.specs.Journal.{zero_block}
use Rattle.ark_entry.specs.Entry.{entry_blocks, length_in, marker}
use Rattle.ark_entry.specs.Reading.{Entry, Finds, Stands}
use Rattle.ark_entry.specs.Writing.{at, Between, draft, final, Appends, next_place}
use Rattle.ark_entry.proofs.Readings.{some_block}
use Rattle.ark_entry.proofs.Standing.{stands_le, stands_same, stands_then, stands_push, none_zero, none_end, stands_shift, stands_behind}
use Rattle.ark_entry.proofs.Drafts.{length-draft, length-final, draft_ends, draft_says, final_others, final_stands}

-- bytes of zeros are no marker
pub zeros_unmarked : replicate {A = ℕ} 8 0 ≡ marker → ⊥
zeros_unmarked is = let other : 0 ≡ 67 = ap (λ (t : List ℕ). get_or t 0 0) is in omega (arith, other)

-- the ring from the first entry on that stays
pub trimmed : (room start : ℕ) (stored : List (List ℕ)) (first : ℕ) (dropped kept : List (List ℕ)) → Stands room start (at stored) 0 first (dropped ++ kept) (length stored)
    → (z : ℕ) × Stands room start (at stored) 0 first dropped z × Stands room ((start + z) % room) (at (drop z stored)) 0 (first + length dropped) kept (length (drop z stored))
trimmed room start stored first dropped kept stands =
    let b = stands_behind room start (at stored) 0 first dropped kept (length stored) stands in
    let le : b.0 ≤ length stored = stands_le room start (at stored) b.0 (first + length dropped) kept (length stored) b.2 in
    let size : length stored ≡ b.0 + length (drop b.0 stored) = omega (arith, length-drop b.0 stored, le) in
    let z0 : b.0 ≡ b.0 + 0 = omega arith in
    let t = subst (λ (to : ℕ). Stands room start (at stored) b.0 (first + length dropped) kept to) size b.2 in
    let t0 = subst (λ (from : ℕ). Stands room start (at stored) from (first + length dropped) kept (b.0 + length (drop b.0 stored))) z0 t in
    (b.0, b.1, stands_shift room start b.0 (at stored) (at (drop b.0 stored)) 0 (first + length dropped) kept (length (drop b.0 stored)) (λ v. sym (get_or-drop b.0 stored v zero_block)) t0)

module _ (room start : ℕ) (stored : List (List ℕ)) (first : ℕ) (acked : List (List ℕ)) (stands : Stands room start (at stored) 0 first acked (length stored)) where
  -- behind the stored entries there is none, so they are all
  all_found : (r : ℕ → List ℕ) → ((v : ℕ) → v < length stored → r v ≡ at stored v) → ((x : List ℕ) → Entry room start r (length stored) (first + length acked) x → ⊥) → Finds room start r 0 first acked
  all_found r same none = subst (λ (l : List (List ℕ)). Finds room start r 0 first l) (append-nil acked)
      (stands_then room start r 0 first acked [] (length stored) (stands_same room start (at stored) r 0 first acked (length stored) (λ v from to. sym (same v to)) stands) none)

  -- Entries before these were dropped, and what is left of them may stand behind these: it is no entry if it is zero or has another number.
  pub rest_finds : (r : ℕ → List ℕ) → ((v : ℕ) → v < length stored → r v ≡ at stored v)
      → (length stored < room → (r (length stored) ≡ zero_block) ⊎ (from_be_bytes w64 (slice_range (r (length stored)) 8 16) ≡ first + length acked → ⊥)) → Finds room start r 0 first acked
  rest_finds r same behind = all_found r same (λ x e. elim (cases_lt (length stored) room) [
    | inl lt ↦ ⊎_elim (λ zero_there. none_zero room start r (length stored) (first + length acked) x zero_there e) (λ other. other e.num) (behind lt)
    | inr past ↦ none_end room start r (length stored) (first + length acked) x past e
  ])

  pub idle_finds : length stored ≤ room → (r : ℕ → List ℕ) → Between room stored stored r → Finds room start r 0 first acked
  idle_finds fit r between = rest_finds r
      (λ v lt. ⊎_elim (λ x. x) (λ x. x) (between v (omega (arith, lt, fit))))
      (λ lt. inl (⊎_elim (λ x. x) (λ x. x) (between (length stored) lt) ∙ get_or_past stored (length stored) zero_block (omega arith)))

  module _ (number next : ℕ) (payload : List ℕ) (numbered : number ≡ first + length acked) (short : length payload ≤ 32768) (fit : length stored + entry_blocks (length payload) ≤ room) where
    abbrev blocks : ℕ
    blocks = entry_blocks (length payload)

    at_front : (more : List (List ℕ)) (v : ℕ) → v < length stored → at (stored ++ more) v ≡ at stored v
    at_front more v lt = get_or_append_left stored more zero_block v lt

    at_back : (more : List (List ℕ)) (v : ℕ) → length stored ≤ v → at (stored ++ more) v ≡ at more (v - length stored)
    at_back more v le = get_or-append_right stored more (length stored) v zero_block refl le

    -- while the blocks are written without the marker
    body_found : (r : ℕ → List ℕ) → Between room stored (stored ++ draft number next payload) r → Finds room start r 0 first acked
    body_found r between = all_found r
        (λ v lt. ⊎_elim (λ x. x) (λ x. x ∙ at_front (draft number next payload) v lt) (between v (omega (arith, fit, lt))))
        (λ x e. ⊎_elim (zero_head x e) (head x e) (between (length stored) (omega (arith, fit, some_block (length payload)))))
      where
        zero_head : (x : List ℕ) → Entry room start r (length stored) (first + length acked) x → r (length stored) ≡ at stored (length stored) → ⊥
        zero_head x e is = none_zero room start r (length stored) (first + length acked) x (is ∙ get_or_past stored (length stored) zero_block (omega arith)) e

        head : (x : List ℕ) → Entry room start r (length stored) (first + length acked) x → r (length stored) ≡ at (stored ++ draft number next payload) (length stored) → ⊥
        head x e is =
            let some : 1 ≤ blocks = some_block (length payload) in
            let k0 : length stored - length stored ≡ 0 = omega arith in
            let first_block : r (length stored) ≡ at (draft number next payload) 0 = is ∙ at_back (draft number next payload) (length stored) (omega arith) ∙ ap (at (draft number next payload)) k0 in
            let long : length x ≡ length payload = sym e.size ∙ ap length_in first_block ∙ draft_says number next payload (omega (arith, short)) in
            let mark : drop 504 (r (length stored + blocks - 1)) ≡ marker = subst (λ (n : ℕ). drop 504 (r (length stored + entry_blocks n - 1)) ≡ marker) long e.mark in
            let back : length stored + blocks - 1 - length stored ≡ blocks - 1 = omega (arith, some) in
            let behind : length stored ≤ length stored + blocks - 1 = omega (arith, some) in
            ⊎_elim
            (λ old. zeros_unmarked (sym (ap (λ (t : List ℕ). drop 504 t) (old ∙ get_or_past stored (length stored + blocks - 1) zero_block behind)) ∙ mark))
            (λ new. zeros_unmarked (sym (ap (λ (t : List ℕ). drop 504 t) (new ∙ at_back (draft number next payload) (length stored + blocks - 1) behind ∙ ap (at (draft number next payload)) back) ∙ draft_ends number next payload) ∙ mark))
            (between (length stored + blocks - 1) (omega (arith, fit, some)))

    module _ (low : number ≤ 2 ^ 62) (few : next < 2 ^ 32) (next_is : next ≡ (start + length stored + entry_blocks (length payload)) % room) where
      entry : Entry room start (at (stored ++ final number next payload)) (length stored) (first + length acked) payload
      entry = subst (λ (m : ℕ). Entry room start (at (stored ++ final number next payload)) (length stored) m payload) numbered
          (final_stands number next payload room start (length stored) (at (stored ++ final number next payload)) short low fit few next_is
          (λ k lt. let there : length stored + k - length stored ≡ k = omega arith in
          at_back (final number next payload) (length stored + k) (omega arith) ∙ ap (at (final number next payload)) there))

      -- and afterwards
      more_stand : Stands room start (at (stored ++ final number next payload)) 0 first (acked ++ payload ∷ []) (length (stored ++ final number next payload))
      more_stand =
          let size : length stored + blocks ≡ length (stored ++ final number next payload) =
          sym (length-append stored (final number next payload) ∙ ap (λ k. length stored + k) (length-final number next payload)) in
          subst (λ (to : ℕ). Stands room start (at (stored ++ final number next payload)) 0 first (acked ++ payload ∷ []) to) size
          (stands_push room start (at (stored ++ final number next payload)) 0 first acked payload (length stored)
          (stands_same room start (at stored) (at (stored ++ final number next payload)) 0 first acked (length stored) (λ v from to. sym (at_front (final number next payload) v to)) stands) entry)

      agree : (u : ℕ) → (u ≡ length stored + blocks - 1 → ⊥) → at (stored ++ final number next payload) u ≡ at (stored ++ draft number next payload) u
      agree u ne = elim (cases_lt u (length stored)) [
        | inl lt ↦ at_front (final number next payload) u lt ∙ sym (at_front (draft number next payload) u lt)
        | inr le ↦ at_back (final number next payload) u le ∙ other (u - length stored) (λ is. ne (omega (arith, is, le, some_block (length payload)))) ∙ sym (at_back (draft number next payload) u le)
      ]
        where
          other : (k : ℕ) → (k ≡ blocks - 1 → ⊥) → at (final number next payload) k ≡ at (draft number next payload) k
          other k apart = elim (cases_lt k (blocks - 1)) [
            | inl lt ↦ final_others number next payload k lt
            | inr le ↦ elim (cases_eq k (blocks - 1)) [
              | inl same ↦ absurd (apart same)
              | inr ne ↦ get_or_past (final number next payload) k zero_block (omega (arith, le, ne, length-final number next payload))
                  ∙ sym (get_or_past (draft number next payload) k zero_block (omega (arith, le, ne, length-draft number next payload)))
            ]
          ]

      -- while the marker is written
      marking_found : (r : ℕ → List ℕ) → Between room (stored ++ draft number next payload) (stored ++ final number next payload) r → Finds room start r 0 first acked ⊎ Finds room start r 0 first (acked ++ payload ∷ [])
      marking_found r between = ⊎_elim
          (λ old. inl (body_found r (λ u lt. inr (elim (cases_eq u (length stored + blocks - 1)) [
            | inl same ↦ subst (λ (v : ℕ). r v ≡ at (stored ++ draft number next payload) v) (sym same) old
            | inr ne ↦ ⊎_elim (λ x. x) (λ x. x ∙ agree u ne) (between u lt)
          ]))))
          (λ new. inr (whole (λ u lt. elim (cases_eq u (length stored + blocks - 1)) [
            | inl same ↦ subst (λ (v : ℕ). r v ≡ at (stored ++ final number next payload) v) (sym same) new
            | inr ne ↦ ⊎_elim (λ x. x ∙ sym (agree u ne)) (λ x. x) (between u lt)
          ])))
          (between (length stored + blocks - 1) (omega (arith, fit, some_block (length payload))))
        where
          whole : ((u : ℕ) → u < room → r u ≡ at (stored ++ final number next payload) u) → Finds room start r 0 first (acked ++ payload ∷ [])
          whole same =
              let size : length (stored ++ final number next payload) ≡ length stored + blocks = length-append stored (final number next payload) ∙ ap (λ k. length stored + k) (length-final number next payload) in
              let end = length (stored ++ final number next payload) in
              subst (λ (l : List (List ℕ)). Finds room start r 0 first l) (append-nil (acked ++ payload ∷ []))
              (stands_then room start r 0 first (acked ++ payload ∷ []) [] end
              (stands_same room start (at (stored ++ final number next payload)) r 0 first (acked ++ payload ∷ []) end (λ v from to. sym (same v (omega (arith, size, fit, to)))) more_stand)
              (λ x e. elim (cases_lt end room) [
                | inl lt ↦ none_zero room start r end (first + length (acked ++ payload ∷ [])) x (same end lt ∙ get_or_past (stored ++ final number next payload) end zero_block (omega arith)) e
                | inr past ↦ none_end room start r end (first + length (acked ++ payload ∷ [])) x past e
              ]))

module _ (room start : ℕ) (stored : List (List ℕ)) (first : ℕ) (acked : List (List ℕ)) (payload : List ℕ) (appends : Appends room start stored first acked payload) where
  next_few : next_place room start stored payload < 2 ^ 32
  next_few =
      let some : 1 ≤ entry_blocks (length payload) = some_block (length payload) in
      let inside : next_place room start stored payload < room = mod-lt (start + length stored + entry_blocks (length payload)) {m = room} (omega (arith, some, appends.fits)) in
      omega (arith, inside, appends.few)

  pub body_finds : (r : ℕ → List ℕ) → Between room stored (stored ++ draft (first + length acked) (next_place room start stored payload) payload) r → Finds room start r 0 first acked
  body_finds r between = body_found room start stored first acked appends.stands (first + length acked) (next_place room start stored payload) payload refl appends.short appends.fits r between

  pub marking_finds : (r : ℕ → List ℕ)
      → Between room (stored ++ draft (first + length acked) (next_place room start stored payload) payload) (stored ++ final (first + length acked) (next_place room start stored payload) payload) r
      → Finds room start r 0 first acked ⊎ Finds room start r 0 first (acked ++ payload ∷ [])
  marking_finds r between =
      marking_found room start stored first acked appends.stands (first + length acked) (next_place room start stored payload) payload refl appends.short appends.fits appends.low next_few refl r between

  pub more_stands : Stands room start (at (stored ++ final (first + length acked) (next_place room start stored payload) payload)) 0 first (acked ++ payload ∷ [])
      (length (stored ++ final (first + length acked) (next_place room start stored payload) payload))
  more_stands = more_stand room start stored first acked appends.stands (first + length acked) (next_place room start stored payload) payload refl appends.short appends.fits appends.low next_few refl
