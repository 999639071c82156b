-- The stages of an append lead from the list that lies in the ring to the list after the command.
use Rattle.std.proofs.Common.{◌≡◌, ◌⊎◌, inl, inr, ⊎_elim, ℕ, suc, false, ◌+◌, ◌-◌, ◌%◌, ◌<◌, ◌≤◌, List, ◌∷◌, ◌++◌, length, get_or, length-append, refl, sym, ◌∙◌, ap, subst, arith}
use Rattle.std.proofs.Math.Nat.{mod-lt}
use Rattle.std.proofs.lemmas.Bool.{cases_lt}
use Rattle.std.proofs.lemmas.List.{get_or_append_left, get_or-append_right, get_or_past}
use Rattle.ark_base.specs.declared.kind.Kind.{Kind}
use Rattle.ark_media.specs.Journal.{zero_block}
use Rattle.ark_entry.specs.Header.{Header}
use Rattle.ark_entry.specs.Entry.{entry_blocks}
use Rattle.ark_entry.specs.Found.{Entries, found, found_of}
use Rattle.ark_entry.specs.Writing.{at, draft, final, next_place}
use Rattle.ark_entry.proofs.Readings.{some_block, start_inside}
use Rattle.ark_entry.proofs.Drafts.{length-draft, length-final, final_others}
use Rattle.ark_caladan.specs.Chain.{append, after_command, next_number, blocks_of}
use Rattle.ark_caladan.specs.Leaves.{LiesInRing, RingHolds, HasRoom, with_draft, with_entry}
use Rattle.ark_caladan.specs.Views.{view_of}
use Rattle.ark_caladan.specs.Stages.{resting}
use Rattle.ark_caladan.specs.Leading.{IsFound, IsFoundEither, Leads}
use Rattle.ark_caladan.specs.Plans.{ring_places, append_stages}
use Rattle.ark_caladan.proofs.Leaving.{rest_is_found, draft_is_found, marker_is_found, entry_lies, stands_end}
use Rattle.ark_caladan.proofs.Viewed.{length-ring_places, ring_in, covers, ringed}

-- what is found in a ring at rest
pub found_resting : (kind : Kind) (room : ℕ) → 0 < room → (header : List ℕ) (h : Header) (stored : List (List ℕ)) (l : Entries) → LiesInRing kind room header h stored l
    → IsFound kind (suc room) (view_of room header h.start stored) (view_of room header h.start stored) (found l)
found_resting kind room some header h stored l lies contents between =
    let r = ringed kind room some h.start (start_inside kind header room h some lies.read) header header stored stored contents between in
    ap (found_of kind) r.is ∙ ap (λ (b : List ℕ). found_of kind (b ∷ r.ring)) (⊎_elim (λ v. v) (λ v. v) r.head)
    ∙ rest_is_found kind header h r.ring stored l r.is_ring (subst (λ (n : ℕ). LiesInRing kind n header h stored l) (sym r.long) lies) r.holds

module _ (kind : Kind) (room : ℕ) (some : 0 < room) (header : List ℕ) (h : Header) (stored : List (List ℕ)) (l : Entries) (lies : LiesInRing kind room header h stored l) where
  pub ls : h.start < room
  ls = start_inside kind header room h some lies.read

  abbrev view : List (List ℕ) → ℕ → List ℕ
  view blocks = view_of room header h.start blocks

  lies_in : (ring : List (List ℕ)) → length ring ≡ room → LiesInRing kind (length ring) header h stored l
  lies_in ring long = subst (λ (n : ℕ). LiesInRing kind n header h stored l) (sym long) lies

  -- the blocks of the list
  pub used : length stored ≡ blocks_of l.payloads
  used = let e : length stored ≡ 0 + blocks_of l.payloads = stands_end room h.start (at stored) 0 l.first l.payloads (length stored) lies.stands in omega (arith, e)

  module _ (payload : List ℕ) (has_room : HasRoom room stored l payload) where
    abbrev blocks : ℕ
    blocks = entry_blocks (length payload)

    abbrev number : ℕ
    number = l.first + length l.payloads

    abbrev next : ℕ
    next = next_place room h.start stored payload

    abbrev drafted : List (List ℕ)
    drafted = with_draft room h stored l payload

    abbrev whole : List (List ℕ)
    whole = with_entry room h stored l payload

    room_in : (ring : List (List ℕ)) → length ring ≡ room → HasRoom (length ring) stored l payload
    room_in ring long = subst (λ (n : ℕ). HasRoom n stored l payload) (sym long) has_room

    -- while the entry is written without its marker, and behind that
    found_draft : (a : List (List ℕ)) → ((u : ℕ) → (at a u ≡ at stored u) ⊎ (at a u ≡ at drafted u)) → IsFound kind (suc room) (view a) (view drafted) (found l)
    found_draft a is contents between =
        let r = ringed kind room some h.start ls header header a drafted contents between in
        let holds : RingHolds r.ring h stored (with_draft room h stored l payload) = λ u lt. ⊎_elim (λ v. ⊎_elim (λ w. inl (v ∙ w)) (λ w. inr (v ∙ w)) (is u)) (λ v. inr v) (r.holds u lt) in
        ap (found_of kind) r.is ∙ ap (λ (b : List ℕ). found_of kind (b ∷ r.ring)) (⊎_elim (λ v. v) (λ v. v) r.head)
        ∙ draft_is_found kind header h r.ring stored l r.is_ring (lies_in r.ring r.long) payload (room_in r.ring r.long) (subst (λ (n : ℕ). RingHolds r.ring h stored (with_draft n h stored l payload)) (sym r.long) holds)

    -- while the marker is written
    found_marker : IsFoundEither kind (suc room) (view drafted) (view whole) (found l) (found (after_command l (append (next_number l) payload)))
    found_marker contents between =
        let r = ringed kind room some h.start ls header header drafted whole contents between in
        let same : found_of kind contents ≡ found_of kind (header ∷ r.ring) = ap (found_of kind) r.is ∙ ap (λ (b : List ℕ). found_of kind (b ∷ r.ring)) (⊎_elim (λ v. v) (λ v. v) r.head) in
        ⊎_elim (λ v. inl (same ∙ v)) (λ v. inr (same ∙ v))
        (marker_is_found kind header h r.ring stored l r.is_ring (lies_in r.ring r.long) payload (room_in r.ring r.long)
        (subst (λ (n : ℕ). RingHolds r.ring h (with_draft n h stored l payload) (with_entry n h stored l payload)) (sym r.long) r.holds))

    -- and behind it the list with the entry lies there
    pub whole_lies : LiesInRing kind room header h whole (after_command l (append (next_number l) payload))
    whole_lies = entry_lies kind room header h stored l lies payload has_room

    found_whole : IsFound kind (suc room) (view whole) (view whole) (found (after_command l (append (next_number l) payload)))
    found_whole = found_resting kind room some header h (with_entry room h stored l payload) (after_command l (append (next_number l) payload)) whole_lies

    -- the entry's blocks alone differ, and of these the last alone has the marker
    draft_differs : (u : ℕ) → u < room → (at stored u ≡ at drafted u) ⊎ ((length stored ≤ u) × (u < length stored + entry_blocks (length payload)))
    draft_differs u lt = elim (cases_lt u (length stored)) [
      | inl inside ↦ inl (sym (get_or_append_left stored (draft number next payload) zero_block u inside))
      | inr past ↦ elim (cases_lt u (length stored + entry_blocks (length payload))) [
        | inl in_entry ↦ inr (past, in_entry)
        | inr behind ↦ inl (get_or_past stored u zero_block past ∙ sym (get_or_past drafted u zero_block (omega (arith, long, behind))))
      ]
    ]
      where
        long : length (stored ++ draft number next payload) ≡ length stored + entry_blocks (length payload)
        long = length-append stored (draft number next payload) ∙ ap (λ n. length stored + n) (length-draft number next payload)

    marker_differs : (u : ℕ) → u < room → (at drafted u ≡ at whole u) ⊎ ((length stored + entry_blocks (length payload) - 1 ≤ u) × (u < length stored + entry_blocks (length payload) - 1 + 1))
    marker_differs u lt = elim (cases_lt u (length stored)) [
      | inl inside ↦ inl (get_or_append_left stored (draft number next payload) zero_block u inside ∙ sym (get_or_append_left stored (final number next payload) zero_block u inside))
      | inr past ↦ elim (cases_lt u (length stored + entry_blocks (length payload) - 1)) [
        | inl before ↦ inl (
            get_or-append_right stored (draft number next payload) (length stored) u zero_block refl past
            ∙ sym (final_others number next payload (u - length stored) (omega (arith, before, past)))
            ∙ sym (get_or-append_right stored (final number next payload) (length stored) u zero_block refl past))
        | inr last ↦ elim (cases_lt u (length stored + entry_blocks (length payload) - 1 + 1)) [
          | inl here ↦ inr (last, here)
          | inr behind ↦ inl (get_or_past drafted u zero_block (omega (arith, long_draft, behind, some_block (length payload))) ∙ sym (get_or_past whole u zero_block (omega (arith, long_final, behind, some_block (length payload)))))
        ]
      ]
    ]
      where
        long_draft : length (stored ++ draft number next payload) ≡ length stored + entry_blocks (length payload)
        long_draft = length-append stored (draft number next payload) ∙ ap (λ n. length stored + n) (length-draft number next payload)

        long_final : length (stored ++ final number next payload) ≡ length stored + entry_blocks (length payload)
        long_final = length-append stored (final number next payload) ∙ ap (λ n. length stored + n) (length-final number next payload)

    marker_covers : (k : ℕ) → k < suc room → (view drafted k ≡ view whole k) ⊎ (suc ((h.start + (length stored + entry_blocks (length payload) - 1)) % room) ≡ k)
    marker_covers k lt = ⊎_elim (λ same. inl same)
        (λ at_it. inr (subst (λ (i : ℕ). get_or (ring_places room h.start (length stored + entry_blocks (length payload) - 1) 1) i 0 ≡ k) (only at_it.0 at_it.1) at_it.2))
        (covers room header h.start drafted whole (length stored + entry_blocks (length payload) - 1) 1 ls marker_differs k lt)
      where
        only : (i : ℕ) → i < length (ring_places room h.start (length stored + entry_blocks (length payload) - 1) 1) → i ≡ 0
        only i less = omega (arith, less, length-ring_places room h.start (length stored + entry_blocks (length payload) - 1) 1)

    -- an append's stages lead to the list with its entry
    pub append_leads : Leads kind (suc room) (found l) (found (after_command l (append (next_number l) payload))) (resting (view stored) false) (append_stages room header h stored l payload)
    append_leads = (
      refl,
      ring_in room h.start (length stored) (entry_blocks (length payload)) some,
      found_draft stored (λ u. inl refl),
      (
        covers room header h.start stored drafted (length stored) (entry_blocks (length payload)) ls draft_differs,
        (λ contents between. inl (found_draft stored (λ u. inl refl) contents between)),
        found_draft drafted (λ u. inr refl),
        (
          refl,
          omega (arith, place),
          refl,
          found_marker,
          found_draft drafted (λ u. inr refl),
          found_whole,
          marker_covers,
          (
            (λ k lt. ⊎_elim (λ same. inl same) (λ here. inr (0, omega arith, here)) (marker_covers k lt)),
            found_marker,
            found_whole,
            (
              refl,
              found_whole,
            ),
          ),
        ),
      ),
    )
      where
        place : (h.start + (length stored + entry_blocks (length payload) - 1)) % room < room
        place = mod-lt (h.start + (length stored + entry_blocks (length payload) - 1)) some
