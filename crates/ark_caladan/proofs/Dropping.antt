-- The stages of a trim and of a pop lead to the list that is left; and so do those of each command that can wait to its list.
use Rattle.std.proofs.Common.{◌≡◌, ◌⊎◌, inl, inr, ⊎_elim, ℕ, zero, suc, false, ◌+◌, ◌-◌, ◌^◌, ◌<◌, ◌≤◌, List, [], ◌∷◌, length, length-take-le, take, get_or, drop, replicate, map, refl, sym, ◌∙◌, ap, subst, arith}
use Rattle.std.specs.Prelude.{sum_by}
use Rattle.std.proofs.Math.Nat.{mod-lt}
use Rattle.std.proofs.lemmas.Bool.{cases_lt}
use Rattle.std.proofs.lemmas.List.{length-drop, length-replicate, get_or-drop, get_or-append_right}
use Rattle.std.proofs.lemmas.List.Sums.{sum_by-cons}
use Rattle.ark_base.specs.declared.kind.Kind.{Kind}
use Rattle.ark_media.specs.Journal.{zero_block}
use Rattle.ark_entry.specs.Header.{Header, IsHeader, bytes_of}
use Rattle.ark_entry.specs.Entry.{entry_blocks}
use Rattle.ark_entry.specs.Found.{Entries, found, found_of}
use Rattle.ark_entry.specs.Writing.{at, zeroed}
use Rattle.ark_entry.proofs.Headers.{written_is_read}
use Rattle.ark_entry.proofs.Readings.{some_block}
use Rattle.ark_caladan.specs.Chain.{Command, append, trim, pop, after_command, next_number, blocks_of, phases_of, phase, reading as phase_reading, writing, syncing, deciding}
use Rattle.ark_caladan.specs.Numbers.{CanFollow}
use Rattle.ark_caladan.specs.Leaves.{LiesInRing, RingHolds, HasRoom, dropped_by, freed_by, HeaderAfter}
use Rattle.ark_caladan.specs.Views.{view_of}
use Rattle.ark_caladan.specs.Stages.{syncs, calls_of, resting}
use Rattle.ark_caladan.specs.Leading.{IsFound, IsFoundEither, Leads}
use Rattle.ark_caladan.specs.Plans.{header_after, drop_stages, stages_of, phase_of, added_by, CanWait}
use Rattle.ark_caladan.proofs.Commands.{append_adds, all_go_on}
use Rattle.ark_caladan.proofs.Leaving.{rest_is_found, dropped_is_found, rest_lies, dropped_front}
use Rattle.ark_caladan.proofs.Viewed.{length-ring_places, ring_in, covers, ringed}
use Rattle.ark_caladan.proofs.Appending.{ls, used, found_resting, append_leads}

-- each entry has a block
few_entries : (xs : List (List ℕ)) → length xs ≤ blocks_of xs
few_entries [] = omega arith
few_entries (x ∷ xs) =
    let sum : blocks_of (x ∷ xs) ≡ entry_blocks (length x) + blocks_of xs = sum_by-cons (λ p. entry_blocks (length p)) x xs in
    omega (arith, sum, few_entries xs, some_block (length x))

module _ (kind : Kind) (room : ℕ) (some : 0 < room) (header : List ℕ) (h : Header) (stored : List (List ℕ)) (l : Entries) (lies : LiesInRing kind room header h stored l) where
  start_low : h.start < room
  start_low = ls kind room some header h stored l lies

  many : length stored ≡ blocks_of l.payloads
  many = used kind room some header h stored l lies

  module _ (c : Command) (fits : CanFollow l c) (drops : 1 ≤ dropped_by l c) (new_header : List ℕ) (new : Header) (written : HeaderAfter kind room new_header h l c new) where
    abbrev headed : ℕ → List ℕ
    headed = view_of room new_header h.start stored

    abbrev cleared : ℕ → List ℕ
    cleared = view_of room new_header h.start (zeroed (freed_by l c) stored)

    found_cleared : (a b : List (List ℕ)) → ((u : ℕ) → (at a u ≡ at stored u) ⊎ (at a u ≡ at (zeroed (freed_by l c) stored) u)) → ((u : ℕ) → (at b u ≡ at stored u) ⊎ (at b u ≡ at (zeroed (freed_by l c) stored) u))
        → IsFound kind (suc room) (view_of room new_header h.start a) (view_of room new_header h.start b) (found (after_command l c))
    found_cleared a b is_a is_b contents between =
        let r = ringed kind room some h.start start_low new_header new_header a b contents between in
        let holds : RingHolds r.ring h stored (zeroed (freed_by l c) stored) = λ u lt. ⊎_elim
        (λ v. ⊎_elim (λ w. inl (v ∙ w)) (λ w. inr (v ∙ w)) (is_a u))
        (λ v. ⊎_elim (λ w. inl (v ∙ w)) (λ w. inr (v ∙ w)) (is_b u)) (r.holds u lt) in
        ap (found_of kind) r.is ∙ ap (λ (x : List ℕ). found_of kind (x ∷ r.ring)) (⊎_elim (λ v. v) (λ v. v) r.head)
        ∙ dropped_is_found kind header new_header h new r.ring stored l c r.is_ring (subst (λ (n : ℕ). LiesInRing kind n header h stored l) (sym r.long) lies) fits drops
        (subst (λ (n : ℕ). HeaderAfter kind n new_header h l c new) (sym r.long) written) holds

    found_headed : IsFound kind (suc room) headed headed (found (after_command l c))
    found_headed = found_cleared stored stored (λ u. inl refl) (λ u. inl refl)

    found_clearing : IsFound kind (suc room) headed cleared (found (after_command l c))
    found_clearing = found_cleared stored (zeroed (freed_by l c) stored) (λ u. inl refl) (λ u. inr refl)

    found_clear : IsFound kind (suc room) cleared cleared (found (after_command l c))
    found_clear = found_cleared (zeroed (freed_by l c) stored) (zeroed (freed_by l c) stored) (λ u. inr refl) (λ u. inr refl)

    -- while the header is written
    found_heading : IsFoundEither kind (suc room) (view_of room header h.start stored) headed (found l) (found (after_command l c))
    found_heading contents between =
        let r = ringed kind room some h.start start_low header new_header stored stored contents between in
        let there = subst (λ (n : ℕ). LiesInRing kind n header h stored l) (sym r.long) lies in
        ⊎_elim
        (λ old. inl (ap (found_of kind) r.is ∙ ap (λ (x : List ℕ). found_of kind (x ∷ r.ring)) old ∙ rest_is_found kind header h r.ring stored l r.is_ring there r.holds))
        (λ now. inr (ap (found_of kind) r.is ∙ ap (λ (x : List ℕ). found_of kind (x ∷ r.ring)) now
        ∙ dropped_is_found kind header new_header h new r.ring stored l c r.is_ring there fits drops (subst (λ (n : ℕ). HeaderAfter kind n new_header h l c new) (sym r.long) written)
        (λ u lt. inl (⊎_elim (λ v. v) (λ v. v) (r.holds u lt)))))
        r.head

    clear_differs : (u : ℕ) → u < room → (at stored u ≡ at (zeroed (freed_by l c) stored) u) ⊎ ((0 ≤ u) × (u < 0 + freed_by l c))
    clear_differs u lt = elim (cases_lt u (freed_by l c)) [
      | inl inside ↦ inr (omega arith, omega (arith, inside))
      | inr past ↦
          let back : freed_by l c + (u - freed_by l c) ≡ u = omega (arith, past) in
          inl (sym (
          get_or-append_right (replicate (freed_by l c) zero_block) (drop (freed_by l c) stored) (freed_by l c) u zero_block (length-replicate (freed_by l c) zero_block) past
          ∙ get_or-drop (freed_by l c) stored (u - freed_by l c) zero_block ∙ ap (at stored) back))
    ]

    head_covers : (k : ℕ) → k < suc room → (view_of room header h.start stored k ≡ headed k) ⊎ (0 ≡ k)
    head_covers zero lt = inr refl
    head_covers (suc p) lt = inl refl

    pub drop_leads : Leads kind (suc room) (found l) (found (after_command l c)) (resting (view_of room header h.start stored) false) (drop_stages room new_header h stored (freed_by l c))
    drop_leads = (
      refl,
      omega arith,
      refl,
      found_heading,
      found_resting kind room some header h stored l lies,
      found_headed,
      head_covers,
      (
        (λ k lt. ⊎_elim (λ same. inl same) (λ here. inr (0, omega arith, here)) (head_covers k lt)),
        found_heading,
        found_headed,
        (
          refl,
          ring_in room h.start 0 (freed_by l c) some,
          found_clearing,
          (
            covers room new_header h.start stored (zeroed (freed_by l c) stored) 0 (freed_by l c) start_low clear_differs,
            (λ contents between. inr (found_clearing contents between)),
            found_clear,
            (
              refl,
              found_clear,
            ),
          ),
        ),
      ),
    )

    -- the list that is left lies there
    pub left_lies : LiesInRing kind room new_header new (drop (freed_by l c) stored) (after_command l c)
    left_lies = rest_lies kind room header new_header h new stored l c lies fits drops written

  -- the header that a trim or a pop writes is right
  pub header_right : (c : Command) → CanFollow l c → 1 ≤ dropped_by l c → 1 ≤ l.first → next_number (after_command l c) ≤ 2 ^ 62 + 1 → room < 2 ^ 32
      → HeaderAfter kind room (bytes_of kind (header_after room h l c)) h l c (header_after room h l c)
  header_right c fits drops first low few = record {
    read = written_is_read kind room (header_after room h l c) few right;
    first = refl;
    start = refl;
    count = omega arith;
  }
    where
      counts : (dropped_by l c ≤ length l.payloads) × ((after_command l c).first ≡ l.first + dropped_by l c) × ((after_command l c).payloads ≡ drop (dropped_by l c) l.payloads)
      counts = dropped_front l c fits drops

      right : IsHeader room (header_after room h l c)
      right = record {
        some = omega (arith, counts.1, first);
        start = mod-lt (h.start + freed_by l c) some;
        count =
            let left : length (after_command l c).payloads ≡ length l.payloads - dropped_by l c = ap (λ (xs : List (List ℕ)). length xs) counts.2 ∙ length-drop (dropped_by l c) l.payloads in
            omega (arith, left, few_entries l.payloads, many, lies.fits);
        end = mod-lt (h.start + blocks_of l.payloads) some;
        last = low;
      }

  -- an append that waits first has room
  pub has_room : (n : ℕ) (payload : List ℕ) (cs : List Command) → CanWait room l (append n payload ∷ cs) → HasRoom room stored l payload
  has_room n payload cs can = record {
    short = can.short.0;
    low =
        let adds = append_adds l n payload can.fit.0 in
        let on = all_go_on (after_command l (append n payload)) cs can.fit.1 in
        omega (arith, adds.1, on.next, can.low, can.fit.0);
    fits =
        let sum : sum_by added_by (append n payload ∷ cs) ≡ entry_blocks (length payload) + sum_by added_by cs = sum_by-cons added_by (append n payload) cs in
        omega (arith, sum, can.fits, many);
    few = can.few;
  }

  -- the header that a trim or pop that waits first writes is right
  pub header_fits : (c : Command) (cs : List Command) → CanWait room l (c ∷ cs) → 1 ≤ dropped_by l c → 1 ≤ l.first
      → HeaderAfter kind room (bytes_of kind (header_after room h l c)) h l c (header_after room h l c)
  header_fits c cs can drops first =
      let on = all_go_on (after_command l c) cs can.fit.1 in
      header_right c can.fit.0 drops first (omega (arith, on.next, can.low)) can.few

  pub stages_lead : (c : Command) (cs : List Command) → CanWait room l (c ∷ cs) → 1 ≤ l.first
      → Leads kind (suc room) (found l) (found (after_command l c)) (resting (view_of room header h.start stored) false) (stages_of kind room header h stored l c)
  stages_lead (append n payload) cs can first = append_leads kind room some header h stored l lies payload (has_room n payload cs can)
  stages_lead (trim n) cs can first =
      let some_dropped : 1 ≤ dropped_by l (trim n) = omega (arith, can.fit.0.0) in
      drop_leads (trim n) can.fit.0 some_dropped (bytes_of kind (header_after room h l (trim n))) (header_after room h l (trim n)) (header_fits (trim n) cs can some_dropped first)
  stages_lead (pop n) cs can first =
      let some_dropped : 1 ≤ dropped_by l (pop n) = omega arith in (
        refl,
        ring_in room h.start 0 (freed_by l (pop n)) some,
        found_resting kind room some header h stored l lies,
        drop_leads (pop n) can.fit.0 some_dropped (bytes_of kind (header_after room h l (pop n))) (header_after room h l (pop n)) (header_fits (pop n) cs can some_dropped first),
      )

-- The stages are the command's phases,
pub stages_are_phases : (kind : Kind) (room : ℕ) (header : List ℕ) (h : Header) (stored : List (List ℕ)) (l : Entries) (c : Command) → map phase_of (stages_of kind room header h stored l c) ≡ phases_of l c
stages_are_phases kind room header h stored l (append n payload) =
    ap (λ m. phase writing m ∷ phase syncing 1 ∷ deciding ∷ phase syncing 1 ∷ []) (length-ring_places room h.start (length stored) (entry_blocks (length payload)))
stages_are_phases kind room header h stored l (trim n) =
    ap (λ m. deciding ∷ phase syncing 1 ∷ phase writing m ∷ phase syncing 1 ∷ []) (length-ring_places room h.start 0 (freed_by l (trim n)))
stages_are_phases kind room header h stored l (pop n) =
    ap (λ m. phase phase_reading m ∷ deciding ∷ phase syncing 1 ∷ phase writing m ∷ phase syncing 1 ∷ []) (length-ring_places room h.start 0 (freed_by l (pop n)))

-- and each of them makes a call
freed_some : (k : ℕ) (xs : List (List ℕ)) → 1 ≤ k → k ≤ length xs → 1 ≤ blocks_of (take k xs)
freed_some k xs some le = omega (arith, few_entries (take k xs), length-take-le k xs le, some, le)

pub some_calls : (kind : Kind) (room : ℕ) (header : List ℕ) (h : Header) (stored : List (List ℕ)) (l : Entries) (c : Command) → CanFollow l c → (i : ℕ) → i < length (stages_of kind room header h stored l c)
    → 1 ≤ calls_of (get_or (stages_of kind room header h stored l c) i syncs)
some_calls kind room header h stored l (append n payload) fits zero lt = omega (arith, length-ring_places room h.start (length stored) (entry_blocks (length payload)), some_block (length payload))
some_calls kind room header h stored l (append n payload) fits (suc zero) lt = omega arith
some_calls kind room header h stored l (append n payload) fits (suc (suc zero)) lt = omega arith
some_calls kind room header h stored l (append n payload) fits (suc (suc (suc zero))) lt = omega arith
some_calls kind room header h stored l (append n payload) fits (suc (suc (suc (suc i)))) lt = absurd (omega (arith, lt))
some_calls kind room header h stored l (trim n) fits zero lt = omega arith
some_calls kind room header h stored l (trim n) fits (suc zero) lt = omega arith
some_calls kind room header h stored l (trim n) fits (suc (suc zero)) lt =
    omega (arith, length-ring_places room h.start 0 (freed_by l (trim n)), freed_some (n - l.first) l.payloads (omega (arith, fits.0)) (omega (arith, fits.0, fits.1)))
some_calls kind room header h stored l (trim n) fits (suc (suc (suc zero))) lt = omega arith
some_calls kind room header h stored l (trim n) fits (suc (suc (suc (suc i)))) lt = absurd (omega (arith, lt))
some_calls kind room header h stored l (pop n) fits zero lt = omega (arith, length-ring_places room h.start 0 (freed_by l (pop n)), freed_some 1 l.payloads (omega arith) (omega (arith, fits.1)))
some_calls kind room header h stored l (pop n) fits (suc zero) lt = omega arith
some_calls kind room header h stored l (pop n) fits (suc (suc zero)) lt = omega arith
some_calls kind room header h stored l (pop n) fits (suc (suc (suc zero))) lt = omega (arith, length-ring_places room h.start 0 (freed_by l (pop n)), freed_some 1 l.payloads (omega arith) (omega (arith, fits.1)))
some_calls kind room header h stored l (pop n) fits (suc (suc (suc (suc zero)))) lt = omega arith
some_calls kind room header h stored l (pop n) fits (suc (suc (suc (suc (suc i))))) lt = absurd (omega (arith, lt))
