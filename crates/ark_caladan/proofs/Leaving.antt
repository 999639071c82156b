-- What the blocks of a log or queue are found to hold while a command is carried out.
use Rattle.std.proofs.Common.{◌≡◌, ◌⊎◌, inl, inr, ⊎_elim, ℕ, ◌+◌, ◌-◌, ◌%◌, ◌<◌, ◌≤◌, List, [], ◌∷◌, ◌++◌, length, take, drop, replicate, length-append, refl, sym, ◌∙◌, ap, subst, arith}
use Rattle.std.proofs.lemmas.List.{length-take-le, length-drop, length-replicate, take-append-drop, get_or-drop, get_or-replicate, get_or_append_left, get_or-append_right, get_or_past}
use Rattle.std.proofs.lemmas.Bool.{cases_lt}
use Rattle.ark_media.specs.Journal.{zero_block}
use Rattle.std.proofs.lemmas.List.Sums.{sum_by-cons}
use Rattle.ark_base.specs.declared.kind.Kind.{Kind}
use Rattle.ark_entry.specs.Header.{Header}
use Rattle.ark_entry.specs.Entry.{entry_blocks}
use Rattle.ark_entry.specs.Found.{Entries, found, found_of}
use Rattle.ark_entry.specs.Reading.{reading, Finds, Stands}
use Rattle.ark_entry.specs.Writing.{at, Appends, final, next_place, zeroed}
use Rattle.ark_entry.proofs.Readings.{stands_is_list}
use Rattle.ark_entry.proofs.Standing.{stands_behind, stands_le, stands_shift}
use Rattle.ark_entry.proofs.Drafts.{length-final}
use Rattle.ark_entry.proofs.Appending.{idle_finds, body_finds, marking_finds, more_stands}
use Rattle.ark_entry.proofs.Dropping.{dropping_finds, later, around}
use Rattle.ark_caladan.specs.Chain.{Command, append, trim, pop, after_command, next_number, blocks_of}
use Rattle.ark_caladan.specs.Numbers.{CanFollow}
use Rattle.ark_caladan.specs.Leaves.{LiesInRing, AreRingBlocks, RingHolds, HasRoom, with_draft, with_entry, dropped_by, freed_by, HeaderAfter}

module _ (kind : Kind) (header : List ℕ) (h : Header) (ring stored : List (List ℕ)) (l : Entries) (is_ring : AreRingBlocks ring) (lies : LiesInRing kind (length ring) header h stored l) where
  -- a list that stands from the header's start on is found
  listed : (xs : List (List ℕ)) → length l.payloads ≤ length xs → Finds (length ring) h.start (reading ring h.start) 0 l.first xs → found_of kind (header ∷ ring) ≡ found (record { first = l.first; payloads = xs })
  listed xs more finds = stands_is_list kind header ring is_ring.whole is_ring.some (record { first = l.first; payloads = xs })
      (h, lies.read, lies.first, omega (arith, more, lies.count), subst (λ (n : ℕ). Finds (length ring) h.start (reading ring h.start) 0 n xs) lies.first finds)

  -- between two commands
  pub rest_is_found : RingHolds ring h stored stored → found_of kind (header ∷ ring) ≡ found l
  rest_is_found holds = listed l.payloads (omega arith) (idle_finds (length ring) h.start stored l.first l.payloads lies.stands lies.fits (reading ring h.start) holds)

  module _ (payload : List ℕ) (has_room : HasRoom (length ring) stored l payload) where
    appends : Appends (length ring) h.start stored l.first l.payloads payload
    appends = record { stands = lies.stands; short = has_room.short; low = has_room.low; fits = has_room.fits; few = has_room.few }

    -- while an entry is written without its marker
    pub draft_is_found : RingHolds ring h stored (with_draft (length ring) h stored l payload) → found_of kind (header ∷ ring) ≡ found l
    draft_is_found holds = listed l.payloads (omega arith) (body_finds (length ring) h.start stored l.first l.payloads payload appends (reading ring h.start) holds)

    -- while its marker is written
    pub marker_is_found : RingHolds ring h (with_draft (length ring) h stored l payload) (with_entry (length ring) h stored l payload)
        → (found_of kind (header ∷ ring) ≡ found l) ⊎ (found_of kind (header ∷ ring) ≡ found (after_command l (append (next_number l) payload)))
    marker_is_found holds = ⊎_elim
        (λ old. inl (listed l.payloads (omega arith) old))
        (λ new. inr (listed (l.payloads ++ payload ∷ []) (omega (arith, longer)) new))
        (marking_finds (length ring) h.start stored l.first l.payloads payload appends (reading ring h.start) holds)
      where
        longer : length (l.payloads ++ payload ∷ []) ≡ length l.payloads + 1
        longer = length-append l.payloads (payload ∷ [])

-- behind an append the list with the entry lies there
pub entry_lies : (kind : Kind) (room : ℕ) (header : List ℕ) (h : Header) (stored : List (List ℕ)) (l : Entries) → LiesInRing kind room header h stored l → (payload : List ℕ) → HasRoom room stored l payload
    → LiesInRing kind room header h (with_entry room h stored l payload) (after_command l (append (next_number l) payload))
entry_lies kind room header h stored l lies payload has_room = record {
  read = lies.read;
  first = lies.first;
  count = omega (arith, length-append l.payloads (payload ∷ []), lies.count);
  stands = more_stands room h.start stored l.first l.payloads payload appends;
  fits = omega (arith, long, has_room.fits);
}
  where
    appends : Appends room h.start stored l.first l.payloads payload
    appends = record { stands = lies.stands; short = has_room.short; low = has_room.low; fits = has_room.fits; few = has_room.few }

    number : ℕ
    number = l.first + length l.payloads

    next : ℕ
    next = next_place room h.start stored payload

    long : length (with_entry room h stored l payload) ≡ length stored + entry_blocks (length payload)
    long = length-append stored (final number next payload) ∙ ap (λ n. length stored + n) (length-final number next payload)

-- entries end behind all their blocks
pub stands_end : (room start : ℕ) (r : ℕ → List ℕ) (u number : ℕ) (xs : List (List ℕ)) (end : ℕ) → Stands room start r u number xs end → end ≡ u + blocks_of xs
stands_end room start r u number [] end is = omega (arith, is)
stands_end room start r u number (x ∷ xs) end t =
    let rest : end ≡ u + entry_blocks (length x) + blocks_of xs = stands_end room start r (u + entry_blocks (length x)) (number + 1) xs end t.1 in
    let sum : blocks_of (x ∷ xs) ≡ entry_blocks (length x) + blocks_of xs = sum_by-cons (λ p. entry_blocks (length p)) x xs in
    omega (arith, rest, sum)

-- a ring whose first z places are zero, read from place z on, has them at its end
zeros_around : (ring : List (List ℕ)) (start : ℕ) (stored : List (List ℕ)) (z : ℕ) → z ≤ length stored → length stored ≤ length ring
    → ((u : ℕ) → u < length ring → reading ring start u ≡ at (zeroed z stored) u) → (v : ℕ) → v < length ring → reading ring ((start + z) % length ring) v ≡ at (drop z stored) v
zeros_around ring start stored z small fit is v lt = elim (cases_lt (z + v) (length ring)) [
  | inl inside ↦
      let place : z + v - z ≡ v = omega arith in
      later ring start z v ∙ is (z + v) inside
      ∙ get_or-append_right (replicate z zero_block) (drop z stored) z (z + v) zero_block (length-replicate z zero_block) (omega arith) ∙ ap (at (drop z stored)) place
  | inr past ↦
      let place : z + v ≡ z + v - length ring + length ring = omega (arith, past) in
      later ring start z v ∙ ap (reading ring start) place ∙ around ring start (z + v - length ring) ∙ is (z + v - length ring) (omega (arith, small, fit, lt))
      ∙ get_or_append_left (replicate z zero_block) (drop z stored) zero_block (z + v - length ring) (omega (arith, length-replicate z zero_block, past, lt))
      ∙ get_or-replicate z (z + v - length ring) zero_block zero_block (omega (arith, past, lt))
      ∙ sym (get_or_past (drop z stored) v zero_block (omega (arith, length-drop z stored, past, fit)))
]

-- a trim and a pop drop the front of the list
pub dropped_front : (l : Entries) (c : Command) → CanFollow l c → 1 ≤ dropped_by l c
    → (dropped_by l c ≤ length l.payloads) × ((after_command l c).first ≡ l.first + dropped_by l c) × ((after_command l c).payloads ≡ drop (dropped_by l c) l.payloads)
dropped_front l (append n payload) fits some = absurd (omega (arith, some))
dropped_front l (trim n) fits some = (omega (arith, fits.0, fits.1), omega (arith, fits.0), refl)
dropped_front l (pop n) fits some = (omega (arith, fits.1), refl, refl)

-- behind a trim or a pop
module _ (kind : Kind) (room : ℕ) (header new_header : List ℕ) (h new : Header) (stored : List (List ℕ)) (l : Entries) (c : Command) (lies : LiesInRing kind room header h stored l)
    (fits : CanFollow l c) (some : 1 ≤ dropped_by l c) (written : HeaderAfter kind room new_header h l c new) where
  length-front : length (take (dropped_by l c) l.payloads) ≡ dropped_by l c
  length-front = length-take-le (dropped_by l c) l.payloads (dropped_front l c fits some).0

  in_parts : (mid : ℕ) × Stands room h.start (at stored) 0 l.first (take (dropped_by l c) l.payloads) mid
      × Stands room h.start (at stored) mid (l.first + length (take (dropped_by l c) l.payloads)) (drop (dropped_by l c) l.payloads) (length stored)
  in_parts = stands_behind room h.start (at stored) 0 l.first (take (dropped_by l c) l.payloads) (drop (dropped_by l c) l.payloads) (length stored)
      (subst (λ (xs : List (List ℕ)). Stands room h.start (at stored) 0 l.first xs (length stored)) (sym (take-append-drop (dropped_by l c) l.payloads)) lies.stands)

  gone : Stands room h.start (at stored) 0 l.first (take (dropped_by l c) l.payloads) (freed_by l c)
  gone =
      let e : in_parts.0 ≡ freed_by l c = omega (arith, stands_end room h.start (at stored) 0 l.first (take (dropped_by l c) l.payloads) in_parts.0 in_parts.1) in
      subst (λ (n : ℕ). Stands room h.start (at stored) 0 l.first (take (dropped_by l c) l.payloads) n) e in_parts.1

  freed_fits : freed_by l c ≤ length stored
  freed_fits =
      let le : in_parts.0 ≤ length stored = stands_le room h.start (at stored) in_parts.0 (l.first + length (take (dropped_by l c) l.payloads)) (drop (dropped_by l c) l.payloads) (length stored) in_parts.2 in
      let mid : in_parts.0 ≡ freed_by l c = omega (arith, stands_end room h.start (at stored) 0 l.first (take (dropped_by l c) l.payloads) in_parts.0 in_parts.1) in
      omega (arith, le, mid)

  -- the kept entries stand from the new header's start on
  kept_stand : Stands room new.start (at (drop (freed_by l c) stored)) 0 (after_command l c).first (after_command l c).payloads (length (drop (freed_by l c) stored))
  kept_stand =
      let le : in_parts.0 ≤ length stored = stands_le room h.start (at stored) in_parts.0 (l.first + length (take (dropped_by l c) l.payloads)) (drop (dropped_by l c) l.payloads) (length stored) in_parts.2 in
      let mid : in_parts.0 ≡ freed_by l c = omega (arith, stands_end room h.start (at stored) 0 l.first (take (dropped_by l c) l.payloads) in_parts.0 in_parts.1) in
      let size : length stored ≡ freed_by l c + length (drop (freed_by l c) stored) = omega (arith, length-drop (freed_by l c) stored, le, mid) in
      let here : in_parts.0 ≡ freed_by l c + 0 = omega (arith, mid) in
      let number : l.first + length (take (dropped_by l c) l.payloads) ≡ (after_command l c).first = omega (arith, length-front, (dropped_front l c fits some).1) in
      let t = subst (λ (to : ℕ). Stands room h.start (at stored) in_parts.0 (l.first + length (take (dropped_by l c) l.payloads)) (drop (dropped_by l c) l.payloads) to) size in_parts.2 in
      let t0 = subst (λ (from : ℕ). Stands room h.start (at stored) from (l.first + length (take (dropped_by l c) l.payloads)) (drop (dropped_by l c) l.payloads) (freed_by l c + length (drop (freed_by l c) stored))) here t in
      let shifted = stands_shift room h.start (freed_by l c) (at stored) (at (drop (freed_by l c) stored)) 0 (l.first + length (take (dropped_by l c) l.payloads)) (drop (dropped_by l c) l.payloads)
      (length (drop (freed_by l c) stored)) (λ v. sym (get_or-drop (freed_by l c) stored v zero_block)) t0 in
      subst (λ (xs : List (List ℕ)). Stands room new.start (at (drop (freed_by l c) stored)) 0 (after_command l c).first xs (length (drop (freed_by l c) stored))) (sym (dropped_front l c fits some).2)
      (subst (λ (n : ℕ). Stands room new.start (at (drop (freed_by l c) stored)) 0 n (drop (dropped_by l c) l.payloads) (length (drop (freed_by l c) stored))) number
      (subst (λ (s : ℕ). Stands room s (at (drop (freed_by l c) stored)) 0 (l.first + length (take (dropped_by l c) l.payloads)) (drop (dropped_by l c) l.payloads) (length (drop (freed_by l c) stored))) (sym written.start) shifted))

  -- what is left of the list lies there
  pub rest_lies : LiesInRing kind room new_header new (drop (freed_by l c) stored) (after_command l c)
  rest_lies = record {
    read = written.read;
    first = sym written.first;
    count = written.count;
    stands = kept_stand;
    fits = omega (arith, length-drop (freed_by l c) stored, lies.fits);
  }

module _ (kind : Kind) (header new_header : List ℕ) (h new : Header) (ring stored : List (List ℕ)) (l : Entries) (c : Command) (is_ring : AreRingBlocks ring) (lies : LiesInRing kind (length ring) header h stored l)
    (fits : CanFollow l c) (some : 1 ≤ dropped_by l c) (written : HeaderAfter kind (length ring) new_header h l c new) where
  -- once the header is written, and while the blocks that it left are made zero one by one
  pub dropped_is_found : RingHolds ring h stored (zeroed (freed_by l c) stored) → found_of kind (new_header ∷ ring) ≡ found (after_command l c)
  dropped_is_found holds = stands_is_list kind new_header ring is_ring.whole is_ring.some (after_command l c) (new, written.read, sym written.first, written.count, finds)
    where
      kept : Finds (length ring) ((h.start + freed_by l c) % length ring) (reading ring ((h.start + freed_by l c) % length ring)) 0 (l.first + length (take (dropped_by l c) l.payloads)) (drop (dropped_by l c) l.payloads)
      kept = dropping_finds ring h.start stored l.first (take (dropped_by l c) l.payloads) (drop (dropped_by l c) l.payloads)
          (subst (λ (xs : List (List ℕ)). Stands (length ring) h.start (at stored) 0 l.first xs (length stored)) (sym (take-append-drop (dropped_by l c) l.payloads)) lies.stands)
          (omega (arith, (length-front kind (length ring) header new_header h new stored l c lies fits some written), some)) lies.fits (freed_by l c) (gone kind (length ring) header new_header h new stored l c lies fits some written) holds

      number : l.first + length (take (dropped_by l c) l.payloads) ≡ new.first
      number = omega (arith, (length-front kind (length ring) header new_header h new stored l c lies fits some written), (dropped_front l c fits some).1, written.first)

      finds : Finds (length ring) new.start (reading ring new.start) 0 new.first (after_command l c).payloads
      finds =
          subst (λ (xs : List (List ℕ)). Finds (length ring) new.start (reading ring new.start) 0 new.first xs) (sym (dropped_front l c fits some).2)
          (subst (λ (n : ℕ). Finds (length ring) new.start (reading ring new.start) 0 n (drop (dropped_by l c) l.payloads)) number
          (subst (λ (s : ℕ). Finds (length ring) s (reading ring s) 0 (l.first + length (take (dropped_by l c) l.payloads)) (drop (dropped_by l c) l.payloads)) (sym written.start) kept))

  -- with zeros behind it, once all freed blocks are zero
  pub rest_holds : RingHolds ring h (zeroed (freed_by l c) stored) (zeroed (freed_by l c) stored) → RingHolds ring new (drop (freed_by l c) stored) (drop (freed_by l c) stored)
  rest_holds holds = λ v lt. inl (subst (λ (s : ℕ). reading ring s v ≡ at (drop (freed_by l c) stored) v) (sym written.start) (zeros_around ring h.start stored (freed_by l c) (freed_fits kind (length ring) header new_header h new stored l c lies fits some written) lies.fits (λ u to. ⊎_elim (λ x. x) (λ x. x) (holds u to)) v lt))
