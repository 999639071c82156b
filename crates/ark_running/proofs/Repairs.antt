-- A repair of an area by what a survey has found there, call by call.
use Rattle.std.proofs.Common.{◌≡◌, ◌⊎◌, inl, inr, ℕ, suc, ◌+◌, ◌-◌, ◌%◌, ◌<◌, ◌≤◌, ◌^◌, List, [], ◌∷◌, ◌++◌, Bool, true, false, length, get_or, map, Some, refl, sym, ◌∙◌, ap, subst, arith, length-append}
use Rattle.std.specs.Prelude.{All, Contains}
use Rattle.std.proofs.Math.Nat.{mod-lt}
use Rattle.std.proofs.lemmas.Bool.{cases_lt}
use Rattle.std.proofs.lemmas.List.{get_or-append_right, get_or_append_left}
use Rattle.std.proofs.lemmas.List.Elements.{All-get_or, at_from_Contains}
use Rattle.std.proofs.lemmas.List.Sums.{sum_by-cons}
use Rattle.ark_base.specs.declared.kind.Kind.{Kind}
use Rattle.ark_media.specs.Journal.{block, zero_block}
use Rattle.ark_entry.specs.Header.{Header, header_of, is_zero}
use Rattle.ark_entry.specs.Entry.{AreWhole, entry_blocks}
use Rattle.ark_entry.specs.Found.{Entries, found, found_of}
use Rattle.ark_entry.specs.Repair.{used_by}
use Rattle.ark_entry.proofs.Headers.{written_is_read}
use Rattle.ark_entry.proofs.Readings.{found_stands, some_block}
use Rattle.ark_caladan.specs.Leading.{AllIn}
use Rattle.ark_caladan.specs.Repairing.{IsRepair, Repair}
use Rattle.ark_caladan.proofs.Seeing.{places_suffice}
use Rattle.ark_chain.specs.declared.surveying.Seen.{Seen}
use Rattle.ark_chain.specs.Repair.{AreNoted, not_zero, outside}
use Rattle.ark_chain.specs.Survey.{HasFound, IsSeen, block_at, blocks_used}
use Rattle.ark_log.specs.Loaded.{header_bytes, header_of_seen}
use Rattle.ark_running.proofs.Outside.{IsOutside, noted_all, noted_outside, zeros_are}

-- blocks by the lengths of entries
lengths_used : (payloads : List (List ℕ)) → blocks_used (map (λ p. length p) payloads) ≡ used_by payloads
lengths_used [] = refl
lengths_used (x ∷ xs) = let one = sum_by-cons entry_blocks (length x) (map (λ p. length p) xs) in omega (arith, one, lengths_used xs)

-- no more entries than blocks
many_used : (lengths : List ℕ) → length lengths ≤ blocks_used lengths
many_used [] = omega arith
many_used (len ∷ lengths) = let one = sum_by-cons entry_blocks len lengths in omega (arith, one, some_block len, many_used lengths)

-- the first number of the list is that of the header
first_said : (kind : Kind) (room : ℕ) (image : List (List ℕ)) → 0 < room → length image ≡ suc room → AreWhole image → (h : Header) → header_of kind room (block image 0) ≡ Some h → (l : Entries) → found_of kind image ≡ found l → l.first ≡ h.first
first_said kind room [] some long whole h read l is = absurd (omega (arith, long))
first_said kind room (head ∷ ring) some long whole h read l is =
    let size : length ring ≡ room = omega (arith, long) in
    let has = found_stands kind head ring (λ u lt. whole (suc u) (omega (arith, lt))) (omega (arith, size, some)) l is in
    let same : Some has.0 ≡ Some h = sym has.1 ∙ ap (λ (n : ℕ). header_of kind n head) size ∙ read in
    let heads : has.0 ≡ h = cc (same) in
    has.2 ∙ ap (λ (x : Header). x.first) heads

module _ (kind : Kind) (room : ℕ) (some : 0 < room) (few : suc room < 2 ^ 32) (image : List (List ℕ)) (long : length image ≡ suc room) (whole : AreWhole image)
    (seen : Seen) (lengths noted : List ℕ) (found : HasFound kind seen lengths image) (is : IsSeen (length image) lengths seen) (is_noted : AreNoted seen noted image) where
  size : length image - 1 ≡ room
  size = omega (arith, long)

  abbrev says : Header
  says = record { first = found.start.0; start = seen.start; count = found.start.1; end = found.start.2 }

  -- the repair of it
  abbrev pub repair_of : Repair
  repair_of = record { seen = image; says = says; list = found.list; header = header_bytes kind seen; new = header_of_seen seen; places = noted ++ 0 ∷ [] }

  read : header_of kind room (block image 0) ≡ Some says
  read = subst (λ (n : ℕ). header_of kind n (block image 0) ≡ Some says) size found.start.3

  used_is : seen.used ≡ used_by found.list.payloads
  used_is = is.used ∙ ap blocks_used found.lengths_are ∙ lengths_used found.list.payloads

  noted_is : noted ≡ not_zero image (outside room seen.start seen.used room)
  noted_is = is_noted ∙ ap (λ n. not_zero image (outside n seen.start seen.used n)) size

  -- each place that is noted is outside the list
  pub each_outside : All (IsOutside room seen.start (used_by found.list.payloads)) noted
  each_outside = subst (λ l. All (IsOutside room seen.start (used_by found.list.payloads)) l) (sym noted_is)
      (subst (λ n. All (IsOutside room seen.start n) (not_zero image (outside room seen.start seen.used room))) used_is (noted_outside room seen.start seen.used image))

  inside : AllIn (suc room) (noted ++ 0 ∷ [])
  inside i lt = elim (cases_lt i (length noted)) [
    | inl less ↦
        let at = All-get_or (IsOutside room seen.start (used_by found.list.payloads)) noted i 0 less each_outside in
        let same = get_or_append_left noted (0 ∷ []) 0 i less in
        omega (arith, same, at.1, at.2)
    | inr more ↦
        let last = length-append noted (0 ∷ []) in
        let here : i - length noted ≡ 0 = omega (arith, lt, last, more) in
        let same : get_or (noted ++ 0 ∷ []) i 0 ≡ 0 = get_or-append_right noted (0 ∷ []) (length noted) i 0 refl more ∙ ap (λ n. get_or (0 ∷ []) n 0) here in
        omega (arith, same)
  ]

  new_read : header_of kind room (header_bytes kind seen) ≡ Some (header_of_seen seen)
  new_read = written_is_read kind room (header_of_seen seen) (omega (arith, few)) (record {
    some = is.some;
    start = omega (arith, is.start, long);
    count = omega (arith, is.count, many_used lengths, is.fits, long);
    end =
        let end : seen.end + 1 ≡ (seen.start + blocks_used lengths) % room + 1 = is.end ∙ ap (λ n. block_at n seen.start (blocks_used lengths)) size in
        let low : (seen.start + blocks_used lengths) % room < room = mod-lt (seen.start + blocks_used lengths) some in
        omega (arith, end, low);
    last = is.last;
  })

  -- it is one: the new header says the same list, and all that differs is written
  pub is_repair : IsRepair kind room repair_of
  is_repair = record {
    size = long;
    whole = whole;
    read = read;
    is_found = found.is_found;
    new_read = new_read;
    first = found.first ∙ first_said kind room image some long whole says read found.list found.is_found;
    start = refl;
    count = omega (arith, found.count);
    inside = inside;
    all = places_suffice room seen.start (used_by found.list.payloads) (header_bytes kind seen) image (noted ++ 0 ∷ []) by (length noted, omega (arith, length-append noted (0 ∷ [])), last);
  }
    where
      last : get_or (noted ++ 0 ∷ []) (length noted) 0 ≡ 0
      last =
          let here : length noted - length noted ≡ 0 = omega arith in
          get_or-append_right noted (0 ∷ []) (length noted) (length noted) 0 refl (omega arith) ∙ ap (λ n. get_or (0 ∷ []) n 0) here

      by : (q : ℕ) → q < room → ((q + room - seen.start) % room < used_by found.list.payloads) ⊎ ((block image (suc q) ≡ zero_block) ⊎ ((i : ℕ) × (i < length (noted ++ 0 ∷ [])) × (get_or (noted ++ 0 ∷ []) i 0 ≡ suc q)))
      by q lt = elim (cases_lt ((q + room - seen.start) % room) (used_by found.list.payloads)) [
        | inl less ↦ inl less
        | inr past ↦ inr (zeros past (is_zero (block image (suc q))) refl)
      ]
        where
          zeros : used_by found.list.payloads ≤ (q + room - seen.start) % room → (b : Bool) → is_zero (block image (suc q)) ≡ b → (block image (suc q) ≡ zero_block) ⊎ ((i : ℕ) × (i < length (noted ++ 0 ∷ [])) × (get_or (noted ++ 0 ∷ []) i 0 ≡ suc q))
          zeros past true all = inl (zeros_are (block image (suc q)) (whole (suc q) (omega (arith, lt, long))) all)
          zeros past false other =
              let has = at_from_Contains noted (suc q) (subst (λ l. Contains l (suc q)) (sym noted_is)
              (subst (λ n. Contains (not_zero image (outside room seen.start n room)) (suc q)) (sym used_is) (noted_all room seen.start (used_by found.list.payloads) image room q lt past other))) in
              inr (has.0, omega (arith, has.1, length-append noted (0 ∷ [])), get_or_append_left noted (0 ∷ []) 0 has.0 has.1 ∙ has.2 0)
