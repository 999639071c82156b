-- What a walk over an open log reads.
use Rattle.std.proofs.Common.{◌≡◌, ℕ, zero, suc, ◌+◌, ◌-◌, ◌%◌, ◌≤◌, ◌<◌, List, [], ◌∷◌, ◌++◌, length, map, take, drop, get_or, slice_range, refl, sym, ap, ◌∙◌, subst, arith}
use Rattle.std.specs.Prelude.{sum_by}
use Rattle.std.proofs.Math.Nat.{mod-lt, mod-mod}
use Rattle.std.proofs.lemmas.List.{get_or-map, get_or_append_left, length-map, length-drop, get_or-drop, take-map, take-append-le, take-take}
use Rattle.std.proofs.lemmas.List.Sums.{sum_by-cons, sum_by-take-le}
use Rattle.ark_media.specs.Journal.{History, block, current}
use Rattle.ark_region.specs.Frames.{Space}
use Rattle.ark_vic.specs.Queue.{Queue}
use Rattle.ark_entry.specs.Entry.{entry_blocks, payload_at, ring_bytes}
use Rattle.ark_entry.specs.Found.{Entries}
use Rattle.ark_entry.specs.Reading.{Entry, bytes_from, reading}
use Rattle.ark_entry.specs.Writing.{at}
use Rattle.ark_entry.proofs.Readings.{bytes_read}
use Rattle.ark_caladan.specs.Chain.{Command, append, trim, pop, Log, Opened, after_all, blocks_of, commands, entries}
use Rattle.ark_caladan.specs.Leaves.{dropped_by}
use Rattle.ark_caladan.specs.Numbers.{AllFit, HasEntry, payload_of}
use Rattle.ark_caladan.specs.Open.{Layout, freed_first}
use Rattle.ark_caladan.specs.Views.{contents_at}
use Rattle.ark_caladan.proofs.Appending.{used}
use Rattle.ark_caladan.proofs.Commands.{all_go_on}
use Rattle.ark_caladan.proofs.Places.{ring_at}
use Rattle.ark_caladan.proofs.Walking.{entry_place}
use Rattle.ark_log.specs.Open.{OpenChain}
use Rattle.ark_log.specs.Refused.{length_of}
use Rattle.ark_log.specs.Stands.{lengths_added}
use Rattle.ark_log.proofs.Standing.{blocks_are}
use Rattle.ark_log.specs.Walked.{HasAt, blocks_before, place_of}
use Rattle.ark_running.specs.Running.{IsRunning}

-- the blocks of payloads
abbrev lens : List (List ℕ) → List ℕ
lens xs = map (λ p. length p) xs

-- The oldest command frees blocks of entries that are dropped alone.
frees_before : (l : Entries) (cs : List Command) (i : ℕ) → AllFit l cs → (after_all l cs).first ≤ l.first + i → freed_first l cs ≤ blocks_of (take i l.payloads)
frees_before l [] i fit low = omega arith
frees_before l (c ∷ cs) i fit low = more (dropped_by l c) (drops c fit low)
  where
    drops : (c : Command) → AllFit l (c ∷ cs) → (after_all l (c ∷ cs)).first ≤ l.first + i → dropped_by l c ≤ i
    drops (append n payload) fit low = omega arith
    drops (trim n) fit low = let on = (all_go_on _ cs fit.1).first in omega (arith, on, low, fit.0.0)
    drops (pop n) fit low = let on = (all_go_on _ cs fit.1).first in omega (arith, on, low)

    more : (k : ℕ) → k ≤ i → blocks_of (take k l.payloads) ≤ blocks_of (take i l.payloads)
    more k le =
        let front : take k (take i l.payloads) ≡ take k l.payloads = take-take k i l.payloads le in
        let e = ap blocks_of front in
        let less : blocks_of (take k (take i l.payloads)) ≤ blocks_of (take i l.payloads) = sum_by-take-le (λ (q : List ℕ). entry_blocks (length q)) (take i l.payloads) k in
        omega (arith, e, less)

-- A reading gives the blocks of a list where it gives each of them.
same_bytes : (r s : ℕ → List ℕ) (u n : ℕ) → ((w : ℕ) → u ≤ w → w < u + n → r w ≡ s w) → bytes_from r u n ≡ bytes_from s u n
same_bytes r s u zero same = refl
same_bytes r s u (suc n) same = λ i. same u (omega arith) (omega arith) i ++ same_bytes r s (u + 1) n (λ w low lt. same w (omega (arith, low)) (omega (arith, lt))) i

module _ (h : History) (blocks : List ℕ) (space : Space) (ring : Queue) (v : OpenChain) (p : Layout) (g : Log) (o : Opened) (runs : IsRunning h blocks space ring v p g o) (n : ℕ) where
  abbrev l : Entries
  l = entries g.list

  abbrev coming : ℕ
  coming = (after_all l (commands o)).first

  -- an entry that no command drops is there
  pub goes_on : l.first ≤ coming
  goes_on = (all_go_on l (commands o) runs.is.can.fit).first

  pub has_entry : HasAt v n → HasEntry l n × (coming ≤ n)
  has_entry is =
      let s = runs.is.stands in
      let low : coming ≤ n = omega (arith, is.0, s.coming) in
      ((omega (arith, low, goes_on), omega (arith, is.1, s.first, s.count)), low)

  pub has_at : HasEntry l n → coming ≤ n → HasAt v n
  has_at is low = let s = runs.is.stands in (omega (arith, low, s.coming), omega (arith, is.1, s.first, s.count))

  abbrev i : ℕ
  i = n - l.first

  pub in_list : HasAt v n → i < length l.payloads
  in_list is = let has = has_entry is in omega (arith, has.0.0, has.0.1)

  pub long_payload : HasAt v n → length_of v n ≡ length (payload_of l n)
  long_payload is =
      let place : n - v.first ≡ i = ap (λ k. n - k) runs.is.stands.first in
      let inside = in_list is in
      let long = length-map l.payloads (λ p. length p) in
      (λ t. get_or (runs.is.stands.lengths t) (place t) 0) ∙ get_or_append_left (lens l.payloads) (lengths_added (commands o)) 0 i (omega (arith, inside, long)) ∙ get_or-map (λ p. length p) l.payloads i [] 0 inside

  pub reads_payload : HasAt v n → payload_at (drop 1 (contents_at (current h.base h.journal) blocks)) (place_of v n) (length_of v n) ≡ payload_of l n
  reads_payload is = ap (λ t. slice_range t 20 (20 + length_of v n)) from_ring ∙ ap (λ k. slice_range (bytes_from (at p.stored) u (entry_blocks k)) 20 (20 + k)) (long_payload is) ∙ entry.content
    where
      x : List ℕ
      x = payload_of l n

      u : ℕ
      u = blocks_of (take i l.payloads)

      area : List (List ℕ)
      area = drop 1 (contents_at (current h.base h.journal) blocks)

      room_is : v.room ≡ g.blocks - 1
      room_is = let is = runs.is.room in omega (arith, is)

      some : 0 < v.room
      some = omega (arith, runs.is.right.some)

      long_area : length area ≡ v.room
      long_area =
          let all : length (contents_at (current h.base h.journal) blocks) ≡ length blocks = length-map blocks (λ n. block (current h.base h.journal) n) in
          let rest = length-drop 1 (contents_at (current h.base h.journal) blocks) in
          omega (arith, all, rest, runs.size, runs.is.room)

      entry : Entry (g.blocks - 1) p.says.start (at p.stored) u (l.first + i) x
      entry =
          let front : 0 + u ≡ u = omega arith in
          subst (λ m. Entry (g.blocks - 1) p.says.start (at p.stored) m (l.first + i) x) front
          (entry_place (g.blocks - 1) p.says.start (at p.stored) 0 l.first l.payloads (length p.stored) i runs.has.lies.stands (in_list is))

      -- the entry's blocks are those of the list
      past : u + entry_blocks (length x) ≤ length p.stored
      past =
          let all = used g.kind (g.blocks - 1) (omega (arith, some, room_is)) p.header p.says p.stored l runs.has.lies in
          omega (arith, all, entry_in l.payloads i (in_list is))
        where
          entry_in : (xs : List (List ℕ)) (i : ℕ) → i < length xs → blocks_of (take i xs) + entry_blocks (length (get_or xs i [])) ≤ blocks_of xs
          entry_in [] i lt = absurd (omega (arith, lt))
          entry_in (y ∷ xs) zero lt = let e = sum_by-cons (λ (q : List ℕ). entry_blocks (length q)) y xs in omega (arith, e)
          entry_in (y ∷ xs) (suc i) lt =
              let e = sum_by-cons (λ (q : List ℕ). entry_blocks (length q)) y xs in
              let f = sum_by-cons (λ (q : List ℕ). entry_blocks (length q)) y (take i xs) in
              let rest = entry_in xs i (omega (arith, lt)) in
              omega (arith, e, f, rest)

      -- the place of the entry is so far behind the start
      before : blocks_before v (n - v.first) ≡ u
      before =
          let place : n - v.first ≡ i = ap (λ k. n - k) runs.is.stands.first in
          let inside = in_list is in
          let long = length-map l.payloads (λ p. length p) in
          (λ t. sum_by entry_blocks (take (place t) (runs.is.stands.lengths t))) ∙ ap (λ t. sum_by entry_blocks t) (take-append-le i (lens l.payloads) (lengths_added (commands o)) (omega (arith, inside, long)) ∙ take-map (λ p. length p) i l.payloads)
          ∙ blocks_are (take i l.payloads)

      start : place_of v n % length area ≡ (p.says.start + u) % length area
      start =
          ap (λ m. place_of v n % m) long_area ∙ mod-mod (v.start + blocks_before v (n - v.first)) v.room ∙ (λ t. (sym runs.is.start t + before t) % v.room)
          ∙ ap (λ m. (p.says.start + u) % m) (sym long_area)

      -- a block of the list as it is read
      block_read : (w : ℕ) → u ≤ w → w < u + entry_blocks (length x) → reading area p.says.start w ≡ at p.stored w
      block_read w low lt =
          let inside : (p.says.start + w) % v.room < v.room = mod-lt (p.says.start + w) some in
          let next : 1 + (p.says.start + w) % v.room ≡ suc ((p.says.start + w) % v.room) = omega arith in
          let frees = frees_before l (commands o) i runs.is.can.fit (let has = has_entry is in omega (arith, has.1, has.0.0)) in
          ap (λ m. block area ((p.says.start + w) % m)) long_area
          ∙ get_or-drop 1 (contents_at (current h.base h.journal) blocks) ((p.says.start + w) % v.room) [] ∙ ap (λ m. block (contents_at (current h.base h.journal) blocks) m) next
          ∙ ring_at (current h.base h.journal) blocks (suc ((p.says.start + w) % v.room)) (omega (arith, inside, runs.size, runs.is.room))
          ∙ ap (λ m. block (current h.base h.journal) (get_or blocks (suc ((p.says.start + w) % m)) 0)) room_is
          ∙ runs.has.there w (omega (arith, lt, past)) (omega (arith, frees, low))

      from_ring : ring_bytes area (place_of v n) (entry_blocks (length_of v n)) ≡ bytes_from (at p.stored) u (entry_blocks (length_of v n))
      from_ring = bytes_read area p.says.start (place_of v n) u (entry_blocks (length_of v n)) start
          ∙ same_bytes (reading area p.says.start) (at p.stored) u (entry_blocks (length_of v n)) (λ w low lt. block_read w low (let e = ap entry_blocks (long_payload is) in omega (arith, lt, e)))
