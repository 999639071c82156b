-- An opening, from its first sync to its last.
use Rattle.std.proofs.Common.{◌≡◌, ◌⊎◌, inl, inr, ⊎_elim, ℕ, zero, suc, Bool, true, false, ◌+◌, ◌-◌, ◌%◌, ◌^◌, ◌<◌, ◌≤◌, List, [], ◌∷◌, length, get_or, Some, Option, refl, sym, ◌∙◌, ap, subst, arith, if◌then◌else◌}
use Rattle.std.specs.Prelude.{Contains, nat_lt, unwrap_or}
use Rattle.std.proofs.Math.Nat.{mod-lt}
use Rattle.std.proofs.lemmas.Bool.{cases_lt, lt-ltb, le-ltb}
use Rattle.std.proofs.lemmas.List.{get_or_past}
use Rattle.std.proofs.lemmas.List.Sums.{sum_by-cons}
use Rattle.ark_base.specs.declared.kind.Kind.{Kind}
use Rattle.ark_media.specs.Journal.{Event, History, block, current, zero_block}
use Rattle.ark_media.specs.Calls.{Syncs, Comes}
use Rattle.ark_media.specs.Standing.{after}
use Rattle.ark_entry.specs.Header.{Header, header_of}
use Rattle.ark_entry.specs.Entry.{AreWhole, entry_blocks}
use Rattle.ark_entry.specs.Found.{Entries, Found, found, found_of}
use Rattle.ark_entry.specs.Reading.{reading, Finds, Stands, HasList}
use Rattle.ark_entry.specs.Repair.{used_by, blocks_read, Zeroes}
use Rattle.ark_entry.specs.Writing.{at}
use Rattle.ark_entry.proofs.Readings.{start_inside, found_stands}
use Rattle.ark_entry.proofs.Repairing.{at_read, length-read, finds_fit, read_stands}
use Rattle.ark_caladan.specs.Chain.{blocks_of}
use Rattle.ark_caladan.specs.Leaves.{AreRingBlocks, LiesInRing}
use Rattle.ark_caladan.specs.Views.{OnDisk, contents_at, view_of, repaired}
use Rattle.ark_caladan.specs.Listed.{IsFoundIn, AreFull}
use Rattle.ark_caladan.specs.Stages.{Stage, syncs, calls_of, call_of, Moment, resting, after_calls, took_by, IsAt}
use Rattle.ark_caladan.specs.Leading.{IsBetween, IsFound, Leads}
use Rattle.ark_caladan.specs.Plans.{CanWait}
use Rattle.ark_caladan.specs.Open.{IsOpenWith}
use Rattle.ark_caladan.specs.Repairing.{Repair, IsRepair, repair_stages, repaired_layout, Repairing}
use Rattle.ark_caladan.proofs.Opening.{repaired_is_found}
use Rattle.ark_caladan.proofs.Places.{place_back, place_forth, ring_at}
use Rattle.ark_caladan.proofs.Carrying.{first_some, open_from_rest, at_same}
use Rattle.ark_caladan.proofs.Calls.{StageIn, stage_in, kept_at, at_next, at_turn, kept_failed}

-- numbers of entries that stand somewhere are low
numbers_low : (room start : ℕ) (r : ℕ → List ℕ) (u number : ℕ) (xs : List (List ℕ)) (end : ℕ) → number ≤ 2 ^ 62 + 1 → Stands room start r u number xs end → number + length xs ≤ 2 ^ 62 + 1
numbers_low room start r u number [] end low stands = omega (arith, low)
numbers_low room start r u number (x ∷ xs) end low stands =
    let here : number ≤ 2 ^ 62 = stands.0.low in
    let there : number + 1 + length xs ≤ 2 ^ 62 + 1 = numbers_low room start r (u + entry_blocks (length x)) (number + 1) xs end (omega (arith, here)) stands.1 in
    omega (arith, there)

used_blocks : (xs : List (List ℕ)) → used_by xs ≡ blocks_of xs
used_blocks [] = refl
used_blocks (x ∷ xs) =
    let sum : blocks_of (x ∷ xs) ≡ entry_blocks (length x) + blocks_of xs = sum_by-cons (λ p. entry_blocks (length p)) x xs in
    omega (arith, sum, used_blocks xs)

-- A list of contents as a header and a ring.
module _ (kind : Kind) (room : ℕ) (some : 0 < room) (hd : List ℕ) (ring : List (List ℕ)) (long : length ring ≡ room) (full : AreWhole (hd ∷ ring))
    (h : Header) (l : Entries) (new_header : List ℕ) (new : Header) (places : List ℕ)
    (right : IsRepair kind room (record { seen = hd ∷ ring; says = h; list = l; header = new_header; new = new; places = places })) where
  abbrev whole : Repair
  whole = record { seen = hd ∷ ring; says = h; list = l; header = new_header; new = new; places = places }

  abbrev area : ℕ → List ℕ
  area = block (hd ∷ ring)

  abbrev repair : ℕ → List ℕ
  repair = repaired room h.start (used_by l.payloads) new_header area

  ls : h.start < room
  ls = start_inside kind hd room h some right.read

  is_ring : AreRingBlocks ring
  is_ring = record { whole = λ u lt. full (suc u) (omega (arith, lt)); some = omega (arith, long, some) }

  read : header_of kind (length ring) hd ≡ Some h
  read = subst (λ (n : ℕ). header_of kind n hd ≡ Some h) (sym long) right.read

  stands : HasList kind hd ring l
  stands = found_stands kind hd ring is_ring.whole is_ring.some l right.is_found

  same : stands.0 ≡ h
  same = ap (λ (o : Option Header). unwrap_or o h) (sym stands.1 ∙ read)

  counts : h.count ≤ length l.payloads
  counts = subst (λ (x : Header). x.count ≤ length l.payloads) same stands.3

  finds : Finds (length ring) h.start (reading ring h.start) 0 h.first l.payloads
  finds = subst (λ (x : Header). Finds (length ring) x.start (reading ring x.start) 0 x.first l.payloads) same stands.4

  first : l.first ≡ h.first
  first = stands.2 ∙ ap (λ (x : Header). x.first) same

  used_fits : used_by l.payloads ≤ room
  used_fits =
      let fit : 0 + used_by l.payloads ≤ length ring = finds_fit (length ring) h.start (reading ring h.start) 0 h.first l.payloads (omega arith) finds in
      omega (arith, fit, long)

  repair_at : (u : ℕ) → u < room → repair (suc ((h.start + u) % room)) ≡ (if nat_lt u (used_by l.payloads) then block ring ((h.start + u) % room) else zero_block)
  repair_at u lt = ap (λ v. if nat_lt v (used_by l.payloads) then block ring ((h.start + u) % room) else zero_block) (place_back room h.start u ls lt)

  -- contents of which some are repaired
  module _ (other : List ℕ) (ring2 : List (List ℕ)) (between : IsBetween (suc room) area repair (other ∷ ring2)) where
    long2 : length ring2 ≡ room
    long2 = omega (arith, between.size)

    read_at : (xs : List (List ℕ)) → length xs ≡ room → (u : ℕ) → reading xs h.start u ≡ block xs ((h.start + u) % room)
    read_at xs is u = ap (λ n. block xs ((h.start + u) % n)) is

    inside : (u : ℕ) → suc ((h.start + u) % room) < suc room
    inside u = let low : (h.start + u) % room < room = mod-lt (h.start + u) some in omega (arith, low)

    zeroes : Zeroes (length ring) (used_by l.payloads) (reading ring h.start) (reading ring2 h.start)
    zeroes = record {
      kept = λ v lt.
          read_at ring2 long2 v ∙ ⊎_elim (λ w. w) (λ w. w ∙ repair_at v (omega (arith, lt, used_fits)) ∙ ap (λ b. if b then block ring ((h.start + v) % room) else zero_block) (lt-ltb v (used_by l.payloads) lt))
          (between.each (suc ((h.start + v) % room)) (inside v)) ∙ sym (read_at ring long v);
      rest = λ v from to. ⊎_elim
          (λ w. inl (read_at ring2 long2 v ∙ w ∙ sym (read_at ring long v)))
          (λ w. inr (read_at ring2 long2 v ∙ w ∙ repair_at v (omega (arith, to, long)) ∙ ap (λ b. if b then block ring ((h.start + v) % room) else zero_block) (le-ltb v (used_by l.payloads) from)))
          (between.each (suc ((h.start + v) % room)) (inside v));
    }

    found_by : (header : List ℕ) (x : Header) → header_of kind room header ≡ Some x → x.first ≡ h.first → x.start ≡ h.start → x.count ≤ length l.payloads → found_of kind (header ∷ ring2) ≡ found l
    found_by header x is is_first is_start is_count = repaired_is_found kind hd h ring l is_ring read right.is_found header x ring2
        (record { whole = λ u lt. between.whole (suc u) (omega (arith, lt)); some = omega (arith, long2, some) })
        (record { read = subst (λ (n : ℕ). header_of kind n header ≡ Some x) (sym long) is; first = is_first; start = is_start; count = is_count; size = omega (arith, long, long2); zeroes = zeroes })

    found_between : found_of kind (other ∷ ring2) ≡ found l
    found_between = ⊎_elim
        (λ w. ap (λ (b : List ℕ). found_of kind (b ∷ ring2)) w ∙ found_by hd h right.read refl refl counts)
        (λ w. ap (λ (b : List ℕ). found_of kind (b ∷ ring2)) w ∙ found_by new_header new right.new_read right.first right.start right.count)
        (between.each 0 (omega arith))

  found_repair : IsFound kind (suc room) area repair (found l)
  found_repair [] between = absurd (omega (arith, between.size))
  found_repair (other ∷ ring2) between = found_between other ring2 between

  found_repaired : IsFound kind (suc room) repair repair (found l)
  found_repaired contents between = found_repair contents (record { size = between.size; whole = between.whole; each = λ k lt. inr (⊎_elim (λ w. w) (λ w. w) (between.each k lt)) })

  -- the repair is a plan, from the list that was found to the same
  pub repair_leads : Leads kind (suc room) (found l) (found l) (resting area false) (repair_stages room whole)
  repair_leads = (refl, right.inside, found_repair, (right.all, (λ contents between. inl (found_repair contents between)), found_repaired, (refl, found_repaired)))

  -- what it leaves: the list's blocks from the start on, and zeros behind them
  abbrev list_blocks : List (List ℕ)
  list_blocks = blocks_read (reading ring h.start) 0 (used_by l.payloads)

  repaired_is : (k : ℕ) → k < suc room → repair k ≡ view_of room new_header h.start list_blocks k
  repaired_is zero lt = refl
  repaired_is (suc q) lt = by (cases_lt ((q + room - h.start) % room) (used_by l.payloads))
    where
      forth : (h.start + (q + room - h.start) % room) % room ≡ q
      forth = place_forth room h.start q ls (omega (arith, lt))

      by : ((q + room - h.start) % room < used_by l.payloads) ⊎ (used_by l.payloads ≤ (q + room - h.start) % room) → repair (suc q) ≡ view_of room new_header h.start list_blocks (suc q)
      by (inl inside) =
          let zero_plus : 0 + (q + room - h.start) % room ≡ (q + room - h.start) % room = omega arith in
          ap (λ b. if b then block ring q else zero_block) (lt-ltb ((q + room - h.start) % room) (used_by l.payloads) inside)
          ∙ sym (at_read (length ring) h.start (reading ring h.start) 0 (used_by l.payloads) ((q + room - h.start) % room) inside
          ∙ ap (reading ring h.start) zero_plus ∙ ap (λ n. block ring ((h.start + (q + room - h.start) % room) % n)) long ∙ ap (block ring) forth)
      by (inr past) =
          ap (λ b. if b then block ring q else zero_block) (le-ltb ((q + room - h.start) % room) (used_by l.payloads) past)
          ∙ sym (get_or_past list_blocks ((q + room - h.start) % room) zero_block (omega (arith, length-read (length ring) h.start (reading ring h.start) 0 (used_by l.payloads), past)))

  repaired_lies : LiesInRing kind room new_header new list_blocks l
  repaired_lies =
      let there = read_stands (length ring) h.start (reading ring h.start) h.first l.payloads finds in
      record {
        read = right.new_read;
        first = first ∙ sym right.first;
        count = right.count;
        stands = subst (λ (n : ℕ). Stands n new.start (at list_blocks) 0 l.first l.payloads (length list_blocks)) long
            (subst (λ (s : ℕ). Stands (length ring) s (at list_blocks) 0 l.first l.payloads (length list_blocks)) (sym right.start)
            (subst (λ (n : ℕ). Stands (length ring) h.start (at list_blocks) 0 n l.payloads (length list_blocks)) (sym first) there));
        fits = omega (arith, used_fits, length-read (length ring) h.start (reading ring h.start) 0 (used_by l.payloads));
      }

  can_wait : room < 2 ^ 32 → CanWait room l []
  can_wait few =
      let low : l.first ≤ 2 ^ 62 + 1 = omega (arith, first, (first_some kind room hd h right.read).1) in
      record {
        fit = tt;
        fits = let many : used_by l.payloads ≡ blocks_of l.payloads = used_blocks l.payloads in omega (arith, many, used_fits);
        short = tt;
        low = numbers_low room new.start (at list_blocks) 0 l.first l.payloads (length list_blocks) low repaired_lies.stands;
        few = few;
      }

  -- Behind the last sync the log is open with the list that was found, and no command waits.
  pub repaired_opens : (history : History) (blocks : List ℕ) (took : Bool) → room < 2 ^ 32 → length blocks ≡ suc room → OnDisk blocks history.base → IsAt history blocks (resting repair took)
      → IsOpenWith kind room history blocks (repaired_layout whole) l [] 0 0
  repaired_opens history blocks took few size on_disk at =
      open_from_rest kind room blocks (repaired_layout whole) l history [] took size some on_disk repaired_lies (can_wait few)
      (subst (λ (s : ℕ). IsAt history blocks (resting (view_of room new_header s list_blocks) took)) (sym right.start)
      (at_same history blocks repair (view_of room new_header h.start list_blocks) took took (λ k lt. repaired_is k (omega (arith, lt, size))) at))

module _ (kind : Kind) (room : ℕ) (blocks : List ℕ) where
  leads_by : (seen : List (List ℕ)) (h : Header) (l : Entries) (header : List ℕ) (new : Header) (places : List ℕ) → 0 < room
      → let r : Repair = record { seen = seen; says = h; list = l; header = header; new = new; places = places } in
      IsRepair kind room r → Leads kind (suc room) (found l) (found l) (resting (block seen) false) (repair_stages room r)
  leads_by [] h l header new places some right = absurd (omega (arith, right.size))
  leads_by (hd ∷ ring) h l header new places some right = repair_leads kind room some hd ring (omega (arith, right.size)) right.whole h l header new places right

  module _ (r : Repair) where
    abbrev stages : List Stage
    stages = repair_stages room r

    leads : length blocks ≡ suc room → 0 < room → IsRepair kind room r → Leads kind (length blocks) (found r.list) (found r.list) (resting (block r.seen) false) stages
    leads size some right = subst (λ (m : ℕ). Leads kind m (found r.list) (found r.list) (resting (block r.seen) false) stages) (sym size)
        (leads_by r.seen r.says r.list r.header r.new r.places some right)

    -- The first sync of an opening leaves what it has seen.
    pub repair_begins : (history : History) (e : Event) → length blocks ≡ suc room → 0 < room → OnDisk blocks history.base
        → r.seen ≡ contents_at (current history.base history.journal) blocks → IsRepair kind room r → Comes Syncs true e → Repairing kind room (after history (e ∷ [])) blocks r 0 0
    repair_begins history e size some on_disk is right came = record {
      size = size;
      some = some;
      on_disk = on_disk;
      right = right;
      place = (omega arith, omega arith);
      at = at_turn kind (found r.list) (found r.list) blocks (found r.list ∷ []) (0, omega arith, refl) (0, omega arith, refl) (after history (e ∷ [])) on_disk (resting (block r.seen) false) stages
          (leads size some right)
          (subst (λ (ev : Event). IsAt (after history (ev ∷ [])) blocks (resting (block r.seen) false)) (sym came) (record {
            left = λ k lt c left. inl (left ∙ sees k lt);
            there = λ i lt. absurd (omega (arith, lt));
            others = λ k lt none. sees k lt;
          }));
    }
      where
        sees : (k : ℕ) → k < length blocks → block (current history.base history.journal) (get_or blocks k 0) ≡ block r.seen k
        sees k lt = sym (ap (λ (x : List (List ℕ)). block x k) is ∙ ring_at (current history.base history.journal) blocks k lt)

    module _ (history : History) (done n : ℕ) (inside : Repairing kind room history blocks r done n) where
      at_stage : StageIn kind (found r.list) (found r.list) (length blocks) (resting (block r.seen) false) stages done
      at_stage = stage_in kind (found r.list) (found r.list) (length blocks) (resting (block r.seen) false) stages done inside.place.0 (leads inside.size inside.some inside.right)

      either : (t : Bool) → (if t then found r.list else found r.list) ≡ found r.list
      either true = refl
      either false = refl

      -- at each moment of it the list that it found stands, and a stop leaves nothing else
      pub repair_kept : (choices : List Found) → Contains choices (found r.list) → AreFull history blocks → IsFoundIn kind history blocks (found r.list) choices
      repair_kept choices has full =
          let s = at_stage in
          subst (λ (z : Found). IsFoundIn kind history blocks z choices) (either (after_calls s.before (get_or stages done syncs) n).took)
          (kept_at kind (found r.list) (found r.list) blocks choices has has history inside.on_disk full s.before (get_or stages done syncs) s.behind s.plan n
          (subst (λ (f : Moment). IsAt history blocks f) (s.head n) inside.at))

      pub repair_moved : (e : Event) → n < calls_of (get_or stages done syncs) → Comes (call_of blocks (get_or stages done syncs) n) true e → Repairing kind room (after history (e ∷ [])) blocks r done (suc n)
      repair_moved e lt came =
          let s = at_stage in
          record {
            size = inside.size;
            some = inside.some;
            on_disk = inside.on_disk;
            right = inside.right;
            place = (inside.place.0, omega (arith, lt));
            at = subst (λ (f : Moment). IsAt (after history (e ∷ [])) blocks f) (sym (s.head (suc n)))
                (at_next kind (found r.list) (found r.list) blocks (found r.list ∷ []) (0, omega arith, refl) (0, omega arith, refl) history inside.on_disk
                s.before (get_or stages done syncs) s.behind s.plan n lt e came (subst (λ (f : Moment). IsAt history blocks f) (s.head n) inside.at));
          }

      pub repair_failed : (choices : List Found) → Contains choices (found r.list) → (e : Event) → AreFull (after history (e ∷ [])) blocks → n < calls_of (get_or stages done syncs)
          → Comes (call_of blocks (get_or stages done syncs) n) false e → IsFoundIn kind (after history (e ∷ [])) blocks (found r.list) choices
      repair_failed choices has e full lt came =
          let s = at_stage in
          subst (λ (z : Found). IsFoundIn kind (after history (e ∷ [])) blocks z choices) (either (took_by s.before.took (get_or stages done syncs) e))
          (kept_failed kind (found r.list) (found r.list) blocks choices has has history inside.on_disk e full s.before (get_or stages done syncs) s.behind s.plan n lt came
          (subst (λ (f : Moment). IsAt history blocks f) (s.head n) inside.at))

    -- the writes are made: the sync is next
    pub repair_written : (history : History) → Repairing kind room history blocks r 0 (length r.places) → Repairing kind room history blocks r 1 0
    repair_written history inside = record { size = inside.size; some = inside.some; on_disk = inside.on_disk; right = inside.right; place = (omega arith, omega arith); at = inside.at }

    -- and behind it the log is open
    pub repair_opens : (history : History) → room < 2 ^ 32 → Repairing kind room history blocks r 1 1 → IsOpenWith kind room history blocks (repaired_layout r) r.list [] 0 0
    repair_opens history few inside = by r.seen r.says r.list r.header r.new r.places inside.right inside.at
      where
        by : (seen : List (List ℕ)) (h : Header) (l : Entries) (header : List ℕ) (new : Header) (places : List ℕ)
            → let s : Repair = record { seen = seen; says = h; list = l; header = header; new = new; places = places } in
            IsRepair kind room s → IsAt history blocks (resting (repaired room h.start (used_by l.payloads) header (block seen)) false) → IsOpenWith kind room history blocks (repaired_layout s) l [] 0 0
        by [] h l header new places right at = absurd (omega (arith, right.size))
        by (hd ∷ ring) h l header new places right at = repaired_opens kind room inside.some hd ring (omega (arith, right.size)) right.whole h l header new places right history blocks false few inside.size inside.on_disk at
