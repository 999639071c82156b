-- A repair of an area, call by call: what stands at each front, and behind the last call.
use Rattle.std.proofs.Common.{◌≡◌, inl, inr, ℕ, zero, suc, ◌+◌, ◌-◌, ◌%◌, ◌<◌, List, [], ◌∷◌, ◌++◌, Bool, true, false, length, get_or, map, refl, sym, ◌∙◌, ap, subst, arith, append_assoc, append-nil, if◌then◌else◌, length-append}
use Rattle.std.specs.Prelude.{Contains, nat_lt}
use Rattle.std.specs.List.{AllByRecursion}
use Rattle.std.proofs.lemmas.Bool.{false≢true, le-ltb}
use Rattle.std.proofs.lemmas.List.{get_or-append_right}
use Rattle.ark_media.specs.Journal.{Event, History, block, current, zero_block}
use Rattle.ark_media.specs.Calls.{Call, Writes, Syncs, Comes, Makes}
use Rattle.ark_media.specs.Standing.{after}
use Rattle.ark_entry.specs.Found.{Found, found}
use Rattle.ark_entry.specs.Repair.{used_by}
use Rattle.ark_caladan.specs.Chain.{Log, lists, stored}
use Rattle.ark_caladan.specs.Listed.{AreFull, IsFoundIn, IsListed, SameAt}
use Rattle.ark_caladan.specs.Repairing.{IsRepair, Repair, Repairing, repair_stages, repaired_view}
use Rattle.ark_caladan.specs.Stages.{call_of, calls_of, syncs}
use Rattle.ark_caladan.specs.Views.{OnDisk, contents_at}
use Rattle.ark_caladan.proofs.Commands.{stored_is_listed}
use Rattle.ark_caladan.proofs.Listing.{elsewhere_same, found_shown, full_kept}
use Rattle.ark_caladan.proofs.Repairing.{repair_begins, repair_failed, repair_kept, repair_moved, repair_written}
use Rattle.ark_chain.specs.Repair.{clears}
use Rattle.ark_chain.specs.Survey.{reads}
use Rattle.ark_running.specs.Opening.{AtFronts, blocks_of}
use Rattle.ark_running.proofs.Fronts.{front_last, front_more, read_same}
use Rattle.ark_running.proofs.Outside.{IsOutside}

module _ (blocks : List ℕ) (g : Log) where
  -- the log is as listed, and its blocks are full
  abbrev pub IsFine : History → Type 0
  IsFine h = IsListed h blocks g × AreFull h blocks

  -- so it is where its blocks stay the same
  pub fine_same : (h later : History) → SameAt h later blocks → IsFine h → IsFine later
  fine_same h later same fine = (found_shown g.kind h later blocks (stored g) (lists g) same fine.0, λ k lt content may. fine.1 k lt content ((same k lt).1 content may))

module _ (room : ℕ) (blocks : List ℕ) (g : Log) (r : Repair) (size : length blocks ≡ suc room) (some : 0 < room) (right : IsRepair g.kind room r) (head : length r.header ≡ 512) (is : stored g ≡ found r.list) where
  abbrev Inside : History → ℕ → ℕ → Type 0
  Inside h done n = Repairing g.kind room h blocks r done n

  -- the area is fine at each front of these events, and where all calls succeeded it is repaired behind them
  abbrev pub Leaves : Bool → History → List Event → Type 0
  Leaves ok h es = AtFronts (IsFine blocks g) h es × (ok ≡ true → Inside (after h es) 1 1)

  abbrev write : ℕ → Call
  write p = Writes (get_or blocks p 0) (repaired_view room r p)

  whole_view : (p : ℕ) → p < suc room → length (repaired_view room r p) ≡ 512
  whole_view zero lt = head
  whole_view (suc q) lt = by (nat_lt ((q + room - r.says.start) % room) (used_by r.list.payloads))
    where
      by : (b : Bool) → length (if b then block r.seen (suc q) else zero_block) ≡ 512
      by true = right.whole (suc q) (omega (arith, lt, right.size))
      by false = refl

  fine : (h : History) (done n : ℕ) → Inside h done n → AreFull h blocks → IsFine blocks g h
  fine h done n inside full = (
    subst (λ (f : Found). IsFoundIn g.kind h blocks f (lists g)) (sym is)
        (repair_kept g.kind room blocks r h done n inside (lists g) (subst (λ (f : Found). Contains (lists g) f) is (stored_is_listed g)) full),
    full,
  )

  -- a call failed
  broken : (h : History) (done n : ℕ) → Inside h done n → (e : Event) → AreFull (after h (e ∷ [])) blocks → let s = get_or (repair_stages room r) done syncs in n < calls_of s → Comes (call_of blocks s n) false e
      → IsFine blocks g (after h (e ∷ []))
  broken h done n inside e full lt came = (
    subst (λ (f : Found). IsFoundIn g.kind (after h (e ∷ [])) blocks f (lists g)) (sym is)
        (repair_failed g.kind room blocks r h done n inside (lists g) (subst (λ (f : Found). Contains (lists g) f) is (stored_is_listed g)) e full lt came),
    full,
  )

  failed : (ok : Bool) (h : History) (e : Event) (es : List Event) → ok ≡ false → es ≡ [] → IsFine blocks g h → IsFine blocks g (after h (e ∷ [])) → Leaves ok h (e ∷ es)
  failed ok h e es bad none here there = (front_last (IsFine blocks g) h e es none here there, λ well. absurd (false≢true (sym bad ∙ well)))

  -- the last sync
  synced : (h : History) → Inside h 1 0 → AreFull h blocks → (ok : Bool) (es : List Event) → Makes (Syncs ∷ []) ok es → Leaves ok h es
  synced h inside full ok [] makes = absurd makes
  synced h inside full ok (e ∷ []) (inl m) =
      let one : 0 < 1 = omega arith in
      let there = repair_moved g.kind room blocks r h 1 0 inside e one m.0 in
      (front_last (IsFine blocks g) h e [] refl (fine h 1 0 inside full) (fine (after h (e ∷ [])) 1 1 there (full_kept h blocks inside.on_disk Syncs true e tt m.0 full)), λ well. there)
  synced h inside full ok (e ∷ x ∷ es) (inl m) = absurd m.1
  synced h inside full ok (e ∷ es) (inr m) =
      let one : 0 < 1 = omega arith in
      failed ok h e es m.1 m.2 (fine h 1 0 inside full) (broken h 1 0 inside e (full_kept h blocks inside.on_disk Syncs false e tt m.0 full) one m.0)

  -- One write, where some are made.
  module _ (p : ℕ) (rest made : List ℕ) (are : r.places ≡ made ++ p ∷ rest) (h : History) (inside : Inside h 0 (length made)) (full : AreFull h blocks) where
    less : length made < length r.places
    less = let long = ap (λ (l : List ℕ). length l) are ∙ length-append made (p ∷ rest) in omega (arith, long)

    at : get_or r.places (length made) 0 ≡ p
    at =
        let here : length made - length made ≡ 0 = omega arith in
        ap (λ (l : List ℕ). get_or l (length made) 0) are ∙ get_or-append_right made (p ∷ rest) (length made) (length made) 0 refl (omega arith) ∙ ap (λ (n : ℕ). get_or (p ∷ rest) n 0) here

    full_after : (ok : Bool) (e : Event) → Comes (write p) ok e → AreFull (after h (e ∷ [])) blocks
    full_after ok e came = full_kept h blocks inside.on_disk (write p) ok e (whole_view p (subst (λ (n : ℕ). n < suc room) at (right.inside (length made) less))) came full

    came_at : (ok : Bool) (e : Event) → Comes (write p) ok e → Comes (write (get_or r.places (length made) 0)) ok e
    came_at ok e came = subst (λ (n : ℕ). Comes (write n) ok e) (sym at) came

    one_made : (e : Event) → Comes (write p) true e → Inside (after h (e ∷ [])) 0 (length (made ++ p ∷ []))
    one_made e came =
        let next : suc (length made) ≡ length (made ++ p ∷ []) = (let long = length-append made (p ∷ []) in omega (arith, long)) in
        subst (λ (n : ℕ). Inside (after h (e ∷ [])) 0 n) next (repair_moved g.kind room blocks r h 0 (length made) inside e less (came_at true e came))

    one_broken : (e : Event) → Comes (write p) false e → IsFine blocks g (after h (e ∷ []))
    one_broken e came = broken h 0 (length made) inside e (full_after false e came) less (came_at false e came)

  -- the writes that are left
  written : (rest made : List ℕ) → r.places ≡ made ++ rest → (h : History) → Inside h 0 (length made) → AreFull h blocks → (ok : Bool) (es : List Event) → Makes (map write rest ++ Syncs ∷ []) ok es → Leaves ok h es
  written [] made are h inside full ok es makes =
      let all : length made ≡ length r.places = ap (λ (l : List ℕ). length l) (sym (are ∙ append-nil made)) in
      synced h (repair_written g.kind room blocks r h (subst (λ (n : ℕ). Inside h 0 n) all inside)) full ok es makes
  written (p ∷ rest) made are h inside full ok [] makes = absurd makes
  written (p ∷ rest) made are h inside full ok (e ∷ es) (inl m) =
      let more = written rest (made ++ p ∷ []) (are ∙ sym (append_assoc made (p ∷ []) rest)) (after h (e ∷ []))
      (one_made p rest made are h inside full e m.0) (full_after p rest made are h inside full true e m.0) ok es m.1 in
      (front_more (IsFine blocks g) h e es (fine h 0 (length made) inside full) more.0, more.1)
  written (p ∷ rest) made are h inside full ok (e ∷ es) (inr m) = failed ok h e es m.1 m.2 (fine h 0 (length made) inside full) (one_broken p rest made are h inside full e m.0)

  -- from the first sync on
  begun : (h : History) → OnDisk blocks h.base → r.seen ≡ contents_at (current h.base h.journal) blocks → IsFine blocks g h → (ok : Bool) (es : List Event) → Makes (Syncs ∷ (map write r.places ++ Syncs ∷ [])) ok es → Leaves ok h es
  begun h on_disk seen here ok [] makes = absurd makes
  begun h on_disk seen here ok (e ∷ es) (inl m) =
      let inside = repair_begins g.kind room blocks r h e size some on_disk seen right m.0 in
      let more = written r.places [] refl (after h (e ∷ [])) inside (full_kept h blocks on_disk Syncs true e tt m.0 here.1) ok es m.1 in
      (front_more (IsFine blocks g) h e es here more.0, more.1)
  begun h on_disk seen here ok (e ∷ es) (inr m) = failed ok h e es m.1 m.2 here (fine_same blocks g h (after h (e ∷ [])) (elsewhere_same h blocks on_disk Syncs false e tt m.0) here)

  -- from the first read on
  pub repaired_leaves : (ns : List ℕ) (h : History) → OnDisk blocks h.base → r.seen ≡ contents_at (current h.base h.journal) blocks → IsFine blocks g h → (ok : Bool) (es : List Event)
      → Makes (reads ns ++ (Syncs ∷ (map write r.places ++ Syncs ∷ []))) ok es → Leaves ok h es
  repaired_leaves [] h on_disk seen here ok es makes = begun h on_disk seen here ok es makes
  repaired_leaves (n ∷ ns) h on_disk seen here ok [] makes = absurd makes
  repaired_leaves (n ∷ ns) h on_disk seen here ok (e ∷ es) (inl m) =
      let more = repaired_leaves ns (after h (e ∷ [])) on_disk (seen ∙ ap (λ (x : Event). contents_at (current h.base (x ∷ h.journal)) blocks) (sym m.0)) (fine_same blocks g h (after h (e ∷ [])) (read_same h blocks n true e m.0) here) ok es m.1 in
      (front_more (IsFine blocks g) h e es here more.0, more.1)
  repaired_leaves (n ∷ ns) h on_disk seen here ok (e ∷ es) (inr m) = failed ok h e es m.1 m.2 here (fine_same blocks g h (after h (e ∷ [])) (read_same h blocks n false e m.0) here)

  -- zeros to places outside the list, and the header to the first, are these writes
  pub calls_are : (noted : List ℕ) → AllByRecursion (IsOutside room r.says.start (used_by r.list.payloads)) noted
      → clears (blocks_of blocks noted) ++ Writes (get_or blocks 0 0) r.header ∷ Syncs ∷ [] ≡ map write (noted ++ 0 ∷ []) ++ Syncs ∷ []
  calls_are [] all = refl
  calls_are (p ∷ noted) all =
      let zeros : repaired_view room r p ≡ zero_block = ap (repaired_view room r) all.0.1 ∙ ap (λ b. if b then block r.seen (suc all.0.0) else zero_block) (le-ltb ((all.0.0 + room - r.says.start) % room) (used_by r.list.payloads) all.0.3) in
      ap (λ (content : List ℕ). Writes (get_or blocks p 0) content ∷ (clears (blocks_of blocks noted) ++ Writes (get_or blocks 0 0) r.header ∷ Syncs ∷ [])) (sym zeros)
      ∙ ap (λ (cs : List Call). write p ∷ cs) (calls_are noted all.1)
