-- What came of the calls that grant an area: how they ended, which blocks they wrote, and that they are those of the line.
use Rattle.std.proofs.Common.{◌≡◌, inl, inr, ℕ, suc, ◌+◌, Bool, true, false, not, ◌&&◌, ◌||◌, List, [], ◌∷◌, ◌++◌, length, map, refl, sym, ◌∙◌, ap, subst, arith, Contains}
use Rattle.std.specs.Prelude.{Option, Some, slice_get}
use Rattle.std.specs.List.{list_any, range_with_len}
use Rattle.std.proofs.lemmas.Bool.{false≢true}
use Rattle.ark_media.specs.Journal.{Event, zero_block, has_succeeded}
use Rattle.ark_media.specs.Calls as calls
use Rattle.ark_media.specs.Calls.{Comes, Makes as Made}
use Rattle.ark_table.specs.Area.{Area, area_bytes}
use Rattle.ark_table.specs.Plans.{slot_calls, grant_calls}
use Rattle.ark_script.specs.Line.{Line}
use Rattle.ark_machine.specs.Row.{Call, Ended, zeroes_new, writes_slot, syncs, has_fault, is_sync}
use Rattle.ark_machine.specs.Plane.{asked_blocks}
use Rattle.ark_machine.specs.System.{System}
use Rattle.ark_machine.specs.Follow.{WritesAt, IsSync, Makes, Follow, is_repeated, ended, fails, goes_on, end_of, ends_of, slots_for, slot_content}
use Rattle.ark_held.specs.Beside.{AreBeside}
use Rattle.ark_held.proofs.Settling.{has_synced}

abbrev pub Plan : Type 0
Plan = List calls.Call

-- how each call ended
came_ok : (c : calls.Call) (ok : Bool) (e : Event) → Comes c ok e → (has_succeeded e ≡ ok) × ((end_of e).ok ≡ ok)
came_ok (calls.Reads n) ok e is = (ap has_succeeded is, ap (λ (x : Event). (end_of x).ok) is)
came_ok (calls.Writes n content) ok e is = (ap has_succeeded is.2, ap (λ (x : Event). (end_of x).ok) is.2)
came_ok calls.Syncs ok e is = (ap has_succeeded is, ap (λ (x : Event). (end_of x).ok) is)

-- a call failed exactly where the calls did
pub made_fault : (plan : Plan) (ok : Bool) (es : List Event) → Made plan ok es → has_fault (ends_of es) ≡ not ok
made_fault [] ok [] made = sym (ap not made)
made_fault [] ok (e ∷ es) made = absurd made
made_fault (c ∷ plan) ok [] made = absurd made
made_fault (c ∷ plan) ok (e ∷ es) (inl made) = ap (λ b. not b || has_fault (ends_of es)) (came_ok c true e made.0).1 ∙ made_fault plan ok es made.1
made_fault (c ∷ plan) ok (e ∷ es) (inr made) = ap (λ b. not b || has_fault (ends_of es)) (came_ok c false e made.0).1 ∙ sym (ap not made.1)

abbrev pub ended_sync : List Ended → Bool
ended_sync ends = list_any (λ e. e.ok && is_sync e.verb) ends

-- whether a sync succeeded, by how the calls ended
sync_of : (c : calls.Call) (ok : Bool) (e : Event) (es : List Event) → Comes c ok e → ended_sync (ends_of es) ≡ has_synced es → ended_sync (ends_of (e ∷ es)) ≡ has_synced (e ∷ es)
sync_of (calls.Reads n) ok e es is rest = subst (λ (x : Event). ended_sync (ends_of (x ∷ es)) ≡ has_synced (x ∷ es)) (sym is) (none ok rest)
  where
    none : (b : Bool) → ended_sync (ends_of es) ≡ has_synced es → ((b && false) || ended_sync (ends_of es)) ≡ has_synced es
    none true h = h
    none false h = h
sync_of (calls.Writes n content) ok e es is rest = subst (λ (x : Event). ended_sync (ends_of (x ∷ es)) ≡ has_synced (x ∷ es)) (sym is.2) (none ok rest)
  where
    none : (b : Bool) → ended_sync (ends_of es) ≡ has_synced es → ((b && false) || ended_sync (ends_of es)) ≡ has_synced es
    none true h = h
    none false h = h
sync_of calls.Syncs ok e es is rest = subst (λ (x : Event). ended_sync (ends_of (x ∷ es)) ≡ has_synced (x ∷ es)) (sym is) (one ok rest)
  where
    one : (b : Bool) → ended_sync (ends_of es) ≡ has_synced es → ((b && true) || ended_sync (ends_of es)) ≡ (b || has_synced es)
    one true h = refl
    one false h = h

pub made_sync : (plan : Plan) (ok : Bool) (es : List Event) → Made plan ok es → ended_sync (ends_of es) ≡ has_synced es
made_sync [] ok [] made = refl
made_sync [] ok (e ∷ es) made = absurd made
made_sync (c ∷ plan) ok [] made = absurd made
made_sync (c ∷ plan) ok (e ∷ es) (inl made) = sync_of c true e es made.0 (made_sync plan ok es made.1)
made_sync (c ∷ plan) ok (e ∷ es) (inr made) = sync_of c false e es made.0 (subst (λ (x : List Event). ended_sync (ends_of x) ≡ has_synced x) (sym made.2) refl)

-- Which blocks the calls write.

abbrev pub WritesNone : List ℕ → Plan → Type 0
WritesNone blocks [] = Unit {0}
WritesNone blocks (calls.Writes n content ∷ plan) = (Contains blocks n → ⊥) × WritesNone blocks plan
WritesNone blocks (calls.Reads n ∷ plan) = WritesNone blocks plan
WritesNone blocks (calls.Syncs ∷ plan) = WritesNone blocks plan

beside_one : (blocks : List ℕ) (c : calls.Call) (plan : Plan) (ok : Bool) (e : Event) (es : List Event) → WritesNone blocks (c ∷ plan) → Comes c ok e → AreBeside blocks es → AreBeside blocks (e ∷ es)
beside_one blocks (calls.Reads n) plan ok e es none is rest = subst (λ (x : Event). AreBeside blocks (x ∷ es)) (sym is) rest
beside_one blocks (calls.Writes n content) plan ok e es none is rest = subst (λ (x : Event). AreBeside blocks (x ∷ es)) (sym is.2) (none.0, rest)
beside_one blocks calls.Syncs plan ok e es none is rest = subst (λ (x : Event). AreBeside blocks (x ∷ es)) (sym is) rest

later_none : (blocks : List ℕ) (c : calls.Call) (plan : Plan) → WritesNone blocks (c ∷ plan) → WritesNone blocks plan
later_none blocks (calls.Reads n) plan none = none
later_none blocks (calls.Writes n content) plan none = none.1
later_none blocks calls.Syncs plan none = none

pub made_beside : (blocks : List ℕ) (plan : Plan) (ok : Bool) (es : List Event) → WritesNone blocks plan → Made plan ok es → AreBeside blocks es
made_beside blocks [] ok [] none made = tt
made_beside blocks [] ok (e ∷ es) none made = absurd made
made_beside blocks (c ∷ plan) ok [] none made = absurd made
made_beside blocks (c ∷ plan) ok (e ∷ es) none (inl made) = beside_one blocks c plan true e es none made.0 (made_beside blocks plan ok es (later_none blocks c plan none) made.1)
made_beside blocks (c ∷ plan) ok (e ∷ es) none (inr made) = beside_one blocks c plan false e es none made.0 (subst (λ (x : List Event). AreBeside blocks x) (sym made.2) tt)

grant_none : (blocks : List ℕ) (i : ℕ) (a : Area) (added : List ℕ) → (Contains blocks i → ⊥) → ((n : ℕ) → Contains added n → Contains blocks n → ⊥) → WritesNone blocks (grant_calls i a added)
grant_none blocks i a [] slot apart = (slot, tt)
grant_none blocks i a (n ∷ added) slot apart = (apart n (0, omega arith, refl), grant_none blocks i a added slot (λ k has. apart k (suc has.0, omega (arith, has.1), has.2)))

-- blocks that are neither the slot nor granted are not written
pub grant_beside : (blocks : List ℕ) (i : ℕ) (a : Area) (added : List ℕ) (ok : Bool) (es : List Event) → (Contains blocks i → ⊥) → ((n : ℕ) → Contains added n → Contains blocks n → ⊥) → Made (grant_calls i a added) ok es → AreBeside blocks es
grant_beside blocks i a added ok es slot apart made = made_beside blocks (grant_calls i a added) ok es (grant_none blocks i a added slot apart) made

-- where all succeeded, the first sync did
pub grant_syncs : (i : ℕ) (a : Area) (added : List ℕ) (es : List Event) → Made (grant_calls i a added) true es → has_synced es ≡ true
grant_syncs i a [] [] made = absurd made
grant_syncs i a [] (e ∷ es) (inl made) = subst (λ (x : Event). has_synced (x ∷ es) ≡ true) (sym made.0) refl
grant_syncs i a [] (e ∷ es) (inr made) = absurd (false≢true (sym made.1))
grant_syncs i a (n ∷ added) [] made = absurd made
grant_syncs i a (n ∷ added) (e ∷ es) (inl made) = subst (λ (x : Event). has_synced (x ∷ es) ≡ true) (sym made.0.2) (grant_syncs i a added es made.1)
grant_syncs i a (n ∷ added) (e ∷ es) (inr made) = absurd (false≢true (sym made.1))

-- The line's calls are these.

module _ (s : System) (a : List ℕ) (line : Line) where
  pub writes_at : (place : Option ℕ) (n : ℕ) (content wanted : List ℕ) (ok : Bool) (e : Event) → Comes (calls.Writes n content) ok e → place ≡ Some n → content ≡ wanted → WritesAt place wanted e
  writes_at place n content wanted ok e is at same = subst (λ (x : Event). WritesAt place wanted x) (sym is.2) (at, same, is.1)

  pub syncs_at : (ok : Bool) (e : Event) → Comes calls.Syncs ok e → IsSync e
  syncs_at ok e is = subst (λ (x : Event). IsSync x) (sym is) tt

  -- one call, and those behind it
  pub step : (c : Call) (cs : List Call) (call : calls.Call) (plan : Plan) (ok : Bool) (e : Event) (es : List Event) → is_repeated c ≡ false → ((b : Bool) → Comes call b e → Makes s a line c e) → (Made plan ok es → Follow s a line cs es) → Made (call ∷ plan) ok (e ∷ es) → Follow s a line (c ∷ cs) (e ∷ es)
  step c cs call plan ok e es once makes rest (inl made) = goes_on {c = c} {cs = cs} {e = e} {es = es} (makes true made.0) (came_ok call true e made.0).0 once (rest made.1)
  step c cs call plan ok e es once makes rest (inr made) = subst (λ (x : List Event). Follow s a line (c ∷ cs) (e ∷ x)) (sym made.2) (fails {c = c} {cs = cs} {e = e} (makes false made.0) (came_ok call false e made.0).0)

  module _ (i : ℕ) (area : Area) (slot : slice_get (slots_for s.plane a line) 0 ≡ Some i) (content : slot_content s.plane a line ≡ area_bytes area) where
    last_sync : (ok : Bool) (es : List Event) → Made (calls.Syncs ∷ []) ok es → Follow s a line (syncs ∷ []) es
    last_sync ok [] made = absurd made
    last_sync ok (e ∷ es) made = step syncs [] calls.Syncs [] ok e es refl (λ b is. syncs_at b e is) (none es) made
      where
        none : (xs : List Event) → Made [] ok xs → Follow s a line [] xs
        none [] h = ended
        none (x ∷ xs) h = absurd h

    slot_write : (ok : Bool) (es : List Event) → Made (slot_calls i (Some area)) ok es → Follow s a line (writes_slot ∷ syncs ∷ []) es
    slot_write ok [] made = absurd made
    slot_write ok (e ∷ es) made = step writes_slot (syncs ∷ []) (calls.Writes i (area_bytes area)) (calls.Syncs ∷ []) ok e es refl
        (λ b is. writes_at (slice_get (slots_for s.plane a line) 0) i (area_bytes area) (slot_content s.plane a line) b e is slot (sym content)) (last_sync ok es) made

    first_sync : (ok : Bool) (es : List Event) → Made (calls.Syncs ∷ slot_calls i (Some area)) ok es → Follow s a line (syncs ∷ writes_slot ∷ syncs ∷ []) es
    first_sync ok [] made = absurd made
    first_sync ok (e ∷ es) made = step syncs (writes_slot ∷ syncs ∷ []) calls.Syncs (slot_calls i (Some area)) ok e es refl (λ b is. syncs_at b e is) (slot_write ok es) made

    pub grant_follows : (k : ℕ) (added : List ℕ) (ok : Bool) (es : List Event) → ((j n : ℕ) → slice_get added j ≡ Some n → slice_get (asked_blocks s.plane line) (k + j) ≡ Some n) → Made (grant_calls i area added) ok es
        → Follow s a line (map zeroes_new (range_with_len k (length added)) ++ syncs ∷ writes_slot ∷ syncs ∷ []) es
    grant_follows k [] ok es at made = first_sync ok es made
    grant_follows k (n ∷ added) ok [] at made = absurd made
    grant_follows k (n ∷ added) ok (e ∷ es) at made =
        let here : slice_get (asked_blocks s.plane line) k ≡ Some n = ap (λ j. slice_get (asked_blocks s.plane line) j) (let same : k ≡ k + 0 = omega arith in same) ∙ at 0 n refl in
        step (zeroes_new k) (map zeroes_new (range_with_len (k + 1) (length added)) ++ syncs ∷ writes_slot ∷ syncs ∷ []) (calls.Writes n zero_block) (grant_calls i area added) ok e es refl
        (λ b is. writes_at (slice_get (asked_blocks s.plane line) k) n zero_block zero_block b e is here refl)
        (λ rest. grant_follows (k + 1) added ok es (λ j m is. ap (λ i. slice_get (asked_blocks s.plane line) i) (let same : k + 1 + j ≡ k + suc j = omega arith in same) ∙ at (suc j) m is) rest) made
