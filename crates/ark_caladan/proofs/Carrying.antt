-- What each event does to an open log, and what is found of it at each moment.
use Rattle.std.proofs.Common.{◌≡◌, inl, ⊎_elim, ℕ, zero, suc, Bool, true, false, ◌+◌, ◌-◌, ◌^◌, ◌<◌, ◌≤◌, List, [], ◌∷◌, ◌++◌, length, take, drop, get_or, Some, refl, sym, ◌∙◌, ap, subst, arith, if◌then◌else◌}
use Rattle.std.specs.Prelude.{sum_by}
use Rattle.std.proofs.lemmas.List.{take-append-drop}
use Rattle.std.proofs.lemmas.List.Sums.{sum_by-cons, sum_by-append, sum_by_push}
use Rattle.ark_base.specs.declared.kind.Kind.{Kind}
use Rattle.ark_media.specs.Journal.{Event, History}
use Rattle.ark_media.specs.Standing.{after}
use Rattle.ark_media.specs.Calls.{Comes}
use Rattle.ark_entry.specs.Header.{Header, header_of}
use Rattle.ark_entry.specs.Found.{Entries, Found, found}
use Rattle.ark_entry.specs.Entry.{entry_blocks}
use Rattle.ark_entry.proofs.Headers.{read_was_written}
use Rattle.ark_caladan.specs.Chain.{Command, append, trim, pop, after_command, blocks_of, stored_after, list_choices}
use Rattle.ark_caladan.specs.Leaves.{LiesInRing}
use Rattle.ark_caladan.specs.Views.{OnDisk, Elsewhere, AreApart, view_of}
use Rattle.ark_caladan.specs.Listed.{IsFoundIn, AreFull, SameAt}
use Rattle.ark_caladan.specs.Stages.{Stage, reads, writes, decides, syncs, calls_of, call_of, Moment, resting, after_calls, took_by, event_took, moment_at, IsAt}
use Rattle.ark_caladan.specs.Leading.{IsFound, Leads}
use Rattle.ark_caladan.specs.Plans.{stages_of, added_by, AreShort, CanWait}
use Rattle.ark_caladan.specs.Open.{Layout, oldest_stages, IsPlace, log_moment, oldest, IsOpenWith}
use Rattle.ark_caladan.proofs.Events.{at_shown, at_begins}
use Rattle.ark_caladan.proofs.Calls.{tail_leads, StageIn, stage_in, kept_found, kept_at, at_next, at_turn, kept_failed}
use Rattle.ark_caladan.proofs.Appending.{found_resting}
use Rattle.ark_caladan.proofs.Dropping.{stages_lead}

-- the number of the first entry is at least 1
pub first_some : (kind : Kind) (room : ℕ) (header : List ℕ) (h : Header) → header_of kind room header ≡ Some h → (1 ≤ h.first) × (h.first ≤ 2 ^ 62 + 1)
first_some kind room header h read = ⊎_elim
    (λ none. let e : h.first ≡ 1 = ap (λ (x : Header). x.first) none.1 in (omega (arith, e), omega (arith, e)))
    (λ right. (right.0.some, omega (arith, right.0.last)))
    (read_was_written kind room header h read)

module _ (kind : Kind) (room : ℕ) (blocks : List ℕ) (p : Layout) (l : Entries) where
  abbrev first_view : ℕ → List ℕ
  first_view = view_of room p.header p.says.start p.stored

  -- the plan of the oldest command
  plan_of : (history : History) (c : Command) (cs : List Command) (done n : ℕ) → IsOpenWith kind room history blocks p l (c ∷ cs) done n
      → Leads kind (length blocks) (found l) (found (after_command l c)) (resting first_view false) (stages_of kind room p.header p.says p.stored l c)
  plan_of history c cs done n opened = subst (λ (m : ℕ). Leads kind m (found l) (found (after_command l c)) (resting first_view false) (stages_of kind room p.header p.says p.stored l c)) (sym opened.size)
      (stages_lead kind room opened.waits.some p.header p.says p.stored l opened.waits.lies c cs opened.waits.can (omega (arith, opened.waits.lies.first, (first_some kind room p.header p.says opened.waits.lies.read).0)))

  -- a place in a command's stages is before their end
  before_end : (ss : List Stage) (done n : ℕ) → 0 < length ss → IsPlace ss done n → (done < length ss) × (n ≤ calls_of (get_or ss done syncs))
  before_end [] done n some is = absurd (omega (arith, some))
  before_end (s ∷ ss) done n some is = is

  is_place : (ss : List Stage) (done n : ℕ) → done < length ss → n ≤ calls_of (get_or ss done syncs) → IsPlace ss done n
  is_place [] done n lt le = absurd (omega (arith, lt))
  is_place (s ∷ ss) done n lt le = (lt, le)

  some_stages : (c : Command) → 0 < length (stages_of kind room p.header p.says p.stored l c)
  some_stages (append n payload) = omega arith
  some_stages (trim n) = omega arith
  some_stages (pop n) = omega arith

  abbrev stages : Command → List Stage
  stages c = stages_of kind room p.header p.says p.stored l c

  -- the stage at which it is
  pub at_stage : (history : History) (c : Command) (cs : List Command) (done n : ℕ) → IsOpenWith kind room history blocks p l (c ∷ cs) done n
      → StageIn kind (found l) (found (after_command l c)) (length blocks) (resting first_view false) (stages c) done
  at_stage history c cs done n opened =
      stage_in kind (found l) (found (after_command l c)) (length blocks) (resting first_view false) (stages c) done (before_end (stages c) done n (some_stages c) opened.waits.place).0 (plan_of history c cs done n opened)

  -- the places that are written are in the area
  inside : (x y : Found) (f : Moment) (s : Stage) (ss : List Stage) (n : ℕ) → n ≤ calls_of s → Leads kind (length blocks) x y f (s ∷ ss) → ((i : ℕ) → i < f.written → get_or f.places i 0 < length blocks)
      → (i : ℕ) → i < (after_calls f s n).written → get_or (after_calls f s n).places i 0 < length blocks
  inside x y f (reads ps) ss n le plan was i lt = was i lt
  inside x y f (writes b ps) ss n le plan was i lt = plan.1 i (omega (arith, lt, le))
  inside x y f (decides b q) ss zero le plan was i lt = absurd (omega (arith, lt))
  inside x y f (decides b q) ss (suc n) le plan was zero lt = plan.1
  inside x y f (decides b q) ss (suc n) le plan was (suc i) lt = absurd (omega (arith, lt))
  inside x y f syncs ss zero le plan was i lt = was i lt
  inside x y f syncs ss (suc n) le plan was i lt = absurd (omega (arith, lt))

  pub moment_inside : (x y : Found) (stages : List Stage) (f : Moment) (done n : ℕ) → Leads kind (length blocks) x y f stages → IsPlace stages done n → ((i : ℕ) → i < f.written → get_or f.places i 0 < length blocks)
      → (i : ℕ) → i < (moment_at f stages done n).written → get_or (moment_at f stages done n).places i 0 < length blocks
  moment_inside x y [] f done n plan is was i lt = was i lt
  moment_inside x y (s ∷ ss) f zero n plan is was i lt = inside x y f s ss n is.1 plan was i lt
  moment_inside x y (s ∷ []) f (suc done) n plan is was i lt = absurd (omega (arith, is.0))
  moment_inside x y (s ∷ t ∷ ss) f (suc done) n plan is was i lt =
      moment_inside x y (t ∷ ss) (after_calls f s (calls_of s)) done n (tail_leads kind x y (length blocks) f s (t ∷ ss) plan) (omega (arith, is.0), is.1)
      (inside x y f s (t ∷ ss) (calls_of s) (omega arith) plan was) i lt

  -- and so are those of an open log
  written_inside : (history : History) (cs : List Command) (done n : ℕ) → IsOpenWith kind room history blocks p l cs done n
      → (i : ℕ) → i < (log_moment kind room p l cs done n).written → get_or (log_moment kind room p l cs done n).places i 0 < length blocks
  written_inside history [] done n opened i lt = absurd (omega (arith, lt))
  written_inside history (c ∷ cs) done n opened i lt = moment_inside (found l) (found (after_command l c)) (stages c) (resting first_view false) done n
      (plan_of history c cs done n opened) opened.waits.place (λ k less. absurd (omega (arith, less))) i lt

  -- Where the area's blocks have what they had, an open log stays as it is.
  pub open_shown : (history later : History) (cs : List Command) (done n : ℕ) → OnDisk blocks later.base → SameAt history later blocks
      → IsOpenWith kind room history blocks p l cs done n → IsOpenWith kind room later blocks p l cs done n
  open_shown history later cs done n on_disk same opened = record {
    size = opened.size;
    on_disk = on_disk;
    waits = opened.waits;
    at = at_shown history later blocks (log_moment kind room p l cs done n) (written_inside history cs done n opened) same opened.at;
  }

  -- Its own next call, where it succeeds, is made.
  pub open_moved : (history : History) (c : Command) (cs : List Command) (done n : ℕ) (e : Event) → n < calls_of (get_or (stages c) done syncs) → Comes (call_of blocks (get_or (stages c) done syncs) n) true e
      → IsOpenWith kind room history blocks p l (c ∷ cs) done n → IsOpenWith kind room (after history (e ∷ [])) blocks p l (c ∷ cs) done (suc n)
  open_moved history c cs done n e lt came opened =
      let r = at_stage history c cs done n opened in
      record {
        size = opened.size;
        on_disk = opened.on_disk;
        waits = record { some = opened.waits.some; lies = opened.waits.lies; can = opened.waits.can; place = is_place (stages c) done (suc n) (before_end (stages c) done n (some_stages c) opened.waits.place).0 (omega (arith, lt)) };
        at = subst (λ (f : Moment). IsAt (after history (e ∷ [])) blocks f) (sym (r.head (suc n)))
            (at_next kind (found l) (found (after_command l c)) blocks (list_choices (found l) (Some (c, true))) (0, omega arith, refl) (1, omega arith, refl) history opened.on_disk
            r.before (get_or (stages c) done syncs) r.behind r.plan n lt e came (subst (λ (f : Moment). IsAt history blocks f) (r.head n) opened.at));
      }

  -- Behind the last call of a stage the next one is posted, with no event.
  pub open_posted : (history : History) (c : Command) (cs : List Command) (done n : ℕ) → n ≡ calls_of (get_or (stages c) done syncs) → suc done < length (stages c)
      → IsOpenWith kind room history blocks p l (c ∷ cs) done n → IsOpenWith kind room history blocks p l (c ∷ cs) (suc done) 0
  open_posted history c cs done n last more opened =
      let r = at_stage history c cs done n opened in
      let s : Stage = get_or (stages c) done syncs in
      record {
        size = opened.size;
        on_disk = opened.on_disk;
        waits = record { some = opened.waits.some; lies = opened.waits.lies; can = opened.waits.can; place = is_place (stages c) (suc done) 0 more (omega arith) };
        at = subst (λ (f : Moment). IsAt history blocks f) (sym (r.next 0))
            (at_turn kind (found l) (found (after_command l c)) blocks (list_choices (found l) (Some (c, true))) (0, omega arith, refl) (1, omega arith, refl) history opened.on_disk
            (after_calls r.before s (calls_of s)) r.behind (tail_leads kind (found l) (found (after_command l c)) (length blocks) r.before s r.behind r.plan)
            (subst (λ (f : Moment). IsAt history blocks f) (r.head n ∙ ap (λ (m : ℕ). after_calls r.before s m) last) opened.at));
      }

  one_of : (x y : Entries) (took : Bool) → (if took then found y else found x) ≡ found (if took then y else x)
  one_of x y true = refl
  one_of x y false = refl

  -- At each moment: what stands is the stored list, and what a stop may leave is listed.
  pub open_kept : (history : History) (cs : List Command) (done n : ℕ) → AreFull history blocks → IsOpenWith kind room history blocks p l cs done n
      → IsFoundIn kind history blocks (stored_after (found l) (oldest cs (log_moment kind room p l cs done n).took)) (list_choices (found l) (oldest cs (log_moment kind room p l cs done n).took))
  open_kept history [] done n full opened =
      kept_found kind (found l) (found l) blocks (found l ∷ []) (0, omega arith, refl) (0, omega arith, refl) history opened.on_disk full (resting first_view false) (found l) (0, omega arith, refl)
      (subst (λ (m : ℕ). IsFound kind m first_view first_view (found l)) (sym opened.size) (found_resting kind room opened.waits.some p.header p.says p.stored l opened.waits.lies)) opened.at.left
  open_kept history (c ∷ cs) done n full opened =
      let r = at_stage history c cs done n opened in
      subst (λ (z : Found). IsFoundIn kind history blocks z (found l ∷ found (after_command l c) ∷ [])) (one_of l (after_command l c) (log_moment kind room p l (c ∷ cs) done n).took)
      (subst (λ (f : Moment). IsFoundIn kind history blocks (if f.took then found (after_command l c) else found l) (found l ∷ found (after_command l c) ∷ [])) (sym (r.head n))
      (kept_at kind (found l) (found (after_command l c)) blocks (found l ∷ found (after_command l c) ∷ []) (0, omega arith, refl) (1, omega arith, refl) history opened.on_disk full
      r.before (get_or (stages c) done syncs) r.behind r.plan n (subst (λ (f : Moment). IsAt history blocks f) (r.head n) opened.at)))

  took_same : (f : Moment) (s : Stage) (n : ℕ) (e : Event) → n < calls_of s → took_by (after_calls f s n).took s e ≡ took_by f.took s e
  took_same f (reads ps) n e lt = refl
  took_same f (writes b ps) n e lt = refl
  took_same f (decides b q) n e lt = refl
  took_same f syncs zero e lt = refl
  took_same f syncs (suc n) e lt = absurd (omega (arith, lt))

  -- A call of its own that fails: what stands and what a stop may leave is as the failed log has it from then on.
  pub open_failed : (history : History) (c : Command) (cs : List Command) (done n : ℕ) (e : Event) → AreFull (after history (e ∷ [])) blocks → n < calls_of (get_or (stages c) done syncs)
      → Comes (call_of blocks (get_or (stages c) done syncs) n) false e → IsOpenWith kind room history blocks p l (c ∷ cs) done n
      → let took = took_by (log_moment kind room p l (c ∷ cs) done n).took (get_or (stages c) done syncs) e in
      IsFoundIn kind (after history (e ∷ [])) blocks (stored_after (found l) (Some (c, took))) (list_choices (found l) (Some (c, took)))
  open_failed history c cs done n e full lt came opened =
      let r = at_stage history c cs done n opened in
      let s : Stage = get_or (stages c) done syncs in
      subst (λ (z : Found). IsFoundIn kind (after history (e ∷ [])) blocks z (found l ∷ found (after_command l c) ∷ [])) (one_of l (after_command l c) (took_by (log_moment kind room p l (c ∷ cs) done n).took (get_or (stages c) done syncs) e))
      (subst (λ (f : Moment). IsFoundIn kind (after history (e ∷ [])) blocks (if took_by f.took (get_or (stages c) done syncs) e then found (after_command l c) else found l) (found l ∷ found (after_command l c) ∷ [])) (sym (r.head n))
      (subst (λ (t : Bool). IsFoundIn kind (after history (e ∷ [])) blocks (if t then found (after_command l c) else found l) (found l ∷ found (after_command l c) ∷ [])) (sym (took_same r.before (get_or (stages c) done syncs) n e lt))
      (kept_failed kind (found l) (found (after_command l c)) blocks (found l ∷ found (after_command l c) ∷ []) (0, omega arith, refl) (1, omega arith, refl) history opened.on_disk e full
      r.before (get_or (stages c) done syncs) r.behind r.plan n lt came (subst (λ (f : Moment). IsAt history blocks f) (r.head n) opened.at))))

  -- after a call that succeeds
  took_next : (f : Moment) (s : Stage) (n : ℕ) (e : Event) → n < calls_of s → Comes (call_of blocks s n) true e → (after_calls f s (suc n)).took ≡ took_by (after_calls f s n).took s e
  took_next f (reads ps) n e lt came = refl
  took_next f (writes b ps) n e lt came = refl
  took_next f (decides b q) n e lt came = sym (ap event_took came.2 ∙ came.1 refl)
  took_next f syncs zero e lt came = refl
  took_next f syncs (suc n) e lt came = absurd (omega (arith, lt))

  pub took_moved : (history : History) (c : Command) (cs : List Command) (done n : ℕ) (e : Event) → n < calls_of (get_or (stages c) done syncs) → Comes (call_of blocks (get_or (stages c) done syncs) n) true e
      → IsOpenWith kind room history blocks p l (c ∷ cs) done n → (log_moment kind room p l (c ∷ cs) done (suc n)).took ≡ took_by (log_moment kind room p l (c ∷ cs) done n).took (get_or (stages c) done syncs) e
  took_moved history c cs done n e lt came opened =
      let r = at_stage history c cs done n opened in
      ap (λ (f : Moment). f.took) (r.head (suc n)) ∙ took_next r.before (get_or (stages c) done syncs) n e lt came ∙ ap (λ (f : Moment). took_by f.took (get_or (stages c) done syncs) e) (sym (r.head n))

  took_first : (f : Moment) (ss : List Stage) → (moment_at f ss 0 0).took ≡ f.took
  took_first f [] = refl
  took_first f (reads ps ∷ ss) = refl
  took_first f (writes b ps ∷ ss) = refl
  took_first f (decides b q ∷ ss) = refl
  took_first f (syncs ∷ ss) = refl

  pub took_posted : (history : History) (c : Command) (cs : List Command) (done n : ℕ) → n ≡ calls_of (get_or (stages c) done syncs) → IsOpenWith kind room history blocks p l (c ∷ cs) done n
      → (log_moment kind room p l (c ∷ cs) (suc done) 0).took ≡ (log_moment kind room p l (c ∷ cs) done n).took
  took_posted history c cs done n last opened =
      let r = at_stage history c cs done n opened in
      let s : Stage = get_or (stages c) done syncs in
      ap (λ (f : Moment). f.took) (r.next 0) ∙ took_first (after_calls r.before s (calls_of s)) r.behind ∙ ap (λ (m : ℕ). (after_calls r.before s m).took) (sym last) ∙ ap (λ (f : Moment). f.took) (sym (r.head n))

  pub took_begins : (cs : List Command) → (log_moment kind room p l cs 0 0).took ≡ false
  took_begins [] = refl
  took_begins (c ∷ cs) = took_first (resting first_view false) (stages c)

  -- At rest it may begin with any commands that can wait.
  pub open_from_rest : (history : History) (cs : List Command) (took : Bool) → length blocks ≡ suc room → 0 < room → OnDisk blocks history.base → LiesInRing kind room p.header p.says p.stored l → CanWait room l cs
      → IsAt history blocks (resting first_view took) → IsOpenWith kind room history blocks p l cs 0 0
  open_from_rest history [] took size some on_disk lies can at = record {
    size = size;
    on_disk = on_disk;
    waits = record { some = some; lies = lies; can = can; place = (refl, refl) };
    at = at_begins history blocks on_disk (resting first_view took) at refl first_view [] false;
  }
  open_from_rest history (c ∷ cs) took size some on_disk lies can at = record {
    size = size;
    on_disk = on_disk;
    waits = record { some = some; lies = lies; can = can; place = is_place (stages c) 0 0 (some_stages c) (omega arith) };
    at = at_turn kind (found l) (found (after_command l c)) blocks (found l ∷ found (after_command l c) ∷ []) (0, omega arith, refl) (1, omega arith, refl) history on_disk (resting first_view false) (stages c)
        (subst (λ (m : ℕ). Leads kind m (found l) (found (after_command l c)) (resting first_view false) (stages c)) (sym size)
        (stages_lead kind room some p.header p.says p.stored l lies c cs can (omega (arith, lies.first, (first_some kind room p.header p.says lies.read).0))))
        (at_begins history blocks on_disk (resting first_view took) at refl first_view [] false);
  }

  -- One more command waits.
  pub open_accepts : (history : History) (cs : List Command) (c : Command) (done n : ℕ) → CanWait room l (cs ++ c ∷ []) → IsOpenWith kind room history blocks p l cs done n
      → IsOpenWith kind room history blocks p l (cs ++ c ∷ []) done n
  open_accepts history [] c done n can opened =
      subst (λ (d : ℕ). IsOpenWith kind room history blocks p l (c ∷ []) d n) (sym opened.waits.place.0)
      (subst (λ (m : ℕ). IsOpenWith kind room history blocks p l (c ∷ []) 0 m) (sym opened.waits.place.1)
      (open_from_rest history (c ∷ []) false opened.size opened.waits.some opened.on_disk opened.waits.lies can opened.at))
  open_accepts history (first ∷ cs) c done n can opened = record { size = opened.size; on_disk = opened.on_disk; waits = record { some = opened.waits.some; lies = opened.waits.lies; can = can; place = opened.waits.place }; at = opened.at }

  -- The same of the commands that wait, of which there are some.
  abbrev next_stage : List Command → ℕ → Stage
  next_stage xs done = get_or (oldest_stages kind room p l xs) done syncs

  abbrev took_at : List Command → ℕ → ℕ → Bool
  took_at xs done n = (log_moment kind room p l xs done n).took

  pub waiting_moved : (history : History) (xs : List Command) (done n : ℕ) (e : Event) → 0 < length xs → n < calls_of (next_stage xs done) → Comes (call_of blocks (next_stage xs done) n) true e
      → IsOpenWith kind room history blocks p l xs done n → IsOpenWith kind room (after history (e ∷ [])) blocks p l xs done (suc n) × (took_at xs done (suc n) ≡ took_by (took_at xs done n) (next_stage xs done) e)
  waiting_moved history [] done n e some lt came opened = absurd (omega (arith, some))
  waiting_moved history (c ∷ cs) done n e some lt came opened = (open_moved history c cs done n e lt came opened, took_moved history c cs done n e lt came opened)

  pub waiting_failed : (history : History) (xs : List Command) (done n : ℕ) (e : Event) → 0 < length xs → AreFull (after history (e ∷ [])) blocks → n < calls_of (next_stage xs done) → Comes (call_of blocks (next_stage xs done) n) false e
      → IsOpenWith kind room history blocks p l xs done n
      → let last = oldest xs (took_by (took_at xs done n) (next_stage xs done) e) in IsFoundIn kind (after history (e ∷ [])) blocks (stored_after (found l) last) (list_choices (found l) last)
  waiting_failed history [] done n e some full lt came opened = absurd (omega (arith, some))
  waiting_failed history (c ∷ cs) done n e some full lt came opened = open_failed history c cs done n e full lt came opened

  pub waiting_posted : (history : History) (xs : List Command) (done n : ℕ) → 0 < length xs → n ≡ calls_of (next_stage xs done) → suc done < length (oldest_stages kind room p l xs)
      → IsOpenWith kind room history blocks p l xs done n → IsOpenWith kind room history blocks p l xs (suc done) 0 × (took_at xs (suc done) 0 ≡ took_at xs done n)
  waiting_posted history [] done n some last more opened = absurd (omega (arith, some))
  waiting_posted history (c ∷ cs) done n some last more opened = (open_posted history c cs done n last more opened, took_posted history c cs done n last opened)

  -- its call goes to a block of the area
  call_apart : (x y : Found) (f : Moment) (s : Stage) (ss : List Stage) (n : ℕ) → Leads kind (length blocks) x y f (s ∷ ss) → n < calls_of s
      → (other : List ℕ) → AreApart blocks other → Elsewhere other (call_of blocks s n)
  call_apart x y f (reads ps) ss n plan lt other apart = tt
  call_apart x y f (writes b ps) ss n plan lt other apart = λ k low same. apart (get_or ps n 0) k (plan.1 n lt) low (sym same)
  call_apart x y f (decides b q) ss n plan lt other apart = λ k low same. apart q k plan.1 low (sym same)
  call_apart x y f syncs ss n plan lt other apart = tt

  pub waiting_call_apart : (history : History) (xs : List Command) (done n : ℕ) → 0 < length xs → IsOpenWith kind room history blocks p l xs done n
      → (other : List ℕ) → AreApart blocks other → n < calls_of (next_stage xs done) → Elsewhere other (call_of blocks (next_stage xs done) n)
  waiting_call_apart history [] done n some opened other apart lt = absurd (omega (arith, some))
  waiting_call_apart history (c ∷ cs) done n some opened other apart lt =
      let r = at_stage history c cs done n opened in
      call_apart (found l) (found (after_command l c)) r.before (get_or (stages c) done syncs) r.behind n r.plan lt other apart

-- at rest in a view, and so in any that is the same at each place
pub at_same : (history : History) (blocks : List ℕ) (a b : ℕ → List ℕ) (took took2 : Bool) → ((k : ℕ) → k < length blocks → a k ≡ b k) → IsAt history blocks (resting a took) → IsAt history blocks (resting b took2)
at_same history blocks a b took took2 same at = record {
  left = λ k lt c left. inl (⊎_elim (λ v. v ∙ same k lt) (λ v. v ∙ same k lt) (at.left k lt c left));
  there = λ i lt. absurd (omega (arith, lt));
  others = λ k lt none. at.others k lt (λ i less. absurd (omega (arith, less))) ∙ same k lt;
}

-- a list after its first command has room for the others
pub can_rest : (room : ℕ) (l : Entries) (c : Command) (cs : List Command) → CanWait room l (c ∷ cs) → CanWait room (after_command l c) cs
can_rest room l c cs can = record {
  fit = can.fit.1;
  fits = fits c can.fits;
  short = short c can.short;
  low = can.low;
  few = can.few;
}
  where
    short : (c : Command) → AreShort (c ∷ cs) → AreShort cs
    short (append n payload) are = are.1
    short (trim n) are = are
    short (pop n) are = are

    dropped : (k : ℕ) → blocks_of (drop k l.payloads) ≤ blocks_of l.payloads
    dropped k =
        let whole : blocks_of (take k l.payloads ++ drop k l.payloads) ≡ blocks_of l.payloads = ap blocks_of (take-append-drop k l.payloads) in
        let sum : blocks_of (take k l.payloads ++ drop k l.payloads) ≡ blocks_of (take k l.payloads) + blocks_of (drop k l.payloads) = sum_by-append (λ q. entry_blocks (length q)) (take k l.payloads) (drop k l.payloads) in
        omega (arith, whole, sum)

    fits : (c : Command) → blocks_of l.payloads + sum_by added_by (c ∷ cs) ≤ room → blocks_of (after_command l c).payloads + sum_by added_by cs ≤ room
    fits (append n payload) le =
        let sum : sum_by added_by (append n payload ∷ cs) ≡ entry_blocks (length payload) + sum_by added_by cs = sum_by-cons added_by (append n payload) cs in
        let more : blocks_of (l.payloads ++ payload ∷ []) ≡ blocks_of l.payloads + entry_blocks (length payload) = sum_by_push (λ q. entry_blocks (length q)) l.payloads payload in
        omega (arith, sum, more, le)
    fits (trim n) le =
        let sum : sum_by added_by (trim n ∷ cs) ≡ 0 + sum_by added_by cs = sum_by-cons added_by (trim n) cs in
        omega (arith, sum, dropped (n - l.first), le)
    fits (pop n) le =
        let sum : sum_by added_by (pop n ∷ cs) ≡ 0 + sum_by added_by cs = sum_by-cons added_by (pop n) cs in
        omega (arith, sum, dropped 1, le)
