-- What each event does to a log as its machine and its area have it.
use Rattle.std.proofs.Common.{◌≡◌, ℕ, suc, Bool, true, false, ◌-◌, ◌<◌, List, [], ◌∷◌, ◌++◌, length, drop, map, get_or, Some, None, Option, refl, sym, ◌∙◌, ap, subst, arith}
use Rattle.std.proofs.lemmas.List.{map-append}
use Rattle.ark_media.specs.Journal.{Event, History}
use Rattle.ark_media.specs.Standing.{after}
use Rattle.ark_media.specs.Calls.{Comes}
use Rattle.ark_entry.specs.Found.{Entries, Found, found}
use Rattle.ark_caladan.specs.Chain.{Command, after_command, Waiting, Opened, Log, commands, entries, oldest_of, pending, in_progress, stored, stored_after, lists, list_choices}
use Rattle.ark_caladan.specs.Views.{OnDisk, Elsewhere, AreApart}
use Rattle.ark_caladan.specs.Listed.{IsFoundIn, IsListed, AreFull, SameAt}
use Rattle.ark_caladan.specs.Stages.{Stage, syncs, calls_of, call_of, took_by}
use Rattle.ark_caladan.specs.Plans.{stages_of, CanWait}
use Rattle.ark_caladan.specs.Open.{Layout, layout_after, oldest_stages, log_moment, oldest, IsOpenWith}
use Rattle.ark_caladan.specs.Standing.{Progress, idle, posted, ended, calls_made, makes_calls, stage_at, Proceeds, OpenStands, LogStandsAs, after_event}
use Rattle.ark_caladan.proofs.Carrying.{open_shown, open_kept, open_accepts, waiting_moved, waiting_failed, waiting_posted, waiting_call_apart, took_begins}
use Rattle.ark_caladan.proofs.Listing.{found_shown}
use Rattle.ark_caladan.proofs.Acked.{open_acked}

module _ (blocks : List ℕ) (g : Log) (p : Layout) where
  -- the oldest command is the one in progress
  oldest_is : (ws : List Waiting) (took : Bool) → oldest (map (λ w. w.command) ws) took ≡ oldest_of ws took
  oldest_is [] took = refl
  oldest_is (w ∷ ws) took = refl

  -- an open log that goes on is as listed
  pub proceeds_listed : (history : History) (o : Opened) (progress : Progress) → g.opened ≡ Some o → AreFull history blocks → Proceeds history blocks g o p progress → IsListed history blocks g
  proceeds_listed history o progress is full goes =
      let took : Bool = (log_moment g.kind (g.blocks - 1) p (entries g.list) (commands o) o.done (calls_made (stage_at g o p) progress)).took in
      let c : oldest (commands o) took ≡ in_progress g = oldest_is o.waiting took ∙ ap (λ (t : Bool). oldest_of o.waiting t) (sym goes.decided) ∙ ap (λ (x : Option Opened). pending x g.left) (sym is) in
      subst (λ (f : Found). IsFoundIn g.kind history blocks (stored_after f (in_progress g)) (list_choices f (in_progress g))) (sym goes.list)
      (subst (λ (x : Option (Command × Bool)). IsFoundIn g.kind history blocks (stored_after (found (entries g.list)) x) (list_choices (found (entries g.list)) x)) c
      (open_kept g.kind (g.blocks - 1) blocks p (entries g.list) history (commands o) o.done (calls_made (stage_at g o p) progress) full goes.is_open))

  -- At each moment, whatever the log does: what stands is its stored list, and what a stop may leave is listed.
  pub stands_listed : (history : History) (progress : Progress) (x : Option Opened) → g.opened ≡ x → AreFull history blocks → LogStandsAs history blocks g p progress x → IsListed history blocks g
  stands_listed history progress None is full here = here
  stands_listed history progress (Some o) is full here = by (makes_calls o progress) here
    where
      by : (t : Bool) → OpenStands t history blocks g o p progress → IsListed history blocks g
      by true goes = proceeds_listed history o progress is full goes
      by false rests = rests

  -- Whatever leaves its blocks what they had leaves it.
  pub stands_same : (history : History) (later : History) (progress : Progress) (x : Option Opened) → OnDisk blocks later.base → SameAt history later blocks
      → LogStandsAs history blocks g p progress x → LogStandsAs later blocks g p progress x
  stands_same history later progress None on_disk same here = found_shown g.kind history later blocks (stored g) (lists g) same here
  stands_same history later progress (Some o) on_disk same here = by (makes_calls o progress) here
    where
      by : (t : Bool) → OpenStands t history blocks g o p progress → OpenStands t later blocks g o p progress
      by true goes = record {
        list = goes.list;
        decided = goes.decided;
        is_open = open_shown g.kind (g.blocks - 1) blocks p (entries g.list) history later (commands o) o.done (calls_made (stage_at g o p) progress) on_disk same goes.is_open;
      }
      by false rests = found_shown g.kind history later blocks (stored g) (lists g) same rests

  abbrev with : Opened → Log
  with o = record g { opened = Some o }

  -- An opening that goes on, with commands that wait.
  module _ (history : History) (o : Opened) (progress : Progress) (goes : Proceeds history blocks g o p progress) (waits : 0 < length (commands o)) where
    abbrev stage : Stage
    stage = stage_at g o p

    abbrev calls : ℕ
    calls = calls_made stage progress

    -- Its own next call succeeds: one more is made, and the descriptor stays posted or ends.
    pub call_made : (e : Event) (further : Progress) → calls < calls_of stage → calls_made stage further ≡ suc calls → Comes (call_of blocks stage calls) true e
        → Proceeds (after history (e ∷ [])) blocks (with (after_event o stage e)) (after_event o stage e) p further
    call_made e further lt next came =
        let moved = waiting_moved g.kind (g.blocks - 1) blocks p (entries g.list) history (commands o) o.done calls e waits lt came goes.is_open in
        record {
          list = goes.list;
          is_open = subst (λ (n : ℕ). IsOpenWith g.kind (g.blocks - 1) (after history (e ∷ [])) blocks p (entries g.list) (commands o) o.done n) (sym next) moved.0;
          decided = ap (λ (t : Bool). took_by t stage e) goes.decided ∙ sym moved.1 ∙ ap (λ (n : ℕ). (log_moment g.kind (g.blocks - 1) p (entries g.list) (commands o) o.done n).took) (sym next);
        }

    -- It fails: the log makes no more calls.
    pub call_failed : (e : Event) → AreFull (after history (e ∷ [])) blocks → calls < calls_of stage → Comes (call_of blocks stage calls) false e → IsListed (after history (e ∷ [])) blocks (with (after_event o stage e))
    call_failed e full lt came =
        let took : Bool = took_by (log_moment g.kind (g.blocks - 1) p (entries g.list) (commands o) o.done calls).took stage e in
        let same : oldest (commands o) (took_by (log_moment g.kind (g.blocks - 1) p (entries g.list) (commands o) o.done calls).took stage e) ≡ oldest_of o.waiting (took_by o.decided stage e) =
        oldest_is o.waiting (took_by (log_moment g.kind (g.blocks - 1) p (entries g.list) (commands o) o.done calls).took stage e) ∙ ap (λ (t : Bool). oldest_of o.waiting (took_by t stage e)) (sym goes.decided) in
        subst (λ (f : Found). IsFoundIn g.kind (after history (e ∷ [])) blocks (stored_after f (oldest_of o.waiting (took_by o.decided stage e))) (list_choices f (oldest_of o.waiting (took_by o.decided stage e)))) (sym goes.list)
        (subst (λ (x : Option (Command × Bool)). IsFoundIn g.kind (after history (e ∷ [])) blocks (stored_after (found (entries g.list)) x) (list_choices (found (entries g.list)) x)) same
        (waiting_failed g.kind (g.blocks - 1) blocks p (entries g.list) history (commands o) o.done calls e waits full lt came goes.is_open))

    -- The next phase is posted.
    pub stage_posted : (done : ℕ) → done ≡ suc o.done → progress ≡ ended true → done < length (oldest_stages g.kind (g.blocks - 1) p (entries g.list) (commands o))
        → Proceeds history blocks (with (record o { done = done })) (record o { done = done }) p (posted 0)
    stage_posted done one is more =
        let next = waiting_posted g.kind (g.blocks - 1) blocks p (entries g.list) history (commands o) o.done calls waits (ap (calls_made stage) is) (omega (arith, one, more)) goes.is_open in
        let here : Proceeds history blocks (with (record o { done = suc o.done })) (record o { done = suc o.done }) p (posted 0) = record { list = goes.list; is_open = next.0; decided = goes.decided ∙ sym next.1 } in
        subst (λ (d : ℕ). Proceeds history blocks (with (record o { done = d })) (record o { done = d }) p (posted 0)) (sym one) here

    -- The call goes to a block of the area: it is elsewhere for any other area.
    pub call_apart : (other : List ℕ) → AreApart blocks other → calls < calls_of stage → Elsewhere other (call_of blocks stage calls)
    call_apart other apart lt = waiting_call_apart g.kind (g.blocks - 1) blocks p (entries g.list) history (commands o) o.done calls waits goes.is_open other apart lt

  -- the first phase of a command is posted
  pub starts : (history : History) (o : Opened) → Proceeds history blocks g o p idle → Proceeds history blocks g o p (posted 0)
  starts history o goes = record { list = goes.list; is_open = goes.is_open; decided = goes.decided }

  -- The oldest command is acknowledged.
  pub acknowledged : (history : History) (o : Opened) (goes : Proceeds history blocks g o p (ended true)) (w : Waiting) (ws : List Waiting) → o.waiting ≡ w ∷ ws
      → suc o.done ≡ length (stages_of g.kind (g.blocks - 1) p.header p.says p.stored (entries g.list) w.command)
      → let o2 = record o { waiting = drop 1 o.waiting; done = 0; decided = false } in
      Proceeds history blocks (record g { list = found (after_command (entries g.list) w.command); opened = Some o2 }) o2 (layout_after g.kind (g.blocks - 1) p (entries g.list) w.command) idle
  acknowledged history o goes w ws is end = subst (λ (xs : List Waiting). Acked (drop 1 xs)) (sym is) (record {
    list = refl;
    is_open = open_acked g.kind (g.blocks - 1) history blocks p l w.command (map (λ v. v.command) ws) o.done (calls_of (get_or (stages_of g.kind (g.blocks - 1) p.header p.says p.stored l w.command) o.done syncs)) refl end
        (subst (λ (xs : List Waiting). IsOpenWith g.kind (g.blocks - 1) history blocks p l (map (λ v. v.command) xs) o.done (calls_of (get_or (oldest_stages g.kind (g.blocks - 1) p l (map (λ v. v.command) xs)) o.done syncs))) is goes.is_open);
    decided = sym (took_begins g.kind (g.blocks - 1) blocks (layout_after g.kind (g.blocks - 1) p l w.command) (after_command l w.command) (map (λ v. v.command) ws));
  })
    where
      l : Entries
      l = entries g.list

      Acked : List Waiting → Type 0
      Acked xs = Proceeds history blocks (record g { list = found (after_command l w.command); opened = Some (record o { waiting = xs; done = 0; decided = false }) }) (record o { waiting = xs; done = 0; decided = false }) (layout_after g.kind (g.blocks - 1) p l w.command) idle

  -- One more command waits.
  accepted : (history : History) (l : Entries) (xs : List Command) (x : Command) (done : ℕ) (progress : Progress) → CanWait (g.blocks - 1) l (xs ++ x ∷ []) → (length xs ≡ 0 → progress ≡ idle)
      → IsOpenWith g.kind (g.blocks - 1) history blocks p l xs done (calls_made (get_or (oldest_stages g.kind (g.blocks - 1) p l xs) done syncs) progress)
      → IsOpenWith g.kind (g.blocks - 1) history blocks p l (xs ++ x ∷ []) done (calls_made (get_or (oldest_stages g.kind (g.blocks - 1) p l (xs ++ x ∷ [])) done syncs) progress)
      × ((log_moment g.kind (g.blocks - 1) p l (xs ++ x ∷ []) done (calls_made (get_or (oldest_stages g.kind (g.blocks - 1) p l (xs ++ x ∷ [])) done syncs) progress)).took
      ≡ (log_moment g.kind (g.blocks - 1) p l xs done (calls_made (get_or (oldest_stages g.kind (g.blocks - 1) p l xs) done syncs) progress)).took)
  accepted history l (c ∷ cs) x done progress can free opened = (open_accepts g.kind (g.blocks - 1) blocks p l history (c ∷ cs) x done (calls_made (get_or (oldest_stages g.kind (g.blocks - 1) p l (c ∷ cs)) done syncs) progress) can opened, refl)
  accepted history l [] x done progress can free opened =
      let is_idle : progress ≡ idle = free refl in
      let start = subst (λ (d : ℕ). IsOpenWith g.kind (g.blocks - 1) history blocks p l [] d 0) opened.waits.place.0
      (subst (λ (t : Progress). IsOpenWith g.kind (g.blocks - 1) history blocks p l [] done (calls_made (get_or {A = Stage} [] done syncs) t)) is_idle opened) in
      subst (λ (t : Progress). IsOpenWith g.kind (g.blocks - 1) history blocks p l (x ∷ []) done (calls_made (get_or (oldest_stages g.kind (g.blocks - 1) p l (x ∷ [])) done syncs) t)
      × ((log_moment g.kind (g.blocks - 1) p l (x ∷ []) done (calls_made (get_or (oldest_stages g.kind (g.blocks - 1) p l (x ∷ [])) done syncs) t)).took ≡ false)) (sym is_idle)
      (subst (λ (d : ℕ). IsOpenWith g.kind (g.blocks - 1) history blocks p l (x ∷ []) d 0 × ((log_moment g.kind (g.blocks - 1) p l (x ∷ []) d 0).took ≡ false)) (sym opened.waits.place.0)
      (open_accepts g.kind (g.blocks - 1) blocks p l history [] x 0 0 can start, took_begins g.kind (g.blocks - 1) blocks p l (x ∷ [])))

  pub accepts : (history : History) (o : Opened) (progress : Progress) (w : Waiting) (goes : Proceeds history blocks g o p progress) → CanWait (g.blocks - 1) (entries g.list) (commands o ++ w.command ∷ []) → (length (commands o) ≡ 0 → progress ≡ idle)
      → let o2 = record o { waiting = o.waiting ++ w ∷ [] } in Proceeds history blocks (with o2) o2 p progress
  accepts history o progress w goes can free =
      let r = accepted history (entries g.list) (commands o) w.command o.done progress can free goes.is_open in
      let same : commands o ++ w.command ∷ [] ≡ commands (record o { waiting = o.waiting ++ w ∷ [] }) = sym (map-append (λ (v : Waiting). v.command) o.waiting (w ∷ [])) in
      record {
        list = goes.list;
        is_open = subst (λ (xs : List Command). IsOpenWith g.kind (g.blocks - 1) history blocks p (entries g.list) xs o.done (calls_made (get_or (oldest_stages g.kind (g.blocks - 1) p (entries g.list) xs) o.done syncs) progress)) same r.0;
        decided = goes.decided ∙ sym r.1
            ∙ ap (λ (xs : List Command). (log_moment g.kind (g.blocks - 1) p (entries g.list) xs o.done (calls_made (get_or (oldest_stages g.kind (g.blocks - 1) p (entries g.list) xs) o.done syncs) progress)).took) same;
      }

  -- A log that makes no more calls, with a descriptor that ended without one or because it is closed, is as listed.
  pub stops : (history : History) (o : Opened) (progress : Progress) → AreFull history blocks → g.opened ≡ Some o → Proceeds history blocks g o p progress
      → IsListed history blocks g × IsListed history blocks (record g { left = in_progress g; opened = None })
  stops history o progress full is goes = (proceeds_listed history o progress is full goes, proceeds_listed history o progress is full goes)

  -- An opening that answers ok: its list is the stored one, nothing waits, and nothing is left over.
  pub opens : (history : History) (o : Opened) (l : Entries) → stored g ≡ found l → o.waiting ≡ [] → o.done ≡ 0 → o.decided ≡ false → IsOpenWith g.kind (g.blocks - 1) history blocks p l [] 0 0
      → Proceeds history blocks (record g { list = stored g; left = None; opened = Some o }) o p idle
  opens history o l is none first undecided opened = record {
    list = is ∙ ap (λ (f : Found). found (entries f)) (sym is);
    is_open = subst (λ (m : Entries). IsOpenWith g.kind (g.blocks - 1) history blocks p m (commands o) o.done 0) (sym (ap entries is))
        (subst (λ (ws : List Waiting). IsOpenWith g.kind (g.blocks - 1) history blocks p l (map (λ v. v.command) ws) o.done 0) (sym none) (subst (λ (d : ℕ). IsOpenWith g.kind (g.blocks - 1) history blocks p l [] d 0) (sym first) opened));
    decided = undecided ∙ ap (λ (ws : List Waiting). (log_moment g.kind (g.blocks - 1) p (entries (stored g)) (map (λ v. v.command) ws) o.done (calls_made (get_or (oldest_stages g.kind (g.blocks - 1) p (entries (stored g)) (map (λ v. v.command) ws)) o.done syncs) idle)).took) (sym none);
  }
