-- A move of the card on which a log is open, where a descriptor of the log is posted: it carries what the machine's move of the log's phase does.
use Rattle.std.proofs.Common.{◌≡◌, inl, inr, ℕ, ◌+◌, ◌<◌, ◌≤◌, Bool, true, false, not, ◌&&◌, List, [], ◌∷◌, ◌++◌, length, nat_le, nat_lt, refl, sym, ◌∙◌, ap, subst, bytes_eq, Contains}
use Rattle.std.specs.Prelude.{if◌then◌else◌, Option, Some, is_some, option_map, replicate, slice_get, unwrap_or}
use Rattle.ark_base.specs.declared.kind.Outcome.{Outcome}
use Rattle.ark_base.specs.declared.kind.Outcome.TheVariants as outcome
use Rattle.ark_media.specs.Journal.{History, Event, Read, Write, Sync}
use Rattle.ark_media.specs.Calls.{Call, Makes, Reads, Writes, Syncs}
use Rattle.ark_media.specs.Standing.{after}
use Rattle.ark_extents.proofs.Unview.{one_event}
use Rattle.ark_table.specs.Slots.{Slot}
use Rattle.ark_region.specs.Frames.{Piece, Space, bytes_of}
use Rattle.ark_caps.specs.declared.capability.Capability.{Capability}
use Rattle.ark_script.specs.declared.said.Said.{Said}
use Rattle.ark_script.specs.declared.said.Said.TheVariants as said
use Rattle.ark_vic.specs.Queue.{Queue, finished}
use Rattle.ark_vic.specs.declared.descriptor.Descriptor.{Descriptor}
use Rattle.ark_vic.specs.declared.descriptor.Job.{Job as VicJob}
use Rattle.ark_vic.specs.declared.descriptor.Job.TheVariants as vic
use Rattle.ark_vic.specs.declared.door.Counts.{Counts}
use Rattle.ark_vsic.specs.Card.{is_bound}
use Rattle.ark_vsic.specs.Moves.{Leaves, answer_tried, area_of, buffered, call_by, count_of, due_by, due_for, due_in, due_of, due_paced, ring_after, worked, ended as ring_with, outcome_of as ending_of}
use Rattle.ark_vsic.specs.Places.{place_of}
use Rattle.ark_vsic.specs.declared.due.Due.{Due}
use Rattle.ark_vsic.specs.declared.due.Due.TheVariants as due
use Rattle.ark_vsic.specs.declared.due.Moved.{Moved}
use Rattle.ark_vsic.specs.declared.due.Moved.TheVariants as moved
use Rattle.ark_caladan.specs.Chain.{Log, Opened, Phase, Verb, reading, writing, syncing}
use Rattle.ark_caladan.specs.Open.{Layout}
use Rattle.ark_entry.specs.Found.{Found, found_of}
use Rattle.ark_log.specs.declared.stage.Stage.{Stage}
use Rattle.ark_log.specs.Open.{OpenChain}
use Rattle.ark_log.specs.Polled.{stage_of}
use Rattle.ark_log.specs.Stages.{posting_of, stage_with}
use Rattle.ark_log.specs.Stands.{stage_does}
use Rattle.ark_running.specs.Accepted.{with_opened}
use Rattle.ark_running.specs.Moving.{HasMoved, decided_by_all}
use Rattle.ark_running.specs.Ringed.{IsPostedFor}
use Rattle.ark_running.specs.Running.{IsRunning}
use Rattle.ark_running.proofs.AnyCard as any_card
use Rattle.ark_running.proofs.Framing.{running_listed}
use Rattle.ark_running.proofs.Proceeding.{alone_posted}
use Rattle.ark_machine.specs.Objects
use Rattle.ark_machine.specs.Objects.{Object, Vsic, Job, Paced, transfer, flush, phase}
use Rattle.ark_machine.specs.Machine.{Machine, Held, at, object_at, holding, with_object, each_object}
use Rattle.ark_machine.specs.Row
use Rattle.ark_machine.specs.Row.{Ended, settled, synced}
use Rattle.ark_machine.specs.Follow.{Follows, MakesAt, Took, end_of, ends_of, ended, fails, goes_on}
use Rattle.ark_machine.specs.Moves.{Move, move, moves, moved as machine_moved, ends, gated, tried, phase_moves, phase_moves_on, phase_written, first_end, block_moved, outcome_of}
use Rattle.ark_machine.specs.Rates.{is_over_burst, may_pass, passed}
use Rattle.ark_held.specs.Totals.{bit, object_covers, open_count}
use Rattle.ark_held.specs.Around.{Around, slot_at, blocks_under, Each, Both}
use Rattle.ark_held.specs.Areas.{OpensToLists}
use Rattle.ark_held.specs.Cards.{DoesPhase, HasPhases, IsJob, IsPaced}
use Rattle.ark_held.specs.Kept.{CardKept}
use Rattle.ark_held.specs.Does.{IsSited, LogsAtFronts}
use Rattle.ark_held.specs.Held.{Holds}
use Rattle.ark_held.specs.Keeps.{SameAt}
use Rattle.ark_held.specs.Moving.{card_of, blocks_held, pace_moved, with_pass, said_of}
use Rattle.ark_held.specs.Ringing.{Sets}
use Rattle.ark_held.proofs.Besides.{same_beside, same_history}
use Rattle.ark_held.proofs.Carrying.{carried, Carries, WasMoved, made_of, answer_by, sets_by, rings_by, carries_by, still, no_logs, no_calls, none_made, leaves_of}
use Rattle.ark_held.proofs.Covering.{Spares, most_covered}
use Rattle.ark_held.proofs.Dues.{due_by_tests, paced_same}
use Rattle.ark_held.proofs.Effects.{at_other, at_each, settles_holds}
use Rattle.ark_held.proofs.Ending.{OnCard, on_card}
use Rattle.ark_held.proofs.Fronts.{log_opens}
use Rattle.ark_held.proofs.Lists.{by_test, other_name, some_same}
use Rattle.ark_held.proofs.LogCalls.{IsOfLog, logs_within, others_beside}
use Rattle.ark_held.proofs.LogFrames.{spared}
use Rattle.ark_held.proofs.BothPut.{HasOpen, log_apart}
use Rattle.ark_held.proofs.MoveRows.{ended_by, move_is, ends_is, gate_over, gate_waits, gate_opens, goes_on as goes_further, has_ended, last_is}
use Rattle.ark_held.proofs.PhaseJobs.{OnePhase, one_phase, read_decides, same_lists, sync_decides}
use Rattle.ark_held.proofs.PhaseMoves as phase_moved
use Rattle.ark_held.proofs.Paces.{passed_both}
use Rattle.ark_held.proofs.PhaseRows.{block_inside, log_on_is, same_log, written_is}
use Rattle.ark_held.proofs.RunsOn as runs_on
use Rattle.ark_held.proofs.Trying.{same_outcome}

module _ (x : Around) (v : List ℕ) (c : Capability) (k : CardKept) (card : Vsic) (on : OnCard x v c k card) (told : Option History) (es : List Event) (a : Moved) (memory : Space) (cards : ℕ → Option CardKept) (doors : ℕ → Option Counts)
    (w : WasMoved x c.key k told es a memory cards doors) (is_told : told ≡ Some (after x.history es)) (size : ℕ) (sited : IsSited x size)
    (in_base : (l : List ℕ) (t : Slot) (n : ℕ) → slot_at x l ≡ Some t → Contains t.blocks n → n < length x.history.base) (q : OpenChain) (log : k.log ≡ Some q) (d : Descriptor) (first : slice_get k.ring.posted 0 ≡ Some d) where
  abbrev m : Machine
  m = x.machine

  abbrev e : Ended
  e = first_end (ends_of es)

  abbrev row : Move
  row = move m v e

  abbrev Result : Type 0
  Result = Carries x row es a memory cards doors

  -- The log.

  abbrev s : List ℕ
  s = (runs_on.found x v c k card on q log).label

  abbrev both : HasOpen x s v
  both = runs_on.both x v c k card on q log

  abbrev g : Log
  g = both.log

  abbrev o : Opened
  o = (runs_on.found x v c k card on q log).opened

  abbrev slot : Slot
  slot = both.log_fits.slot

  abbrev blocks : List ℕ
  blocks = slot.blocks

  abbrev lies : Layout
  lies = runs_on.lies x v c k card on q log

  is_open : g.opened ≡ Some o
  is_open = (runs_on.found x v c k card on q log).is_open

  on_v : o.card ≡ v
  on_v = (runs_on.found x v c k card on q log).on

  grant : q.grant ≡ both.area.grant
  grant = runs_on.grant x v c k card on q log

  bound : is_bound both.area.grant k.bound ≡ true
  bound = runs_on.bound x v c k card on q log

  runs : IsRunning x.history blocks x.tables.memory k.ring q lies g o
  runs = runs_on.runs x v c k card on q log

  area : area_of q.grant k.bound (blocks_held x.areas) ≡ Some blocks
  area = runs_on.area x v c k card on q log

  one : open_count m v ≡ 1
  one = sym on.fits.log ∙ ap (λ (z : Option OpenChain). bit (is_some z)) log

  abbrev log_with : Bool → Log
  log_with b = record g { opened = Some (record o { decided = b }) }

  -- Its descriptor.

  alone : (k.ring.posted ≡ d ∷ []) × (k.ring.unreaped ≡ []) × ((t : Stage) × (buf : Option Piece) × IsPostedFor q x.tables.memory t buf d k.ring.moved)
  alone = alone_posted q x.tables.memory k.ring.moved k.ring.posted k.ring.unreaped d runs.ring first

  abbrev stage : Stage
  stage = alone.2.0

  abbrev decides : Bool
  decides = (stage_does stage).1

  job_is : d.job ≡ (posting_of (stage_with q stage alone.2.1) stage).job
  job_is = ap (λ (z : Descriptor). z.job) alone.2.2.its

  job : OnePhase q d card.queue.posted
  job = one_phase x q d card.queue.posted
      (subst (λ (z : Option OpenChain). Each (IsJob x z) (d ∷ []) card.queue.posted) log (subst (λ (ds : List Descriptor). Each (IsJob x k.log) ds card.queue.posted) alone.0 on.fits.posted))
      (subst (λ (z : Option OpenChain). HasPhases z card.queue.posted card.queue.unreaped) log on.fits.phases).0

  abbrev p : Phase
  p = job.phase_is

  same_decides : p.decides ≡ decides
  same_decides = job.its.decides ∙ ap (λ t. (stage_does t).1) (some_same (stage_of q) job.its.stage stage job.its.under_way alone.2.2.way.is)

  row_is : row ≡ phase_moves p.verb s m v card p [] e
  row_is =
      move_is m v card on.held on.there on.object e
      ∙ ap (λ (js : List Job). machine_moved m v card js e) job.jobs
      ∙ ap (λ (l : Option (List ℕ)). phase_moves_on l m v card p [] e) (log_on_is x on.holds s v both o is_open on_v one)

  ring_ended : (out : Outcome) → ring_after k.ring (moved.Done out) ≡ finished k.ring d out 0
  ring_ended out = ap (λ z. ring_with k.ring z out) first

  -- What became of it.

  has : HasMoved (card_of k) (blocks_held x.areas) x.now x.history x.tables.memory memory es a
  has = record {
    makes = w.makes;
    answer = w.answer_is;
    taken = w.taken;
    leaves = subst (λ (t : Option History). Leaves (card_of k) (due_of (card_of k) (blocks_held x.areas) x.now) (worked a) t x.tables.memory memory) is_told w.leaves;
  }

  abbrev RunsAs : List Event → Queue → Opened → Type 0
  RunsAs zs ring o1 = IsRunning (after x.history zs) blocks memory ring q lies (with_opened g o1) o1

  runs_then : (zs : List Event) → es ≡ zs → (b : Moved) → a ≡ b → RunsAs zs (ring_after k.ring b) (decided_by_all stage zs o)
  runs_then zs came b so = subst (λ (ys : List Event). RunsAs ys (ring_after k.ring b) (decided_by_all stage ys o)) came
      (subst (λ (r : Moved). RunsAs es (ring_after k.ring r) (decided_by_all stage es o)) so
      (any_card.moves x.history blocks x.tables.memory (card_of k) q lies g o (blocks_held x.areas) x.now runs area d first memory es a has stage alone.2.2.way.is))

  stays : (b : Piece) → Spares (λ j. object_covers j (Objects.log g) ≡ 1) b → bytes_of memory b ≡ bytes_of x.tables.memory b
  stays b spares = any_card.all_beside x.history blocks x.tables.memory (card_of k) q lies g o (blocks_held x.areas) x.now runs area memory es a has b
      (spared x.history blocks x.tables.memory k.ring q lies g o runs (λ j. subst (λ (z : Object). object_covers j z ≤ 1) both.object_log (most_covered x on.holds s both.held_log both.there_log j)) b spares)

  -- What is due.

  abbrev what : Due
  what = due_of (card_of k) (blocks_held x.areas) x.now

  due_is : (n : ℕ) × (what ≡ due_by d.job (due_paced (card_of k).pace x.now n))
  due_is = any_card.is_due x.history blocks x.tables.memory (card_of k) q lies g o (blocks_held x.areas) x.now runs area d first

  -- it waits for its rate
  waits : what ≡ due.Waits → row ≡ moves m said.Held [] → Result
  waits y is =
      let so = answer_by x v c k card on told es a memory cards doors w due.Waits y in
      still x v c k card on told es a memory cards doors w (none_made es (worked a) (made_of x v c k card on told es a memory cards doors w (Some d) first due.Waits y))
      (leaves_of x v c k card on told es a memory cards doors w (Some d) first due.Waits y) moved.Held said.Held so refl refl
      (ap (λ (z : Due). pace_moved k.pace z x.now) y) (rings_by x v c k card on told es a memory cards doors w moved.Held so) is

  -- its block is greater than a burst
  ends_early : what ≡ due.Ends outcome.OverBurst → row ≡ moves (ended_by m v card (phase p) [] outcome.OverBurst card.pace) (said.Done outcome.OverBurst) [] → Result
  ends_early y is =
      let out = outcome.OverBurst in
      let so : a ≡ moved.Done out = answer_by x v c k card on told es a memory cards doors w (due.Ends out) y in
      let quiet : es ≡ [] = none_made es (worked a) (made_of x v c k card on told es a memory cards doors w (Some d) first (due.Ends out) y) in
      let same : memory ≡ x.tables.memory = leaves_of x v c k card on told es a memory cards doors w (Some d) first (due.Ends out) y in
      let sets = subst (λ (r : Queue). Sets c.key (record k { ring = r; pace = k.pace }) x.tables.cards cards) (ring_ended out) (sets_by x v c k card on told es a memory cards doors w (due.Ends out) y (moved.Done out) so) in
      let runs_so = subst (λ (r : Queue). RunsAs [] r o) (ring_ended out) (runs_then [] quiet (moved.Done out) so) in
      let holds : Holds (carried x [] (ended_by (with_object m s (Objects.log (log_with o.decided))) v card (phase p) [] out card.pace) memory cards doors) =
      phase_moved.ends x v c k card on s both.area both.held_log g both.area_label both.there_log both.object_log q log o is_open on_v grant bound lies o.decided x.history refl (λ l t apart there. same_history x.history t.blocks) memory w.taken stays
      k.pace card.pace on.fits.pace cards d [] p [] alone.0 job.jobs out doors sets (rings_by x v c k card on told es a memory cards doors w (moved.Done out) so) runs_so in
      carries_by x v c k card on told es a memory cards doors w (ended_by m v card (phase p) [] out card.pace) (said.Done out) [] is (ap said_of so) (no_calls x v c k card on told es a memory cards doors w quiet same)
      (subst (λ (zs : List Event). Holds (carried x zs (ended_by m v card (phase p) [] out card.pace) memory cards doors)) (sym quiet)
      (subst (λ (n : Machine). Holds (carried x [] (ended_by n v card (phase p) [] out card.pace) memory cards doors)) (sym (same_log x on.holds s v both o is_open on_v one)) holds))
      (no_logs x v c k card on told es a memory cards doors w quiet same)

  -- One device call, of which this came.
  module _ (ev : Event) (came : es ≡ ev ∷ []) (of : IsOfLog blocks ev) where
    beside : (l : List ℕ) (t : Slot) → bytes_eq s l ≡ false → slot_at x l ≡ Some t → SameAt x.history (after x.history (ev ∷ [])) t.blocks
    beside l t apart there = same_beside x.history (ev ∷ []) t.blocks (λ n inn. in_base l t n there inn)
        (others_beside blocks t.blocks (λ n mine its. other_name s l apart (sited.apart s l slot t n both.log_fits.there there mine its)) (ev ∷ []) (of, tt))

    -- a stop leaves of each log one of its lists
    its_logs : (ring : Queue) (b : Bool) → RunsAs (ev ∷ []) ring (record o { decided = b }) → LogsAtFronts x es
    its_logs ring b runs_so = subst (λ (zs : List Event). LogsAtFronts x zs) (sym came)
        (logs_within x size on.holds in_base sited s g object slot both.log_fits.there (ev ∷ []) (of, tt) fronts)
      where
        object : object_at m s ≡ Some (Objects.log g)
        object = ap (λ (z : Option Held). option_map (λ (y : Held). y.object) z) both.there_log ∙ ap (λ (z : Object). Some z) both.object_log

        opens : OpensToLists (after x.history (ev ∷ [])) blocks g
        opens contents shown = subst (λ (ls : List Found). Contains ls (found_of g.kind contents)) (same_lists g o b is_open)
            ((running_listed (after x.history (ev ∷ [])) blocks memory ring q lies (log_with b) (record o { decided = b }) runs_so).left contents shown)

        fronts : (front back : List Event) → ev ∷ [] ≡ front ++ back → OpensToLists (after x.history front) blocks g
        fronts [] back split = log_opens x on.holds s slot g both.log_fits.there object
        fronts (f ∷ []) back split = let same : ev ≡ f = cc split in subst (λ (z : Event). OpensToLists (after x.history (z ∷ [])) blocks g) same opens
        fronts (f ∷ f2 ∷ fs) back split = absurd (cc split)

    -- It tried a block.
    module _ (n : ℕ) (y : what ≡ due.Block n) (may : may_pass card.pace x.now 512 ≡ true) (counted : p.count ≡ d.count) (call : Row.Call) (follows : Follows (MakesAt (blocks_under x)) (call ∷ []) (ev ∷ [])) (b : Bool) (decided : decided_by_all stage (ev ∷ []) o ≡ record o { decided = b })
        (is : row ≡ tried x.now (worked a) p.count (with_object m s (Objects.log (log_with b))) v card (phase p) [] (call ∷ [])) where
      abbrev ok : Bool
      ok = worked a

      abbrev m1 : Machine
      m1 = with_object m s (Objects.log (log_with b))

      there : at m1 v ≡ Some on.held
      there = at_other m s v (Objects.log (log_with b)) (log_apart x s v on.holds both) ∙ on.there

      both_passed : Both (IsPaced x) (option_map (with_pass x.now) k.pace) (passed x.now 512 card.pace)
      both_passed = passed_both x 512 k.pace card.pace on.fits.pace may

      answer : a ≡ answer_tried (nat_le d.count (k.ring.moved + 1)) ok
      answer = answer_by x v c k card on told es a memory cards doors w (due.Block n) y ∙ ap (λ (z : Option Descriptor). answer_tried (nat_le (count_of z) (k.ring.moved + 1)) ok) first

      abbrev more : Bool
      more = ok && not (nat_le d.count (k.ring.moved + 1))

      same_test : (ok && nat_lt (card.queue.moved + 1) p.count) ≡ more
      same_test = ap (λ i. ok && nat_lt (i + 1) p.count) on.fits.moved ∙ ap (λ i. ok && nat_lt (k.ring.moved + 1) i) counted ∙ last_is k.ring.moved d.count ok

      sets : (r : Moved) → a ≡ r → Sets c.key (record k { ring = ring_after k.ring r; pace = option_map (with_pass x.now) k.pace }) x.tables.cards cards
      sets r so = sets_by x v c k card on told es a memory cards doors w (due.Block n) y r so

      runs_so : (r : Moved) → a ≡ r → RunsAs (ev ∷ []) (ring_after k.ring r) (record o { decided = b })
      runs_so r so = subst (λ (z : Opened). RunsAs (ev ∷ []) (ring_after k.ring r) z) decided (runs_then (ev ∷ []) came r so)

      comes_to : (n2 : Machine) (told_so : Said) (r : Moved) → a ≡ r → said_of r ≡ told_so → row ≡ moves n2 told_so (call ∷ []) → Holds (carried x (ev ∷ []) n2 memory cards doors) → Result
      comes_to n2 told_so r so same is2 holds = carries_by x v c k card on told es a memory cards doors w n2 told_so (call ∷ []) is2 (ap said_of so ∙ same)
          (subst (λ (zs : List Event). Follows (MakesAt (blocks_under x)) (call ∷ []) zs) (sym came) follows)
          (subst (λ (zs : List Event). Holds (carried x zs n2 memory cards doors)) (sym came) holds)
          (its_logs (ring_after k.ring r) b (runs_so r so))

      by_more : (t : Bool) → more ≡ t → Result
      by_more true goes =
          let so : a ≡ moved.Block = answer ∙ ap (λ t. if t then moved.Block else moved.Done (ending_of ok)) goes in
          comes_to (with_object m1 v (Objects.vsic (block_moved (passed x.now 512 card.pace) card))) said.Moved moved.Block so refl
          (is ∙ goes_further m1 v card on.held there on.object x.now p.count (phase p) [] (call ∷ []) ok (same_test ∙ goes))
          (subst (λ (f : ℕ → Option Counts). Holds (carried x (ev ∷ []) (with_object m1 v (Objects.vsic (block_moved (passed x.now 512 card.pace) card))) memory cards f)) (sym (rings_by x v c k card on told es a memory cards doors w moved.Block so))
          (phase_moved.moves_on x v c k card on s both.area both.held_log g both.area_label both.there_log both.object_log q log o is_open on_v grant bound lies b (after x.history (ev ∷ [])) refl beside memory w.taken stays
          (option_map (with_pass x.now) k.pace) (passed x.now 512 card.pace) both_passed cards (sets moved.Block so) (runs_so moved.Block so)))
      by_more false stops =
          let out = ending_of ok in
          let so : a ≡ moved.Done out = answer ∙ ap (λ t. if t then moved.Block else moved.Done (ending_of ok)) stops in
          let holds : Holds (carried x (ev ∷ []) (ended_by m1 v card (phase p) [] out (passed x.now 512 card.pace)) memory cards doors) =
          phase_moved.ends x v c k card on s both.area both.held_log g both.area_label both.there_log both.object_log q log o is_open on_v grant bound lies b (after x.history (ev ∷ [])) refl beside memory w.taken stays
          (option_map (with_pass x.now) k.pace) (passed x.now 512 card.pace) both_passed cards d [] p [] alone.0 job.jobs out doors
          (subst (λ (r : Queue). Sets c.key (record k { ring = r; pace = option_map (with_pass x.now) k.pace }) x.tables.cards cards) (ring_ended out) (sets (moved.Done out) so))
          (rings_by x v c k card on told es a memory cards doors w (moved.Done out) so)
          (subst (λ (r : Queue). RunsAs (ev ∷ []) r (record o { decided = b })) (ring_ended out) (runs_so (moved.Done out) so)) in
          comes_to (ended_by m1 v card (phase p) [] (outcome_of ok) (passed x.now 512 card.pace)) (said.Done (outcome_of ok)) (moved.Done out) so (ap (λ (z : Outcome). said.Done z) (same_outcome ok))
          (is ∙ has_ended m1 v card on.held there on.object x.now p.count (phase p) [] (call ∷ []) ok (same_test ∙ stops))
          (subst (λ (z : Outcome). Holds (carried x (ev ∷ []) (ended_by m1 v card (phase p) [] z (passed x.now 512 card.pace)) memory cards doors)) (same_outcome ok) holds)

      block_done : Result
      block_done = by_more more refl

  -- A block that is read or written, if its rate lets it pass.
  module _ (jb : VicJob) (job_so : d.job ≡ jb) (passes : (z : Due) → due_by jb z ≡ z) (counted : d.count ≡ p.count) where
    abbrev over : Bool
    over = is_over_burst card.pace 512

    abbrev may_go : Bool
    may_go = may_pass card.pace x.now 512

    by_tests : what ≡ due_by_tests true over may_go due_is.0
    by_tests = due_is.1 ∙ ap (λ j. due_by j (due_paced (card_of k).pace x.now due_is.0)) job_so ∙ passes (due_paced (card_of k).pace x.now due_is.0) ∙ paced_same x k.pace card.pace due_is.0 on.fits.pace

    -- it is in the area
    inside : (n : ℕ) → what ≡ due.Block n → Contains blocks n
    inside n y = block_inside blocks (place_of (length blocks) d.wrap d.first k.ring.moved) (card_of k).pace x.now n
        (sym (ap (λ (z : Option Descriptor). due_for z (card_of k) (blocks_held x.areas) x.now) first
        ∙ ap (λ j. due_by j (due_in (area_of d.grant k.bound (blocks_held x.areas)) d k.ring.moved (card_of k).pace x.now)) job_so
        ∙ passes (due_in (area_of d.grant k.bound (blocks_held x.areas)) d k.ring.moved (card_of k).pace x.now)
        ∙ ap (λ i. due_in (area_of i k.bound (blocks_held x.areas)) d k.ring.moved (card_of k).pace x.now) (sym job.its.grant)
        ∙ ap (λ z. due_in z d k.ring.moved (card_of k).pace x.now) area) ∙ y)

    makes_call : (n : ℕ) → what ≡ due.Block n → Makes (call_by jb n (buffered d k.ring.moved x.tables.memory) ∷ []) (worked a) es
    makes_call n y = subst (λ j. Makes (call_by j n (buffered d k.ring.moved x.tables.memory) ∷ []) (worked a) es) job_so
        (made_of x v c k card on told es a memory cards doors w (Some d) first (due.Block n) y)

    module _ (mv : Move) (gate : row ≡ gated m v card (phase p) [] true mv) (block : (n : ℕ) → what ≡ due.Block n → may_go ≡ true → row ≡ mv → Result) where
      gated_done : Result
      gated_done = by_test (λ t. over ≡ t → Result) over
          (λ yes is_over. ends_early (by_tests ∙ ap (λ t. due_by_tests true t may_go due_is.0) is_over)
          (gate ∙ gate_over m v card (phase p) [] mv is_over ∙ ends_is m v card on.held on.there on.object (phase p) [] outcome.OverBurst []))
          (λ no within.
          let due_then = by_tests ∙ ap (λ t. due_by_tests true t may_go due_is.0) within in
          by_test (λ t. may_go ≡ t → Result) may_go
          (λ yes may. block due_is.0 (due_then ∙ ap (λ t. due_by_tests true false t due_is.0) may) may
          (gate ∙ gate_opens m v card (phase p) [] mv within (ap (λ i. may_pass card.pace i 512) on.holds.now ∙ may)))
          (λ no not_yet. waits (due_then ∙ ap (λ t. due_by_tests true false t due_is.0) not_yet)
          (gate ∙ gate_waits m v card (phase p) [] mv within (ap (λ i. may_pass card.pace i 512) on.holds.now ∙ not_yet))) refl) refl

  in_area : (n : ℕ) → Contains blocks n → Contains (blocks_under x s) n
  in_area n inn = subst (λ (z : Option Slot). Contains (unwrap_or (option_map (λ (t : Slot). t.blocks) z) []) n) (sym both.log_fits.there) inn

  -- The phase reads.
  module _ (verb : p.verb ≡ reading) (job_so : d.job ≡ vic.Read) (counted : d.count ≡ p.count) where
    read_follows : (n : ℕ) (ok : Bool) → Contains blocks n → Follows (MakesAt (blocks_under x)) (Row.reads_in s ∷ []) (Read n ok ∷ [])
    read_follows n true inn = goes_on {c = Row.reads_in s} {e = Read n true} (in_area n inn) refl refl ended
    read_follows n false inn = fails {c = Row.reads_in s} {e = Read n false} (in_area n inn) refl

    abbrev read_move : Move
    read_move = tried m.now e.ok p.count m v card (phase p) [] (Row.reads_in s ∷ [])

    read_block : (n : ℕ) → what ≡ due.Block n → may_pass card.pace x.now 512 ≡ true → row ≡ read_move → Result
    read_block n y may is =
        let one_ev = one_event (Reads n) (worked a) es (makes_call vic.Read job_so (λ z. refl) counted n y) in
        let ev : Event = Read n (worked a) in
        let came : es ≡ ev ∷ [] = one_ev.1 ∙ ap (λ (z : Event). z ∷ []) one_ev.2 in
        let quiet : decides ≡ false = read_decides q stage alone.2.1 (sym job_is ∙ job_so) in
        block_done ev came tt n y may (sym counted) (Row.reads_in s) (read_follows n (worked a) (inside vic.Read job_so (λ z. refl) counted n y)) o.decided
        (ap (λ t. record o { decided = if t then false else o.decided }) quiet)
        (is
        ∙ ap (λ (zs : List Event). tried m.now (first_end (ends_of zs)).ok p.count m v card (phase p) [] (Row.reads_in s ∷ [])) came
        ∙ ap (λ i. tried i (worked a) p.count m v card (phase p) [] (Row.reads_in s ∷ [])) on.holds.now
        ∙ ap (λ (n2 : Machine). tried x.now (worked a) p.count n2 v card (phase p) [] (Row.reads_in s ∷ [])) (same_log x on.holds s v both o is_open on_v one))

    read_done : Result
    read_done = gated_done vic.Read job_so (λ z. refl) counted read_move (row_is ∙ ap (λ (vb : Verb). phase_moves vb s m v card p [] e) verb) read_block

  -- The phase writes.
  module _ (verb : p.verb ≡ writing) (jb : VicJob) (job_so : d.job ≡ jb) (passes : (z : Due) → due_by jb z ≡ z) (counted : d.count ≡ p.count) (writes : (n : ℕ) (bytes : List ℕ) → (content : List ℕ) × (call_by jb n bytes ≡ Writes n content)) where
    write_follows : (n : ℕ) (content : List ℕ) (took ok : Bool) → Took took ok → Contains blocks n → Follows (MakesAt (blocks_under x)) (Row.writes_in s ∷ []) (Write n content took ok ∷ [])
    write_follows n content took true took_it inn = goes_on {c = Row.writes_in s} {e = Write n content took true} (in_area n inn, took_it) refl refl ended
    write_follows n content took false took_it inn = fails {c = Row.writes_in s} {e = Write n content took false} (in_area n inn, took_it) refl

    abbrev write_move : Move
    write_move = tried m.now e.ok p.count (phase_written m v p e) v card (phase p) [] (Row.writes_in s ∷ [])

    write_block : (n : ℕ) → what ≡ due.Block n → may_pass card.pace x.now 512 ≡ true → row ≡ write_move → Result
    write_block n y may is =
        let call = writes n (buffered d k.ring.moved x.tables.memory) in
        let one_ev = one_event (Writes n call.0) (worked a) es (subst (λ (z : Call). Makes (z ∷ []) (worked a) es) call.1 (makes_call jb job_so passes counted n y)) in
        let took = one_ev.2.0 in
        let ev : Event = Write n call.0 took (worked a) in
        let came : es ≡ ev ∷ [] = one_ev.1 ∙ ap (λ (z : Event). z ∷ []) one_ev.2.2 in
        let inn = inside jb job_so passes counted n y in
        block_done ev came inn n y may (sym counted) (Row.writes_in s) (write_follows n call.0 took (worked a) one_ev.2.1 inn) (if decides then took else o.decided) refl
        (is
        ∙ ap (λ (zs : List Event). tried m.now (first_end (ends_of zs)).ok p.count (phase_written m v p (first_end (ends_of zs))) v card (phase p) [] (Row.writes_in s ∷ [])) came
        ∙ ap (λ i. tried i (worked a) p.count (phase_written m v p (end_of ev)) v card (phase p) [] (Row.writes_in s ∷ [])) on.holds.now
        ∙ ap (λ (n2 : Machine). tried x.now (worked a) p.count n2 v card (phase p) [] (Row.writes_in s ∷ [])) (written_is x on.holds s v both o is_open on_v one p decides (end_of ev) same_decides))

    write_done : Result
    write_done = gated_done jb job_so passes counted write_move (row_is ∙ ap (λ (vb : Verb). phase_moves vb s m v card p [] e) verb) write_block

  -- The phase syncs.
  module _ (verb : p.verb ≡ syncing) (job_so : d.job ≡ vic.Sync) where
    due_sync : what ≡ due.Sync
    due_sync = due_is.1 ∙ ap (λ j. due_by j (due_paced (card_of k).pace x.now due_is.0)) job_so

    quiet : decides ≡ false
    quiet = sync_decides q stage alone.2.1 (sym job_is ∙ job_so)

    sync_row : (well : Bool) → es ≡ Sync well ∷ [] → row ≡ ends (synced well m) v card (phase p) [] (outcome_of well) (Row.syncs ∷ [])
    sync_row well came = row_is ∙ ap (λ (vb : Verb). phase_moves vb s m v card p [] e) verb
        ∙ ap (λ (zs : List Event). ends (synced (first_end (ends_of zs)).ok m) v card (phase p) [] (outcome_of (first_end (ends_of zs)).ok) (Row.syncs ∷ [])) came

    sync_follows : (ok : Bool) → Follows (MakesAt (blocks_under x)) (Row.syncs ∷ []) (Sync ok ∷ [])
    sync_follows true = goes_on {c = Row.syncs} {e = Sync true} tt refl refl ended
    sync_follows false = fails {c = Row.syncs} {e = Sync false} tt refl

    module _ (ok : Bool) (came : es ≡ Sync ok ∷ []) (out : Outcome) (so : a ≡ moved.Done out) where
      sync_sets : Sets c.key (record k { ring = finished k.ring d out 0; pace = k.pace }) x.tables.cards cards
      sync_sets = subst (λ (r : Queue). Sets c.key (record k { ring = r; pace = k.pace }) x.tables.cards cards) (ring_ended out) (sets_by x v c k card on told es a memory cards doors w due.Sync due_sync (moved.Done out) so)

      sync_runs : RunsAs (Sync ok ∷ []) (finished k.ring d out 0) (record o { decided = o.decided })
      sync_runs = subst (λ (r : Queue). RunsAs (Sync ok ∷ []) r (record o { decided = o.decided })) (ring_ended out)
          (subst (λ t. RunsAs (Sync ok ∷ []) (ring_after k.ring (moved.Done out)) (record o { decided = if t then false else o.decided })) quiet (runs_then (Sync ok ∷ []) came (moved.Done out) so))

      synced_to : (n : Machine) → row ≡ moves (ended_by n v card (phase p) [] out card.pace) (said.Done out) (Row.syncs ∷ []) → Holds (carried x (Sync ok ∷ []) (ended_by n v card (phase p) [] out card.pace) memory cards doors) → Result
      synced_to n is holds = carries_by x v c k card on told es a memory cards doors w (ended_by n v card (phase p) [] out card.pace) (said.Done out) (Row.syncs ∷ []) is (ap said_of so)
          (subst (λ (zs : List Event). Follows (MakesAt (blocks_under x)) (Row.syncs ∷ []) zs) (sym came) (sync_follows ok))
          (subst (λ (zs : List Event). Holds (carried x zs (ended_by n v card (phase p) [] out card.pace) memory cards doors)) (sym came) holds)
          (its_logs (Sync ok) came tt (finished k.ring d out 0) o.decided sync_runs)

    -- it settles what a stop leaves of the areas
    abbrev z : Around
    z = record x { history = after x.history (Sync true ∷ []); machine = each_object settled m }

    z_holds : Holds z
    z_holds = settles_holds x on.holds in_base

    on_z : OnCard z v c k card
    on_z = on_card z v c k card (holding (settled on.held.object) on.held) z_holds on.named on.kind (at_each settled m v on.held on.there) (ap settled on.object) on.was

    held_z : Held
    held_z = holding (settled both.held_log.object) both.held_log

    synced_so : (ok : Bool) → worked a ≡ ok → es ≡ Sync ok ∷ [] → a ≡ moved.Done (ending_of ok) → Result
    synced_so true well came so = synced_to true came outcome.Ok so (each_object settled m)
        (sync_row true came ∙ ends_is (each_object settled m) v card (holding (settled on.held.object) on.held) (at_each settled m v on.held on.there) (ap settled on.object) (phase p) [] outcome.Ok (Row.syncs ∷ []))
        (subst (λ (n : Machine). Holds (carried x (Sync true ∷ []) (ended_by n v card (phase p) [] outcome.Ok card.pace) memory cards doors)) (sym (same_log z z_holds s v both_z o is_open on_v one_z))
        (phase_moved.ends z v c k card on_z s both.area (holding (settled both.held_log.object) both.held_log) g both.area_label (at_each settled m s both.held_log both.there_log) (ap settled both.object_log) q log o is_open on_v grant bound lies o.decided z.history refl
        (λ l t apart there. same_history z.history t.blocks) memory w.taken stays k.pace card.pace on_z.fits.pace cards d [] p [] alone.0 job.jobs outcome.Ok doors (sync_sets true came outcome.Ok so)
        (rings_by x v c k card on told es a memory cards doors w (moved.Done outcome.Ok) so)
        (subst (λ (t : Slot). IsRunning z.history t.blocks memory (finished k.ring d outcome.Ok 0) q lies (log_with o.decided) (record o { decided = o.decided })) same_slot (sync_runs true came outcome.Ok so))))
      where
        both_z : HasOpen z s v
        both_z = phase_moved.both z v c k card on_z s both.area (holding (settled both.held_log.object) both.held_log) g both.area_label (at_each settled m s both.held_log both.there_log) (ap settled both.object_log) q log o is_open on_v grant bound lies

        same_slot : slot ≡ both_z.log_fits.slot
        same_slot = some_same (slot_at x s) slot both_z.log_fits.slot both.log_fits.there both_z.log_fits.there

        one_z : open_count z.machine v ≡ 1
        one_z = sym on_z.fits.log ∙ ap (λ (y : Option OpenChain). bit (is_some y)) log
    synced_so false bad came so = synced_to false came outcome.DeviceFault so m
        (sync_row false came ∙ ends_is m v card on.held on.there on.object (phase p) [] outcome.DeviceFault (Row.syncs ∷ []))
        (subst (λ (n : Machine). Holds (carried x (Sync false ∷ []) (ended_by n v card (phase p) [] outcome.DeviceFault card.pace) memory cards doors)) (sym (same_log x on.holds s v both o is_open on_v one))
        (phase_moved.ends x v c k card on s both.area both.held_log g both.area_label both.there_log both.object_log q log o is_open on_v grant bound lies o.decided (after x.history (Sync false ∷ [])) refl
        (beside (Sync false) came tt) memory w.taken stays k.pace card.pace on.fits.pace cards d [] p [] alone.0 job.jobs outcome.DeviceFault doors (sync_sets false came outcome.DeviceFault so)
        (rings_by x v c k card on told es a memory cards doors w (moved.Done outcome.DeviceFault) so) (sync_runs false came outcome.DeviceFault so)))

    sync_done : Result
    sync_done =
        let one_ev = one_event Syncs (worked a) es (made_of x v c k card on told es a memory cards doors w (Some d) first due.Sync due_sync) in
        synced_so (worked a) refl (one_ev.1 ∙ ap (λ (y : Event). y ∷ []) one_ev.2) (answer_by x v c k card on told es a memory cards doors w due.Sync due_sync)

  by_verb : (vb : Verb) → p.verb ≡ vb → DoesPhase vb p.count d → Result
  by_verb reading verb does = read_done verb does.0 does.1
  by_verb writing verb (inl write, counted, wrap) = write_done verb vic.Write write (λ y. refl) counted (λ n bytes. (bytes, refl))
  by_verb writing verb (inr zero, counted, wrap) = write_done verb vic.Zero zero (λ y. refl) counted (λ n bytes. (replicate 512 0, refl))
  by_verb syncing verb does = sync_done verb does

  -- a descriptor of the log moves
  pub phase_done : Result
  phase_done = by_verb p.verb refl job.its.does
