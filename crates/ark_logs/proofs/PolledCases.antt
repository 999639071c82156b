-- What labels stand for once a log was polled.
use Rattle.std.proofs.Common.{◌≡◌, inl, inr, ℕ, ◌<◌, ◌≤◌, Bool, false, List, [], ◌∷◌, length, refl, sym, ◌∙◌, ap, subst, arith}
use Rattle.std.specs.Prelude.{Option, Some, slice_get, slice_index_or}
use Rattle.std.specs.List.{AllByRecursion}
use Rattle.ark_base.specs.declared.kind.Outcome.{Outcome}
use Rattle.ark_region.specs.Frames.{Apart, Piece}
use Rattle.ark_vic.specs.declared.descriptor.Completion.{Completion}
use Rattle.ark_vic.specs.declared.descriptor.Descriptor.{Descriptor}
use Rattle.ark_caladan.specs.Chain as log
use Rattle.ark_caladan.specs.Chain.{Log, Opened, entries, phases_of}
use Rattle.ark_log.specs.declared.polling.Polled.{Polled}
use Rattle.ark_log.specs.declared.stage.Stage.{Stage}
use Rattle.ark_log.specs.declared.stage.Stage.TheVariants.{Load, Draft, Mark, Header, Clear, Flush}
use Rattle.ark_log.specs.Open.{OpenChain}
use Rattle.ark_log.specs.Polled.{Around as Polling}
use Rattle.ark_log.specs.Stages.{posting_of, stage_with}
use Rattle.ark_log.specs.Stands.{stage_does}
use Rattle.ark_running.specs.Accepted.{with_opened}
use Rattle.ark_running.specs.Phases.{IsPhaseUnderWay, phase_by}
use Rattle.ark_running.specs.Buffers.{pieces_of}
use Rattle.ark_running.specs.Running.{IsRunning}
use Rattle.ark_running.proofs.Beside.{PollLeaves, polled_leaves}
use Rattle.ark_running.proofs.Phased.{posted_phase}
use Rattle.ark_machine.specs.Objects
use Rattle.ark_machine.specs.Objects.{Job, Object, Vsic, no_queue, opened_frames, transfer, flush, phase}
use Rattle.ark_machine.specs.Machine.{with_object}
use Rattle.ark_held.specs.Totals.{bit, covers, object_covers, total}
use Rattle.ark_held.specs.Around.{Around, Each}
use Rattle.ark_held.specs.Cards.{DoesPhase, IsEnded, IsJob, IsPhaseJob, IsPhaseOf}
use Rattle.ark_held.specs.Held.{Holds}
use Rattle.ark_held.specs.Polling.{HasPolledOn}
use Rattle.ark_held.specs.Beyond.{Beyond, around}
use Rattle.ark_held.specs.declared.app.App.{App}
use Rattle.ark_held.proofs.Besides.{same_history}
use Rattle.ark_held.proofs.Covering.{Spares, most_covered}
use Rattle.ark_held.proofs.LogFrames.{spared}
use Rattle.ark_held.proofs.Logged.{IsItsFrame, Reaches}
use Rattle.ark_logs.specs.declared.finding.OpenAt.{OpenAt}
use Rattle.ark_logs.proofs.OfLogs.{FoundOpen}
use Rattle.ark_logs.proofs.PolledHolds.{goes_on_holds, taken_at}

-- what the descriptor of a stage does
stage_phase : (v : OpenChain) (s : Stage) → DoesPhase (stage_does s).0 (posting_of v s).count (posting_of v s)
stage_phase v Load = (refl, refl, refl)
stage_phase v Draft = (inl refl, refl, refl)
stage_phase v Mark = (inl refl, refl, refl)
stage_phase v Header = (inl refl, refl, refl)
stage_phase v Clear = (inr refl, refl, refl)
stage_phase v Flush = refl

grant_of : (v : OpenChain) (s : Stage) → (posting_of v s).grant ≡ v.grant
grant_of v Load = refl
grant_of v Draft = refl
grant_of v Mark = refl
grant_of v Header = refl
grant_of v Clear = refl
grant_of v Flush = refl

grant_with : (v : OpenChain) (t : Stage) (buf : Option Piece) → (stage_with v t buf).grant ≡ v.grant
grant_with v Load buf = refl
grant_with v Draft buf = refl
grant_with v Mark buf = refl
grant_with v Header buf = refl
grant_with v Clear buf = refl
grant_with v Flush buf = refl

-- the descriptor of the phase under way stands for that
pub posted_for : (v : OpenChain) (phases : List log.Phase) (done : ℕ) (d : Descriptor) → 0 < length v.waiting → (way : IsPhaseUnderWay v phases done d) → IsPhaseOf v (phase_by way.stage d.count) d
posted_for v phases done d some way = record {
  grant = sym (ap (λ (z : Descriptor). z.grant) way.its ∙ grant_of (stage_with v way.stage d.buf) way.stage ∙ grant_with v way.stage d.buf);
  waits = some;
  does = subst (λ (z : Descriptor). DoesPhase (stage_does way.stage).0 z.count z) (sym way.its) (stage_phase (stage_with v way.stage d.buf) way.stage);
  stage = way.stage;
  under_way = way.is;
  decides = refl;
}

-- phases of a log stand for what they stood for
pub each_phase : (x y : Around) (v : OpenChain) (ds : List Descriptor) (js : List Job) → AllByRecursion IsPhaseJob js → Each (IsJob x (Some v)) ds js → Each (IsJob y (Some v)) ds js
each_phase x y v [] [] all each = tt
each_phase x y v (d ∷ ds) (phase p ∷ js) all each = (each.0, each_phase x y v ds js all.1 each.1)
each_phase x y v (d ∷ ds) (transfer t ∷ js) all each = absurd all.0
each_phase x y v (d ∷ ds) (flush ∷ js) all each = absurd all.0
each_phase x y v [] (j ∷ js) all each = absurd each
each_phase x y v (d ∷ ds) [] all each = absurd each

pub each_ended : (x y : Around) (v : OpenChain) (us : List Completion) (es : List (Job × Outcome)) → AllByRecursion (λ u. IsPhaseJob u.0) es → Each (IsEnded x (Some v)) us es → Each (IsEnded y (Some v)) us es
each_ended x y v [] [] all each = tt
each_ended x y v (u ∷ us) ((phase p, o) ∷ es) all each = (each.0, each_ended x y v us es all.1 each.1)
each_ended x y v (u ∷ us) ((transfer t, o) ∷ es) all each = absurd all.0
each_ended x y v (u ∷ us) ((flush, o) ∷ es) all each = absurd all.0
each_ended x y v [] (e ∷ es) all each = absurd each
each_ended x y v (u ∷ us) [] all each = absurd each

module _ (r : Beyond) (app : App) (s : List ℕ) (a : OpenAt) (h : Holds (around r app)) (f : FoundOpen (around r app) app.devices.cards s a) where
  abbrev x : Around
  x = around r app

  -- its own frames
  abbrev pub touched : ℕ → Type 0
  touched j = object_covers j (Objects.log f.both.log) ≡ 1

  pub own_frames : (j : ℕ) → touched j → IsItsFrame app f.both.log j
  own_frames j one = inr one

  apart : (p : Piece) → Spares touched p → AllByRecursion (λ b. Apart b p) (pieces_of f.chain)
  apart p spares = spared r.history f.both.log_fits.slot.blocks app.store.region f.one.vsic.ring f.chain f.lies f.both.log f.opened f.runs (λ j. subst (λ (z : Object). object_covers j z ≤ 1) f.both.object_log (most_covered x h s f.both.held_log f.both.there_log j)) p spares

  -- where its frames stay
  same_covers : (o1 : Opened) (log1 : Log) → log1.opened ≡ Some o1 → o1.header_frame ≡ f.opened.header_frame → o1.waiting ≡ f.opened.waiting → (j : ℕ) → object_covers j (Objects.log log1) ≡ object_covers j (Objects.log f.both.log)
  same_covers o1 log1 is header waiting j =
      ap (λ (o : Option Opened). total (λ f. bit (covers j f)) (opened_frames o)) is
      ∙ (λ i. total (λ f. bit (covers j f)) (opened_frames (Some (record f.opened { header_frame = header i; waiting = waiting i }))))
      ∙ sym (ap (λ (o : Option Opened). total (λ f. bit (covers j f)) (opened_frames o)) f.is_open)

  module _ (app1 : App) (given out : List ℕ) (result : Polled) (q : HasPolledOn app.devices.cards app1.devices.cards a.key f.one f.chain app.store.region app1.store.region given out result)
      (frames : length app1.store.region.taken ≡ length app.store.region.taken) (buffers : app1.store.buffers ≡ app.store.buffers) (labels : app1.labels ≡ app.labels) (areas : app1.areas ≡ app.areas)
      (doors : app1.devices.doors ≡ app.devices.doors) (rates : app1.devices.rates ≡ app.devices.rates) (nets : app1.devices.nets ≡ app.devices.nets) where
    abbrev pub old : Polling
    old = record { chain = f.chain; ring = f.one.vsic.ring; space = app.store.region; out = given }

    abbrev pub new : Polling
    new = record { chain = q.log; ring = q.ring; space = app1.store.region; out = out }

    leaves : PollLeaves f.chain app.store.region app1.store.region result
    leaves = polled_leaves r.history f.both.log_fits.slot.blocks f.lies f.both.log f.opened old new result f.runs q.polled

    pub reaches : Reaches r app app1 s r.history touched
    reaches = record {
      buffers = buffers;
      labels = labels;
      areas = areas;
      doors = doors;
      rates = rates;
      nets = nets;
      base = refl;
      beside = λ l t is there. same_history r.history t.blocks;
      frames = frames;
      bytes = λ p spares. leaves.beside p (apart p spares);
    }

    -- The descriptor of a phase is posted, and nothing else is in the ring.
    module _ (o1 : Opened) (m : log.Waiting) (ms : List log.Waiting) (d : Descriptor) (runs : IsRunning r.history f.both.log_fits.slot.blocks app1.store.region q.ring q.log f.lies (with_opened f.both.log o1) o1)
        (posted : q.ring.posted ≡ d ∷ []) (unreaped : q.ring.unreaped ≡ []) (none_moved : q.ring.moved ≡ 0) (waits : o1.waiting ≡ m ∷ ms) (on : o1.card ≡ f.opened.card) (header : o1.header_frame ≡ f.opened.header_frame) (waiting : o1.waiting ≡ f.opened.waiting)
        (grant : q.log.grant ≡ f.chain.grant) (size : q.ring.size ≡ f.one.vsic.ring.size) (some : 0 < length q.log.waiting) (same : app1.store.region.taken ≡ app.store.region.taken) where
      pub way : IsPhaseUnderWay q.log (phases_of (entries f.both.log.list) m.command) o1.done d
      way = posted_phase r.history f.both.log_fits.slot.blocks app1.store.region q.ring q.log f.lies (with_opened f.both.log o1) o1 m ms runs waits d (ap (λ ds. slice_get ds 0) posted)

      abbrev pub the_phase : log.Phase
      the_phase = phase_by way.stage d.count

      abbrev pub queue_then : Objects.Queue Job (Job × Outcome)
      queue_then = record { posted = phase the_phase ∷ []; moved = 0; unreaped = [] }

      pub posted_holds : Holds (around (record r { machine = with_object (with_object r.machine s (Objects.log (with_opened f.both.log o1))) f.v (Objects.vsic (record f.both.vsic { queue = queue_then })) }) app1)
      posted_holds = goes_on_holds r app s a h f app1 q.ring q.log f.lies (with_opened f.both.log o1) o1 queue_then touched reaches own_frames q.card runs grant refl refl on size
          (λ y. subst (λ ds. Each (IsJob y (Some q.log)) ds (phase the_phase ∷ [])) (sym posted) (posted_for q.log (phases_of (entries f.both.log.list) m.command) o1.done d some way, tt))
          (λ y. subst (λ us. Each (IsEnded y (Some q.log)) us []) (sym unreaped) tt) (sym none_moved) ((tt, tt), tt)
          (λ j.
          let more = same_covers o1 (with_opened f.both.log o1) refl header waiting j in
          let taken : taken_at r app s a h f app1 j ≡ taken_at r app s a h f app j = ap (λ (ts : List Bool). bit (slice_index_or ts j false)) same in
          omega (arith, more, taken))

    -- It has failed, and nothing is in the ring.
    module _ (o1 : Opened) (runs : IsRunning r.history f.both.log_fits.slot.blocks app1.store.region q.ring q.log f.lies (with_opened f.both.log o1) o1)
        (posted : q.ring.posted ≡ []) (unreaped : q.ring.unreaped ≡ []) (none_moved : q.ring.moved ≡ 0) (on : o1.card ≡ f.opened.card) (header : o1.header_frame ≡ f.opened.header_frame) (waiting : o1.waiting ≡ f.opened.waiting)
        (grant : q.log.grant ≡ f.chain.grant) (size : q.ring.size ≡ f.one.vsic.ring.size) (same : app1.store.region.taken ≡ app.store.region.taken) where
      pub failed_holds : Holds (around (record r { machine = with_object (with_object r.machine s (Objects.log (with_opened f.both.log o1))) f.v (Objects.vsic (record f.both.vsic { queue = no_queue })) }) app1)
      failed_holds = goes_on_holds r app s a h f app1 q.ring q.log f.lies (with_opened f.both.log o1) o1 no_queue touched reaches own_frames q.card runs grant refl refl on size
          (λ y. subst (λ ds. Each (IsJob y (Some q.log)) ds []) (sym posted) tt)
          (λ y. subst (λ us. Each (IsEnded y (Some q.log)) us []) (sym unreaped) tt) (sym none_moved) (tt, tt)
          (λ j.
          let more = same_covers o1 (with_opened f.both.log o1) refl header waiting j in
          let taken : taken_at r app s a h f app1 j ≡ taken_at r app s a h f app j = ap (λ (ts : List Bool). bit (slice_index_or ts j false)) same in
          omega (arith, more, taken))
