-- An open log runs on when its card moves.
use Rattle.std.proofs.Common.{◌≡◌, ℕ, zero, suc, ◌+◌, ◌-◌, ◌<◌, Bool, true, false, not, List, [], ◌∷◌, ◌++◌, length, map, drop, Some, refl, sym, ap, ◌∙◌, subst, arith, if◌then◌else◌}
use Rattle.std.specs.Prelude.{slice_get}
use Rattle.std.proofs.Math.Path.{transport}
use Rattle.ark_base.specs.declared.kind.Outcome.{Outcome}
use Rattle.ark_base.specs.declared.kind.Outcome.TheVariants as outcome
use Rattle.ark_media.specs.Journal.{Event, History}
use Rattle.ark_media.specs.Calls.{Comes}
use Rattle.ark_media.specs.Standing.{after}
use Rattle.ark_region.specs.Frames.{Space}
use Rattle.ark_vic.specs.Queue.{Queue, completion_of, finished}
use Rattle.ark_vic.specs.declared.descriptor.Descriptor.{Descriptor}
use Rattle.ark_entry.specs.Entry.{entry_blocks}
use Rattle.ark_entry.specs.Found.{Entries}
use Rattle.ark_caladan.specs.Chain as log
use Rattle.ark_caladan.specs.Chain.{Log, Opened, commands, entries}
use Rattle.ark_caladan.specs.Listed.{AreFull, IsListed}
use Rattle.ark_caladan.specs.Open.{Layout}
use Rattle.ark_caladan.specs.Plans.{phase_of}
use Rattle.ark_caladan.specs.Postings.{HoldEntries, place_behind}
use Rattle.ark_caladan.specs.Stages as stages
use Rattle.ark_caladan.specs.Stages.{call_of, event_took, took_by}
use Rattle.ark_caladan.specs.Standing.{LogStands, OpenStands, Proceeds, Progress, after_event, makes_calls, stage_at}
use Rattle.ark_caladan.specs.Standing as standing
use Rattle.ark_caladan.proofs.Listing.{full_kept}
use Rattle.ark_caladan.proofs.Standing as standing_proofs
use Rattle.ark_log.specs.declared.command.Command.{Command}
use Rattle.ark_log.specs.declared.command.Command.TheVariants.{Append, Trim, Pop}
use Rattle.ark_log.specs.declared.command.Waiting.{Waiting}
use Rattle.ark_log.specs.declared.stage.Stage.{Stage}
use Rattle.ark_log.specs.declared.stage.Stage.TheVariants as stage
use Rattle.ark_log.specs.Open.{OpenChain}
use Rattle.ark_log.specs.Stages.{posting_of, stage_with, stages_of}
use Rattle.ark_log.specs.Stands.{stage_does}
use Rattle.ark_running.specs.Accepted.{with_opened}
use Rattle.ark_running.specs.Buffers.{HasReadFor, blocks_read, entry_bytes_in, pieces_of}
use Rattle.ark_running.specs.Moving.{decided_by}
use Rattle.ark_running.specs.Ringed.{IsRingBy, IsRingOf, IsUnderWay, is_well, progress_by, progress_of}
use Rattle.ark_running.specs.Running.{HasEntries, HasReadSoFar, IsOpenFor, IsRunning}
use Rattle.ark_running.proofs.Framing.{lies_same, running_listed}
use Rattle.ark_running.proofs.Having.{has_failed, has_proceeding}
use Rattle.ark_running.proofs.Own as own
use Rattle.ark_running.proofs.Own.{IsOwn}
use Rattle.ark_running.proofs.Posts.{where_any}
use Rattle.ark_running.proofs.Touched.{IsTouched, kept}
use Rattle.ark_running.proofs.Like.{some_same}

-- whether the write that decides was made, by the phase of its stage
took_is : (was : Bool) (s : stages.Stage) (e : Event) → took_by was s e ≡ (if (phase_of s).decides then event_took e else was)
took_is was (stages.reads places) e = refl
took_is was (stages.writes b places) e = refl
took_is was (stages.decides b p) e = refl
took_is was stages.syncs e = refl

module _ (h : History) (blocks : List ℕ) (old : Space) (ring : Queue) (v0 : OpenChain) (w : Waiting) (ws : List Waiting) (p : Layout) (g : Log) (o0 : Opened) (m : log.Waiting) (ms : List log.Waiting) where
  abbrev v : OpenChain
  v = record v0 { waiting = w ∷ ws }

  abbrev o : Opened
  o = record o0 { waiting = m ∷ ms }

  abbrev l : Entries
  l = entries g.list

  abbrev decided : Bool → Opened
  decided b = record o { decided = b }

  module _ (runs : IsRunning h blocks old ring v p g o) where
    open_decided : (b : Bool) → IsOpenFor v p (with_opened g (decided b)) (decided b)
    open_decided b = record {
      right = runs.is.right;
      kind = runs.is.kind;
      room = runs.is.room;
      opened = refl;
      list = runs.is.list;
      stands = runs.is.stands;
      can = runs.is.can;
      lengths = runs.is.lengths;
      start = runs.is.start;
      done = runs.is.done;
      failed = runs.is.failed;
      header = runs.is.header;
      rooms = runs.is.rooms;
      trims = runs.is.trims;
    }

    -- what it takes to run on
    runs_on : (es : List Event) (b : Bool) (ring2 : Queue) (new : Space) → new.taken ≡ old.taken → HoldEntries v0.room (place_behind p.says l) v0.done (commands o) (map (entry_bytes_in new) (w ∷ ws)) → AreFull (after h es) blocks
        → LogStands (after h es) blocks (with_opened g (decided b)) p (progress_of ring2) → HasEntries g.kind (g.blocks - 1) (after h es) blocks p l (commands o) → IsRingOf v new ring2 → HasReadSoFar new v p (decided b) (progress_of ring2) → IsRunning (after h es) blocks new ring2 v p (with_opened g (decided b)) (decided b)
    runs_on es b ring2 new taken hold full area has ringed read = record {
      is = open_decided b;
      size = runs.size;
      on_disk = runs.on_disk;
      full = full;
      area = area;
      has = has;
      ring = ringed;
      buffers = record {
        lies = lies_same old.taken new.taken (pieces_of v) (ap length taken) runs.buffers.lies;
        apart = runs.buffers.apart;
        hold = hold;
      };
      read = read;
    }

    -- nothing was done
    pub held : IsRunning (after h []) blocks old ring v p (with_opened g o) o
    held = subst (λ y. IsRunning h blocks old ring v p y o) (λ i. record g { opened = runs.is.opened i }) runs

    module _ (d : Descriptor) (s : Stage) (is : IsOwn h blocks old ring v0 w ws p g o0 m ms runs d s) where
      way : IsUnderWay v s d.buf
      way = record { some = omega arith; is = is.at; going = is.going; its = is.its; whole = is.whole }

      goes : Proceeds h blocks g o p (standing.posted ring.moved)
      goes = own.goes h blocks old ring v0 w ws p g o0 m ms runs d s is

      -- the ring with its completion alone
      completed : Outcome → Queue
      completed x = finished ring d x 0

      ring_done : (x : Outcome) → finished ring d x 0 ≡ record { posted = []; unreaped = completion_of d x 0 ∷ []; moved = 0; size = ring.size }
      ring_done x = λ i. record { posted = drop 1 (is.posted i); unreaped = is.none i ++ completion_of d x 0 ∷ []; moved = 0; size = ring.size }

      progress_done : (x : Outcome) (b : Bool) → is_well x ≡ b → progress_of (finished ring d x 0) ≡ standing.ended b
      progress_done x b well = ap progress_of (ring_done x) ∙ ap standing.ended well

      ringed_done : (x : Outcome) (new : Space) → IsRingOf v new (finished ring d x 0)
      ringed_done x new = subst (IsRingOf v new) (sym (ring_done x)) (refl, (s, way))

      -- it ended badly
      pub ends_badly : (es : List Event) (b : Bool) (x : Outcome) (new : Space) → is_well x ≡ false → IsTouched h blocks old ring v0 w ws p g o0 m ms runs d s is new false → AreFull (after h es) blocks → IsListed (after h es) blocks (with_opened g (decided b)) → HasEntries g.kind (g.blocks - 1) (after h es) blocks p l (commands o)
          → IsRunning (after h es) blocks new (finished ring d x 0) v p (with_opened g (decided b)) (decided b)
      ends_badly es b x new bad touched full listed has = runs_on es b (finished ring d x 0) new touched.taken touched.hold full
          (subst (λ q. LogStands (after h es) blocks (with_opened g (decided b)) p q) (sym (progress_done x false bad)) listed) has (ringed_done x new) (subst (λ q. HasReadSoFar new v p (decided b) q) (sym (progress_done x false bad)) tt)

      -- Its call was made, or not.
      module _ (new : Space) (ok : Bool) (e : Event) (touched : IsTouched h blocks old ring v0 w ws p g o0 m ms runs d s is new ok) (came : Comes (call_of blocks (stage_at g o p) ring.moved) ok e) where
        full_after : AreFull (after h (e ∷ [])) blocks
        full_after = full_kept h blocks runs.on_disk (call_of blocks (stage_at g o p) ring.moved) ok e (own.full h blocks old ring v0 w ws p g o0 m ms runs d s is) came runs.full

        same_event : after_event o (stage_at g o p) e ≡ decided_by s e o
        same_event = λ i. record o { decided = (took_is o0.decided (stage_at g o p) e ∙ ap (λ (x : log.Phase). if x.decides then event_took e else o0.decided) (own.phase_is h blocks old ring v0 w ws p g o0 m ms runs d s is)) i }

        abbrev b2 : Bool
        b2 = if (stage_does s).1 then event_took e else o0.decided

        makes : makes_calls (decided b2) (standing.posted 0) ≡ true
        makes = ap not (sym runs.is.failed ∙ is.going)

        next_less : ring.moved < stages.calls_of (stage_at g o p)
        next_less = let many = own.calls_are h blocks old ring v0 w ws p g o0 m ms runs d s is in omega (arith, many, is.less)

        proceeds : ok ≡ true → (further : Progress) → standing.calls_made (stage_at g o p) further ≡ suc ring.moved → Proceeds (after h (e ∷ [])) blocks (with_opened g (decided b2)) (decided b2) p further
        proceeds good further next =
            subst (λ y. Proceeds (after h (e ∷ [])) blocks (with_opened g y) y p further) same_event
            (standing_proofs.call_made blocks g p h o (standing.posted ring.moved) goes (omega arith) e further next_less next (subst (λ t. Comes (call_of blocks (stage_at g o p) ring.moved) t e) good came))

        one_more : ring.moved + 1 ≡ suc ring.moved
        one_more = omega arith

        -- it makes calls, as far as its ring says now
        goes_on : (good : ok ≡ true) (ring2 : Queue) (further : Progress) → progress_of ring2 ≡ further → standing.calls_made (stage_at g o p) further ≡ suc ring.moved → makes_calls (decided b2) further ≡ true → IsRingOf v new ring2
            → HasReadFor w.command p.stored (blocks_read v0.done (entry_blocks w.len) further) (entry_bytes_in new w) → IsRunning (after h (e ∷ [])) blocks new ring2 v p (with_opened g (decided b2)) (decided b2)
        goes_on good ring2 further far next calls ringed read = runs_on (e ∷ []) b2 ring2 new touched.taken touched.hold full_after
            (subst (λ q. LogStands (after h (e ∷ [])) blocks (with_opened g (decided b2)) p q) (sym far) (subst (λ t. OpenStands t (after h (e ∷ [])) blocks (with_opened g (decided b2)) (decided b2) p further) (sym calls) (proceeds good further next)))
            (has_proceeding (after h (e ∷ [])) blocks p (with_opened g (decided b2)) (decided b2) further (proceeds good further next)) ringed
            (subst (λ q. HasReadSoFar new v p (decided b2) q) (sym far) (where_any (makes_calls (decided b2) further) (HasReadFor w.command p.stored (blocks_read v0.done (entry_blocks w.len) further) (entry_bytes_in new w)) read))

        -- another block is due
        pub moves_on : ok ≡ true → ring.moved + 1 < d.count → IsRunning (after h (e ∷ [])) blocks new (record ring { moved = ring.moved + 1 }) v p (with_opened g (decided_by s e o)) (decided_by s e o)
        moves_on good more = goes_on good (record ring { moved = ring.moved + 1 }) (standing.posted (ring.moved + 1)) (λ i. progress_by (is.posted i) (is.none i) (ring.moved + 1)) one_more makes
            (transport (λ i. IsRingBy v new (ring.moved + 1) (sym is.posted i) (sym is.none i)) (s, d.buf, record { way = way; its = is.is; header = touched.header; more = more }))
            (subst (λ n. HasReadFor w.command p.stored (blocks_read v0.done (entry_blocks w.len) (standing.posted n)) (entry_bytes_in new w)) (sym one_more) (touched.read good))

        -- it was the last
        pub ends_well : ok ≡ true → ring.moved + 1 ≡ d.count → IsRunning (after h (e ∷ [])) blocks new (finished ring d outcome.Ok 0) v p (with_opened g (decided_by s e o)) (decided_by s e o)
        ends_well good last =
            let many = own.calls_are h blocks old ring v0 w ws p g o0 m ms runs d s is in
            goes_on good (finished ring d outcome.Ok 0) (standing.ended true) (progress_done outcome.Ok true refl) (omega (arith, many, last)) makes (ringed_done outcome.Ok new) (all_read w.command v0.done is.at (touched.read good))
          where
            all_read : (x : Command) (i : ℕ) → slice_get (stages_of x) i ≡ Some s → HasReadFor x p.stored (blocks_read i (entry_blocks w.len) (standing.posted (suc ring.moved))) (entry_bytes_in new w)
                → HasReadFor x p.stored (blocks_read i (entry_blocks w.len) (standing.ended true)) (entry_bytes_in new w)
            all_read (Append n) i at read = tt
            all_read (Trim n) i at read = tt
            all_read (Pop n) (suc i) at read = read
            all_read (Pop n) zero at read =
                let load : d ≡ posting_of (stage_with v stage.Load d.buf) stage.Load = subst (λ t. d ≡ posting_of (stage_with v t d.buf) t) (sym (some_same stage.Load s at)) is.is in
                let count : suc ring.moved ≡ entry_blocks w.len = let whole = ap (λ (x : Descriptor). x.count) load in omega (arith, last, whole) in
                subst (λ k. HasReadFor (Pop n) p.stored k (entry_bytes_in new w)) count read

        -- it failed
        pub call_fails : ok ≡ false → (x : Outcome) → is_well x ≡ false → IsRunning (after h (e ∷ [])) blocks new (finished ring d x 0) v p (with_opened g (decided_by s e o)) (decided_by s e o)
        call_fails bad x unwell =
            ends_badly (e ∷ []) b2 x new unwell (subst (λ t. IsTouched h blocks old ring v0 w ws p g o0 m ms runs d s is new t) bad touched) full_after
            (subst (λ y. IsListed (after h (e ∷ [])) blocks (with_opened g y)) same_event
            (standing_proofs.call_failed blocks g p h o (standing.posted ring.moved) goes (omega arith) e full_after next_less (subst (λ t. Comes (call_of blocks (stage_at g o p) ring.moved) t e) bad came)))
            (has_failed h blocks p g o (standing.posted ring.moved) goes (omega arith) e next_less (subst (λ t. Comes (call_of blocks (stage_at g o p) ring.moved) t e) bad came))

      -- it ended without a call
      pub ends_uncalled : (x : Outcome) → is_well x ≡ false → IsRunning (after h []) blocks old (finished ring d x 0) v p (with_opened g o) o
      ends_uncalled x unwell = ends_badly [] o0.decided x old unwell (kept h blocks old ring v0 w ws p g o0 m ms runs d s is old false refl (λ load good. absurd (cc (good)))) runs.full
          (subst (λ y. IsListed h blocks y) (λ i. record g { opened = runs.is.opened i }) (running_listed h blocks old ring v p g o runs)) runs.has
