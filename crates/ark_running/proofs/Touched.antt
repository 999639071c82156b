-- What a block that was tried leaves in the buffers of an open log.
use Rattle.std.proofs.Common.{◌≡◌, ℕ, zero, suc, ◌+◌, ◌-◌, ◌*◌, ◌<◌, Bool, true, false, not, List, [], ◌∷◌, ◌++◌, length, map, get_or, Option, Some, None, refl, sym, ap, ◌∙◌, subst, arith}
use Rattle.std.specs.Prelude.{MatchOption, flat_map, slice_get}
use Rattle.std.specs.List.{AllByRecursion}
use Rattle.std.proofs.Math.Path.{transport}
use Rattle.ark_media.specs.Journal.{Event, History, Read, block, current}
use Rattle.ark_media.specs.Calls.{Comes, Reads}
use Rattle.ark_media.specs.Standing.{after}
use Rattle.ark_region.specs.Frames.{Apart, Piece, ShareNoFrame, Space, bytes_of}
use Rattle.ark_vic.specs.Queue.{Queue}
use Rattle.ark_vic.specs.declared.descriptor.Descriptor.{Descriptor}
use Rattle.ark_vic.specs.declared.descriptor.Job.{Job}
use Rattle.ark_vic.specs.declared.descriptor.Job.TheVariants as job
use Rattle.ark_vsic.specs.Moves.{Got, LeavesBlock, buffered, call_by}
use Rattle.ark_entry.specs.Entry.{entry_blocks}
use Rattle.ark_entry.specs.Found.{Entries}
use Rattle.ark_entry.specs.Writing.{at}
use Rattle.ark_caladan.specs.Chain as log
use Rattle.ark_caladan.specs.Chain.{Log, Opened, commands, entries}
use Rattle.ark_caladan.specs.Leaves.{freed_by}
use Rattle.ark_caladan.specs.Open.{IsOpenWith, Layout}
use Rattle.ark_caladan.specs.Plans as plans
use Rattle.ark_caladan.specs.Plans.{added_by, ring_place}
use Rattle.ark_caladan.specs.Postings.{HasRead, HoldEntries, HoldsEntry, flushes, place_behind, postings_of, walked}
use Rattle.ark_caladan.specs.Stages.{calls_of, syncs}
use Rattle.ark_caladan.specs.Standing.{calls_made, makes_calls, stage_at}
use Rattle.ark_caladan.specs.Standing as standing
use Rattle.ark_caladan.proofs.Posting.{ring_walks}
use Rattle.ark_caladan.proofs.Viewed.{length-ring_places}
use Rattle.ark_log.specs.declared.command.Command.{Command}
use Rattle.ark_log.specs.declared.command.Command.TheVariants.{Append, Trim, Pop}
use Rattle.ark_log.specs.declared.command.Waiting.{Waiting}
use Rattle.ark_log.specs.declared.stage.Stage.{Stage}
use Rattle.ark_log.specs.declared.stage.Stage.TheVariants.{Load, Draft, Mark, Header, Clear, Flush}
use Rattle.ark_log.specs.Open.{OpenChain}
use Rattle.ark_log.specs.Stages.{IsOfStage, IsWhole, posting_of, stage_with, stages_of}
use Rattle.ark_log.specs.Stands.{IsCommand}
use Rattle.ark_running.specs.Buffers.{HasReadFor, blocks_read, buffers_by, buffers_of, bytes_in, entry_bytes_in, pieces_of}
use Rattle.ark_running.specs.Ringed.{HasHeaderFor, progress_by}
use Rattle.ark_running.specs.Running.{HasReadSoFar, IsRunning, Where}
use Rattle.ark_running.proofs.Bounds.{entry_there, its_entry}
use Rattle.ark_running.proofs.Framing.{Stays, entries_same, entry_piece}
use Rattle.ark_running.proofs.Own as own
use Rattle.ark_running.proofs.Own.{IsOwn}
use Rattle.ark_running.proofs.Popping as popping
use Rattle.ark_running.proofs.Prepared.{apart_each, wrote_stay}
use Rattle.ark_running.proofs.Calling.{Describes}
use Rattle.ark_running.proofs.Like.{some_same}

-- only the first stage of a pop reads
is_pop : (c : Command) (done : ℕ) → slice_get (stages_of c) done ≡ Some Load → (n : ℕ) × (c ≡ Pop n) × (done ≡ 0)
is_pop (Append n) zero at = absurd (cc (at))
is_pop (Append n) (suc zero) at = absurd (cc (at))
is_pop (Append n) (suc (suc zero)) at = absurd (cc (at))
is_pop (Append n) (suc (suc (suc zero))) at = absurd (cc (at))
is_pop (Append n) (suc (suc (suc (suc k)))) at = absurd (cc (at))
is_pop (Trim n) zero at = absurd (cc (at))
is_pop (Trim n) (suc zero) at = absurd (cc (at))
is_pop (Trim n) (suc (suc zero)) at = absurd (cc (at))
is_pop (Trim n) (suc (suc (suc zero))) at = absurd (cc (at))
is_pop (Trim n) (suc (suc (suc (suc k)))) at = absurd (cc (at))
is_pop (Pop n) zero at = (n, refl, refl)
is_pop (Pop n) (suc zero) at = absurd (cc (at))
is_pop (Pop n) (suc (suc zero)) at = absurd (cc (at))
is_pop (Pop n) (suc (suc (suc zero))) at = absurd (cc (at))
is_pop (Pop n) (suc (suc (suc (suc zero)))) at = absurd (cc (at))
is_pop (Pop n) (suc (suc (suc (suc (suc k))))) at = absurd (cc (at))

pops : (n : ℕ) (c : log.Command) → IsCommand (Pop n) c → (k : ℕ) × (c ≡ log.pop k)
pops n (log.append m payload) is = absurd is
pops n (log.trim m) is = absurd is
pops n (log.pop m) is = (m, refl)

abbrev job_of : Stage → Job
job_of Load = job.Read
job_of Draft = job.Write
job_of Mark = job.Write
job_of Header = job.Write
job_of Clear = job.Zero
job_of Flush = job.Sync

job_is : (v : OpenChain) (s : Stage) (buf : Option Piece) → (posting_of (stage_with v s buf) s).job ≡ job_of s
job_is v Load buf = refl
job_is v Draft buf = refl
job_is v Mark buf = refl
job_is v Header buf = refl
job_is v Clear buf = refl
job_is v Flush buf = refl

module _ (h : History) (blocks : List ℕ) (old : Space) (ring : Queue) (v0 : OpenChain) (w : Waiting) (ws : List Waiting) (p : Layout) (g : Log) (o0 : Opened) (m : log.Waiting) (ms : List log.Waiting) where
  abbrev v : OpenChain
  v = record v0 { waiting = w ∷ ws }

  abbrev o : Opened
  o = record o0 { waiting = m ∷ ms }

  abbrev l : Entries
  l = entries g.list

  abbrev cs : List log.Command
  cs = map (λ (x : log.Waiting). x.command) ms

  module _ (runs : IsRunning h blocks old ring v p g o) (d : Descriptor) (s : Stage) (is : IsOwn h blocks old ring v0 w ws p g o0 m ms runs d s) where
    -- so many blocks are read where the call succeeded; all else stays
    pub record IsTouched (new : Space) (ok : Bool) : Type 0 where
      pub taken : new.taken ≡ old.taken
      pub header : HasHeaderFor s v new
      pub hold : HoldEntries v0.room (place_behind p.says l) v0.done (commands o) (map (entry_bytes_in new) (w ∷ ws))
      pub read : ok ≡ true → HasReadFor w.command p.stored (blocks_read v0.done (entry_blocks w.len) (standing.posted (suc ring.moved))) (entry_bytes_in new w)
      pub beside : (b : Piece) → AllByRecursion (λ a. Apart a b) (pieces_of v) → bytes_of new b ≡ bytes_of old b

    so_far : HasReadFor w.command p.stored (blocks_read v0.done (entry_blocks w.len) (standing.posted ring.moved)) (entry_bytes_in old w)
    so_far =
        subst (λ t. Where t (HasReadFor w.command p.stored (blocks_read v0.done (entry_blocks w.len) (standing.posted ring.moved)) (entry_bytes_in old w))) (ap not (sym runs.is.failed ∙ is.going))
        (subst (λ q. HasReadSoFar old v p o q) (λ i. progress_by (is.posted i) (is.none i) ring.moved) runs.read)

    -- the memory is as it was, and nothing was read
    pub kept : (new : Space) (ok : Bool) → new ≡ old → (s ≡ Load → ok ≡ true → ⊥) → IsTouched new ok
    kept new ok same none = subst (λ (n : Space). IsTouched n ok) (sym same) (record {
      taken = refl;
      header = is.header;
      hold = runs.buffers.hold;
      read = λ good. by w.command v0.done is.at good so_far;
      beside = λ b apart. refl;
    })
      where
        by : (x : Command) (i : ℕ) → slice_get (stages_of x) i ≡ Some s → ok ≡ true → HasReadFor x p.stored (blocks_read i (entry_blocks w.len) (standing.posted ring.moved)) (entry_bytes_in old w)
            → HasReadFor x p.stored (blocks_read i (entry_blocks w.len) (standing.posted (suc ring.moved))) (entry_bytes_in old w)
        by (Append n) i at good read = tt
        by (Trim n) i at good read = tt
        by (Pop n) zero at good read = absurd (none (sym (some_same Load s at)) good)
        by (Pop n) (suc i) at good read = read

    -- A block was read.
    module _ (reads : s ≡ Load) (new : Space) (ok : Bool) (n : ℕ) (then : History) (taken : new.taken ≡ old.taken) (got : MatchOption d.buf ⊥ (λ b. Got (Some then) n b (d.from + 512 * ring.moved) old new)) where
      first : slice_get (stages_of w.command) v0.done ≡ Some Load
      first = is.at ∙ ap Some reads

      its_pop : (k : ℕ) × (w.command ≡ Pop k) × (v0.done ≡ 0)
      its_pop = is_pop w.command v0.done first

      its_command : (k : ℕ) × (m.command ≡ log.pop k)
      its_command = pops its_pop.0 m.command (subst (λ x. IsCommand x m.command) its_pop.1 runs.is.stands.waiting.0)

      load : d ≡ posting_of (stage_with v Load d.buf) Load
      load = subst (λ t. d ≡ posting_of (stage_with v t d.buf) t) reads is.is

      there : d.buf ≡ Some (entry_piece w)
      there = entry_there v0 w ws Load first refl d.buf ((subst (λ t. IsWhole (stage_with v t d.buf)) reads is.whole).entries 0 w (omega arith)) (subst (λ t. IsOfStage v t d.buf) reads is.its)

      its : Got (Some then) n (entry_piece w) (512 * ring.moved) old new
      its =
          let from : d.from + 512 * ring.moved ≡ 512 * ring.moved = let none = ap (λ (x : Descriptor). x.from) load in omega (arith, none) in
          subst (λ a. Got (Some then) n (entry_piece w) a old new) from (subst (λ x. MatchOption x ⊥ (λ b. Got (Some then) n b (d.from + 512 * ring.moved) old new)) there got)

      buffers_are : buffers_of w ≡ (entry_piece w) ∷ []
      buffers_are = (its_entry v0 w ws Load first refl None).1

      rest_stay : AllByRecursion (Stays old new) (flat_map buffers_of ws)
      rest_stay =
          let all : ShareNoFrame (((entry_piece w) ∷ []) ++ flat_map buffers_of ws) = subst (λ bs. ShareNoFrame (bs ++ flat_map buffers_of ws)) buffers_are runs.buffers.apart.1 in
          wrote_stay old new (entry_piece w) (512 * ring.moved) its.bytes (flat_map buffers_of ws) its.wrote (apart_each (entry_piece w) (flat_map buffers_of ws) all.0)

      -- its bytes are those of the next block of the list
      abbrev room : ℕ
      room = g.blocks - 1

      opened : IsOpenWith g.kind room h blocks p l (log.pop its_command.0 ∷ cs) 0 ring.moved
      opened =
          let done : o0.done ≡ 0 = sym runs.is.done ∙ its_pop.2 in
          subst (λ i. IsOpenWith g.kind room h blocks p l (log.pop its_command.0 ∷ cs) i ring.moved) done
          (subst (λ y. IsOpenWith g.kind room h blocks p l (y ∷ cs) o0.done ring.moved) its_command.1 (own.goes h blocks old ring v0 w ws p g o0 m ms runs d s is).is_open)

      less : ring.moved < freed_by l (log.pop its_command.0)
      less =
          let done : o0.done ≡ 0 = sym runs.is.done ∙ its_pop.2 in
          let many : calls_of (get_or (plans.stages_of g.kind room p.header p.says p.stored l (log.pop its_command.0)) 0 syncs) ≡ d.count =
          subst (λ i. calls_of (get_or (plans.stages_of g.kind room p.header p.says p.stored l (log.pop its_command.0)) i syncs) ≡ d.count) done
          (subst (λ y. calls_of (get_or (plans.stages_of g.kind room p.header p.says p.stored l y) o0.done syncs) ≡ d.count) its_command.1 (own.calls_are h blocks old ring v0 w ws p g o0 m ms runs d s is)) in
          let long = length-ring_places room p.says.start 0 (freed_by l (log.pop its_command.0)) in
          omega (arith, many, long, is.less)

      place_is : get_or blocks (walked (length blocks) d.first ring.moved) 0 ≡ get_or blocks (ring_place room p.says.start ring.moved) 0
      place_is =
          let done : o0.done ≡ 0 = sym runs.is.done ∙ its_pop.2 in
          let describes = subst (λ i. Describes d old (get_or (postings_of g.kind room p.says l (log.pop its_command.0)) i flushes)) done
          (subst (λ y. Describes d old (get_or (postings_of g.kind room p.says l y) o0.done flushes)) its_command.1 (own.described h blocks old ring v0 w ws p g o0 m ms runs d s is)) in
          let low = popping.freed_low g.kind room h blocks p l its_command.0 cs ring.moved opened runs.full in
          let on : 0 + ring.moved ≡ ring.moved = omega arith in
          ap (λ k. get_or blocks k 0)
          ((λ i. walked (opened.size i) (describes.1 i) ring.moved) ∙ ring_walks room p.says.start 0 ring.moved opened.waits.some (omega (arith, less, low)) ∙ ap (ring_place room p.says.start) on)

      read_before : HasRead p.stored ring.moved (bytes_of old (entry_piece w))
      read_before = transport (λ i. HasReadFor (its_pop.1 i) p.stored (blocks_read (its_pop.2 i) (entry_blocks w.len) (standing.posted ring.moved)) (bytes_in old (buffers_by (its_pop.1 i) w))) so_far

      module _ (is_then : then ≡ after h (Read n true ∷ [])) (at_n : n ≡ get_or blocks (walked (length blocks) d.first ring.moved) 0) where
        bytes_are : its.bytes ≡ at p.stored ring.moved
        bytes_are =
            its.honest.told then refl ∙ ap (λ (t : History). block (current t.base t.journal) n) is_then ∙ ap (λ k. block (current h.base h.journal) k) (at_n ∙ place_is)
            ∙ popping.stands g.kind room h blocks p l its_command.0 cs ring.moved opened runs.full ring.moved less

        read_after : HasRead p.stored (suc ring.moved) (bytes_of new (entry_piece w))
        read_after = popping.reads_on g.kind room h blocks p l its_command.0 cs ring.moved opened runs.full less its.bytes (bytes_of old (entry_piece w)) (bytes_of new (entry_piece w)) read_before bytes_are its.whole its.wrote.here

        touched : IsTouched new ok
        touched = record {
          taken = taken;
          header = subst (λ t. HasHeaderFor t v new) (sym reads) tt;
          hold = (
            subst (λ y. HoldsEntry v0.room (place_behind p.says l) v0.done y (entry_bytes_in new w)) (sym its_command.1) tt,
            subst (λ bs. HoldEntries v0.room (place_behind p.says l + added_by m.command) 0 cs bs) (sym (entries_same old new ws rest_stay)) runs.buffers.hold.1,
          );
          read = λ good. transport (λ i. HasReadFor (sym its_pop.1 i) p.stored (blocks_read (sym its_pop.2 i) (entry_blocks w.len) (standing.posted (suc ring.moved))) (bytes_in new (buffers_by (sym its_pop.1 i) w))) read_after;
          beside = λ b apart. its.wrote.others b (subst (λ bs. AllByRecursion (λ a. Apart a b) (bs ++ flat_map buffers_of ws)) buffers_are apart.1).0;
        }

    -- whichever block was tried
    pub tried : (new : Space) (ok : Bool) (n : ℕ) (e : Event) → new.taken ≡ old.taken → n ≡ get_or blocks (walked (length blocks) d.first ring.moved) 0 → Comes (call_by d.job n (buffered d ring.moved old)) ok e
        → LeavesBlock d.job ok d.buf (d.from + 512 * ring.moved) (Some (after h (e ∷ []))) n old new → IsTouched new ok
    tried new ok n e taken at_n came leaves = by s refl
      where
        its_job : d.job ≡ job_of s
        its_job = ap (λ (x : Descriptor). x.job) is.is ∙ job_is v s d.buf

        LeavesAs : Job → Bool → Type 0
        LeavesAs j good = LeavesBlock j good d.buf (d.from + 512 * ring.moved) (Some (after h (e ∷ []))) n old new

        stays : (t : Stage) → s ≡ t → (t ≡ Load → ⊥) → new ≡ old → IsTouched new ok
        stays t same other is_old = kept new ok is_old (λ load good. other (sym same ∙ load))

        loads : s ≡ Load → (good : Bool) → ok ≡ good → IsTouched new ok
        loads load true good =
            let read : e ≡ Read n true = subst (λ b. Comes (Reads n) b e) good (subst (λ j. Comes (call_by j n (buffered d ring.moved old)) ok e) (its_job ∙ ap job_of load) came) in
            touched load new ok n (after h (e ∷ [])) taken (subst (λ b. LeavesAs job.Read b) good (subst (λ j. LeavesAs j ok) (its_job ∙ ap job_of load) leaves)) (ap (λ x. after h (x ∷ [])) read) at_n
        loads load false bad = kept new ok (subst (λ b. LeavesAs job.Read b) bad (subst (λ j. LeavesAs j ok) (its_job ∙ ap job_of load) leaves)) (λ same good. absurd (cc (bad, good)))

        by : (t : Stage) → s ≡ t → IsTouched new ok
        by Load same = loads same ok refl
        by Draft same = stays Draft same (λ is_load. absurd (cc (is_load))) (subst (λ j. LeavesAs j ok) (its_job ∙ ap job_of same) leaves)
        by Mark same = stays Mark same (λ is_load. absurd (cc (is_load))) (subst (λ j. LeavesAs j ok) (its_job ∙ ap job_of same) leaves)
        by Header same = stays Header same (λ is_load. absurd (cc (is_load))) (subst (λ j. LeavesAs j ok) (its_job ∙ ap job_of same) leaves)
        by Clear same = stays Clear same (λ is_load. absurd (cc (is_load))) (subst (λ j. LeavesAs j ok) (its_job ∙ ap job_of same) leaves)
        by Flush same = stays Flush same (λ is_load. absurd (cc (is_load))) (subst (λ j. LeavesAs j ok) (its_job ∙ ap job_of same) leaves)

    -- a sync leaves the memory
    pub synced : (ok : Bool) → d.job ≡ job.Sync → IsTouched old ok
    synced ok is_sync = kept old ok refl (λ load good. let read = ap (λ (x : Descriptor). x.job) is.is ∙ job_is v s d.buf ∙ ap job_of load in absurd (cc (is_sync, read)))
