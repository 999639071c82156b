-- The posted descriptor of an open log, and the device call that it makes next.
use Rattle.std.proofs.Common.{◌≡◌, ℕ, zero, suc, ◌+◌, ◌-◌, ◌<◌, false, not, List, [], ◌∷◌, length, map, get_or, Option, Some, refl, sym, ap, ◌∙◌, subst, arith}
use Rattle.std.specs.Prelude.{slice_get}
use Rattle.std.proofs.lemmas.List.{get_or-drop}
use Rattle.std.proofs.lemmas.Option.{slice_get-get_or, slice_get_within}
use Rattle.ark_media.specs.Journal.{History}
use Rattle.ark_media.specs.Calls.{Syncs}
use Rattle.ark_region.specs.Frames.{Piece, Space}
use Rattle.ark_vic.specs.Queue.{Queue}
use Rattle.ark_vic.specs.declared.descriptor.Descriptor.{Descriptor}
use Rattle.ark_vic.specs.declared.descriptor.Job.TheVariants as job
use Rattle.ark_vsic.specs.Card.{Areas, Card}
use Rattle.ark_vsic.specs.Places.{place_of}
use Rattle.ark_vsic.specs.Moves.{area_of, block_call, due_at, due_by, due_for, due_in, due_of, due_paced}
use Rattle.ark_entry.specs.Found.{Entries}
use Rattle.ark_caladan.specs.Chain as log
use Rattle.ark_caladan.specs.Chain.{Log, Opened, Phase, commands, entries, phases_of}
use Rattle.ark_caladan.specs.Listed.{WritesFull}
use Rattle.ark_caladan.specs.Open.{Layout}
use Rattle.ark_caladan.specs.Plans as plans
use Rattle.ark_caladan.specs.Plans.{phase_of}
use Rattle.ark_caladan.specs.Postings.{Posting, clears, flushes, loads, posted_call, postings_of, saves, walked}
use Rattle.ark_caladan.specs.Stages as stages
use Rattle.ark_caladan.specs.Stages.{call_of, calls_of, syncs}
use Rattle.ark_caladan.specs.Standing.{Proceeds, stage_at}
use Rattle.ark_caladan.specs.Standing as standing
use Rattle.ark_caladan.proofs.Buffers.{posts_are_stages}
use Rattle.ark_caladan.proofs.Dropping.{stages_are_phases}
use Rattle.ark_log.specs.declared.command.Waiting.{Waiting}
use Rattle.ark_log.specs.declared.stage.Stage.{Stage}
use Rattle.ark_log.specs.declared.stage.Stage.TheVariants.{Load, Draft, Mark, Header, Clear, Flush}
use Rattle.ark_log.specs.Open.{OpenChain}
use Rattle.ark_log.specs.Stages.{IsOfStage, IsWhole, posting_of, stage_with, stages_of}
use Rattle.ark_running.specs.Phases.{phase_by}
use Rattle.ark_running.specs.Ringed.{HasHeaderFor, progress_by}
use Rattle.ark_running.specs.Running.{IsRunning}
use Rattle.ark_running.proofs.Acks.{as_planned}
use Rattle.ark_running.proofs.Bounds.{IsWithin, within}
use Rattle.ark_running.proofs.Describing.{describes}
use Rattle.ark_running.proofs.Full.{posts_full}
use Rattle.ark_running.proofs.Phased.{own_buffer, posted_phase}
use Rattle.ark_running.proofs.Proceeding.{alone_posted, proceeds_at}
use Rattle.ark_running.proofs.Calling.{Describes, calls_as, place_walked}

-- a stage's calls are as many as its phase says
many_calls : (s : stages.Stage) → calls_of s ≡ (phase_of s).count
many_calls (stages.reads places) = refl
many_calls (stages.writes b places) = refl
many_calls (stages.decides b p) = refl
many_calls stages.syncs = refl

at_phase : (xs : List stages.Stage) (i : ℕ) → get_or (map phase_of xs) i (phase_of syncs) ≡ phase_of (get_or xs i syncs)
at_phase [] i = refl
at_phase (x ∷ xs) zero = refl
at_phase (x ∷ xs) (suc i) = at_phase xs i

-- a sync is made where one is posted
sync_as : (blocks : List ℕ) (d : Descriptor) (space : Space) (q : Posting) (k : ℕ) → Describes d space q → d.job ≡ job.Sync → Syncs ≡ posted_call blocks q k
sync_as blocks d space (loads first count) k is syncs_it = absurd (cc (is.0, syncs_it))
sync_as blocks d space (saves first count bytes) k is syncs_it = absurd (cc (is.0, syncs_it))
sync_as blocks d space (clears first count) k is syncs_it = absurd (cc (is.0, syncs_it))
sync_as blocks d space flushes k is syncs_it = refl

module _ (h : History) (blocks : List ℕ) (space : Space) (ring : Queue) (v0 : OpenChain) (w : Waiting) (ws : List Waiting) (p : Layout) (g : Log) (o0 : Opened) (m : log.Waiting) (ms : List log.Waiting) where
  abbrev pub v : OpenChain
  v = record v0 { waiting = w ∷ ws }

  abbrev pub o : Opened
  o = record o0 { waiting = m ∷ ms }

  abbrev pub l : Entries
  l = entries g.list

  abbrev pub cs : List log.Command
  cs = map (λ (x : log.Waiting). x.command) ms

  module _ (runs : IsRunning h blocks space ring v p g o) where
    -- the descriptor of a stage under way, with the buffer that it has
    pub record IsOwn (d : Descriptor) (s : Stage) : Type 0 where
      pub posted : ring.posted ≡ d ∷ []
      pub none : ring.unreaped ≡ []
      pub at : slice_get (stages_of w.command) v0.done ≡ Some s
      pub going : v0.failed ≡ false
      pub its : IsOfStage v s d.buf
      pub whole : IsWhole (stage_with v s d.buf)
      pub is : d ≡ posting_of (stage_with v s d.buf) s
      pub header : HasHeaderFor s v space
      pub less : ring.moved < d.count

    own_of : (s : Stage) (buf : Option Piece) → IsOfStage v s buf → IsOfStage v s (posting_of (stage_with v s buf) s).buf
    own_of Load buf its = its
    own_of Draft buf its = its
    own_of Mark buf its = its
    own_of Header buf its = its
    own_of Clear buf its = tt
    own_of Flush buf its = tt

    pub own : (d : Descriptor) → slice_get ring.posted 0 ≡ Some d → (s : Stage) × IsOwn d s
    own d first =
        let is = alone_posted v space ring.moved ring.posted ring.unreaped d runs.ring first in
        let way = is.2.2.way in
        let its = is.2.2.its in
        let same = ap (λ (x : Descriptor). stage_with v is.2.0 x.buf) its ∙ own_buffer v is.2.1 is.2.0 in (
          is.2.0,
          record {
            posted = is.0;
            none = is.1;
            at = way.is;
            going = way.going;
            its = subst (λ (x : Descriptor). IsOfStage v is.2.0 x.buf) (sym its) (own_of is.2.0 is.2.1 way.its);
            whole = subst IsWhole (sym same) way.whole;
            is = its ∙ ap (λ y. posting_of y is.2.0) (sym same);
            header = is.2.2.header;
            less = is.2.2.more;
          },
        )

    room_is : g.blocks - 1 ≡ v0.room
    room_is = let is = runs.is.room in omega (arith, is)

    long : length blocks ≡ suc v0.room
    long = runs.size ∙ runs.is.room

    module _ (d : Descriptor) (s : Stage) (own : IsOwn d s) where
      pub goes : Proceeds h blocks g o p (standing.posted ring.moved)
      goes = proceeds_at h blocks space ring v p g o runs (standing.posted ring.moved) (λ i. progress_by (own.posted i) (own.none i) ring.moved) (ap not (sym runs.is.failed ∙ own.going))

      pub inside : IsWithin v0 w ws l m.command cs runs.is.right runs.is.stands runs.is.can runs.is.lengths.0 d
      inside = subst (λ y. IsWithin v0 w ws l m.command cs runs.is.right runs.is.stands runs.is.can runs.is.lengths.0 y) (sym own.is) (within v0 w ws l m.command cs runs.is.right runs.is.stands runs.is.can runs.is.lengths.0 s d.buf own.at)

      abbrev its_posting : Posting
      its_posting = get_or (postings_of g.kind (g.blocks - 1) p.says l m.command) o0.done flushes

      pub described : Describes d space its_posting
      described =
          let is = describes v0 w ws space g.kind p.says l m.command cs runs.is.right runs.is.stands runs.is.can.fit.0 runs.is.lengths.0 runs.is.start runs.is.kind runs.buffers.hold.0 d.buf s own.at own.its own.whole own.header in
          subst (λ y. Describes y space its_posting) (sym own.is)
          (subst (λ i. Describes (posting_of (stage_with v s d.buf) s) space (get_or (postings_of g.kind (g.blocks - 1) p.says l m.command) i flushes)) runs.is.done
          (subst (λ n. Describes (posting_of (stage_with v s d.buf) s) space (get_or (postings_of g.kind n p.says l m.command) v0.done flushes)) (sym room_is) is))

      -- its stage makes so many calls, and decides or not
      pub phase_is : phase_of (stage_at g o p) ≡ phase_by s d.count
      phase_is =
          let under = posted_phase h blocks space ring v p g o m ms runs refl d (ap (λ xs. slice_get xs 0) own.posted) in
          let same : under.stage ≡ s = cc (under.is, own.at) in
          let first : o0.done + 0 ≡ o0.done = omega arith in
          sym (at_phase (plans.stages_of g.kind (g.blocks - 1) p.header p.says p.stored l m.command) o0.done)
          ∙ ap (λ xs. get_or xs o0.done (phase_of syncs)) (stages_are_phases g.kind (g.blocks - 1) p.header p.says p.stored l m.command)
          ∙ ap (λ i. get_or (phases_of l m.command) i (phase_of syncs)) (sym first) ∙ sym (get_or-drop o0.done (phases_of l m.command) 0 (phase_of syncs))
          ∙ ap (λ xs. get_or xs 0 (phase_of syncs)) under.left ∙ ap (λ t. phase_by t d.count) same

      pub calls_are : calls_of (stage_at g o p) ≡ d.count
      calls_are = many_calls (stage_at g o p) ∙ ap (λ (x : Phase). x.count) phase_is

      next_less : ring.moved < calls_of (stage_at g o p)
      next_less = omega (arith, own.less, calls_are)

      posts : posted_call blocks its_posting ring.moved ≡ call_of blocks (stage_at g o p) ring.moved
      posts =
          let planned = as_planned w.command m.command g.kind (g.blocks - 1) p.header p.says p.stored l runs.is.stands.waiting.0 in
          let within = slice_get_within (stages_of w.command) v0.done s own.at in
          posts_are_stages g.kind (g.blocks - 1) h blocks p l m.command cs o0.done ring.moved goes.is_open o0.done ring.moved (omega (arith, planned, within, runs.is.done)) next_less

      -- its next device call is that of its stage
      pub block_is : (d.job ≡ job.Sync → ⊥) → block_call d ring.moved (get_or blocks (walked (length blocks) d.first ring.moved) 0) space ≡ call_of blocks (stage_at g o p) ring.moved
      block_is moves = calls_as blocks d space ring.moved its_posting described moves own.less ∙ posts

      pub sync_is : d.job ≡ job.Sync → Syncs ≡ call_of blocks (stage_at g o p) ring.moved
      sync_is is = sync_as blocks d space its_posting ring.moved described is ∙ posts

      pub full : WritesFull (call_of blocks (stage_at g o p) ring.moved)
      full = subst WritesFull posts (posts_full g.kind (g.blocks - 1) blocks p.header p.says p.stored l m.command o0.done ring.moved next_less)

      -- what is due
      pub due_is : (card : Card) (held : Areas) (now : ℕ) → card.ring ≡ ring → area_of v0.grant card.bound held ≡ Some blocks → due_of card held now ≡ due_by d.job (due_paced card.pace now (get_or blocks (walked (length blocks) d.first ring.moved) 0))
      due_is card held now same area =
          let at = place_walked (length blocks) d.first ring.moved (let z = inside.first in omega (arith, z, long)) (let z = inside.count in omega (arith, z, long, own.less)) in
          let there : slice_get blocks (walked (length blocks) d.first ring.moved) ≡ Some (get_or blocks (walked (length blocks) d.first ring.moved) 0) = slice_get-get_or blocks (walked (length blocks) d.first ring.moved) 0 at.1 in
          let block : slice_get blocks (place_of (length blocks) d.wrap d.first ring.moved) ≡ Some (get_or blocks (walked (length blocks) d.first ring.moved) 0) =
          ap (λ x. slice_get blocks (place_of (length blocks) x d.first ring.moved)) inside.wrap ∙ ap (slice_get blocks) at.0 ∙ there in
          ap (λ x. due_for x card held now) (ap (λ (q : Queue). slice_get q.posted 0) same ∙ ap (λ xs. slice_get xs 0) own.posted)
          ∙ ap (λ (q : Queue). due_by d.job (due_in (area_of d.grant card.bound held) d q.moved card.pace now)) same
          ∙ ap (λ x. due_by d.job (due_in x d ring.moved card.pace now)) (ap (λ n. area_of n card.bound held) inside.grant ∙ area)
          ∙ ap (λ x. due_by d.job (due_at x card.pace now)) block
