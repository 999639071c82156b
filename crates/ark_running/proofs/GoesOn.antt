-- A poll posts the next stage of a command.
use Rattle.std.proofs.Common.{◌≡◌, ℕ, zero, suc, ◌+◌, ◌-◌, ◌<◌, true, not, List, [], ◌∷◌, length, drop, Option, Some, refl, sym, ap, ◌∙◌, subst, arith}
use Rattle.std.specs.Prelude.{slice_get}
use Rattle.std.proofs.Math.Path.{transport}
use Rattle.std.proofs.lemmas.Option.{slice_get_within}
use Rattle.ark_base.specs.declared.kind.Outcome.{Outcome}
use Rattle.ark_media.specs.Journal.{History}
use Rattle.ark_region.specs.Frames.{Piece}
use Rattle.ark_entry.specs.Entry.{entry_blocks}
use Rattle.ark_caladan.specs.Chain.{Log, Opened, commands, entries}
use Rattle.ark_caladan.specs.Open.{Layout}
use Rattle.ark_caladan.specs.Standing.{Proceeds, Progress, idle}
use Rattle.ark_caladan.specs.Standing as standing
use Rattle.ark_caladan.proofs.Standing as standing_proofs
use Rattle.ark_log.specs.declared.command.Waiting.{Waiting}
use Rattle.ark_log.specs.declared.polling.Polled.{Polled}
use Rattle.ark_log.specs.declared.stage.Stage.{Stage}
use Rattle.ark_log.specs.Open.{IsRight, OpenChain}
use Rattle.ark_log.specs.Polled.{Around, EndsWell, GoesOn, HasEnded, IsPosted, ended, reaped, returned_at, stage_of}
use Rattle.ark_log.specs.Stages.{IsWhole, oldest, stage_with, stages_of}
use Rattle.ark_running.specs.Accepted.{with_opened}
use Rattle.ark_running.specs.Buffers.{HasReadFor, blocks_read, entry_bytes_in, header_piece, pieces_of}
use Rattle.ark_running.specs.Polling.{one_done}
use Rattle.ark_running.specs.Ringed.{IsUnderWay, is_well, progress_by, progress_of}
use Rattle.ark_running.specs.Running.{HasBuffersOf, HasReadSoFar, IsOpenFor, IsRunning, Where}
use Rattle.ark_running.proofs.Like.{AreLike, as_lent, come_to, entry_like, header_with, like_stage, oldest_like, open_like, pieces_like, right_done, right_stage, stage_is, waiting_with}
use Rattle.ark_running.proofs.Polls.{ended_ring, lent_buffers, trims_are}
use Rattle.ark_running.proofs.Posts.{IsReady, long_stage, posted_runs}
use Rattle.ark_running.proofs.Proceeding.{long_stages, proceeds_at}

-- of a pop whose descriptor has ended well, and behind its first stage, all blocks are read
ended_read : (done blocks : ℕ) → blocks_read done blocks (standing.ended true) ≡ blocks
ended_read zero blocks = refl
ended_read (suc done) blocks = refl

behind_first : (done blocks : ℕ) → blocks_read (done + 1) blocks (standing.posted 0) ≡ blocks
behind_first done blocks = let more : done + 1 ≡ suc done = omega arith in ap (λ n. blocks_read n blocks (standing.posted 0)) more

-- The next stage.
module _ (h : History) (blocks : List ℕ) (p : Layout) (g : Log) (o : Opened) (old new : Around) (result : Polled) (runs : IsRunning h blocks old.space old.ring old.chain p g o) (ending : HasEnded old new result) (well : EndsWell ending.ending old new result) where
  abbrev v : OpenChain
  v = old.chain

  abbrev buf : Option Piece
  buf = ending.ending.buf

  pub was : (old.ring.unreaped ≡ ending.ending ∷ []) × (old.ring.moved ≡ 0) × ((s : Stage) × IsUnderWay v s buf)
  was = ended_ring v old.space old.ring.moved old.ring.posted old.ring.unreaped ending.ending runs.ring ending.posted ending.first

  way : IsUnderWay v was.2.0 buf
  way = was.2.1

  abbrev xs : List Waiting
  xs = waiting_with was.2.0 buf v.waiting

  abbrev hd : Option Piece
  hd = header_with was.2.0 buf v.header

  abbrev u : OpenChain
  u = as_lent v xs hd (v.done + 1) v.failed

  pub shape : ended v buf ≡ u
  shape = ap (λ (t : Option Stage). record (returned_at v t buf) { done = v.done + 1 }) way.is ∙ ap (λ (y : OpenChain). record y { done = v.done + 1 }) (stage_is v was.2.0 buf)

  like : AreLike v.waiting xs
  like = like_stage was.2.0 buf v.waiting

  first_is : oldest u ≡ record (oldest v) { buf = (oldest u).buf }
  first_is = oldest_like v.waiting xs like

  progress : progress_of old.ring ≡ standing.ended true
  progress = (λ i. progress_by (ending.posted i) (was.0 i) old.ring.moved) ∙ ap (λ (c : Outcome). standing.ended (is_well c)) well.well

  pub goes : Proceeds h blocks g o p (standing.ended true)
  goes = proceeds_at h blocks old.space old.ring v p g o runs (standing.ended true)
      progress (ap not (sym runs.is.failed ∙ way.going))

  pub next_is : slice_get (stages_of (oldest v).command) (v.done + 1) ≡ stage_of (ended v buf)
  next_is = ap (λ (x : Waiting). slice_get (stages_of x.command) (v.done + 1)) (sym first_is) ∙ ap stage_of (sym shape)

  pub right : IsRight u
  right = subst IsRight (ap (λ (y : OpenChain). record y { done = v.done + 1 }) (stage_is v was.2.0 buf)) (right_done (stage_with v was.2.0 buf) (v.done + 1) (right_stage v was.2.0 buf runs.is.right way.its))

  pub whole : IsWhole u
  whole = let is : IsWhole (as_lent v xs hd v.done v.failed) = subst IsWhole (stage_is v was.2.0 buf) way.whole in record { header = is.header; entries = is.entries }

  pub still_waits : 0 < length (ended v buf).waiting
  still_waits = let long = ap (λ (y : OpenChain). length y.waiting) shape ∙ long_stage was.2.0 buf v.waiting in omega (arith, long, ending.some)

  pub same_pieces : pieces_of (ended v buf) ≡ pieces_of v
  same_pieces = ap pieces_of shape ∙ ap (λ t. header_piece v ∷ t) (pieces_like v.waiting xs like)

  read_whole : HasReadFor (oldest u).command p.stored (entry_blocks (oldest u).len) (entry_bytes_in old.space (oldest u))
  read_whole =
      let so_far : HasReadFor (oldest v).command p.stored (blocks_read v.done (entry_blocks (oldest v).len) (standing.ended true)) (entry_bytes_in old.space (oldest v)) =
      subst (λ t. Where t (HasReadFor (oldest v).command p.stored (blocks_read v.done (entry_blocks (oldest v).len) (standing.ended true)) (entry_bytes_in old.space (oldest v)))) (ap not (sym runs.is.failed ∙ way.going))
      (subst (λ q. HasReadSoFar old.space v p o q) progress runs.read) in
      transport (λ i. HasReadFor (ap (λ (x : Waiting). x.command) (sym first_is) i) p.stored (ended_read v.done (entry_blocks (ap (λ (x : Waiting). x.len) (sym first_is) i)) i) (sym (entry_like old.space v.waiting xs like) i)) so_far

  -- What the oldest command is once its descriptor has ended.
  pub record IsBack (y : OpenChain) : Type 0 where
    pub command : (oldest y).command ≡ (oldest v).command
    pub len : (oldest y).len ≡ (oldest v).len
    pub right : IsRight y
    pub whole : IsWhole y
    pub waits : 0 < length y.waiting
    pub read : HasReadFor (oldest y).command p.stored (entry_blocks (oldest y).len) (entry_bytes_in old.space (oldest y))

  pub is_back : IsBack (ended v buf)
  is_back = subst IsBack (sym shape) (record {
    command = ap (λ (x : Waiting). x.command) first_is;
    len = ap (λ (x : Waiting). x.len) first_is;
    right = right;
    whole = whole;
    waits = let long = long_stage was.2.0 buf v.waiting in omega (arith, long, ending.some);
    read = read_whole;
  })

  module _ (stage : Stage) (at : stage_of (ended v buf) ≡ Some stage) where
    opened : IsOpenFor u p (with_opened g (one_done o)) (one_done o)
    opened =
        let more : v.done + 1 ≡ o.done + 1 = ap (λ n. n + 1) runs.is.done in
        subst (λ f. IsOpenFor u p (with_opened g (come_to o (o.done + 1) f)) (come_to o (o.done + 1) f)) runs.is.failed
        (open_like v p g o xs hd (v.done + 1) (o.done + 1) v.failed runs.is like right (trims_are old.space v p g o runs.is was.2.0 buf way) more)

    buffers : HasBuffersOf old.space (record u { done = u.done - 1 }) p (entries g.list) (commands (one_done o))
    buffers =
        let same : v.done ≡ v.done + 1 - 1 = omega arith in
        subst (λ d. HasBuffersOf old.space (record u { done = d }) p (entries g.list) (commands o)) same (lent_buffers old.space v p (entries g.list) (commands o) xs hd v.done v.failed like runs.buffers runs.buffers.hold)

    read : HasReadFor (oldest u).command p.stored (blocks_read u.done (entry_blocks (oldest u).len) (standing.posted 0)) (entry_bytes_in old.space (oldest u))
    read = subst (λ n. HasReadFor (oldest u).command p.stored n (entry_bytes_in old.space (oldest u))) (sym (behind_first v.done (entry_blocks (oldest u).len))) read_whole

    is_ready : IsReady h blocks old.space u p (with_opened g (one_done o)) (one_done o)
    is_ready =
        let planned = long_stages g.kind (g.blocks - 1) p (entries g.list) v.waiting (commands o) runs.is.stands.waiting ending.some in
        let inside : v.done + 1 < length (stages_of (oldest v).command) = slice_get_within (stages_of (oldest v).command) (v.done + 1) stage (next_is ∙ at) in
        record {
          is = opened;
          size = runs.size;
          on_disk = runs.on_disk;
          full = runs.full;
          goes = standing_proofs.stage_posted blocks g p h o (standing.ended true) goes planned.0 (o.done + 1) (omega arith) refl (omega (arith, inside, planned.1, runs.is.done));
          going = way.going;
          whole = whole;
          buffers = buffers;
          read = read;
        }

    pub goes_on : IsRunning h blocks new.space new.ring new.chain p (with_opened g (one_done o)) (one_done o)
    goes_on = posted_runs h blocks p (with_opened g (one_done o)) (one_done o) (record old { chain = u; ring = reaped old.ring }) new result stage posted ending.posted (ap (λ us. drop 1 us) was.0) was.1 (let long = long_stage was.2.0 buf v.waiting in omega (arith, long, ending.some)) is_ready (ap stage_of (sym shape) ∙ at)
      where
        posted : IsPosted stage (record old { chain = u; ring = reaped old.ring }) new result
        posted = subst (λ y. IsPosted stage (record old { chain = y; ring = reaped old.ring }) new result) shape (subst (λ s. GoesOn s (record old { chain = ended v buf; ring = reaped old.ring }) new result) at well.goes)
