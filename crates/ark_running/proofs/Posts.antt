-- A poll posts a stage of the oldest command.
use Rattle.std.proofs.Common.{◌≡◌, inr, ℕ, zero, suc, ◌+◌, ◌-◌, ◌≤◌, ◌<◌, Bool, true, false, not, List, [], ◌∷◌, ◌++◌, length, Option, Some, None, refl, sym, ap, ◌∙◌, subst, arith}
use Rattle.std.specs.Prelude.{slice_get, sum_by, take}
use Rattle.std.proofs.Math.Path.{transport}
use Rattle.std.proofs.lemmas.List.{length-take-le}
use Rattle.ark_media.specs.Journal.{History}
use Rattle.ark_region.specs.Frames.{Piece, Space}
use Rattle.ark_vic.specs.Queue.{Queue}
use Rattle.ark_vic.specs.declared.descriptor.Descriptor.{Descriptor}
use Rattle.ark_entry.specs.Entry.{entry_blocks}
use Rattle.ark_entry.specs.Found.{Entries}
use Rattle.ark_entry.proofs.Readings.{some_block}
use Rattle.ark_caladan.specs.Chain.{Log, Opened, commands, entries}
use Rattle.ark_caladan.specs.Listed.{AreFull}
use Rattle.ark_caladan.specs.Open.{Layout}
use Rattle.ark_caladan.specs.Postings.{place_behind}
use Rattle.ark_caladan.specs.Standing.{LogStandsAs, OpenStands, Proceeds, Progress, idle, makes_calls}
use Rattle.ark_caladan.specs.Standing as standing
use Rattle.ark_caladan.specs.Views.{OnDisk}
use Rattle.ark_log.specs.declared.command.Command.{Command}
use Rattle.ark_log.specs.declared.command.Command.TheVariants.{Append, Trim, Pop}
use Rattle.ark_log.specs.declared.command.Waiting.{Waiting}
use Rattle.ark_log.specs.declared.stage.Stage.{Stage}
use Rattle.ark_log.specs.declared.stage.Stage.TheVariants.{Load, Draft, Mark, Header, Clear, Flush}
use Rattle.ark_log.specs.Open.{CanCome, IsRight, LeadTo, OpenChain}
use Rattle.ark_log.specs.declared.polling.Polled.{Polled}
use Rattle.ark_log.specs.Polled.{Around, IsPosted, stage_of}
use Rattle.ark_log.specs.Stages.{IsOfStage, IsPrepared, IsWhole, freed, oldest, oldest_in, posting_of, stage_with, stages_of}
use Rattle.ark_log.proofs.Turns.{few_entries}
use Rattle.ark_log.proofs.Ended.{its_buffer, lent_back, same_command}
use Rattle.ark_running.specs.Accepted.{with_opened}
use Rattle.ark_running.specs.Buffers.{HasReadFor, blocks_read, entry_bytes_in, pieces_of}
use Rattle.ark_running.specs.Ringed.{HasHeaderFor, IsRingBy, IsUnderWay}
use Rattle.ark_running.specs.Running.{HasBuffersOf, IsOpenFor, IsRunning, Where}
use Rattle.ark_running.proofs.Framing.{lies_same}
use Rattle.ark_running.proofs.Like.{AreLike, TrimsHaveNone, as_lent, come_to, entry_like, header_with, like_stage, none_given, oldest_like, open_like, right_stage, stage_is, trims_stage, waiting_with}
use Rattle.ark_running.proofs.More.{long_with}
use Rattle.ark_running.proofs.Polls.{lent_buffers}
use Rattle.ark_running.proofs.Prepared as prepared
use Rattle.ark_running.proofs.Having.{has_proceeding}

-- A log that makes calls, of which nothing is in the ring, with its next stage not posted yet: its buffers are as the stages before
-- left them.
pub record IsReady (h : History) (blocks : List ℕ) (space : Space) (v : OpenChain) (p : Layout) (g : Log) (o : Opened) : Type 0 where
  pub is : IsOpenFor v p g o
  pub size : length blocks ≡ g.blocks
  pub on_disk : OnDisk blocks h.base
  pub full : AreFull h blocks
  pub goes : Proceeds h blocks g o p (standing.posted 0)
  pub going : v.failed ≡ false
  pub whole : IsWhole v
  pub buffers : HasBuffersOf space (record v { done = v.done - 1 }) p (entries g.list) (commands o)
  pub read : HasReadFor (oldest v).command p.stored (blocks_read v.done (entry_blocks (oldest v).len) (standing.posted 0)) (entry_bytes_in space (oldest v))

-- a buffer that is away is of any stage
none_of_stage : (v : OpenChain) (stage : Stage) → IsOfStage v stage None
none_of_stage v Load = tt
none_of_stage v Draft = tt
none_of_stage v Mark = tt
none_of_stage v Header = tt
none_of_stage v Clear = tt
none_of_stage v Flush = tt

pub where_any : (t : Bool) (H : Type 0) → H → Where t H
where_any true H is = is
where_any false H is = tt

pub long_stage : (stage : Stage) (buf : Option Piece) (ws : List Waiting) → length (waiting_with stage buf ws) ≡ length ws
long_stage Load buf ws = long_with buf ws
long_stage Draft buf ws = long_with buf ws
long_stage Mark buf ws = long_with buf ws
long_stage Header buf ws = refl
long_stage Clear buf ws = refl
long_stage Flush buf ws = refl

header_lent : (v : OpenChain) (space : Space) (stage : Stage) → HasHeaderFor stage v space → HasHeaderFor stage (stage_with v stage None) space
header_lent v space Load is = tt
header_lent v space Draft is = tt
header_lent v space Mark is = tt
header_lent v space Header is = is
header_lent v space Clear is = tt
header_lent v space Flush is = tt

-- Each descriptor has a block to move.
module _ (v : OpenChain) (right : IsRight v) where
  frees : (c : Command) (done : ℕ) → slice_get (stages_of c) done ≡ Some Clear → CanCome c v.first (v.first + v.count) → 1 ≤ freed v c
  frees c done at can = by c done at can
    where
      some_of : (k : ℕ) → 1 ≤ k → k ≤ v.count → 1 ≤ sum_by entry_blocks (take k v.lengths)
      some_of k some low =
          let long = length-take-le k v.lengths (omega (arith, low, right.counted)) in
          let few = few_entries (take k v.lengths) in
          omega (arith, long, few, some)

      by : (c : Command) (done : ℕ) → slice_get (stages_of c) done ≡ Some Clear → CanCome c v.first (v.first + v.count) → 1 ≤ freed v c
      by (Trim n) done at can = some_of (n - v.first) (omega (arith, can.0)) (omega (arith, can.0, can.1))
      by (Pop n) done at can = some_of (n + 1 - v.first) (omega (arith, can.0)) (omega (arith, can.0, can.1))
      by (Append n) zero at can = absurd (cc (at))
      by (Append n) (suc zero) at can = absurd (cc (at))
      by (Append n) (suc (suc zero)) at can = absurd (cc (at))
      by (Append n) (suc (suc (suc zero))) at can = absurd (cc (at))
      by (Append n) (suc (suc (suc (suc k)))) at can = absurd (cc (at))

  pub some_blocks : (w : Waiting) (ws : List Waiting) → v.waiting ≡ w ∷ ws → (stage : Stage) → stage_of v ≡ Some stage → 0 < (posting_of v stage).count
  some_blocks w ws is Load at = some_block (oldest v).len
  some_blocks w ws is Draft at = some_block (oldest v).len
  some_blocks w ws is Mark at = omega arith
  some_blocks w ws is Header at = omega arith
  some_blocks w ws is Flush at = omega arith
  some_blocks w ws is Clear at =
      let first : LeadTo v.first (v.first + v.count) (w ∷ ws) v.coming (v.first + length v.lengths) = subst (λ xs. LeadTo v.first (v.first + v.count) xs v.coming (v.first + length v.lengths)) is right.in_turn in
      frees (oldest v).command v.done at (subst (λ xs. CanCome (oldest_in xs).command v.first (v.first + v.count)) (sym is) first.0)

module _ (h : History) (blocks : List ℕ) (before after : Space) (size : ℕ) (v0 : OpenChain) (w : Waiting) (ws : List Waiting) (p : Layout) (g : Log) (o : Opened) where
  abbrev v : OpenChain
  v = record v0 { waiting = w ∷ ws }

  module _ (ready : IsReady h blocks before v p g o) (stage : Stage) (at : stage_of v ≡ Some stage) (prep : IsPrepared v stage before after) where
    abbrev l : Entries
    l = entries g.list

    abbrev xs : List Waiting
    xs = waiting_with stage None v.waiting

    abbrev hd : Option Piece
    hd = header_with stage None v.header

    abbrev u : OpenChain
    u = as_lent v xs hd v.done v.failed

    shape : stage_with v stage None ≡ u
    shape = stage_is v stage None

    like : AreLike v.waiting xs
    like = like_stage stage None v.waiting

    some : 0 < length v.waiting
    some = omega arith

    trims : TrimsHaveNone xs
    trims = trims_stage stage None v.waiting (inr (inr (inr (none_given w.command)))) ready.is.trims

    right : IsRight u
    right = subst IsRight shape (right_stage v stage None ready.is.right (none_of_stage v stage))

    opened : IsOpenFor u p g o
    opened =
        let is = open_like v p g o xs hd v.done o.done v.failed ready.is like right trims ready.is.done in
        let same : with_opened g o ≡ g = λ i. record g { opened = sym ready.is.opened i } in
        subst (λ y. IsOpenFor u p y o) same (subst (λ f. IsOpenFor u p (with_opened g (come_to o o.done f)) (come_to o o.done f)) ready.is.failed is)

    abbrev d : Descriptor
    d = posting_of v stage

    abbrev ring : Queue
    ring = record { posted = d ∷ []; unreaped = []; moved = 0; size = size }

    way : IsUnderWay (stage_with v stage None) stage d.buf
    way = record {
      some = let long = ap (λ (y : OpenChain). length y.waiting) shape ∙ long_stage stage None v.waiting in omega (arith, long);
      is = same_command v stage ∙ at;
      going = ap (λ (y : OpenChain). y.failed) shape ∙ ready.going;
      its = its_buffer v stage ready.is.right some;
      whole = subst IsWhole (sym (lent_back v stage some)) ready.whole;
    }

    more : 0 < d.count
    more = some_blocks v ready.is.right w ws refl stage at

    frames : length after.taken ≡ length before.taken
    frames = ap length (prepared.taken_same v0 w ws before after ready.is.right ready.whole ready.buffers.apart stage at prep)

    holds : HasBuffersOf after v p l (commands o)
    holds = record {
      lies = lies_same before.taken after.taken (pieces_of v) frames ready.buffers.lies;
      apart = ready.buffers.apart;
      hold = prepared.hold_after v0 w ws before after ready.is.right ready.whole ready.buffers.apart stage at prep v0.room (place_behind p.says l) (commands o) ready.is.stands.waiting ready.buffers.hold;
    }

    read : HasReadFor (oldest u).command p.stored (blocks_read v.done (entry_blocks (oldest u).len) (standing.posted 0)) (entry_bytes_in after (oldest u))
    read =
        let first = oldest_like v.waiting xs like in
        transport (λ i. HasReadFor (ap (λ (x : Waiting). x.command) (sym first) i) p.stored (blocks_read v.done (entry_blocks (ap (λ (x : Waiting). x.len) (sym first) i)) (standing.posted 0)) (sym (entry_like after v.waiting xs like) i))
        (prepared.read_after v0 w ws before after ready.is.right ready.whole ready.buffers.apart stage at prep p.stored (blocks_read v.done (entry_blocks w.len) (standing.posted 0)) ready.read)

    pub posts : IsRunning h blocks after ring (stage_with v stage None) p g o
    posts = subst (λ y. IsRunning h blocks after ring y p g o) (sym shape) (record {
      is = opened;
      size = ready.size;
      on_disk = ready.on_disk;
      full = ready.full;
      area = subst (λ (y : Option Opened). LogStandsAs h blocks g p (standing.posted 0) y) (sym ready.is.opened) (subst (λ t. OpenStands t h blocks g o p (standing.posted 0)) (sym (ap not (sym ready.is.failed ∙ ready.going))) ready.goes);
      has = has_proceeding h blocks p g o (standing.posted 0) ready.goes;
      ring = subst (λ y. IsRingBy y after 0 (d ∷ []) []) shape (
        stage,
        d.buf,
        record {
          way = way;
          its = ap (λ y. posting_of y stage) (sym (lent_back v stage some));
          header = header_lent v after stage (prepared.has_header v0 w ws before after ready.is.right ready.whole ready.buffers.apart stage at prep);
          more = more;
        },
      );
      buffers = lent_buffers after v p l (commands o) xs hd v.done v.failed like holds holds.hold;
      read = where_any (makes_calls o (standing.posted 0)) (HasReadFor (oldest u).command p.stored (blocks_read v.done (entry_blocks (oldest u).len) (standing.posted 0)) (entry_bytes_in after (oldest u))) read;
    })

-- The same of any log with a command that waits.
any_posts : (h : History) (blocks : List ℕ) (before after : Space) (size : ℕ) (w : Waiting) (ws : List Waiting) (v : OpenChain) (p : Layout) (g : Log) (o : Opened) → v.waiting ≡ w ∷ ws → IsReady h blocks before v p g o → (stage : Stage) → stage_of v ≡ Some stage → IsPrepared v stage before after
    → IsRunning h blocks after (record { posted = posting_of v stage ∷ []; unreaped = []; moved = 0; size = size }) (stage_with v stage None) p g o
any_posts h blocks before after size w ws v p g o is =
    let is_v : v ≡ record v { waiting = w ∷ ws } = λ i. record v { waiting = is i } in
    subst (λ y. IsReady h blocks before y p g o → (stage : Stage) → stage_of y ≡ Some stage → IsPrepared y stage before after → IsRunning h blocks after (record { posted = posting_of y stage ∷ []; unreaped = []; moved = 0; size = size }) (stage_with y stage None) p g o)
    (sym is_v) (λ ready stage at prep. posts h blocks before after size v w ws p g o ready stage at prep)

-- A poll that posts, where the ring has nothing.
pub posted_runs : (h : History) (blocks : List ℕ) (p : Layout) (g : Log) (o : Opened) (old new : Around) (result : Polled) (stage : Stage) → IsPosted stage old new result → old.ring.posted ≡ [] → old.ring.unreaped ≡ [] → old.ring.moved ≡ 0 → 0 < length old.chain.waiting
    → IsReady h blocks old.space old.chain p g o → stage_of old.chain ≡ Some stage → IsRunning h blocks new.space new.ring new.chain p g o
posted_runs h blocks p g o old new result stage is no_ds no_us none_moved some ready at = by old.chain.waiting refl
  where
    ring_is : new.ring ≡ record { posted = posting_of old.chain stage ∷ []; unreaped = []; moved = 0; size = old.ring.size }
    ring_is = is.ring ∙ (λ i. record { posted = no_ds i ++ posting_of old.chain stage ∷ []; unreaped = no_us i; moved = none_moved i; size = old.ring.size })

    by : (xs : List Waiting) → old.chain.waiting ≡ xs → IsRunning h blocks new.space new.ring new.chain p g o
    by [] none = let long : length old.chain.waiting ≡ 0 = ap length none in absurd (omega (arith, long, some))
    by (w ∷ ws) front =
        transport (λ i. IsRunning h blocks new.space (sym ring_is i) (sym is.chain i) p g o) (any_posts h blocks old.space new.space old.ring.size w ws old.chain p g o front ready stage at is.space)
