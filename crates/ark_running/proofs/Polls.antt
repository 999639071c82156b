-- What a poll asks of an open log, and what becomes of it when a descriptor has ended badly.
use Rattle.std.proofs.Common.{◌≡◌, ℕ, ◌+◌, ◌≤◌, Bool, true, List, [], ◌∷◌, length, map, drop, Option, Some, refl, sym, ap, ◌∙◌, subst, arith}
use Rattle.std.specs.Prelude.{slice_get}
use Rattle.std.specs.List.{AllByRecursion}
use Rattle.std.proofs.Math.Path.{transport}
use Rattle.ark_media.specs.Journal.{History}
use Rattle.ark_region.specs.Frames.{LiesInRegion, Piece, ShareNoFrame, Space}
use Rattle.ark_vic.specs.Queue.{Queue}
use Rattle.ark_vic.specs.declared.descriptor.Completion.{Completion}
use Rattle.ark_vic.specs.declared.descriptor.Descriptor.{Descriptor}
use Rattle.ark_entry.specs.Found.{Entries}
use Rattle.ark_caladan.specs.Chain.{Command, Log, Opened, commands, entries, list_choices, pending, stored_after}
use Rattle.ark_caladan.specs.Listed.{IsFoundIn, IsListed}
use Rattle.ark_caladan.specs.Open.{Layout}
use Rattle.ark_caladan.specs.Postings.{HoldEntries, place_behind}
use Rattle.ark_caladan.specs.Standing.{LogStands, idle}
use Rattle.ark_log.specs.declared.command.Waiting.{Waiting}
use Rattle.ark_log.specs.declared.polling.Polled.{Polled}
use Rattle.ark_log.specs.declared.stage.Stage.{Stage}
use Rattle.ark_log.specs.Open.{IsRight, OpenChain}
use Rattle.ark_log.specs.Polled.{Around, EndsBadly, HasEnded, MayEnd, failed_with, reaped, returned_at}
use Rattle.ark_log.specs.Stages.{IsWhole, oldest, oldest_in, stage_with}
use Rattle.ark_running.specs.Accepted.{with_opened}
use Rattle.ark_running.specs.Buffers.{HasNoneOfTrim, entry_bytes_in, header_piece, pieces_of}
use Rattle.ark_running.specs.Polling.{failing}
use Rattle.ark_running.specs.Ringed.{IsRingBy, IsUnderWay, progress_by, progress_of}
use Rattle.ark_running.specs.Running.{HasBuffersOf, HasReadSoFar, IsOpenFor, IsRunning}
use Rattle.ark_running.proofs.Framing.{running_listed}
use Rattle.ark_running.proofs.Like.{AreLike, TrimsHaveNone, as_lent, buffers_in, entries_like, header_with, like_stage, none_stage, open_like, pieces_like, right_stage, stage_is, trims_stage, waiting_with}

oldest_none : (ws : List Waiting) → TrimsHaveNone ws → HasNoneOfTrim (oldest_in ws).command (oldest_in ws).buf
oldest_none [] all = refl
oldest_none (w ∷ ws) all = all.0

-- the buffers in the memory are those of the log as it was
pub lent_buffers : (space : Space) (v : OpenChain) (p : Layout) (l : Entries) (cs : List Command) (ws : List Waiting) (header : Option Piece) (done : ℕ) (failed : Bool) → AreLike v.waiting ws → HasBuffersOf space v p l cs
    → HoldEntries v.room (place_behind p.says l) done cs (map (entry_bytes_in space) v.waiting) → HasBuffersOf space (as_lent v ws header done failed) p l cs
lent_buffers space v p l cs ws header done failed like has hold =
    let same : pieces_of v ≡ pieces_of (as_lent v ws header done failed) = ap (λ t. header_piece v ∷ t) (sym (pieces_like v.waiting ws like)) in
    record {
      lies = subst (λ bs. AllByRecursion (LiesInRegion space.taken) bs) same has.lies;
      apart = subst ShareNoFrame same has.apart;
      hold = subst (λ bs. HoldEntries v.room (place_behind p.says l) done cs bs) (sym (entries_like space v.waiting ws like)) hold;
    }

-- what a ring has whose descriptor has ended
pub ended_ring : (v : OpenChain) (space : Space) (moved : ℕ) (ds : List Descriptor) (us : List Completion) (e : Completion) → IsRingBy v space moved ds us → ds ≡ [] → slice_get us 0 ≡ Some e
    → (us ≡ e ∷ []) × (moved ≡ 0) × ((stage : Stage) × IsUnderWay v stage e.buf)
ended_ring v space moved [] [] e is none first = absurd (cc (first))
ended_ring v space moved (d ∷ []) [] e is none first = absurd (cc (none))
ended_ring v space moved [] (u ∷ []) e is none first =
    let same : u ≡ e = cc (first) in
    (ap (λ (x : Completion). x ∷ []) same, is.0, (is.1.0, subst (λ (x : Completion). IsUnderWay v is.1.0 x.buf) same is.1.1))
ended_ring v space moved [] (u ∷ x ∷ us) e is none first = absurd is
ended_ring v space moved (d ∷ []) (u ∷ us) e is none first = absurd is
ended_ring v space moved (d ∷ x ∷ ds) us e is none first = absurd is

-- its ring has one member at most
pub alone : (v : OpenChain) (space : Space) (moved : ℕ) (ds : List Descriptor) (us : List Completion) → IsRingBy v space moved ds us → length ds + length us ≤ 1
alone v space moved [] [] is = omega arith
alone v space moved (d ∷ []) [] is = omega arith
alone v space moved [] (u ∷ []) is = omega arith
alone v space moved [] (u ∷ x ∷ us) is = absurd is
alone v space moved (d ∷ []) (u ∷ us) is = absurd is
alone v space moved (d ∷ x ∷ ds) us is = absurd is

-- where the ring has nothing, its buffers are there
pub free_whole : (v : OpenChain) (space : Space) (moved : ℕ) (ds : List Descriptor) (us : List Completion) → IsRingBy v space moved ds us → length ds + length us ≡ 0 → IsWhole v
free_whole v space moved [] [] is none = is.1.whole
free_whole v space moved (d ∷ ds) us is none = absurd (omega (arith, none))
free_whole v space moved [] (u ∷ us) is none = absurd (omega (arith, none))

module _ (space : Space) (v : OpenChain) (p : Layout) (g : Log) (o : Opened) (is : IsOpenFor v p g o) (stage : Stage) (buf : Option Piece) (way : IsUnderWay v stage buf) where
  pub trims_are : TrimsHaveNone (waiting_with stage buf v.waiting)
  trims_are = trims_stage stage buf v.waiting (none_stage (oldest v).command v.done stage buf (oldest v).buf way.is (oldest_none v.waiting is.trims)) is.trims

  -- its descriptor may end with the buffer that it has
  pub may_end : (l : Entries) (cs : List Command) → HasBuffersOf space v p l cs → MayEnd v space.taken buf
  may_end l cs has = record {
    stage = stage;
    is = way.is;
    its = way.its;
    whole = way.whole;
    lies = buffers_in space.taken (stage_with v stage buf) (right_stage v stage buf is.right way.its) (subst (λ (u : OpenChain). TrimsHaveNone u.waiting) (sym (stage_is v stage buf)) trims_are)
        (subst (λ (u : OpenChain). AllByRecursion (LiesInRegion space.taken) (pieces_of u)) (sym (stage_is v stage buf))
        (lent_buffers space v p l cs (waiting_with stage buf v.waiting) (header_with stage buf v.header) v.done v.failed (like_stage stage buf v.waiting) has has.hold).lies);
  }

-- a log that has failed is as listed
pub failed_listed : (h : History) (blocks : List ℕ) (g : Log) (o : Opened) → g.opened ≡ Some o → IsListed h blocks g → IsListed h blocks (with_opened g (record o { failed = true }))
failed_listed h blocks g o opened listed =
    subst (λ (y : Option (Command × Bool)). IsFoundIn g.kind h blocks (stored_after g.list y) (list_choices g.list y)) (ap (λ (y : Option Opened). pending y g.left) opened) listed

module _ (h : History) (blocks : List ℕ) (space : Space) (ring : Queue) (v : OpenChain) (p : Layout) (g : Log) (o : Opened) (runs : IsRunning h blocks space ring v p g o) where
  pub fails : (e : Completion) → ring.posted ≡ [] → slice_get ring.unreaped 0 ≡ Some e → IsRight (failed_with v e.buf) → IsRunning h blocks space (reaped ring) (failed_with v e.buf) p (with_opened g (failing o)) (failing o)
  fails e none first right =
      subst (λ u. IsRunning h blocks space (reaped ring) u p (with_opened g (failing o)) (failing o)) (sym shape) (record {
        is = open_like v p g o ws hd v.done o.done true runs.is like (subst IsRight shape right) (trims_are space v p g o runs.is stage e.buf way) runs.is.done;
        size = runs.size;
        on_disk = runs.on_disk;
        full = runs.full;
        area = subst (λ q. LogStands h blocks (with_opened g (failing o)) p q) (sym rests) (failed_listed h blocks g o runs.is.opened (running_listed h blocks space ring v p g o runs));
        has = runs.has;
        ring = transport (λ i. IsRingBy u space ring.moved (sym none i) (sym left i)) (was.1, record { whole = whole; begins = λ going. absurd (cc (going)) });
        buffers = lent_buffers space v p (entries g.list) (commands o) ws hd v.done true like runs.buffers runs.buffers.hold;
        read = subst (λ q. HasReadSoFar space u p (failing o) q) (sym rests) tt;
      })
    where
      was : (ring.unreaped ≡ e ∷ []) × (ring.moved ≡ 0) × ((stage : Stage) × IsUnderWay v stage e.buf)
      was = ended_ring v space ring.moved ring.posted ring.unreaped e runs.ring none first

      stage : Stage
      stage = was.2.0

      way : IsUnderWay v stage e.buf
      way = was.2.1

      ws : List Waiting
      ws = waiting_with stage e.buf v.waiting

      hd : Option Piece
      hd = header_with stage e.buf v.header

      u : OpenChain
      u = as_lent v ws hd v.done true

      like : AreLike v.waiting ws
      like = like_stage stage e.buf v.waiting

      shape : failed_with v e.buf ≡ u
      shape = ap (λ s. record (returned_at v s e.buf) { failed = true }) way.is ∙ ap (λ (y : OpenChain). record y { failed = true }) (stage_is v stage e.buf)

      left : drop 1 ring.unreaped ≡ []
      left = ap (λ us. drop 1 us) was.0

      rests : progress_of (reaped ring) ≡ idle
      rests = λ i. progress_by (none i) (left i) ring.moved

      whole : IsWhole u
      whole = let is : IsWhole (as_lent v ws hd v.done v.failed) = subst IsWhole (stage_is v stage e.buf) way.whole in record { header = is.header; entries = is.entries }

-- The same of a poll.
pub polled_fails : (h : History) (blocks : List ℕ) (p : Layout) (g : Log) (o : Opened) (old new : Around) (result : Polled) → IsRunning h blocks old.space old.ring old.chain p g o → (ending : HasEnded old new result) → EndsBadly ending.ending old new result → IsRight new.chain
    → IsRunning h blocks new.space new.ring new.chain p (with_opened g (failing o)) (failing o)
polled_fails h blocks p g o old new result runs ending badly right =
    subst (λ (n : Around). IsRunning h blocks n.space n.ring n.chain p (with_opened g (failing o)) (failing o)) (sym badly.failed)
    (fails h blocks old.space old.ring old.chain p g o runs ending.ending ending.posted ending.first (subst (λ (n : Around). IsRight n.chain) badly.failed right))

-- what is unreaped may end the stage under way
pub may_ends : (h : History) (blocks : List ℕ) (space : Space) (ring : Queue) (v : OpenChain) (p : Layout) (g : Log) (o : Opened) → IsRunning h blocks space ring v p g o → (c : Completion) → slice_get ring.unreaped 0 ≡ Some c → MayEnd v space.taken c.buf
may_ends h blocks space ring v p g o runs c first =
    let was = ended_ring v space ring.moved ring.posted ring.unreaped c runs.ring (unreaped_alone ring.posted ring.unreaped runs.ring first) first in
    may_end space v p g o runs.is was.2.0 c.buf was.2.1 (entries g.list) (commands o) runs.buffers
  where
    unreaped_alone : (ds : List Descriptor) (us : List Completion) → IsRingBy v space ring.moved ds us → slice_get us 0 ≡ Some c → ds ≡ []
    unreaped_alone [] us is at = refl
    unreaped_alone (d ∷ []) [] is at = absurd (cc (at))
    unreaped_alone (d ∷ []) (u ∷ us) is at = absurd is
    unreaped_alone (d ∷ x ∷ ds) us is at = absurd is
