-- What a poll leaves of the ring and the buffers of an open log.
use Rattle.std.proofs.Common.{◌≡◌, inl, inr, ℕ, zero, suc, ◌+◌, ◌-◌, ◌*◌, ◌≤◌, ◌<◌, Bool, true, List, [], ◌∷◌, ◌++◌, length, drop, refl, sym, ◌∙◌, ap, subst, arith}
use Rattle.std.specs.Prelude.{All, Option, Some, None, IfSome, IsSome, MatchOption, slice_get}
use Rattle.std.proofs.lemmas.List.Elements.{All-cons, All-drop, All-tail}
use Rattle.ark_entry.specs.Entry.{entry_blocks}
use Rattle.ark_entry.proofs.Readings.{some_block}
use Rattle.ark_region.specs.Frames.{Piece, Space, LiesInRegion}
use Rattle.ark_vic.specs.Queue.{Queue, members}
use Rattle.ark_vic.specs.declared.descriptor.Descriptor.{Descriptor}
use Rattle.ark_vic.specs.declared.descriptor.Completion.{Completion}
use Rattle.ark_vsic.specs.Moves.{CanMove}
use Rattle.ark_log.specs.declared.command.Command.{Command}
use Rattle.ark_log.specs.declared.command.Command.TheVariants.{Append, Trim, Pop}
use Rattle.ark_log.specs.declared.command.Waiting.{Waiting}
use Rattle.ark_log.specs.declared.polling.Polled.{Polled}
use Rattle.ark_log.specs.declared.stage.Stage.{Stage}
use Rattle.ark_log.specs.declared.stage.Stage.TheVariants.{Load, Draft, Mark, Header, Clear, Flush}
use Rattle.ark_log.specs.Acked.{acknowledged}
use Rattle.ark_log.specs.Closed as given
use Rattle.ark_log.specs.Closed.{HasBuffersIn, given_back}
use Rattle.ark_log.specs.Open.{IsRight, OpenChain}
use Rattle.ark_log.specs.Polled.{Around, GoesOn, HasPolled, given_len, IsAcked, IsPosted, MayEnd, ended, failed_with, reaped, returned_at, stage_of}
use Rattle.ark_log.specs.Stages.{HasEntryBuffer, IsPrepared, IsWhole, oldest, oldest_in, posting_of, stage_with, stages_of}
use Rattle.ark_log.proofs.Ended.{ended_lies, ended_whole, posted_ends}
use Rattle.ark_log.proofs.Lent.{oldest_has}
use Rattle.ark_log.proofs.Whole.{whole_acknowledged}
use Rattle.ark_running.proofs.Acks.{given_long}
use Rattle.ark_running.proofs.Bounds.{has_entry, its_entry}
use Rattle.ark_running.proofs.Like.{right_done, right_stage, stage_is}
use Rattle.ark_running.proofs.Posts.{long_stage, some_blocks}
use Rattle.ark_held.specs.LogRings.{IsLogRing, IsWithStage}
use Rattle.ark_held.specs.Polling.{IsShortIfAcked}
use Rattle.ark_held.specs.Rings.{IsSoundRing}
use Rattle.ark_held.proofs.Lists.{some_same}
use Rattle.ark_held.proofs.LogRings.{free_ring}
use Rattle.ark_held.proofs.Sounding.{sound_posted, sound_reaped}

-- the ring and the buffers of an open log are so, in a memory of these frames
pub record IsKept (taken : List Bool) (v : OpenChain) (q : Queue) : Type 0 where
  pub ring : IsLogRing taken v q
  pub lies : HasBuffersIn taken v
  pub sound : IsSoundRing taken q

-- a buffer that is there has room for so many blocks from a byte on
room_in : (taken : List Bool) (start len from count : ℕ) (o : Option Piece) → IsSome o → IfSome o (LiesInRegion taken) → IfSome o (λ b. (b.start ≡ start) × (b.len ≡ len)) → from + 512 * count ≤ len
    → MatchOption o ⊥ (λ b. LiesInRegion taken b × (from + 512 * count ≤ b.len))
room_in taken start len from count None some lies is fits = absurd (cc (some))
room_in taken start len from count (Some b) some lies is fits = (lies, let long = is.1 in omega (arith, long, fits))

taken_same : (o : Option Piece) (before after : Space) (P : Piece → Type 0) → IsSome o → ((b : Piece) → P b → after.taken ≡ before.taken) → IfSome o P → after.taken ≡ before.taken
taken_same None before after P some all its = absurd (cc (some))
taken_same (Some b) before after P some all its = all b its

module _ (taken : List Bool) where
  -- The descriptor of the next stage can be moved.
  module _ (v0 : OpenChain) (w : Waiting) (ws : List Waiting) where
    abbrev v : OpenChain
    v = record v0 { waiting = w ∷ ws }

    module _ (right : IsRight v) (whole : IsWhole v) (s : Stage) (at : stage_of v ≡ Some s) where
      there : has_entry s ≡ true → IsSome w.buf
      there has = (its_entry v0 w ws s at has w.buf).0 (whole.entries 0 w (omega arith))

      can_post : HasBuffersIn taken v → CanMove taken 0 (posting_of v s)
      can_post lies = by s refl (some_blocks v right w ws refl s at)
        where
          entry : has_entry s ≡ true → (from count : ℕ) → from + 512 * count ≤ 512 * entry_blocks w.len → MatchOption w.buf ⊥ (λ b. LiesInRegion taken b × (from + 512 * count ≤ b.len))
          entry has from count fits = room_in taken w.start (512 * entry_blocks w.len) from count w.buf (there has) (lies.waiting 0 w (omega arith)) (right.buffers 0 w (omega arith)).1 fits

          by : (t : Stage) → s ≡ t → 0 < (posting_of v s).count → CanMove taken 0 (posting_of v t)
          by Load is some = (some_block w.len, entry (ap has_entry is) 0 (entry_blocks w.len) (omega arith))
          by Draft is some = (some_block w.len, entry (ap has_entry is) 0 (entry_blocks w.len) (omega arith))
          by Mark is some = (omega arith, entry (ap has_entry is) (512 * (entry_blocks w.len - 1)) 1 (let more = some_block w.len in omega (arith, more)))
          by Header is some = (omega arith, room_in taken v0.header_at 512 0 1 v0.header whole.header lies.header right.header_is (omega arith))
          by Clear is some = subst (λ t. 0 < (posting_of v t).count) is some
          by Flush is some = tt

      -- no frame is taken or freed to prepare it
      prepared : (before after : Space) → IsPrepared v s before after → after.taken ≡ before.taken
      prepared before after made = by s refl made
        where
          by : (t : Stage) → s ≡ t → IsPrepared v t before after → after.taken ≡ before.taken
          by Load is same = ap (λ (x : Space). x.taken) same
          by Draft is same = ap (λ (x : Space). x.taken) same
          by Mark is wrote = taken_same w.buf before after _ (there (ap has_entry is)) (λ b x. x.taken) wrote
          by Header is wrote = taken_same v0.header before after _ whole.header (λ b x. x.taken) wrote
          by Clear is same = ap (λ (x : Space). x.taken) same
          by Flush is same = ap (λ (x : Space). x.taken) same

    -- its buffer is away
    lent : (s : Stage) → HasBuffersIn taken v → HasBuffersIn taken (stage_with v s None)
    lent s lies = by s
      where
        away : HasBuffersIn taken (record v { waiting = record w { buf = None } ∷ ws })
        away = record { header = lies.header; waiting = All-cons (given.LiesIn taken) (record w { buf = None }) ws tt (All-tail (given.LiesIn taken) w ws lies.waiting) }

        by : (s : Stage) → HasBuffersIn taken (stage_with v s None)
        by Load = away
        by Draft = away
        by Mark = away
        by Header = record { header = tt; waiting = lies.waiting }
        by Clear = lies
        by Flush = lies

  -- the ring that has the one descriptor of a stage under way
  one_ring : (u : OpenChain) (d : Descriptor) (moved size : ℕ) → IsWithStage taken u d.buf → IsLogRing taken u (record { posted = d ∷ []; unreaped = []; moved = moved; size = size })
  one_ring u d moved size its = record {
    alone = omega arith;
    whole = λ none. absurd (omega (arith, none));
    posted = λ e at. subst (λ (z : Descriptor). IsWithStage taken u z.buf) (some_same (Some d) d e refl at) its;
    unreaped = λ c at. absurd (cc (at));
  }

  some_lent : (v : OpenChain) (s : Stage) (buf : Option Piece) → 0 < length v.waiting → 0 < length (stage_with v s buf).waiting
  some_lent v s buf some = subst (λ (u : OpenChain). 0 < length u.waiting) (sym (stage_is v s buf)) (let same = long_stage s buf v.waiting in omega (arith, same, some))

  lies_acknowledged : (v : OpenChain) (c : Command) → HasBuffersIn taken v → HasBuffersIn taken (acknowledged v c)
  lies_acknowledged v (Append n) lies = record { header = lies.header; waiting = All-drop (given.LiesIn taken) 1 v.waiting lies.waiting }
  lies_acknowledged v (Trim n) lies = record { header = lies.header; waiting = All-drop (given.LiesIn taken) 1 v.waiting lies.waiting }
  lies_acknowledged v (Pop n) lies = record { header = lies.header; waiting = All-drop (given.LiesIn taken) 1 v.waiting lies.waiting }

  oldest_lies : (ws : List Waiting) → All (given.LiesIn taken) ws → IfSome (oldest_in ws).buf (LiesInRegion taken)
  oldest_lies [] all = tt
  oldest_lies (w ∷ ws) all = all 0 w (omega arith)

  -- The oldest command goes on, of which nothing is in the ring.
  module _ (old new : Around) (result : Polled) (right : IsRight old.chain) (some : 0 < length old.chain.waiting) (whole : IsWhole old.chain) (lies : HasBuffersIn taken old.chain) (sound : IsSoundRing taken old.ring)
      (posted : old.ring.posted ≡ []) (unreaped : old.ring.unreaped ≡ []) where
    posts : (s : Stage) (ws : List Waiting) → old.chain.waiting ≡ ws → stage_of old.chain ≡ Some s → IsPosted s old new result → IsKept taken new.chain new.ring × (new.space.taken ≡ old.space.taken)
    posts s [] is at goes = let none : ⊥ = omega (arith, some, ap (λ (xs : List Waiting). length xs) is) in absurd none
    posts s (w ∷ ws) is at goes =
        let v = record old.chain { waiting = w ∷ ws } in
        let same : old.chain ≡ v = ap (λ (xs : List Waiting). record old.chain { waiting = xs }) is in
        let right2 : IsRight v = subst IsRight same right in
        let whole2 : IsWhole v = subst IsWhole same whole in
        let at2 : stage_of v ≡ Some s = subst (λ (u : OpenChain). stage_of u ≡ Some s) same at in
        let lies2 : HasBuffersIn taken v = subst (HasBuffersIn taken) same lies in
        let d = posting_of old.chain s in
        let its : IsWithStage taken (stage_with old.chain s None) d.buf = record { some = some_lent old.chain s None some; ends = posted_ends old.chain s taken right some at whole lies } in
        let ring : record old.ring { posted = d ∷ []; unreaped = [] } ≡ new.ring = (λ i. record old.ring { posted = sym posted i ++ d ∷ []; unreaped = sym unreaped i }) ∙ sym goes.ring in (
          record {
            ring = subst (λ (u : OpenChain). IsLogRing taken u new.ring) (sym goes.chain) (subst (λ (q : Queue). IsLogRing taken (stage_with old.chain s None) q) ring (one_ring (stage_with old.chain s None) d old.ring.moved old.ring.size its));
            lies = subst (HasBuffersIn taken) (sym goes.chain) (subst (λ (u : OpenChain). HasBuffersIn taken (stage_with u s None)) (sym same) (lent old.chain w ws s lies2));
            sound = subst (λ (q : Queue). IsSoundRing taken q) (sym goes.ring) (sound_posted taken old.ring d (subst (λ (u : OpenChain). CanMove taken 0 (posting_of u s)) (sym same) (can_post old.chain w ws right2 whole2 s at2 lies2)) sound);
          },
          prepared old.chain w ws right2 whole2 s at2 old.space new.space (subst (λ (u : OpenChain). IsPrepared u s old.space new.space) same goes.space),
        )

    acks : IsAcked old new result → IsKept taken new.chain new.ring
    acks acked = record {
      ring = subst (λ (u : OpenChain). IsLogRing taken u new.ring) (sym acked.chain)
          (subst (λ (q : Queue). IsLogRing taken (acknowledged old.chain (oldest old.chain).command) q) (sym acked.ring)
          (free_ring taken (acknowledged old.chain (oldest old.chain).command) old.ring posted unreaped (whole_acknowledged old.chain (oldest old.chain).command whole)));
      lies = subst (HasBuffersIn taken) (sym acked.chain) (lies_acknowledged old.chain (oldest old.chain).command lies);
      sound = subst (λ (q : Queue). IsSoundRing taken q) (sym acked.ring) sound;
    }

    goes_kept : (s : Option Stage) → stage_of old.chain ≡ s → GoesOn s old new result → IsKept taken new.chain new.ring
    goes_kept (Some s) at goes = (posts s old.chain.waiting refl at goes).0
    goes_kept None at goes = acks goes

    goes_short : (s : Option Stage) → GoesOn s old new result → IsShortIfAcked result
    goes_short (Some s) goes = subst IsShortIfAcked (sym goes.answer) tt
    goes_short None goes = subst IsShortIfAcked (sym goes.answer) (by (oldest old.chain).command)
      where
        by : (c : Command) → given_len c (oldest old.chain).len ≤ 32768
        by (Append n) = omega arith
        by (Trim n) = omega arith
        by (Pop n) = (oldest_has old.chain right some).0

    goes_long : taken ≡ old.space.taken → (s : Option Stage) → stage_of old.chain ≡ s → GoesOn s old new result → length new.space.taken ≡ length old.space.taken
    goes_long is (Some s) at goes = ap (λ (t : List Bool). length t) (posts s old.chain.waiting refl at goes).1
    goes_long is None at goes =
        ap (λ (x : Space). length x.taken) goes.space
        ∙ given_long old.space.taken (oldest old.chain).buf (subst (λ (t : List Bool). IfSome (oldest old.chain).buf (LiesInRegion t)) is (oldest_lies old.chain.waiting lies.waiting))

  none_left : (us : List Completion) (c : Completion) → slice_get us 0 ≡ Some c → length us ≤ 1 → drop 1 us ≡ []
  none_left [] c at few = absurd (cc (at))
  none_left (u ∷ []) c at few = refl
  none_left (u ∷ x ∷ us) c at few = absurd (omega (arith, few))

  -- A descriptor has ended.
  module _ (v : OpenChain) (buf : Option Piece) (right : IsRight v) (is : IsWithStage taken v buf) where
    right_ended : IsRight (ended v buf)
    right_ended = subst (λ o. IsRight (record (returned_at v o buf) { done = v.done + 1 })) (sym is.ends.is) (right_done (stage_with v is.ends.stage buf) (v.done + 1) (right_stage v is.ends.stage buf right is.ends.its))

    some_ended : 0 < length (ended v buf).waiting
    some_ended = subst (λ o. 0 < length (returned_at v o buf).waiting) (sym is.ends.is) (some_lent v is.ends.stage buf is.some)

    whole_failed : IsWhole (failed_with v buf)
    whole_failed = subst (λ o. IsWhole (record (returned_at v o buf) { failed = true })) (sym is.ends.is) (record { header = is.ends.whole.header; entries = is.ends.whole.entries })

    lies_failed : HasBuffersIn taken (failed_with v buf)
    lies_failed = subst (λ o. HasBuffersIn taken (record (returned_at v o buf) { failed = true })) (sym is.ends.is) (record { header = is.ends.lies.header; waiting = is.ends.lies.waiting })

  module _ (old new : Around) (result : Polled) (right : IsRight old.chain) (ring : IsLogRing taken old.chain old.ring) (lies : HasBuffersIn taken old.chain) (sound : IsSoundRing taken old.ring) where
    whole_by : old.ring.posted ≡ [] → old.ring.unreaped ≡ [] → IsWhole old.chain
    whole_by posted unreaped = ring.whole (let a = ap (λ (ds : List Descriptor). length ds) posted in let b = ap (λ (us : List Completion). length us) unreaped in omega (arith, a, b))

    left : (c : Completion) → slice_get old.ring.unreaped 0 ≡ Some c → drop 1 old.ring.unreaped ≡ []
    left c at = none_left old.ring.unreaped c at (let few = ring.alone in omega (arith, few))

    pub polled_kept : HasPolled old new result → IsKept taken new.chain new.ring
    polled_kept (inl nothing) = subst (λ (x : Around). IsKept taken x.chain x.ring) (sym nothing.same) (record { ring = ring; lies = lies; sound = sound })
    polled_kept (inr (inl begun)) = goes_kept old new result right begun.some (whole_by begun.posted begun.unreaped) lies sound begun.posted begun.unreaped (stage_of old.chain) refl begun.goes
    polled_kept (inr (inr e)) = elim e.ends [
      | inl well ↦
          let its = ring.unreaped e.ending e.first in
          let buf = e.ending.buf in
          goes_kept (record old { chain = ended old.chain buf; ring = reaped old.ring }) new result (right_ended old.chain buf right its) (some_ended old.chain buf right its)
          (ended_whole old.chain taken buf its.ends) (ended_lies old.chain taken buf its.ends) (sound_reaped taken old.ring (reaped old.ring) refl sound) e.posted (left e.ending e.first) (stage_of (ended old.chain buf)) refl well.goes
      | inr badly ↦
          let its = ring.unreaped e.ending e.first in
          let buf = e.ending.buf in
          subst (λ (x : Around). IsKept taken x.chain x.ring) (sym badly.failed) (record {
            ring = free_ring taken (failed_with old.chain buf) (reaped old.ring) e.posted (left e.ending e.first) (whole_failed old.chain buf right its);
            lies = lies_failed old.chain buf right its;
            sound = sound_reaped taken old.ring (reaped old.ring) refl sound;
          })
    ]

    pub polled_short : HasPolled old new result → IsShortIfAcked result
    polled_short (inl nothing) = subst IsShortIfAcked (sym nothing.answer) tt
    polled_short (inr (inl begun)) = goes_short old new result right begun.some (whole_by begun.posted begun.unreaped) lies sound begun.posted begun.unreaped (stage_of old.chain) begun.goes
    polled_short (inr (inr e)) = elim e.ends [
      | inl well ↦
          let its = ring.unreaped e.ending e.first in
          let buf = e.ending.buf in
          goes_short (record old { chain = ended old.chain buf; ring = reaped old.ring }) new result (right_ended old.chain buf right its) (some_ended old.chain buf right its)
          (ended_whole old.chain taken buf its.ends) (ended_lies old.chain taken buf its.ends) (sound_reaped taken old.ring (reaped old.ring) refl sound) e.posted (left e.ending e.first) (stage_of (ended old.chain buf)) well.goes
      | inr badly ↦ subst IsShortIfAcked (sym badly.answer) tt
    ]

    pub polled_long : taken ≡ old.space.taken → HasPolled old new result → length new.space.taken ≡ length old.space.taken
    polled_long is (inl nothing) = ap (λ (x : Around). length x.space.taken) nothing.same
    polled_long is (inr (inl begun)) = goes_long old new result right begun.some (whole_by begun.posted begun.unreaped) lies sound begun.posted begun.unreaped is (stage_of old.chain) refl begun.goes
    polled_long is (inr (inr e)) = elim e.ends [
      | inl well ↦
          let its = ring.unreaped e.ending e.first in
          let buf = e.ending.buf in
          goes_long (record old { chain = ended old.chain buf; ring = reaped old.ring }) new result (right_ended old.chain buf right its) (some_ended old.chain buf right its)
          (ended_whole old.chain taken buf its.ends) (ended_lies old.chain taken buf its.ends) (sound_reaped taken old.ring (reaped old.ring) refl sound) e.posted (left e.ending e.first) is (stage_of (ended old.chain buf)) refl well.goes
      | inr badly ↦ ap (λ (x : Around). length x.space.taken) badly.failed
    ]

-- its ring has as much room as it had
pub polled_size : (old new : Around) (result : Polled) → HasPolled old new result → new.ring.size ≡ old.ring.size
polled_size old new result (inl nothing) = ap (λ (x : Around). x.ring.size) nothing.same
polled_size old new result (inr (inl begun)) = by old (stage_of old.chain) begun.goes
  where
    by : (was : Around) (s : Option Stage) → GoesOn s was new result → new.ring.size ≡ was.ring.size
    by was (Some s) goes = ap (λ (q : Queue). q.size) goes.ring
    by was None goes = ap (λ (q : Queue). q.size) goes.ring
polled_size old new result (inr (inr e)) = elim e.ends [
  | inl well ↦ by (record old { chain = ended old.chain e.ending.buf; ring = reaped old.ring }) (stage_of (ended old.chain e.ending.buf)) well.goes
  | inr badly ↦ ap (λ (x : Around). x.ring.size) badly.failed
]
  where
    by : (was : Around) (s : Option Stage) → GoesOn s was new result → new.ring.size ≡ was.ring.size
    by was (Some s) goes = ap (λ (q : Queue). q.size) goes.ring
    by was None goes = ap (λ (q : Queue). q.size) goes.ring
