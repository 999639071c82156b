-- The rings of cards, as the logs that are open on them have them.
use Rattle.std.proofs.Common.{◌≡◌, ℕ, ◌+◌, ◌<◌, Bool, true, List, [], ◌∷◌, ◌++◌, length, refl, sym, ◌∙◌, ap, subst, arith, eqb-true}
use Rattle.std.specs.Prelude.{◌==◌, ◌&&◌, Option, Some, None, IfSome, slice_get, Result, Ok, Err, OnOk, OnErr}
use Rattle.std.proofs.lemmas.Bool.{and_parts}
use Rattle.std.proofs.lemmas.List.Elements.{All-push}
use Rattle.ark_base.specs.declared.kind.Outcome.{Outcome}
use Rattle.ark_entry.specs.Entry.{entry_blocks}
use Rattle.ark_objects.specs.Held.{at, Changes}
use Rattle.ark_region.specs.Frames.{Piece, Space}
use Rattle.ark_vic.specs.Queue.{Queue, completion_of}
use Rattle.ark_vic.specs.declared.descriptor.Descriptor.{Descriptor}
use Rattle.ark_vic.specs.declared.descriptor.Completion.{Completion}
use Rattle.ark_vsic.specs.Card.{head_of}
use Rattle.ark_vsic.specs.Moves.{ended, ring_after}
use Rattle.ark_vsic.specs.declared.due.Moved.{Moved}
use Rattle.ark_vsic.specs.declared.due.Moved.TheVariants as moved
use Rattle.ark_log.specs.declared.command.Command.TheVariants.{Append, Trim, Pop}
use Rattle.ark_log.specs.declared.command.Waiting.{Waiting}
use Rattle.ark_log.specs.declared.stage.Stage.{Stage}
use Rattle.ark_log.specs.declared.stage.Stage.TheVariants.{Load, Draft, Mark, Header, Clear, Flush}
use Rattle.ark_log.specs.Closed as given
use Rattle.ark_log.specs.Closed.{HasBuffersIn}
use Rattle.ark_log.specs.Open.{OpenChain}
use Rattle.ark_log.specs.Refused.{length_of, next_number}
use Rattle.ark_log.specs.Stages.{HasEntryBuffer, IsOfStage, IsWhole, stage_with}
use Rattle.ark_log.specs.Waits.{WaitsToAppend, WaitsToPop, waits, with_buffer}
use Rattle.ark_held.specs.LogRings.{AreLogRings, HasLogRing, IsCardRing, IsLogRing, IsWithStage}
use Rattle.ark_held.specs.declared.card.StorageCard.{StorageCard}
use Rattle.ark_held.proofs.CardLogs.{card_less, card_set, no_card}
use Rattle.ark_held.proofs.Lists.{some_same}

-- a key has another card
pub rings_set : (frames : ℕ) (before after : List (Option StorageCard)) (key : ℕ) (one : StorageCard) → Changes before after key (Some one) → 0 < one.vsic.ring.size → HasLogRing frames one.log one.vsic.ring → AreLogRings frames before → AreLogRings frames after
rings_set frames before after key one changes some ring all = card_set (IsCardRing frames) before after key one changes (some, ring) all

-- a key has no card any more
pub rings_less : (frames : ℕ) (before after : List (Option StorageCard)) (key : ℕ) → Changes before after key None → AreLogRings frames before → AreLogRings frames after
rings_less frames before after key changes all = card_less (IsCardRing frames) before after key changes all

-- where there is no card
pub none_ringed : (frames : ℕ) (cards : List (Option StorageCard)) → ((key : ℕ) → at cards key ≡ None) → AreLogRings frames cards
none_ringed frames cards vacant = no_card (IsCardRing frames) cards vacant

-- one card changes, with its log and its ring as they were
pub rings_turned : (frames : ℕ) (before after : List (Option StorageCard)) (key : ℕ) (one now : StorageCard) → at before key ≡ Some one → Changes before after key (Some now) → now.log ≡ one.log → now.vsic.ring ≡ one.vsic.ring → AreLogRings frames before → AreLogRings frames after
rings_turned frames before after key one now there changes log ring all =
    let its = all key one there in
    rings_set frames before after key now changes (subst (λ (q : Queue). 0 < q.size) (sym ring) its.0) (subst (λ (q : Queue). HasLogRing frames now.log q) (sym ring) (subst (λ (o : Option OpenChain). HasLogRing frames o one.vsic.ring) (sym log) its.1)) all

-- one card changes, and its ring has as much room as it had
pub rings_changed : (frames : ℕ) (before after : List (Option StorageCard)) (key : ℕ) (one now : StorageCard) → at before key ≡ Some one → Changes before after key (Some now) → now.vsic.ring.size ≡ one.vsic.ring.size → HasLogRing frames now.log now.vsic.ring → AreLogRings frames before → AreLogRings frames after
rings_changed frames before after key one now there changes size ring all = rings_set frames before after key now changes (subst (λ n. 0 < n) (sym size) (all key one there).0) ring all

-- no log is open
pub shut_ring : (frames : ℕ) (log : Option OpenChain) (q : Queue) → log ≡ None → HasLogRing frames log q
shut_ring frames log q none taken long = subst (λ (o : Option OpenChain). IfSome o (λ v. IsLogRing taken v q)) (sym none) tt

pub none_in : {T : Type 0} (xs : List T) → (length xs == 0) ≡ true → xs ≡ []
none_in [] e = refl
none_in (x ∷ xs) e = let none = eqb-true (length (x ∷ xs)) 0 e in absurd (let z : ⊥ = omega (arith, none) in z)

-- nothing is in the ring, and all buffers of the log are there
pub free_ring : (taken : List Bool) (v : OpenChain) (q : Queue) → q.posted ≡ [] → q.unreaped ≡ [] → IsWhole v → IsLogRing taken v q
free_ring taken v q posted unreaped whole = record {
  alone = let a = ap (λ (ds : List Descriptor). length ds) posted in let b = ap (λ (us : List Completion). length us) unreaped in omega (arith, a, b);
  whole = λ none. whole;
  posted = λ d at. cc (posted, at);
  unreaped = λ c at. cc (unreaped, at);
}

pub unused_ring : (frames : ℕ) (v : OpenChain) (q : Queue) → (length q.posted == 0) && (length q.unreaped == 0) ≡ true → IsWhole v → HasLogRing frames (Some v) q
unused_ring frames v q none whole taken long =
    let parts = and_parts (length q.posted == 0) (length q.unreaped == 0) none in
    free_ring taken v q (none_in q.posted parts.0) (none_in q.unreaped parts.1) whole

-- A card moves.
module _ (taken : List Bool) (v : OpenChain) where
  abbrev queue : List Descriptor → List Completion → ℕ → ℕ → Queue
  queue ds us moved size = record { posted = ds; unreaped = us; moved = moved; size = size }

  ended_ring : (ds : List Descriptor) (us : List Completion) (moved size : ℕ) (o : Outcome) → IsLogRing taken v (queue ds us moved size) → IsLogRing taken v (ended (queue ds us moved size) (slice_get ds 0) o)
  ended_ring [] us moved size o its = its
  ended_ring (d ∷ []) [] moved size o its = record {
    alone = omega arith;
    whole = λ none. absurd (omega (arith, none));
    posted = λ e at. absurd (cc (at));
    unreaped = λ c at. subst (λ (z : Completion). IsWithStage taken v z.buf) (some_same (Some (completion_of d o 0)) (completion_of d o 0) c refl at) (its.posted d refl);
  }
  ended_ring (d ∷ e ∷ ds) us moved size o its = let few = its.alone in absurd (omega (arith, few))
  ended_ring (d ∷ []) (u ∷ us) moved size o its = let few = its.alone in absurd (omega (arith, few))

  after_move : (q : Queue) (a : Moved) → IsLogRing taken v q → IsLogRing taken v (ring_after q a)
  after_move q moved.Idle its = its
  after_move q moved.Held its = its
  after_move q moved.Block its = record { alone = its.alone; whole = its.whole; posted = its.posted; unreaped = its.unreaped }
  after_move q (moved.Done o) its = ended_ring q.posted q.unreaped q.moved q.size o its

moved_size : (q : Queue) (a : Moved) → (ring_after q a).size ≡ q.size
moved_size q moved.Idle = refl
moved_size q moved.Held = refl
moved_size q moved.Block = refl
moved_size q (moved.Done o) = by (head_of q)
  where
    by : (h : Option Descriptor) → (ended q h o).size ≡ q.size
    by None = refl
    by (Some d) = refl

pub rings_moved : (frames : ℕ) (before after : List (Option StorageCard)) (key : ℕ) (one now : StorageCard) (a : Moved) → at before key ≡ Some one → Changes before after key (Some now) → now.log ≡ one.log → now.vsic.ring ≡ ring_after one.vsic.ring a
    → AreLogRings frames before → AreLogRings frames after
rings_moved frames before after key one now a there changes log ring all =
    rings_changed frames before after key one now there changes (ap (λ (q : Queue). q.size) ring ∙ moved_size one.vsic.ring a)
    (λ taken long. subst (λ (o : Option OpenChain). IfSome o (λ v. IsLogRing taken v now.vsic.ring)) (sym log)
    (subst (λ (q : Queue). IfSome one.log (λ v. IsLogRing taken v q)) (sym ring) (by taken one.log ((all key one there).1 taken long)))) all
  where
    by : (taken : List Bool) (o : Option OpenChain) → IfSome o (λ v. IsLogRing taken v one.vsic.ring) → IfSome o (λ v. IsLogRing taken v (ring_after one.vsic.ring a))
    by taken None its = tt
    by taken (Some v) its = after_move taken v one.vsic.ring a its

-- One more command waits.
module _ (taken : List Bool) (v0 : OpenChain) (x : Waiting) (its : HasEntryBuffer x.command x.buf) (inside : given.LiesIn taken x) (lengths : List ℕ) (used coming : ℕ) where
  abbrev was : Option Piece → List Waiting → OpenChain
  was header ws = record v0 { header = header; waiting = ws }

  abbrev more : Option Piece → List Waiting → OpenChain
  more header ws = record v0 { header = header; waiting = ws ++ x ∷ []; lengths = lengths; used = used; coming = coming }

  whole_more : (header : Option Piece) (ws : List Waiting) → IsWhole (was header ws) → IsWhole (more header ws)
  whole_more header ws whole = record { header = whole.header; entries = All-push (λ (w : Waiting). HasEntryBuffer w.command w.buf) ws x whole.entries its }

  lies_more : (header : Option Piece) (ws : List Waiting) → HasBuffersIn taken (was header ws) → HasBuffersIn taken (more header ws)
  lies_more header ws lies = record { header = lies.header; waiting = All-push (given.LiesIn taken) ws x lies.waiting inside }

  module _ (header : Option Piece) (y : Waiting) (ys : List Waiting) (buf : Option Piece) where
    abbrev old : OpenChain
    old = was header (y ∷ ys)

    abbrev now : OpenChain
    now = more header (y ∷ ys)

    abbrev lent : Waiting
    lent = record y { buf = buf }

    of_stage : (s : Stage) → IsOfStage old s buf → IsOfStage now s buf
    of_stage Load is = is
    of_stage Draft is = is
    of_stage Mark is = is
    of_stage Header is = is
    of_stage Clear is = is
    of_stage Flush is = is

    whole_with : (s : Stage) → IsWhole (stage_with old s buf) → IsWhole (stage_with now s buf)
    whole_with Load is = whole_more header (lent ∷ ys) is
    whole_with Draft is = whole_more header (lent ∷ ys) is
    whole_with Mark is = whole_more header (lent ∷ ys) is
    whole_with Header is = whole_more buf (y ∷ ys) is
    whole_with Clear is = whole_more header (y ∷ ys) is
    whole_with Flush is = whole_more header (y ∷ ys) is

    lies_with : (s : Stage) → HasBuffersIn taken (stage_with old s buf) → HasBuffersIn taken (stage_with now s buf)
    lies_with Load is = lies_more header (lent ∷ ys) is
    lies_with Draft is = lies_more header (lent ∷ ys) is
    lies_with Mark is = lies_more header (lent ∷ ys) is
    lies_with Header is = lies_more buf (y ∷ ys) is
    lies_with Clear is = lies_more header (y ∷ ys) is
    lies_with Flush is = lies_more header (y ∷ ys) is

  with_more : (header : Option Piece) (ws : List Waiting) (buf : Option Piece) → IsWithStage taken (was header ws) buf → IsWithStage taken (more header ws) buf
  with_more header [] buf is = let none = is.some in absurd (omega (arith, none))
  with_more header (y ∷ ys) buf is = record {
    some = omega arith;
    ends = record {
      stage = is.ends.stage;
      is = is.ends.is;
      its = of_stage header y ys buf is.ends.stage is.ends.its;
      whole = whole_with header y ys buf is.ends.stage is.ends.whole;
      lies = lies_with header y ys buf is.ends.stage is.ends.lies;
    };
  }

  pub ring_more : (q : Queue) → IsLogRing taken v0 q → IsLogRing taken (more v0.header v0.waiting) q
  ring_more q is = record {
    alone = is.alone;
    whole = λ none. whole_more v0.header v0.waiting (is.whole none);
    posted = λ d at. with_more v0.header v0.waiting d.buf (is.posted d at);
    unreaped = λ c at. with_more v0.header v0.waiting c.buf (is.unreaped c at);
  }

module _ (frames : ℕ) (v w : OpenChain) (q : Queue) (all : HasLogRing frames (Some v) q) where
  same_ring : w ≡ v → HasLogRing frames (Some w) q
  same_ring same = subst (λ (z : OpenChain). HasLogRing frames (Some z) q) (sym same) all

  pub appended_ring : (payload : List ℕ) (before after : Space) {E : Type 0} (result : Result ℕ E) → OnOk result (WaitsToAppend payload v w before after) → OnErr result (w ≡ v) → frames ≡ length before.taken → length after.taken ≡ length before.taken → HasLogRing frames (Some w) q
  appended_ring payload before after (Ok n) made same size long taken is =
      subst (λ (z : OpenChain). IsLogRing taken z q) (sym made.waiting)
      (ring_more taken v (with_buffer (Append (next_number v)) (length payload) made.buffer) refl (let inside = made.made.lies in omega (arith, inside, size, long, is)) (v.lengths ++ length payload ∷ []) (v.used + entry_blocks (length payload)) v.coming q (all taken is))
  appended_ring payload before after (Err e) made same size long taken is = same_ring same taken is

  pub trimmed_ring : (n : ℕ) {E : Type 0} (result : Result (Unit {0}) E) → OnOk result (w ≡ waits v (record { command = Trim n; len = 0; start = 0; buf = None }) n) → OnErr result (w ≡ v) → HasLogRing frames (Some w) q
  trimmed_ring n (Ok t) made same taken is = subst (λ (z : OpenChain). IsLogRing taken z q) (sym made) (ring_more taken v (record { command = Trim n; len = 0; start = 0; buf = None }) tt tt v.lengths v.used n q (all taken is))
  trimmed_ring n (Err e) made same taken is = same_ring same taken is

  pub popped_ring : (before after : Space) {E : Type 0} (result : Result ℕ E) → OnOk result (WaitsToPop v w before after) → OnErr result (w ≡ v) → frames ≡ length before.taken → length after.taken ≡ length before.taken → HasLogRing frames (Some w) q
  popped_ring before after (Ok n) made same size long taken is =
      subst (λ (z : OpenChain). IsLogRing taken z q) (sym made.waiting)
      (ring_more taken v (with_buffer (Pop v.coming) (length_of v v.coming) made.buffer) refl (let inside = made.made.lies in omega (arith, inside, size, long, is)) v.lengths v.used (v.coming + 1) q (all taken is))
  popped_ring before after (Err e) made same size long taken is = same_ring same taken is
