-- The oldest command is acknowledged.
use Rattle.std.proofs.Common.{◌≡◌, inr, ℕ, zero, suc, ◌+◌, ◌-◌, ◌≤◌, Bool, true, false, not, List, [], ◌∷◌, ◌++◌, length, map, take, drop, Option, Some, None, refl, sym, ap, ◌∙◌, subst, arith, length-append}
use Rattle.std.specs.Prelude.{IfSome, flat_map, slice_get, replicate}
use Rattle.std.proofs.Math.Path.{transport}
use Rattle.std.proofs.lemmas.List.{length-take-le, length-drop, length-replicate}
use Rattle.ark_base.specs.declared.kind.Kind.{Kind}
use Rattle.ark_base.specs.declared.kind.Outcome.{Outcome}
use Rattle.ark_base.specs.declared.kind.Outcome.TheVariants as outcome
use Rattle.ark_media.specs.Journal.{History}
use Rattle.ark_region.specs.Frames.{IsLive, LiesInRegion, Piece, ShareNoFrame, Space, frames_of, put}
use Rattle.ark_vic.specs.Queue.{Queue}
use Rattle.ark_vic.specs.declared.descriptor.Completion.{Completion}
use Rattle.ark_entry.specs.Found.{Entries, found}
use Rattle.ark_entry.specs.Header.{Header}
use Rattle.ark_caladan.specs.Chain as log
use Rattle.ark_caladan.specs.Chain.{Log, Opened, after_command, commands, entries}
use Rattle.ark_caladan.specs.Numbers.{CanFollow}
use Rattle.ark_caladan.specs.Open.{Layout, layout_after}
use Rattle.ark_caladan.specs.Plans as plans
use Rattle.ark_caladan.specs.Plans.{CanWait}
use Rattle.ark_caladan.specs.Postings.{HoldEntries, place_behind}
use Rattle.ark_caladan.specs.Standing.{LogStands, LogStandsAs, OpenStands, Proceeds, Progress, idle, makes_calls}
use Rattle.ark_caladan.specs.Standing as standing
use Rattle.ark_caladan.proofs.Buffers.{hold_acked}
use Rattle.ark_caladan.proofs.Standing.{acknowledged as proceeds_acked}
use Rattle.ark_log.specs.declared.command.Command.{Command}
use Rattle.ark_log.specs.declared.command.Command.TheVariants.{Append, Trim, Pop}
use Rattle.ark_log.specs.declared.command.Waiting.{Waiting}
use Rattle.ark_log.specs.declared.stage.Stage.{Stage}
use Rattle.ark_log.specs.declared.stage.Stage.TheVariants as stage
use Rattle.ark_log.specs.Acked.{acknowledged}
use Rattle.ark_log.specs.Closed.{given_back}
use Rattle.ark_log.specs.Open.{IsRight, OpenChain}
use Rattle.ark_log.specs.declared.polling.Polled.{Polled}
use Rattle.ark_log.specs.Polled.{Around, EndsWell, GoesOn, HasEnded, IsAcked, ended, reaped, returned_at, stage_of}
use Rattle.ark_log.specs.Stages.{IsWhole, oldest, oldest_in, stage_with, stages_of}
use Rattle.ark_log.specs.Stands.{IsCommand, StandsFor}
use Rattle.ark_log.proofs.Headers.{pop_header, trim_header}
use Rattle.ark_log.proofs.Standing.{acknowledged_stands}
use Rattle.ark_log.proofs.Whole.{whole_acknowledged}
use Rattle.ark_running.specs.Buffers.{HasReadFor, buffers_of, entry_bytes_in, pieces_of}
use Rattle.ark_running.specs.Polling.{acknowledging, oldest_done}
use Rattle.ark_running.specs.Ringed.{IsRingBy, IsUnderWay, is_well, progress_by, progress_of}
use Rattle.ark_running.specs.Running.{HasBuffersOf, HasReadSoFar, IsOpenFor, IsRunning, Where}
use Rattle.ark_running.proofs.Framing.{all_parts, lies_same}
use Rattle.ark_running.proofs.Having.{has_proceeding}
use Rattle.ark_running.proofs.Like.{AreLike, TrimsHaveNone, as_lent, buffers_in, come_to, header_with, like_stage, open_like, right_done, right_stage, stage_is, waiting_with}
use Rattle.ark_running.proofs.Polls.{ended_ring, lent_buffers, trims_are}

-- a piece that is put into a list leaves it as long
put_long : (xs ys : List Bool) (i : ℕ) → i + length ys ≤ length xs → length (put xs i ys) ≡ length xs
put_long xs ys i low =
    let a = length-append (take i xs) (ys ++ drop (i + length ys) xs) in
    let b = length-append ys (drop (i + length ys) xs) in
    let c = length-take-le i xs (omega (arith, low)) in
    let d = length-drop (i + length ys) xs in
    omega (arith, a, b, c, d, low)

pub given_long : (taken : List Bool) (buf : Option Piece) → IfSome buf (LiesInRegion taken) → length (given_back taken buf) ≡ length taken
given_long taken None lies = refl
given_long taken (Some b) lies =
    let many : length (replicate (frames_of b.len) false) ≡ frames_of b.len = length-replicate (frames_of b.len) false in
    put_long taken (replicate (frames_of b.len) false) b.start (omega (arith, many, lies))

live_right : (bs rest : List Piece) (j : ℕ) → IsLive rest j → IsLive (bs ++ rest) j
live_right [] rest j live = live
live_right (b ∷ bs) rest j live = inr (live_right bs rest j live)

share_right : (bs rest : List Piece) → ShareNoFrame (bs ++ rest) → ShareNoFrame rest
share_right [] rest share = share
share_right (b ∷ bs) rest share = share_right bs rest share.1

-- a command has as many stages as it plans
pub as_planned : (c : Command) (d : log.Command) (kind : Kind) (room : ℕ) (header : List ℕ) (h : Header) (stored : List (List ℕ)) (l : Entries) → IsCommand c d → length (plans.stages_of kind room header h stored l d) ≡ length (stages_of c)
as_planned (Append n) (log.append m payload) kind room header h stored l is = refl
as_planned (Append n) (log.trim m) kind room header h stored l is = absurd is
as_planned (Append n) (log.pop m) kind room header h stored l is = absurd is
as_planned (Trim n) (log.append m payload) kind room header h stored l is = absurd is
as_planned (Trim n) (log.trim m) kind room header h stored l is = refl
as_planned (Trim n) (log.pop m) kind room header h stored l is = absurd is
as_planned (Pop n) (log.append m payload) kind room header h stored l is = absurd is
as_planned (Pop n) (log.trim m) kind room header h stored l is = absurd is
as_planned (Pop n) (log.pop m) kind room header h stored l is = refl

-- where the list begins then
start_after : (u : OpenChain) (kind : Kind) (p : Layout) (l : Entries) (c : Command) (d : log.Command) (cs : List log.Command) → IsRight u → StandsFor u l (d ∷ cs) → CanFollow l d → p.says.start ≡ u.start → IsCommand c d
    → (layout_after kind u.room p l d).says.start ≡ (acknowledged u c).start
start_after u kind p l (Append n) (log.append m payload) cs right is can start same = start
start_after u kind p l (Append n) (log.trim m) cs right is can start same = absurd same
start_after u kind p l (Append n) (log.pop m) cs right is can start same = absurd same
start_after u kind p l (Trim n) (log.append m payload) cs right is can start same = absurd same
start_after u kind p l (Trim n) (log.trim m) cs right is can start same =
    ap (λ (h : Header). h.start) (sym (trim_header u l m cs p.says right is can start)) ∙ ap (λ k. (acknowledged u (Trim k)).start) (sym same)
start_after u kind p l (Trim n) (log.pop m) cs right is can start same = absurd same
start_after u kind p l (Pop n) (log.append m payload) cs right is can start same = absurd same
start_after u kind p l (Pop n) (log.trim m) cs right is can start same = absurd same
start_after u kind p l (Pop n) (log.pop m) cs right is can start same =
    ap (λ (h : Header). h.start) (sym (pop_header u l m cs p.says right is can start)) ∙ ap (λ k. (acknowledged u (Pop k)).start) (sym same)

-- what an acknowledgement leaves as it was
acked_is : (u : OpenChain) (c : Command) → let a = acknowledged u c in a ≡ record u { first = a.first; start = a.start; count = a.count; lengths = a.lengths; stored = a.stored; used = a.used; waiting = drop 1 u.waiting; done = 0 }
acked_is u (Append n) = refl
acked_is u (Trim n) = refl
acked_is u (Pop n) = refl

first_given : (stage : Stage) (buf : Option Piece) (w : Waiting) (ws : List Waiting) → waiting_with stage buf (w ∷ ws) ≡ record w { buf = (oldest_in (waiting_with stage buf (w ∷ ws))).buf } ∷ ws
first_given stage.Load buf w ws = refl
first_given stage.Draft buf w ws = refl
first_given stage.Mark buf w ws = refl
first_given stage.Header buf w ws = refl
first_given stage.Clear buf w ws = refl
first_given stage.Flush buf w ws = refl

nothing_read : (t : Bool) (c : Command) (stored : List (List ℕ)) (bytes : List ℕ) → Where t (HasReadFor c stored 0 bytes)
nothing_read false c stored bytes = tt
nothing_read true (Append n) stored bytes = tt
nothing_read true (Trim n) stored bytes = tt
nothing_read true (Pop n) stored bytes = refl

-- behind the last stage there is none
last_done : (xs : List Stage) (i : ℕ) (s : Stage) → slice_get xs i ≡ Some s → slice_get xs (i + 1) ≡ None → suc i ≡ length xs
last_done [] i s at none = absurd (cc (at))
last_done (x ∷ []) zero s at none = refl
last_done (x ∷ y ∷ xs) zero s at none = absurd (cc (none))
last_done (x ∷ xs) (suc i) s at none = let on : suc (i + 1) ≡ suc i + 1 = omega arith in ap suc (last_done xs i s at (ap (slice_get (x ∷ xs)) on ∙ none))

module _ (h : History) (blocks : List ℕ) (space : Space) (ring : Queue) (v0 : OpenChain) (w : Waiting) (ws : List Waiting) (p : Layout) (g : Log) (o0 : Opened) (m : log.Waiting) (ms : List log.Waiting) where
  abbrev v : OpenChain
  v = record v0 { waiting = w ∷ ws }

  abbrev o : Opened
  o = record o0 { waiting = m ∷ ms }

  abbrev l : Entries
  l = entries g.list

  abbrev o2 : Opened
  o2 = record o0 { waiting = ms; done = 0; decided = false }

  abbrev p2 : Layout
  p2 = layout_after g.kind (g.blocks - 1) p l m.command

  abbrev g2 : Log
  g2 = record g { list = found (after_command l m.command); opened = Some o2 }

  -- Once its last descriptor has ended well, with this buffer of a stage:
  module _ (runs : IsRunning h blocks space ring v p g o) (e : Completion) (none : ring.posted ≡ []) (first : slice_get ring.unreaped 0 ≡ Some e) (well : e.outcome ≡ outcome.Ok) where
    pub was : (ring.unreaped ≡ e ∷ []) × (ring.moved ≡ 0) × ((s : Stage) × IsUnderWay v s e.buf)
    was = ended_ring v space ring.moved ring.posted ring.unreaped e runs.ring none first

    abbrev s : Stage
    s = was.2.0

    way : IsUnderWay v was.2.0 e.buf
    way = was.2.1

    abbrev x : Waiting
    x = record w { buf = (oldest_in (waiting_with was.2.0 e.buf (w ∷ ws))).buf }

    abbrev hd : Option Piece
    hd = header_with was.2.0 e.buf v.header

    abbrev u : OpenChain
    u = as_lent v (x ∷ ws) hd (v.done + 1) v.failed

    pub shape : ended v e.buf ≡ u
    shape = ap (λ (t : Option Stage). record (returned_at v t e.buf) { done = v.done + 1 }) way.is ∙ ap (λ (y : OpenChain). record y { done = v.done + 1 }) (stage_is v was.2.0 e.buf)
        ∙ ap (λ xs. as_lent v xs hd (v.done + 1) v.failed) (first_given was.2.0 e.buf w ws)

    like : AreLike v.waiting (x ∷ ws)
    like = subst (λ xs. AreLike v.waiting xs) (first_given was.2.0 e.buf w ws) (like_stage was.2.0 e.buf v.waiting)

    right : IsRight u
    right = subst IsRight (ap (λ (y : OpenChain). record y { done = v.done + 1 }) (stage_is v was.2.0 e.buf ∙ ap (λ xs. as_lent v xs hd v.done v.failed) (first_given was.2.0 e.buf w ws)))
        (right_done (stage_with v was.2.0 e.buf) (v.done + 1) (right_stage v was.2.0 e.buf runs.is.right way.its))

    whole : IsWhole u
    whole =
        let is : IsWhole (as_lent v (x ∷ ws) hd v.done v.failed) = subst IsWhole (stage_is v was.2.0 e.buf ∙ ap (λ xs. as_lent v xs hd v.done v.failed) (first_given was.2.0 e.buf w ws)) way.whole in
        record { header = is.header; entries = is.entries }

    trims : TrimsHaveNone (x ∷ ws)
    trims = subst TrimsHaveNone (first_given was.2.0 e.buf w ws) (trims_are space v p g o runs.is was.2.0 e.buf way)

    opened : IsOpenFor u p (record g { opened = Some (come_to o (v.done + 1) v.failed) }) (come_to o (v.done + 1) v.failed)
    opened = open_like v p g o (x ∷ ws) hd (v.done + 1) (v.done + 1) v.failed runs.is like right trims refl

    pub goes : Proceeds h blocks g o p (standing.ended true)
    goes = subst (λ t. OpenStands t h blocks g o p (standing.ended true)) (ap not (sym runs.is.failed ∙ way.going))
        (subst (λ q. LogStandsAs h blocks g p q (Some o)) is (subst (λ (y : Option Opened). LogStandsAs h blocks g p (progress_of ring) y) runs.is.opened runs.area))
      where
        is : progress_of ring ≡ standing.ended true
        is = (λ i. progress_by (none i) (was.0 i) ring.moved) ∙ ap (λ (c : Outcome). standing.ended (is_well c)) well

    command : IsCommand w.command m.command
    command = runs.is.stands.waiting.0

    room_is : g.blocks - 1 ≡ v0.room
    room_is = let is = runs.is.room in omega (arith, is)

    module _ (last : stage_of (ended v e.buf) ≡ None) where
      all_done : suc o.done ≡ length (plans.stages_of g.kind (g.blocks - 1) p.header p.says p.stored l m.command)
      all_done =
          let end : slice_get (stages_of w.command) (v.done + 1) ≡ None = ap stage_of (sym shape) ∙ last in
          ap suc (sym runs.is.done) ∙ last_done (stages_of w.command) v.done was.2.0 way.is end ∙ sym (as_planned w.command m.command g.kind (g.blocks - 1) p.header p.says p.stored l command)

      next : Proceeds h blocks g2 o2 p2 idle
      next = proceeds_acked blocks g p h o goes m ms refl all_done

      abbrev after : Space
      after = record space { taken = given_back space.taken x.buf }

      abbrev a : OpenChain
      a = acknowledged u w.command

      abbrev b : OpenChain
      b = record u { first = a.first; start = a.start; count = a.count; lengths = a.lengths; stored = a.stored; used = a.used; waiting = ws; done = 0 }

      frames : length after.taken ≡ length space.taken
      frames =
          let all = buffers_in space.taken u right trims (lent_buffers space v p l (commands o) (x ∷ ws) hd v.done v.failed like runs.buffers runs.buffers.hold).lies in
          given_long space.taken x.buf (all.waiting 0 x (omega arith))

      rests : progress_of (reaped ring) ≡ idle
      rests = λ i. progress_by (none i) (ap (λ us. drop 1 us) was.0 i) ring.moved

      buffers : HasBuffersOf after b p2 (after_command l m.command) (commands o2)
      buffers =
          let lies = all_parts (LiesInRegion space.taken) (buffers_of w) (flat_map buffers_of ws) runs.buffers.lies.1 in
          record {
            lies = lies_same space.taken after.taken (pieces_of b) frames (runs.buffers.lies.0, lies.1);
            apart = (λ j covers live. runs.buffers.apart.0 j covers (live_right (buffers_of w) (flat_map buffers_of ws) j live), share_right (buffers_of w) (flat_map buffers_of ws) runs.buffers.apart.1);
            hold = subst (λ n. HoldEntries v0.room (place_behind (layout_after g.kind n p l m.command).says (after_command l m.command)) 0 (commands o2) (map (entry_bytes_in space) ws)) (sym room_is)
                (hold_acked g.kind v0.room p l v.done m.command (commands o2) (entry_bytes_in space w) (map (entry_bytes_in space) ws) runs.buffers.hold);
          }

      pub acks : IsRight a → IsRunning h blocks after (reaped ring) a p2 g2 o2
      acks right_after = subst (λ y. IsRunning h blocks after (reaped ring) y p2 g2 o2) (sym (acked_is u w.command)) (record {
        is = record {
          right = subst IsRight (acked_is u w.command) right_after;
          kind = runs.is.kind;
          room = runs.is.room;
          opened = refl;
          list = refl;
          stands = subst (λ y. StandsFor y (after_command l m.command) (commands o2)) (acked_is u w.command) (acknowledged_stands u x ws l m.command (commands o2) refl opened.stands runs.is.can.fit.0);
          can = subst (λ n. CanWait n (after_command l m.command) (commands o2)) room_is next.is_open.waits.can;
          lengths = runs.is.lengths.1;
          start = ap (λ n. (layout_after g.kind n p l m.command).says.start) room_is ∙ start_after u g.kind p l w.command m.command (commands o2) right opened.stands runs.is.can.fit.0 runs.is.start command;
          done = refl;
          failed = runs.is.failed;
          header = runs.is.header;
          rooms = runs.is.rooms.1;
          trims = runs.is.trims.1;
        };
        size = runs.size;
        on_disk = runs.on_disk;
        full = runs.full;
        area = subst (λ q. LogStandsAs h blocks g2 p2 q (Some o2)) (sym rests) (subst (λ t. OpenStands t h blocks g2 o2 p2 idle) (sym (ap not (sym runs.is.failed ∙ way.going))) next);
        has = has_proceeding h blocks p2 g2 o2 idle next;
        ring = transport (λ i. IsRingBy b after ring.moved (sym none i) (sym (ap (λ us. drop 1 us) was.0) i)) (
          was.1,
          record {
            whole = subst IsWhole (acked_is u w.command) (whole_acknowledged u w.command whole);
            begins = λ going. refl;
          },
        );
        buffers = buffers;
        read = subst (λ q. HasReadSoFar after b p2 o2 q) (sym rests) (nothing_read (makes_calls o2 idle) (oldest b).command p2.stored (entry_bytes_in after (oldest b)));
      })

      pub acks_ended : IsRight (acknowledged (ended v e.buf) (oldest (ended v e.buf)).command)
          → IsRunning h blocks (record space { taken = given_back space.taken (oldest (ended v e.buf)).buf }) (reaped ring) (acknowledged (ended v e.buf) (oldest (ended v e.buf)).command) p2 g2 o2
      acks_ended = subst (λ y. IsRight (acknowledged y (oldest y).command) → IsRunning h blocks (record space { taken = given_back space.taken (oldest y).buf }) (reaped ring) (acknowledged y (oldest y).command) p2 g2 o2) (sym shape) acks

-- the same of any log of which commands wait
abbrev Acks : History → List ℕ → Space → Queue → Layout → Log → log.Waiting → OpenChain → Opened → Type 0
Acks h blocks space ring p g m v o =
    IsRunning h blocks space ring v p g o → (e : Completion) → ring.posted ≡ [] → slice_get ring.unreaped 0 ≡ Some e → e.outcome ≡ outcome.Ok → stage_of (ended v e.buf) ≡ None → IsRight (acknowledged (ended v e.buf) (oldest (ended v e.buf)).command)
    → IsRunning h blocks (record space { taken = given_back space.taken (oldest (ended v e.buf)).buf }) (reaped ring) (acknowledged (ended v e.buf) (oldest (ended v e.buf)).command)
    (layout_after g.kind (g.blocks - 1) p (entries g.list) m.command) (acknowledging m.command g o) (oldest_done o)

any_acks : (h : History) (blocks : List ℕ) (space : Space) (ring : Queue) (p : Layout) (g : Log) (m : log.Waiting) (ms : List log.Waiting) (o : Opened) (w : Waiting) (ws : List Waiting) (v : OpenChain) → o.waiting ≡ m ∷ ms → v.waiting ≡ w ∷ ws → Acks h blocks space ring p g m v o
any_acks h blocks space ring p g m ms o w ws v front is =
    let is_o : o ≡ record o { waiting = m ∷ ms } = λ i. record o { waiting = front i } in
    let is_v : v ≡ record v { waiting = w ∷ ws } = λ i. record v { waiting = is i } in
    subst (λ y. Acks h blocks space ring p g m y o) (sym is_v) (subst (λ q. Acks h blocks space ring p g m (record v { waiting = w ∷ ws }) q) (sym is_o)
    (λ runs e none first well last right. acks_ended h blocks space ring v w ws p g o m ms runs e none first well last right))

-- The same of a poll, where the command that waits first is this one.
pub polled_acks : (h : History) (blocks : List ℕ) (p : Layout) (g : Log) (o : Opened) (m : log.Waiting) (ms : List log.Waiting) (old new : Around) (result : Polled) → o.waiting ≡ m ∷ ms
    → IsRunning h blocks old.space old.ring old.chain p g o → (ending : HasEnded old new result) → EndsWell ending.ending old new result → stage_of (ended old.chain ending.ending.buf) ≡ None → IsRight new.chain
    → IsRunning h blocks new.space new.ring new.chain (layout_after g.kind (g.blocks - 1) p (entries g.list) m.command) (acknowledging m.command g o) (oldest_done o)
polled_acks h blocks p g o m ms old new result front runs ending well last right = by old.chain.waiting refl
  where
    acked : IsAcked (record old { chain = ended old.chain ending.ending.buf; ring = reaped old.ring }) new result
    acked = subst (λ s. GoesOn s (record old { chain = ended old.chain ending.ending.buf; ring = reaped old.ring }) new result) last well.goes

    Then : List Waiting → Type 0
    Then xs = old.chain.waiting ≡ xs → IsRunning h blocks new.space new.ring new.chain (layout_after g.kind (g.blocks - 1) p (entries g.list) m.command) (acknowledging m.command g o) (oldest_done o)

    by : (xs : List Waiting) → Then xs
    by [] is = let none : length old.chain.waiting ≡ 0 = ap length is in absurd (omega (arith, none, ending.some))
    by (w ∷ ws) is = transport (λ i. IsRunning h blocks (sym acked.space i) (sym acked.ring i) (sym acked.chain i) (layout_after g.kind (g.blocks - 1) p (entries g.list) m.command) (acknowledging m.command g o) (oldest_done o))
        (any_acks h blocks old.space old.ring p g m ms o w ws old.chain front is runs ending.ending ending.posted ending.first well.well last (subst IsRight acked.chain right))
