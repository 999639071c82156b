-- The oldest command of an open log is acknowledged: its buffer's frames are free, and what labels stand for then.
use Rattle.std.proofs.Common.{◌≡◌, ℕ, ◌+◌, ◌-◌, ◌≤◌, Bool, false, List, [], ◌∷◌, length, map, drop, refl, sym, ◌∙◌, ap, subst, arith}
use Rattle.std.specs.Prelude.{All, IfSome, Option, Some, None, slice_index_or}
use Rattle.ark_region.specs.Frames.{LiesInRegion, Piece, Space}
use Rattle.ark_entry.specs.Entry.{entry_blocks}
use Rattle.ark_vic.specs.Queue.{Queue}
use Rattle.ark_vic.specs.declared.descriptor.Completion.{Completion}
use Rattle.ark_caladan.specs.Chain as log
use Rattle.ark_caladan.specs.Chain.{Log, Opened, entries}
use Rattle.ark_caladan.specs.Open.{layout_after}
use Rattle.ark_log.specs.declared.command.Command.{Command}
use Rattle.ark_log.specs.declared.command.Command.TheVariants.{Append, Trim, Pop}
use Rattle.ark_log.specs.declared.command.Waiting.{Waiting}
use Rattle.ark_log.specs.declared.polling.Polled.{Polled}
use Rattle.ark_log.specs.declared.stage.Stage.{Stage}
use Rattle.ark_log.specs.Acked.{acknowledged}
use Rattle.ark_log.specs.Closed as given
use Rattle.ark_log.specs.Closed.{given_back}
use Rattle.ark_log.specs.Open.{OpenChain}
use Rattle.ark_log.specs.Polled.{Around as Polling, EndsWell, GoesOn, HasEnded, IsAcked, ended, reaped, returned_at, stage_of}
use Rattle.ark_log.specs.Stages.{oldest, oldest_in}
use Rattle.ark_log.proofs.Ended.{ended_lies}
use Rattle.ark_log.proofs.Lent.{oldest_has}
use Rattle.ark_log.proofs.Whole.{whole_oldest}
use Rattle.ark_running.specs.Buffers.{AreRoomsOf, HasNoneOfTrim, buffers_by}
use Rattle.ark_running.specs.Polling.{acknowledging, oldest_done}
use Rattle.ark_running.specs.Ringed.{IsUnderWay}
use Rattle.ark_running.specs.Running.{IsRunning}
use Rattle.ark_running.proofs.Acks.{polled_acks}
use Rattle.ark_running.proofs.GoesOn as going
use Rattle.ark_running.proofs.Like.{TrimsHaveNone, like_stage, oldest_like, stage_is, waiting_with}
use Rattle.ark_running.proofs.Polls.{may_ends, trims_are}
use Rattle.ark_machine.specs.Objects
use Rattle.ark_machine.specs.Objects.{Object, no_queue, object_frames, opened_frames}
use Rattle.ark_machine.specs.Machine.{with_object}
use Rattle.ark_held.specs.Totals.{bit, covers, object_covers}
use Rattle.ark_held.specs.Around.{Around, Each}
use Rattle.ark_held.specs.Cards.{IsEnded, IsJob}
use Rattle.ark_held.specs.Held.{Holds}
use Rattle.ark_held.specs.Polling.{HasPolledOn}
use Rattle.ark_held.specs.Beyond.{Beyond, around}
use Rattle.ark_held.specs.declared.app.App.{App}
use Rattle.ark_held.proofs.Covering.{found_in, in_total}
use Rattle.ark_held.proofs.Placing.{total_append}
use Rattle.ark_logs.specs.declared.finding.OpenAt.{OpenAt}
use Rattle.ark_held.proofs.LogFrames.{count, rooms}
use Rattle.ark_logs.proofs.Closes.{command_back}
use Rattle.ark_logs.proofs.OfLogs.{FoundOpen}
use Rattle.ark_logs.proofs.PolledCases as cases
use Rattle.ark_logs.proofs.PolledHolds.{goes_on_holds}

-- where a command's buffer lies is said without it
buffers_without : (c : Command) (w : Waiting) (buf : Option Piece) → buffers_by c (record w { buf = buf }) ≡ buffers_by c w
buffers_without (Append n) w buf = refl
buffers_without (Trim n) w buf = refl
buffers_without (Pop n) w buf = refl

-- The first command of those that wait.

first_none : (ws : List Waiting) → TrimsHaveNone ws → HasNoneOfTrim (oldest_in ws).command (oldest_in ws).buf
first_none [] all = refl
first_none (w ∷ ws) all = all.0

first_lies : (taken : List Bool) (ws : List Waiting) → All (given.LiesIn taken) ws → IfSome (oldest_in ws).buf (LiesInRegion taken)
first_lies taken [] all = tt
first_lies taken (w ∷ ws) all = all 0 w (omega arith)

first_room : (ws : List Waiting) (m : log.Waiting) (ms : List log.Waiting) → AreRoomsOf ws (m ∷ ms) → m.room ≡ map (λ b. (b.start, entry_blocks (oldest_in ws).len)) (buffers_by (oldest_in ws).command (oldest_in ws))
first_room [] m ms are = absurd are
first_room (w ∷ ws) m ms are = are.0

grant_acked : (v : OpenChain) (c : Command) → (acknowledged v c).grant ≡ v.grant
grant_acked v (Append n) = refl
grant_acked v (Trim n) = refl
grant_acked v (Pop n) = refl

module _ (r : Beyond) (app : App) (s : List ℕ) (a : OpenAt) (h : Holds (around r app)) (f : FoundOpen (around r app) app.devices.cards s a)
    (app1 : App) (given out : List ℕ) (result : Polled) (q : HasPolledOn app.devices.cards app1.devices.cards a.key f.one f.chain app.store.region app1.store.region given out result)
    (frames : length app1.store.region.taken ≡ length app.store.region.taken) (buffers : app1.store.buffers ≡ app.store.buffers) (labels : app1.labels ≡ app.labels) (areas : app1.areas ≡ app.areas)
    (doors : app1.devices.doors ≡ app.devices.doors) (rates : app1.devices.rates ≡ app.devices.rates) (nets : app1.devices.nets ≡ app.devices.nets) where
  abbrev x : Around
  x = around r app

  abbrev old : Polling
  old = cases.old r app s a h f app1 given out result q frames buffers labels areas doors rates nets

  abbrev new : Polling
  new = cases.new r app s a h f app1 given out result q frames buffers labels areas doors rates nets

  abbrev g : Log
  g = f.both.log

  abbrev o : Opened
  o = f.opened

  abbrev blocks : List ℕ
  blocks = f.both.log_fits.slot.blocks

  abbrev taken : List Bool
  taken = app.store.region.taken

  module _ (m : log.Waiting) (ms : List log.Waiting) (waits : o.waiting ≡ m ∷ ms) (e : HasEnded old new result) (well : EndsWell e.ending old new result) (last : stage_of (ended f.chain e.ending.buf) ≡ None) where
    abbrev c1 : OpenChain
    c1 = ended f.chain e.ending.buf

    acked : IsAcked (record old { chain = c1; ring = reaped f.one.vsic.ring }) new result
    acked = subst (λ t. GoesOn t (record old { chain = c1; ring = reaped f.one.vsic.ring }) new result) last well.goes

    pub runs : IsRunning r.history blocks app1.store.region q.ring q.log (layout_after g.kind (g.blocks - 1) f.lies (entries g.list) m.command) (acknowledging m.command g o) (oldest_done o)
    runs = polled_acks r.history blocks f.lies g o m ms old new result waits f.runs e well last q.right

    -- Its buffer.

    abbrev was : (f.one.vsic.ring.unreaped ≡ e.ending ∷ []) × (f.one.vsic.ring.moved ≡ 0) × ((t : Stage) × IsUnderWay f.chain t e.ending.buf)
    was = going.was r.history blocks f.lies g o old new result f.runs e well

    abbrev lent : List Waiting
    lent = waiting_with was.2.0 e.ending.buf f.chain.waiting

    waiting_is : c1.waiting ≡ lent
    waiting_is = ap (λ (y : OpenChain). y.waiting) (going.shape r.history blocks f.lies g o old new result f.runs e well)

    back : going.IsBack r.history blocks f.lies g o old new result f.runs e well c1
    back = going.is_back r.history blocks f.lies g o old new result f.runs e well

    oldest_is : oldest c1 ≡ record (oldest f.chain) { buf = (oldest_in lent).buf }
    oldest_is = ap oldest_in waiting_is ∙ oldest_like f.chain.waiting lent (like_stage was.2.0 e.ending.buf f.chain.waiting)

    abbrev RoomOf : Waiting → Type 0
    RoomOf w = m.room ≡ map (λ b. (b.start, entry_blocks w.len)) (buffers_by w.command w)

    room_is : RoomOf (oldest c1)
    room_is = subst RoomOf (sym oldest_is)
        (first_room f.chain.waiting m ms (subst (λ (zs : List log.Waiting). AreRoomsOf f.chain.waiting zs) waits f.runs.is.rooms)
        ∙ ap (λ (bs : List Piece). map (λ b. (b.start, entry_blocks (oldest f.chain).len)) bs) (sym (buffers_without (oldest f.chain).command (oldest f.chain) (oldest_in lent).buf)))

    none : HasNoneOfTrim (oldest c1).command (oldest c1).buf
    none = subst (λ (zs : List Waiting). HasNoneOfTrim (oldest_in zs).command (oldest_in zs).buf) (sym waiting_is) (first_none lent (trims_are app.store.region f.chain f.lies g o f.runs.is was.2.0 e.ending.buf was.2.1))

    inside : IfSome (oldest c1).buf (LiesInRegion taken)
    inside = first_lies taken c1.waiting (ended_lies f.chain taken e.ending.buf (may_ends r.history blocks app.store.region f.one.vsic.ring f.chain f.lies g o f.runs e.ending e.first)).waiting

    -- what it covered and what is left
    was_frames : (j : ℕ) → object_covers j (Objects.log g) ≡ bit (covers j (o.header_frame, 1)) + (count j m.room + count j (rooms ms))
    was_frames j =
        let its : object_covers j (Objects.log g) ≡ bit (covers j (o.header_frame, 1)) + count j (rooms o.waiting) = ap (λ (z : Option Opened). count j (opened_frames z)) f.is_open in
        let split : count j (rooms o.waiting) ≡ count j (rooms (m ∷ ms)) = ap (λ (zs : List log.Waiting). count j (rooms zs)) waits in
        let sum = total_append (λ z. bit (covers j z)) m.room (rooms ms) in
        omega (arith, its, split, sum)

    left_frames : (j : ℕ) → object_covers j (Objects.log (acknowledging m.command g o)) ≡ bit (covers j (o.header_frame, 1)) + count j (rooms ms)
    left_frames j = ap (λ (zs : List log.Waiting). bit (covers j (o.header_frame, 1)) + count j (rooms (drop 1 zs))) waits

    freed : (j : ℕ) → bit (slice_index_or app1.store.region.taken j false) + count j m.room ≡ bit (slice_index_or taken j false)
    freed j =
        let own = in_total (λ z. object_covers j z.object) r.machine.held f.both.held_log (found_in s r.machine.held f.both.held_log f.both.there_log).0 in
        let its : object_covers j f.both.held_log.object ≡ object_covers j (Objects.log g) = ap (object_covers j) f.both.object_log in
        let all = was_frames j in
        let count_was = h.taken j in
        let most : count j m.room ≤ bit (slice_index_or taken j false) = omega (arith, own, its, all, count_was) in
        let step = command_back j (length taken) (oldest c1).command (oldest c1) m.room taken refl room_is (oldest_has c1 back.right back.waits) (whole_oldest c1 back.whole back.waits) none inside most in
        let now : bit (slice_index_or app1.store.region.taken j false) ≡ bit (slice_index_or (given_back taken (oldest c1).buf) j false) = ap (λ (z : Space). bit (slice_index_or z.taken j false)) acked.space in
        let then = step.0 in
        omega (arith, then, now)

    grant : q.log.grant ≡ f.chain.grant
    grant = ap (λ (z : OpenChain). z.grant) acked.chain ∙ grant_acked c1 (oldest c1).command ∙ by (stage_of f.chain)
      where
        by : (z : Option Stage) → (returned_at f.chain z e.ending.buf).grant ≡ f.chain.grant
        by None = refl
        by (Some t) = ap (λ (u : OpenChain). u.grant) (stage_is f.chain t e.ending.buf)

    no_ends : q.ring.unreaped ≡ []
    no_ends = ap (λ (z : Queue). z.unreaped) acked.ring ∙ ap (λ (us : List Completion). drop 1 us) was.0

    no_jobs : q.ring.posted ≡ []
    no_jobs = ap (λ (z : Queue). z.posted) acked.ring ∙ e.posted

    pub acked_holds : Holds (around (record r { machine = with_object (with_object r.machine s (Objects.log (acknowledging m.command g o))) f.v (Objects.vsic (record f.both.vsic { queue = no_queue })) }) app1)
    acked_holds = goes_on_holds r app s a h f app1 q.ring q.log (layout_after g.kind (g.blocks - 1) f.lies (entries g.list) m.command) (acknowledging m.command g o) (oldest_done o) no_queue
        (cases.touched r app s a h f) (cases.reaches r app s a h f app1 given out result q frames buffers labels areas doors rates nets) (cases.own_frames r app s a h f) q.card runs grant refl refl refl (ap (λ (z : Queue). z.size) acked.ring)
        (λ y. subst (λ ds. Each (IsJob y (Some q.log)) ds []) (sym no_jobs) tt)
        (λ y. subst (λ us. Each (IsEnded y (Some q.log)) us []) (sym no_ends) tt)
        (sym (ap (λ (z : Queue). z.moved) acked.ring ∙ was.1)) (tt, tt)
        (λ j. let before = was_frames j in let behind = left_frames j in let step = freed j in omega (arith, before, behind, step))
