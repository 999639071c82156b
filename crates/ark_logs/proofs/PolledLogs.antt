-- What one poll of an open log comes to: its row, its answer, and what labels stand for then.
use Rattle.std.proofs.Common.{◌≡◌, inl, inr, ℕ, ◌+◌, ◌<◌, false, List, [], ◌∷◌, ◌++◌, length, map, drop, refl, sym, ◌∙◌, ap, subst, arith, bytes_eq}
use Rattle.std.specs.Prelude.{Option, Some, None, is_some, slice_get, slice_index_or, take}
use Rattle.std.specs.List.{AllByRecursion}
use Rattle.std.proofs.lemmas.Bool.{false≢true}
use Rattle.std.proofs.Math.Seq.{take-append_seam}
use Rattle.ark_base.specs.declared.kind.Kind.{Kind}
use Rattle.ark_base.specs.declared.kind.Kind.TheVariants as kind
use Rattle.ark_base.specs.declared.kind.Outcome.{Outcome}
use Rattle.ark_base.specs.declared.kind.Outcome.TheVariants as outcome
use Rattle.ark_script.specs.declared.said.Said.{Said}
use Rattle.ark_script.specs.declared.said.Said.TheVariants as said
use Rattle.ark_region.specs.Frames.{Space}
use Rattle.ark_vic.specs.Queue.{Queue}
use Rattle.ark_vic.specs.declared.descriptor.Completion.{Completion}
use Rattle.ark_vic.specs.declared.descriptor.Descriptor.{Descriptor}
use Rattle.ark_caladan.specs.Chain as log
use Rattle.ark_caladan.specs.Chain.{Command, Log, Opened, Phase, commands, entries, phases_of}
use Rattle.ark_log.specs.declared.command.Command as code
use Rattle.ark_log.specs.declared.command.Command.TheVariants.{Append, Trim, Pop}
use Rattle.ark_log.specs.declared.command.Waiting.{Waiting}
use Rattle.ark_log.specs.declared.polling.Polled.{Polled}
use Rattle.ark_log.specs.declared.polling.Polled.TheVariants as polls
use Rattle.ark_log.specs.declared.stage.Stage.{Stage}
use Rattle.ark_log.specs.Open.{OpenChain}
use Rattle.ark_log.specs.Polled.{Around as Polling, EndsBadly, EndsWell, GoesOn, HasEnded, HasPolled, IsBegun, IsNothing, IsPosted, ended, reaped, returned_at, stage_of}
use Rattle.ark_log.specs.Stages.{oldest, posting_of, stage_with}
use Rattle.ark_log.specs.Stands.{AreCommands, IsCommand}
use Rattle.ark_running.specs.Accepted.{with_opened}
use Rattle.ark_running.specs.Buffers.{AreRoomsOf}
use Rattle.ark_entry.specs.Found.{Entries}
use Rattle.ark_running.specs.Given.{given_by}
use Rattle.ark_running.specs.Phases.{phase_by}
use Rattle.ark_running.specs.Polling.{acknowledging, failing, one_done}
use Rattle.ark_running.specs.Running.{IsRunning}
use Rattle.ark_running.proofs.Beside.{polled_leaves}
use Rattle.ark_running.proofs.Begins as begins
use Rattle.ark_running.proofs.GoesOn as going
use Rattle.ark_running.proofs.Like.{stage_is}
use Rattle.ark_running.proofs.Payloads.{answers, gives}
use Rattle.ark_running.proofs.Phased.{polled_none_left}
use Rattle.ark_running.proofs.Polls.{ended_ring, polled_fails}
use Rattle.ark_running.proofs.Proceeding.{alone_posted}
use Rattle.ark_machine.specs.Objects
use Rattle.ark_machine.specs.Objects.{Job, Object, Vsic, no_queue, phase, transfer, flush}
use Rattle.ark_machine.specs.Machine.{Machine, Held, at, with_object}
use Rattle.ark_machine.specs.Cards.{posting}
use Rattle.ark_machine.specs.Polls as row
use Rattle.ark_machine.specs.Row.{says}
use Rattle.ark_held.specs.Totals.{bit, object_covers}
use Rattle.ark_held.specs.Kept.{CardKept}
use Rattle.ark_held.specs.Around.{Around, Each}
use Rattle.ark_held.specs.Cards.{IsEnded, IsJob, IsPhaseJob}
use Rattle.ark_held.specs.Held.{Holds}
use Rattle.ark_held.specs.Polling.{HasPolledOn}
use Rattle.ark_held.specs.Beyond.{Beyond, around}
use Rattle.ark_held.specs.declared.app.App.{App}
use Rattle.ark_held.proofs.Lists.{name_other, some_same}
use Rattle.ark_logs.specs.declared.finding.OpenAt.{OpenAt}
use Rattle.ark_logs.proofs.OfLogs.{FoundOpen}
use Rattle.ark_logs.specs.Polling.{acked_by, said_by, shown_by}
use Rattle.ark_logs.proofs.PolledAcks.{acked_holds}
use Rattle.ark_logs.proofs.PolledCases as cases
use Rattle.ark_logs.proofs.PolledHolds.{goes_on_holds, its_phases}
use Rattle.ark_logs.proofs.PolledRows as rows
use Rattle.ark_logs.proofs.Puts.{put_same}

-- Lists that stand for one another.

none_there : {X Y : Type 0} (P : X → Y → Type 0) (xs : List X) (ys : List Y) → Each P xs ys → xs ≡ [] → ys ≡ []
none_there P [] [] each none = refl
none_there P [] (y ∷ ys) each none = absurd each
none_there P (x ∷ xs) ys each none = absurd (cc none)

-- a first one has a first one
pub record First (X Y : Type 0) (P : X → Y → Type 0) (x : X) (ys : List Y) : Type 0 where
  pub first : Y
  pub rest : List Y
  pub is : ys ≡ first ∷ rest
  pub its : P x first

first_there : {X Y : Type 0} (P : X → Y → Type 0) (xs : List X) (ys : List Y) (x : X) (zs : List X) → Each P xs ys → xs ≡ x ∷ zs → First X Y P x ys
first_there P [] ys x zs each is = absurd (cc is)
first_there P (w ∷ ws) [] x zs each is = absurd each
first_there P (w ∷ ws) (y ∷ ys) x zs each is = let same : w ≡ x = cc is in record { first = y; rest = ys; is = refl; its = subst (λ u. P u y) same each.0 }

none_commands : (ws : List Waiting) (cs : List Command) → AreCommands ws cs → ws ≡ [] → cs ≡ []
none_commands [] [] are none = refl
none_commands [] (c ∷ cs) are none = absurd are
none_commands (w ∷ ws) cs are none = absurd (cc none)

pub record SomeWait (ms : List log.Waiting) : Type 0 where
  pub first : log.Waiting
  pub rest : List log.Waiting
  pub is : ms ≡ first ∷ rest

some_wait : (ws : List Waiting) (ms : List log.Waiting) → AreRoomsOf ws ms → 0 < length ws → SomeWait ms
some_wait [] ms are some = absurd (omega (arith, some))
some_wait (w ∷ ws) [] are some = absurd are
some_wait (w ∷ ws) (m ∷ ms) are some = record { first = m; rest = ms; is = refl }

-- a completion of a phase has its outcome
outcome_is : (x : Around) (v : OpenChain) (u : Completion) (e : Job × Outcome) → IsPhaseJob e.0 → IsEnded x (Some v) u e → u.outcome ≡ e.1
outcome_is x v u (phase p, o) its is = is.0
outcome_is x v u (transfer t, o) its is = absurd its
outcome_is x v u (flush, o) its is = absurd its

some_posted : (ds : List Descriptor) → 0 < length ds → (d : Descriptor) × (slice_get ds 0 ≡ Some d)
some_posted [] some = absurd (omega (arith, some))
some_posted (d ∷ ds) some = (d, refl)

-- a command that is acknowledged, as the code and the machine tell it
acked_same : (k : Kind) (c : code.Command) (d : Command) → IsCommand c d → acked_by k c ≡ row.acked k d
acked_same kind.Queue (Append n) (log.append m p) is = ap said.AckedPush is
acked_same kind.Log (Append n) (log.append m p) is = ap said.AckedAppend is
acked_same kind.Raw (Append n) (log.append m p) is = ap said.AckedAppend is
acked_same k (Trim n) (log.trim m) is = ap said.AckedTrim is
acked_same k (Pop n) (log.pop m) is = ap said.AckedPop is
acked_same k (Append n) (log.trim m) is = absurd is
acked_same k (Append n) (log.pop m) is = absurd is
acked_same k (Trim n) (log.append m p) is = absurd is
acked_same k (Trim n) (log.pop m) is = absurd is
acked_same k (Pop n) (log.append m p) is = absurd is
acked_same k (Pop n) (log.trim m) is = absurd is

popped_same : (l : Entries) (c : Command) → given_by l c ≡ row.popped l c
popped_same l (log.append n p) = refl
popped_same l (log.trim n) = refl
popped_same l (log.pop n) = refl

grant_stage : (v : OpenChain) (s : Stage) → (stage_with v s None).grant ≡ v.grant
grant_stage v s = ap (λ (u : OpenChain). u.grant) (stage_is v s None)

module _ (r : Beyond) (app : App) (s : List ℕ) (a : OpenAt) (h : Holds (around r app)) (f : FoundOpen (around r app) app.devices.cards s a) where
  abbrev x : Around
  x = around r app

  apart : bytes_eq s f.v ≡ false
  apart = name_other s f.v (λ same.
      let object = sym f.both.object_log ∙ ap (λ (g : Held). g.object) (some_same (at r.machine s) f.both.held_log f.both.held_card f.both.there_log (ap (λ k. at r.machine k) same ∙ f.both.there_card)) ∙ f.both.object_card in
      false≢true (sym (ap (λ (o : Object). is_some (Objects.as_log o)) object)))

  abbrev g : Log
  g = f.both.log

  abbrev ring : Queue
  ring = f.one.vsic.ring

  abbrev card : Vsic
  card = f.both.vsic

  posted_each : Each (IsJob x (Some f.chain)) ring.posted card.queue.posted
  posted_each = subst (λ (o : Option OpenChain). Each (IsJob x o) ring.posted card.queue.posted) f.its_log (subst (λ (k : CardKept). Each (IsJob x k.log) k.ring.posted card.queue.posted) f.kept f.both.card_fits.posted)

  ended_each : Each (IsEnded x (Some f.chain)) ring.unreaped card.queue.unreaped
  ended_each = subst (λ (o : Option OpenChain). Each (IsEnded x o) ring.unreaped card.queue.unreaped) f.its_log (subst (λ (k : CardKept). Each (IsEnded x k.log) k.ring.unreaped card.queue.unreaped) f.kept f.both.card_fits.unreaped)

  moved_is : card.queue.moved ≡ ring.moved
  moved_is = f.both.card_fits.moved ∙ ap (λ (k : CardKept). k.ring.moved) f.kept

  -- the machine with the log and the card as they are
  same_log : with_object r.machine s (Objects.log g) ≡ r.machine
  same_log = put_same x h s f.both.held_log (Objects.log g) f.both.there_log f.both.object_log

  same_opened : with_opened g f.opened ≡ g
  same_opened = ap (λ (o : Option Opened). record g { opened = o }) (sym f.is_open)

  -- the commands that wait
  waits : 0 < length f.chain.waiting → SomeWait f.opened.waiting
  waits some = some_wait f.chain.waiting f.opened.waiting f.runs.is.rooms some

  commands_are : (w : SomeWait f.opened.waiting) → commands f.opened ≡ w.first.command ∷ map (λ (m : log.Waiting). m.command) w.rest
  commands_are w = ap (λ (ms : List log.Waiting). map (λ (m : log.Waiting). m.command) ms) w.is

  module _ (app1 : App) (given out : List ℕ) (result : Polled) (q : HasPolledOn app.devices.cards app1.devices.cards a.key f.one f.chain app.store.region app1.store.region given out result)
      (frames : length app1.store.region.taken ≡ length app.store.region.taken) (buffers : app1.store.buffers ≡ app.store.buffers) (labels : app1.labels ≡ app.labels) (areas : app1.areas ≡ app.areas)
      (doors : app1.devices.doors ≡ app.devices.doors) (rates : app1.devices.rates ≡ app.devices.rates) (nets : app1.devices.nets ≡ app.devices.nets) where
    -- the row comes to this, and what labels stand for is of its machine
    pub record Comes (reply : Said) (bytes : List ℕ) : Type 0 where
      pub machine : Machine
      pub is_row : (row.polled r.machine s).row ≡ record { machine = machine; said = reply; bytes = bytes; calls = [] }
      pub holds : Holds (around (record r { machine = machine }) app1)

    abbrev old : Polling
    old = cases.old r app s a h f app1 given out result q frames buffers labels areas doors rates nets

    abbrev new : Polling
    new = cases.new r app s a h f app1 given out result q frames buffers labels areas doors rates nets

    abbrev phase_queue : Phase → Objects.Queue Job (Job × Outcome)
    phase_queue p = record { posted = phase p ∷ []; moved = 0; unreaped = [] }

    abbrev then : Opened → Objects.Queue Job (Job × Outcome) → Machine
    then o queue = with_object (with_object r.machine s (Objects.log (with_opened g o))) f.v (Objects.vsic (record card { queue = queue }))

    -- A phase is posted.
    posted_comes : (w : SomeWait f.opened.waiting) (stage : Stage) (before : Polling) → IsPosted stage before new result → before.ring.posted ≡ [] → before.ring.unreaped ≡ [] → before.ring.moved ≡ 0
        → before.ring.size ≡ ring.size → before.chain.grant ≡ f.chain.grant → app1.store.region.taken ≡ app.store.region.taken
        → (o1 : Opened) → IsRunning r.history f.both.log_fits.slot.blocks app1.store.region q.ring q.log f.lies (with_opened g o1) o1 → o1.card ≡ f.opened.card → o1.header_frame ≡ f.opened.header_frame → o1.waiting ≡ f.opened.waiting
        → ((p : Phase) (ps : List Phase) → drop o1.done (phases_of (entries g.list) w.first.command) ≡ p ∷ ps → (row.polled r.machine s).row ≡ says (then o1 (phase_queue p)) said.Posted)
        → Comes said.Posted []
    posted_comes w stage before is no_ds no_us none_moved size grant taken o1 runs on header waiting row_is =
        let d = posting_of before.chain stage in
        let posted : q.ring.posted ≡ d ∷ [] = ap (λ (z : Queue). z.posted) is.ring ∙ ap (λ (ds : List Descriptor). ds ++ d ∷ []) no_ds in
        let unreaped : q.ring.unreaped ≡ [] = ap (λ (z : Queue). z.unreaped) is.ring ∙ no_us in
        let moved : q.ring.moved ≡ 0 = ap (λ (z : Queue). z.moved) is.ring ∙ none_moved in
        let sized : q.ring.size ≡ ring.size = ap (λ (z : Queue). z.size) is.ring ∙ size in
        let granted : q.log.grant ≡ f.chain.grant = ap (λ (u : OpenChain). u.grant) is.chain ∙ grant_stage before.chain stage ∙ grant in
        let some : 0 < length q.log.waiting = (alone_posted q.log app1.store.region q.ring.moved q.ring.posted q.ring.unreaped d runs.ring (ap (λ (ds : List Descriptor). slice_get ds 0) posted)).2.2.way.some in
        let way = cases.way r app s a h f app1 given out result q frames buffers labels areas doors rates nets o1 w.first w.rest d runs posted unreaped moved (waiting ∙ w.is) on header waiting granted sized some taken in
        let holds = cases.posted_holds r app s a h f app1 given out result q frames buffers labels areas doors rates nets o1 w.first w.rest d runs posted unreaped moved (waiting ∙ w.is) on header waiting granted sized some taken in
        record { machine = then o1 (phase_queue (phase_by way.stage d.count)); is_row = row_is (phase_by way.stage d.count) (drop (o1.done + 1) (phases_of (entries g.list) w.first.command)) way.left; holds = holds }

    -- The oldest command begins.
    pub begun_comes : f.chain.failed ≡ false → IsBegun old new result → Comes said.Posted []
    begun_comes still b =
        let blocks = f.both.log_fits.slot.blocks in
        let its = begins.begins r.history blocks f.lies g f.opened old new result f.runs still b in
        let runs = begins.starts r.history blocks f.lies g f.opened old new result f.runs still b in
        let free = begins.free r.history blocks f.lies g f.opened old new result f.runs still b in
        let w = waits b.some in
        let no_jobs = none_there (IsJob x (Some f.chain)) ring.posted card.queue.posted posted_each b.posted in
        let no_ends = none_there (IsEnded x (Some f.chain)) ring.unreaped card.queue.unreaped ended_each b.unreaped in
        let taken : app1.store.region.taken ≡ app.store.region.taken = (polled_leaves r.history blocks f.lies g f.opened old new result f.runs (inr (inl b))).taken its.1.answer in
        posted_comes w its.0 old its.1 b.posted b.unreaped free.0 refl refl taken f.opened (subst (λ (l : Log). IsRunning r.history blocks app1.store.region q.ring q.log f.lies l f.opened) (sym same_opened) runs) refl refl refl
        (λ p ps left.
        let none_moved : card.queue.moved ≡ 0 = moved_is ∙ free.0 in
        let queued : posting (phase p) card ≡ record card { queue = phase_queue p } = λ i. record card { queue = record { posted = no_jobs i ++ phase p ∷ []; moved = none_moved i; unreaped = no_ends i } } in
        rows.begins r.machine s f.v apart f.both.held_log g f.opened f.both.there_log f.both.object_log f.is_open f.on f.both.held_card card f.both.there_card f.both.object_card w.first.command (map (λ (m : log.Waiting). m.command) w.rest) (commands_are w) p ps no_ends no_jobs left
        ∙ ap (λ (k : Vsic). says (with_object r.machine f.v (Objects.vsic k)) said.Posted) queued
        ∙ ap (λ (n : Machine). says (with_object n f.v (Objects.vsic (record card { queue = phase_queue p }))) said.Posted) (sym (ap (λ (l : Log). with_object r.machine s (Objects.log l)) same_opened ∙ same_log)))

    -- Its descriptor has ended.
    module _ (e : HasEnded old new result) where
      was : (ring.unreaped ≡ e.ending ∷ []) × (ring.moved ≡ 0)
      was = let its = ended_ring f.chain app.store.region ring.moved ring.posted ring.unreaped e.ending f.runs.ring e.posted e.first in (its.0, its.1)

      w : SomeWait f.opened.waiting
      w = waits e.some

      job : First Completion (Job × Outcome) (IsEnded x (Some f.chain)) e.ending card.queue.unreaped
      job = first_there (IsEnded x (Some f.chain)) ring.unreaped card.queue.unreaped e.ending [] ended_each was.0

      its_outcome : e.ending.outcome ≡ job.first.1
      its_outcome = outcome_is x f.chain e.ending job.first (subst (λ (us : List (Job × Outcome)). AllByRecursion (λ u. IsPhaseJob u.0) us) job.is (its_phases r app s a h f).1).0 job.its

      no_ends : drop 1 ring.unreaped ≡ []
      no_ends = ap (λ (us : List Completion). drop 1 us) was.0

      grant_back : (returned_at f.chain (stage_of f.chain) e.ending.buf).grant ≡ f.chain.grant
      grant_back = by (stage_of f.chain)
        where
          by : (o : Option Stage) → (returned_at f.chain o e.ending.buf).grant ≡ f.chain.grant
          by None = refl
          by (Some t) = ap (λ (u : OpenChain). u.grant) (stage_is f.chain t e.ending.buf)

      -- well, and the next stage is posted
      pub goes_on_comes : EndsWell e.ending old new result → (stage : Stage) → stage_of (ended f.chain e.ending.buf) ≡ Some stage → Comes said.Posted []
      goes_on_comes well stage at =
          let blocks = f.both.log_fits.slot.blocks in
          let runs = going.goes_on r.history blocks f.lies g f.opened old new result f.runs e well stage at in
          let before = record old { chain = ended f.chain e.ending.buf; ring = reaped ring } in
          let is : IsPosted stage before new result = subst (λ t. GoesOn t before new result) at well.goes in
          let taken : app1.store.region.taken ≡ app.store.region.taken = (polled_leaves r.history blocks f.lies g f.opened old new result f.runs (inr (inr e))).taken is.answer in
          let ok : card.queue.unreaped ≡ (job.first.0, outcome.Ok) ∷ job.rest = job.is ∙ ap (λ (o : Outcome). (job.first.0, o) ∷ job.rest) (sym its_outcome ∙ well.well) in
          posted_comes w stage before is e.posted no_ends was.1 refl grant_back taken (one_done f.opened) runs refl refl refl
          (λ p ps left. rows.goes_on r.machine s f.v apart f.both.held_log g f.opened f.both.there_log f.both.object_log f.is_open f.on f.both.held_card card f.both.there_card f.both.object_card w.first.command (map (λ (m : log.Waiting). m.command) w.rest) (commands_are w) job.first.0 job.rest ok p ps left)

      -- badly
      pub fails_comes : EndsBadly e.ending old new result → Comes (said.Failed e.ending.outcome) []
      fails_comes badly =
          let blocks = f.both.log_fits.slot.blocks in
          let runs = polled_fails r.history blocks f.lies g f.opened old new result f.runs e badly q.right in
          let ring_is : q.ring ≡ reaped ring = ap (λ (n : Polling). n.ring) badly.failed in
          let grant : q.log.grant ≡ f.chain.grant = ap (λ (n : Polling). n.chain.grant) badly.failed ∙ grant_back in
          let taken : app1.store.region.taken ≡ app.store.region.taken = ap (λ (n : Polling). n.space.taken) badly.failed in
          let is : card.queue.unreaped ≡ (job.first.0, e.ending.outcome) ∷ job.rest = job.is ∙ ap (λ (o : Outcome). (job.first.0, o) ∷ job.rest) (sym its_outcome) in
          record {
            machine = then (failing f.opened) no_queue;
            is_row = rows.fails r.machine s f.v apart f.both.held_log g f.opened f.both.there_log f.both.object_log f.is_open f.on f.both.held_card card f.both.there_card f.both.object_card w.first.command (map (λ (m : log.Waiting). m.command) w.rest) (commands_are w) job.first.0 e.ending.outcome job.rest is badly.badly;
            holds = cases.failed_holds r app s a h f app1 given out result q frames buffers labels areas doors rates nets (failing f.opened) runs (ap (λ (z : Queue). z.posted) ring_is ∙ e.posted) (ap (λ (z : Queue). z.unreaped) ring_is ∙ no_ends) (ap (λ (z : Queue). z.moved) ring_is ∙ was.1) refl refl refl grant (ap (λ (z : Queue). z.size) ring_is) taken;
          }

      -- well, and the command is acknowledged
      pub acks_comes : EndsWell e.ending old new result → stage_of (ended f.chain e.ending.buf) ≡ None → Comes (said_by g.kind result) (shown_by result out)
      acks_comes well last =
          let blocks = f.both.log_fits.slot.blocks in
          let c = w.first.command in
          let ok : card.queue.unreaped ≡ (job.first.0, outcome.Ok) ∷ job.rest = job.is ∙ ap (λ (o : Outcome). (job.first.0, o) ∷ job.rest) (sym its_outcome ∙ well.well) in
          let left = polled_none_left r.history blocks f.lies g f.opened w.first w.rest old new result f.runs w.is e well last in
          let answer = answers r.history blocks f.lies g f.opened w.first w.rest old new result w.is f.runs e well last in
          let given_is = gives r.history blocks f.lies g f.opened w.first w.rest old new result w.is f.runs e well last in
          let bytes = given_by (entries g.list) c in
          let reply : said_by g.kind result ≡ row.acked g.kind c = ap (said_by g.kind) answer.1 ∙ acked_same g.kind (oldest f.chain).command c answer.0 in
          let shown : shown_by result out ≡ row.popped (entries g.list) c =
          ap (λ (z : Polled). shown_by z out) answer.1 ∙ ap (λ (z : List ℕ). take (length bytes) z) given_is ∙ take-append_seam bytes (drop (length bytes) given) ∙ popped_same (entries g.list) c in
          record {
            machine = with_object (with_object r.machine s (Objects.log (acknowledging c g f.opened))) f.v (Objects.vsic (record card { queue = no_queue }));
            is_row = rows.acknowledges r.machine s f.v apart f.both.held_log g f.opened f.both.there_log f.both.object_log f.is_open f.on f.both.held_card card f.both.there_card f.both.object_card c (map (λ (m : log.Waiting). m.command) w.rest) (commands_are w) job.first.0 job.rest ok left
                ∙ (λ i. record { machine = with_object (with_object r.machine s (Objects.log (acknowledging c g f.opened))) f.v (Objects.vsic (record card { queue = no_queue })); said = sym reply i; bytes = sym shown i; calls = [] });
            holds = acked_holds r app s a h f app1 given out result q frames buffers labels areas doors rates nets w.first w.rest w.is e well last;
          }

    -- No command waits, or its descriptor has not ended.

    quiet_row : IsNothing old new result → (row.polled r.machine s).row ≡ says r.machine said.Nothing
    quiet_row n = elim n.why [
      | inl none ↦ rows.none_waits r.machine s f.v apart f.both.held_log g f.opened f.both.there_log f.both.object_log f.is_open f.on f.both.held_card card f.both.there_card f.both.object_card (none_commands f.chain.waiting (commands f.opened) f.runs.is.stands.waiting none)
      | inr some ↦
          let first = some_posted ring.posted some in
          let alone = alone_posted f.chain app.store.region ring.moved ring.posted ring.unreaped first.0 f.runs.ring first.1 in
          let w = waits alone.2.2.way.some in
          let job = first_there (IsJob x (Some f.chain)) ring.posted card.queue.posted first.0 [] posted_each alone.0 in
          rows.still_posted r.machine s f.v apart f.both.held_log g f.opened f.both.there_log f.both.object_log f.is_open f.on f.both.held_card card f.both.there_card f.both.object_card w.first.command (map (λ (m : log.Waiting). m.command) w.rest) (commands_are w) job.first job.rest
          (none_there (IsEnded x (Some f.chain)) ring.unreaped card.queue.unreaped ended_each alone.1) job.is
    ]

    -- the machine with the log and the card as they are
    same_machine : with_object (with_object r.machine s (Objects.log g)) f.v (Objects.vsic card) ≡ r.machine
    same_machine = ap (λ (n : Machine). with_object n f.v (Objects.vsic card)) same_log ∙ put_same x h f.v f.both.held_card (Objects.vsic card) f.both.there_card f.both.object_card

    pub quiet_comes : IsNothing old new result → Comes said.Nothing []
    quiet_comes n =
        let chain : f.chain ≡ q.log = sym (ap (λ (z : Polling). z.chain) n.same) in
        let queue : ring ≡ q.ring = sym (ap (λ (z : Polling). z.ring) n.same) in
        let space : app1.store.region ≡ app.store.region = ap (λ (z : Polling). z.space) n.same in
        record {
          machine = with_object (with_object r.machine s (Objects.log g)) f.v (Objects.vsic card);
          is_row = quiet_row n ∙ ap (λ (z : Machine). says z said.Nothing) (sym same_machine);
          holds = goes_on_holds r app s a h f app1 q.ring q.log f.lies g f.opened card.queue (cases.touched r app s a h f) (cases.reaches r app s a h f app1 given out result q frames buffers labels areas doors rates nets) (cases.own_frames r app s a h f) q.card
              (subst (λ (z : Polling). IsRunning r.history f.both.log_fits.slot.blocks z.space z.ring z.chain f.lies g f.opened) (sym n.same) f.runs) (sym (ap (λ (u : OpenChain). u.grant) chain)) refl refl refl (sym (ap (λ (z : Queue). z.size) queue))
              (λ y. subst (λ (z : Queue). Each (IsJob y (Some q.log)) z.posted card.queue.posted) queue (subst (λ (u : OpenChain). Each (IsJob y (Some u)) ring.posted card.queue.posted) chain (cases.each_phase x y f.chain ring.posted card.queue.posted (its_phases r app s a h f).0 posted_each)))
              (λ y. subst (λ (z : Queue). Each (IsEnded y (Some q.log)) z.unreaped card.queue.unreaped) queue (subst (λ (u : OpenChain). Each (IsEnded y (Some u)) ring.unreaped card.queue.unreaped) chain (cases.each_ended x y f.chain ring.unreaped card.queue.unreaped (its_phases r app s a h f).1 ended_each)))
              (moved_is ∙ ap (λ (z : Queue). z.moved) queue) (its_phases r app s a h f)
              (λ j. ap (λ (z : Space). bit (slice_index_or z.taken j false) + object_covers j (Objects.log g)) (sym space));
        }

    -- One poll, whatever comes of it.
    pub polled_comes : f.chain.failed ≡ false → Comes (said_by g.kind result) (shown_by result out)
    polled_comes still = by q.polled
      where
        told : (reply : Said) (z : Polled) → result ≡ z → said_by g.kind z ≡ reply → shown_by z out ≡ [] → Comes reply [] → Comes (said_by g.kind result) (shown_by result out)
        told reply z is says_it none c = record {
          machine = c.machine;
          is_row = c.is_row ∙ (λ i. record { machine = c.machine; said = (sym says_it ∙ ap (said_by g.kind) (sym is)) i; bytes = (sym none ∙ ap (λ (y : Polled). shown_by y out) (sym is)) i; calls = [] });
          holds = c.holds;
        }

        by_stage : (e : HasEnded old new result) → EndsWell e.ending old new result → (z : Option Stage) → stage_of (ended f.chain e.ending.buf) ≡ z → Comes (said_by g.kind result) (shown_by result out)
        by_stage e well None at = acks_comes e well at
        by_stage e well (Some t) at = told said.Posted polls.Posted (subst (λ z. GoesOn z (record old { chain = ended f.chain e.ending.buf; ring = reaped ring }) new result) at well.goes).answer refl refl (goes_on_comes e well t at)

        by : HasPolled old new result → Comes (said_by g.kind result) (shown_by result out)
        by (inl n) = told said.Nothing polls.Nothing n.answer refl refl (quiet_comes n)
        by (inr (inl b)) = told said.Posted polls.Posted (begins.begins r.history f.both.log_fits.slot.blocks f.lies g f.opened old new result f.runs still b).1.answer refl refl (begun_comes still b)
        by (inr (inr e)) = elim e.ends [
          | inl well ↦ by_stage e well (stage_of (ended f.chain e.ending.buf)) refl
          | inr badly ↦ told (said.Failed e.ending.outcome) (polls.Fault e.ending.outcome) badly.answer refl refl (fails_comes e badly)
        ]
