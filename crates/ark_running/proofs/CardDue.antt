-- What is due on the card of an open log, and what becomes of it.
use Rattle.std.proofs.Common.{◌≡◌, ◌⊎◌, inl, inr, ℕ, ◌+◌, ◌<◌, Bool, true, false, List, [], ◌∷◌, length, get_or, Option, Some, None, refl, sym, ap, ◌∙◌, subst, arith, if◌then◌else◌}
use Rattle.std.specs.Prelude.{nat_le, nat_lt, slice_get}
use Rattle.std.specs.List.{AllByRecursion}
use Rattle.std.proofs.lemmas.Bool.{cases_lt}
use Rattle.std.proofs.lemmas.Bool.Decides.{nat_tests}
use Rattle.ark_base.specs.declared.kind.Outcome.{Outcome}
use Rattle.ark_base.specs.declared.kind.Outcome.TheVariants as outcome
use Rattle.ark_media.specs.Journal.{Event, History}
use Rattle.ark_media.specs.Calls.{Call, Comes, Makes, Syncs}
use Rattle.ark_media.specs.Standing.{after}
use Rattle.ark_region.specs.Frames.{Apart, Piece, Space, bytes_of}
use Rattle.ark_vic.specs.Pace.{Pace, fill_at}
use Rattle.ark_vic.specs.Queue.{Queue, finished}
use Rattle.ark_vic.specs.declared.descriptor.Descriptor.{Descriptor}
use Rattle.ark_vic.specs.declared.descriptor.Job.{Job}
use Rattle.ark_vic.specs.declared.descriptor.Job.TheVariants as job
use Rattle.ark_vsic.specs.Card.{Areas, Card, head_of}
use Rattle.ark_vsic.specs.Moves.{LeavesFor, answer_for, answer_tried, area_of, block_call, calls_for, calls_of, count_of, due_by, due_of, due_paced, ended, is_last, outcome_of, ring_after, worked}
use Rattle.ark_vsic.specs.declared.due.Due.{Due}
use Rattle.ark_vsic.specs.declared.due.Due.TheVariants as due
use Rattle.ark_vsic.specs.declared.due.Moved.{Moved}
use Rattle.ark_vsic.specs.declared.due.Moved.TheVariants as moved
use Rattle.ark_caladan.specs.Chain as log
use Rattle.ark_caladan.specs.Chain.{Log, Opened}
use Rattle.ark_caladan.specs.Open.{Layout}
use Rattle.ark_caladan.specs.Postings.{walked}
use Rattle.ark_caladan.specs.Stages.{call_of}
use Rattle.ark_caladan.specs.Standing.{stage_at}
use Rattle.ark_log.specs.declared.command.Waiting.{Waiting}
use Rattle.ark_log.specs.declared.stage.Stage.{Stage}
use Rattle.ark_log.specs.declared.stage.Stage.TheVariants as stage
use Rattle.ark_log.specs.Open.{OpenChain}
use Rattle.ark_log.specs.Stages.{posting_of, stage_with}
use Rattle.ark_running.specs.Accepted.{with_opened}
use Rattle.ark_running.specs.Buffers.{pieces_of}
use Rattle.ark_running.specs.Moving.{HasMoved, decided_by_all}
use Rattle.ark_running.specs.Running.{IsRunning}
use Rattle.ark_running.proofs.CardMoves.{call_fails, ends_uncalled, ends_well, held, moves_on}
use Rattle.ark_running.proofs.Own as own
use Rattle.ark_running.proofs.Own.{IsOwn}
use Rattle.ark_running.proofs.Touched.{IsTouched, synced, tried}

-- a block that is in its area passes, ends its descriptor, or waits
paced_cases : (pace : Option Pace) (now n : ℕ) → (due_paced pace now n ≡ due.Block n) ⊎ ((due_paced pace now n ≡ due.Ends outcome.OverBurst) ⊎ (due_paced pace now n ≡ due.Waits))
paced_cases None now n = inl refl
paced_cases (Some r) now n = by (nat_lt r.burst 512) (nat_le (fill_at r now + 512) r.burst)
  where
    by : (a b : Bool) → let x = if a then due.Ends outcome.OverBurst else if b then due.Block n else due.Waits in (x ≡ due.Block n) ⊎ ((x ≡ due.Ends outcome.OverBurst) ⊎ (x ≡ due.Waits))
    by true b = inr (inl refl)
    by false true = inl refl
    by false false = inr (inr refl)

job_cases : (j : Job) (x : Due) → ((j ≡ job.Sync) × (due_by j x ≡ due.Sync)) ⊎ ((j ≡ job.Sync → ⊥) × (due_by j x ≡ x))
job_cases job.Sync x = inl (refl, refl)
job_cases job.Read x = inr (λ is. absurd (cc (is)), refl)
job_cases job.Write x = inr (λ is. absurd (cc (is)), refl)
job_cases job.Zero x = inr (λ is. absurd (cc (is)), refl)
job_cases job.Receive x = inr (λ is. absurd (cc (is)), refl)
job_cases job.Send x = inr (λ is. absurd (cc (is)), refl)

-- what came of one call, and of none
made_one : (c : Call) (ok : Bool) (es : List Event) → Makes (c ∷ []) ok es → (e : Event) × (es ≡ e ∷ []) × Comes c ok e
made_one c ok [] makes = absurd makes
made_one c ok (e ∷ []) (inl made) = (e, refl, subst (λ t. Comes c t e) (sym made.1) made.0)
made_one c ok (e ∷ f ∷ es) (inl made) = absurd made.1
made_one c ok (e ∷ es) (inr failed) = (e, ap (λ t. e ∷ t) failed.2, subst (λ t. Comes c t e) (sym failed.1) failed.0)

made_none : (ok : Bool) (es : List Event) → Makes [] ok es → (ok ≡ true) × (es ≡ [])
made_none ok [] makes = (makes, refl)
made_none ok (e ∷ es) makes = absurd makes

-- a descriptor of a sync has one block
sync_one : (v : OpenChain) (s : Stage) (buf : Option Piece) → (posting_of (stage_with v s buf) s).job ≡ job.Sync → (posting_of (stage_with v s buf) s).count ≡ 1
sync_one v stage.Load buf is = absurd (cc (is))
sync_one v stage.Draft buf is = absurd (cc (is))
sync_one v stage.Mark buf is = refl
sync_one v stage.Header buf is = refl
sync_one v stage.Clear buf is = absurd (cc (is))
sync_one v stage.Flush buf is = refl

module _ (h : History) (blocks : List ℕ) (old : Space) (card : Card) (v0 : OpenChain) (w : Waiting) (ws : List Waiting) (p : Layout) (g : Log) (o0 : Opened) (m : log.Waiting) (ms : List log.Waiting) (held_areas : Areas) (now : ℕ) where
  abbrev v : OpenChain
  v = record v0 { waiting = w ∷ ws }

  abbrev o : Opened
  o = record o0 { waiting = m ∷ ms }

  abbrev ring : Queue
  ring = card.ring

  module _ (runs : IsRunning h blocks old card.ring v p g o) (area : area_of v0.grant card.bound held_areas ≡ Some blocks) (d : Descriptor) (s : Stage) (is : IsOwn h blocks old card.ring v0 w ws p g o0 m ms runs d s) where
    head : head_of card.ring ≡ Some d
    head = ap (λ xs. slice_get xs 0) is.posted

    abbrev n : ℕ
    n = get_or blocks (walked (length blocks) d.first card.ring.moved) 0

    pub is_due : due_of card held_areas now ≡ due_by d.job (due_paced card.pace now n)
    is_due = own.due_is h blocks old card.ring v0 w ws p g o0 m ms runs d s is card held_areas now refl area

    -- it is a sync; a block; or it makes no call
    abbrev pub Sorts : Type 0
    Sorts =
        ((d.job ≡ job.Sync) × (due_of card held_areas now ≡ due.Sync))
        ⊎ (((d.job ≡ job.Sync → ⊥) × (due_of card held_areas now ≡ due.Block n)) ⊎ ((due_of card held_areas now ≡ due.Ends outcome.OverBurst) ⊎ (due_of card held_areas now ≡ due.Waits)))

    pub sorts : Sorts
    sorts = elim (job_cases d.job (due_paced card.pace now n)) [
      | inl sync ↦ inl (sync.0, is_due ∙ sync.1)
      | inr other ↦ elim (paced_cases card.pace now n) [
        | inl block ↦ inr (inl (other.0, is_due ∙ other.1 ∙ block))
        | inr (inl ends) ↦ inr (inr (inl (is_due ∙ other.1 ∙ ends)))
        | inr (inr waits) ↦ inr (inr (inr (is_due ∙ other.1 ∙ waits)))
      ]
    ]

    -- the call of each
    calls_as : (x : Due) → due_of card held_areas now ≡ x → calls_of card (due_of card held_areas now) old ≡ calls_for (Some d) x card.ring.moved old
    calls_as x same = λ i. calls_for (head i) (same i) card.ring.moved old

    same_front : (a b : Call) → a ∷ [] ≡ b ∷ [] → a ≡ b
    same_front a b is = cc (is)

    -- which is that of its stage
    pub call_is : (call : Call) → calls_of card (due_of card held_areas now) old ≡ call ∷ [] → call ≡ call_of blocks (stage_at g o p) card.ring.moved
    call_is call made = elim sorts [
      | inl sync ↦ same_front call Syncs (sym made ∙ calls_as due.Sync sync.1) ∙ own.sync_is h blocks old card.ring v0 w ws p g o0 m ms runs d s is sync.0
      | inr (inl block) ↦ same_front call (block_call d card.ring.moved n old) (sym made ∙ calls_as (due.Block n) block.1) ∙ own.block_is h blocks old card.ring v0 w ws p g o0 m ms runs d s is block.0
      | inr (inr (inl ends)) ↦ let none = sym made ∙ calls_as (due.Ends outcome.OverBurst) ends in absurd (cc (none))
      | inr (inr (inr waits)) ↦ let none = sym made ∙ calls_as due.Waits waits in absurd (cc (none))
    ]

    module _ (new : Space) (events : List Event) (result : Moved) (has : HasMoved card held_areas now h old new events result) where
      abbrev Goal : List Event → Moved → Space → Type 0
      Goal es r space = IsRunning (after h es) blocks space (ring_after card.ring r) v p (with_opened g (decided_by_all s es o)) (decided_by_all s es o)

      abbrev ok : Bool
      ok = worked result

      makes_as : (x : Due) → due_of card held_areas now ≡ x → Makes (calls_for (Some d) x card.ring.moved old) ok events
      makes_as x same = subst (λ cs. Makes cs ok events) (calls_as x same) has.makes

      answer_as : (x : Due) → due_of card held_areas now ≡ x → result ≡ answer_for x (is_last card.ring) ok
      answer_as x same = has.answer ∙ ap (λ y. answer_for y (is_last card.ring) ok) same

      leaves_as : (x : Due) → due_of card held_areas now ≡ x → LeavesFor (Some d) x ok card.ring.moved (Some (after h events)) old new
      leaves_as x same = subst (λ y. LeavesFor (Some d) y ok card.ring.moved (Some (after h events)) old new) same (subst (λ y. LeavesFor y (due_of card held_areas now) ok card.ring.moved (Some (after h events)) old new) head has.leaves)

      done_is : (x : Outcome) → ring_after card.ring (moved.Done x) ≡ finished card.ring d x 0
      done_is x = ap (λ y. ended card.ring y x) head

      -- it moves on, or has ended well or badly
      abbrev Came : Moved → Type 0
      Came r =
          ((ok ≡ true) × (card.ring.moved + 1 < d.count) × (r ≡ moved.Block))
          ⊎ (((ok ≡ true) × (card.ring.moved + 1 ≡ d.count) × (r ≡ moved.Done outcome.Ok)) ⊎ ((ok ≡ false) × (r ≡ moved.Done outcome.DeviceFault)))

      called : (e : Event) → IsTouched h blocks old card.ring v0 w ws p g o0 m ms runs d s is new ok → Comes (call_of blocks (stage_at g o p) card.ring.moved) ok e → Came result → Goal (e ∷ []) result new
      called e touched came (inl more) =
          subst (λ r. Goal (e ∷ []) r new) (sym more.2) (moves_on h blocks old card.ring v0 w ws p g o0 m ms runs d s is new ok e touched came more.0 more.1)
      called e touched came (inr (inl last)) =
          subst (λ r. Goal (e ∷ []) r new) (sym last.2)
          (subst (λ q. IsRunning (after h (e ∷ [])) blocks new q v p (with_opened g (decided_by_all s (e ∷ []) o)) (decided_by_all s (e ∷ []) o)) (sym (done_is outcome.Ok)) (ends_well h blocks old card.ring v0 w ws p g o0 m ms runs d s is new ok e touched came last.0 last.1))
      called e touched came (inr (inr bad)) =
          subst (λ r. Goal (e ∷ []) r new) (sym bad.1)
          (subst (λ q. IsRunning (after h (e ∷ [])) blocks new q v p (with_opened g (decided_by_all s (e ∷ []) o)) (decided_by_all s (e ∷ []) o)) (sym (done_is outcome.DeviceFault))
          (call_fails h blocks old card.ring v0 w ws p g o0 m ms runs d s is new ok e touched came bad.0 outcome.DeviceFault refl))

      syncs : d.job ≡ job.Sync → due_of card held_areas now ≡ due.Sync → Goal events result new
      syncs is_sync same =
          let made = made_one Syncs ok events (makes_as due.Sync same) in
          let came = subst (λ c. Comes c ok made.0) (own.sync_is h blocks old card.ring v0 w ws p g o0 m ms runs d s is is_sync) made.2 in
          let touched = subst (λ y. IsTouched h blocks old card.ring v0 w ws p g o0 m ms runs d s is y ok) (sym (leaves_as due.Sync same)) (synced h blocks old card.ring v0 w ws p g o0 m ms runs d s is ok is_sync) in
          subst (λ es. Goal es result new) (sym made.1) (called made.0 touched came (by ok refl))
        where
          one : d.count ≡ 1
          one = ap (λ (x : Descriptor). x.count) is.is ∙ sync_one v s d.buf (ap (λ (x : Descriptor). x.job) (sym is.is) ∙ is_sync)

          by : (b : Bool) → ok ≡ b → Came result
          by true good = inr (inl (good, omega (arith, one, is.less), answer_as due.Sync same ∙ ap (λ b. moved.Done (outcome_of b)) good))
          by false bad = inr (inr (bad, answer_as due.Sync same ∙ ap (λ b. moved.Done (outcome_of b)) bad))

      last_is : (b : Bool) → nat_le d.count (card.ring.moved + 1) ≡ b → is_last card.ring ≡ b
      last_is b same = ap (λ y. nat_le (count_of y) (card.ring.moved + 1)) head ∙ same

      blocks_try : (d.job ≡ job.Sync → ⊥) → due_of card held_areas now ≡ due.Block n → Goal events result new
      blocks_try other same =
          let made = made_one (block_call d card.ring.moved n old) ok events (makes_as (due.Block n) same) in
          let came = subst (λ c. Comes c ok made.0) (own.block_is h blocks old card.ring v0 w ws p g o0 m ms runs d s is other) made.2 in
          let leaves = subst (λ es. LeavesFor (Some d) (due.Block n) ok card.ring.moved (Some (after h es)) old new) made.1 (leaves_as (due.Block n) same) in
          let touched = tried h blocks old card.ring v0 w ws p g o0 m ms runs d s is new ok n made.0 has.taken refl made.2 leaves in
          subst (λ es. Goal es result new) (sym made.1) (called made.0 touched came (by ok refl))
        where
          answers : (b l : Bool) → ok ≡ b → is_last card.ring ≡ l → result ≡ answer_tried l b
          answers b l is_ok is_l = answer_as (due.Block n) same ∙ (λ i. answer_tried (is_l i) (is_ok i))

          by : (b : Bool) → ok ≡ b → Came result
          by true good = elim (cases_lt (card.ring.moved + 1) d.count) [
            | inl more ↦ inl (good, more, answers true false good (last_is false (grind (arith, nat_tests))))
            | inr last ↦ inr (inl (good, omega (arith, last, is.less), answers true true good (last_is true (grind (arith, nat_tests)))))
          ]
          by false bad = inr (inr (bad, answers false (is_last card.ring) bad refl))

      uncalled : (x : Due) → due_of card held_areas now ≡ x → Makes [] ok events → new ≡ old → Goal [] (answer_for x (is_last card.ring) true) old → Goal events result new
      uncalled x same makes stays goal =
          let none = made_none ok events makes in
          subst (λ y. Goal events result y) (sym stays)
          (subst (λ es. Goal es result old) (sym none.1) (subst (λ r. Goal [] r old) (sym (answer_as x same ∙ ap (λ b. answer_for x (is_last card.ring) b) none.0)) goal))

      pub runs_on : Goal events result new
      runs_on = elim sorts [
        | inl sync ↦ syncs sync.0 sync.1
        | inr (inl block) ↦ blocks_try block.0 block.1
        | inr (inr (inl ends)) ↦ uncalled (due.Ends outcome.OverBurst) ends (makes_as (due.Ends outcome.OverBurst) ends) (leaves_as (due.Ends outcome.OverBurst) ends)
            (subst (λ q. IsRunning (after h []) blocks old q v p (with_opened g o) o) (sym (done_is outcome.OverBurst)) (ends_uncalled h blocks old card.ring v0 w ws p g o0 m ms runs d s is outcome.OverBurst refl))
        | inr (inr (inr waits)) ↦ uncalled due.Waits waits (makes_as due.Waits waits) (leaves_as due.Waits waits) (held h blocks old card.ring v0 w ws p g o0 m ms runs)
      ]

      -- bytes apart from its buffers stay
      pub beside : (b : Piece) → AllByRecursion (λ a. Apart a b) (pieces_of v) → bytes_of new b ≡ bytes_of old b
      beside b apart = elim sorts [
        | inl sync ↦ ap (λ y. bytes_of y b) (leaves_as due.Sync sync.1)
        | inr (inl block) ↦
            let made = made_one (block_call d card.ring.moved n old) ok events (makes_as (due.Block n) block.1) in
            let leaves = subst (λ es. LeavesFor (Some d) (due.Block n) ok card.ring.moved (Some (after h es)) old new) made.1 (leaves_as (due.Block n) block.1) in
            (tried h blocks old card.ring v0 w ws p g o0 m ms runs d s is new ok n made.0 has.taken refl made.2 leaves).beside b apart
        | inr (inr (inl ends)) ↦ ap (λ y. bytes_of y b) (leaves_as (due.Ends outcome.OverBurst) ends)
        | inr (inr (inr waits)) ↦ ap (λ y. bytes_of y b) (leaves_as due.Waits waits)
      ]
