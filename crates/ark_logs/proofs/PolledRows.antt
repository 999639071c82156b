-- What the row of `poll` comes to, by what is in the ring.
use Rattle.std.proofs.Common.{◌≡◌, ℕ, false, List, [], ◌∷◌, refl, ◌∙◌, ap, bytes_eq}
use Rattle.std.specs.Prelude.{Option, Some, option_map, unwrap_or}
use Rattle.ark_base.specs.declared.kind.Outcome.{Outcome}
use Rattle.ark_base.specs.declared.kind.Outcome.TheVariants as outcome
use Rattle.ark_script.specs.declared.said.Said.TheVariants as said
use Rattle.ark_caladan.specs.Chain.{Command, Log, Opened, Phase, commands, entries}
use Rattle.ark_machine.specs.Objects
use Rattle.ark_machine.specs.Objects.{Job, Object, Vsic, phase}
use Rattle.ark_machine.specs.Machine.{Machine, Held, at, holding, log_at, vsic_at, with_object, with_vsic}
use Rattle.ark_machine.specs.Cards.{posting}
use Rattle.ark_machine.specs.Logs.{with_opened}
use Rattle.ark_machine.specs.Polls.{acknowledging, acked, emptied, failing, next_phase, one_done, phase_ended, phases_left, poll_card, poll_log, poll_oldest, poll_opened, polled, popped}
use Rattle.ark_machine.specs.Row.{says}
use Rattle.ark_held.proofs.Effects.{at_here, at_other}
use Rattle.ark_held.proofs.Lists.{turned}
use Rattle.ark_logs.proofs.Puts.{put_turned, put_twice}

with_card : (m : Machine) (v : List ℕ) (card : Vsic) (held : Held) → at m v ≡ Some held → held.object ≡ Objects.vsic card → (f : Vsic → Vsic) → with_vsic m v f ≡ with_object m v (Objects.vsic (f card))
with_card m v card held there object f =
    let is : vsic_at m v ≡ Some card = rw (there, object) refl in
    ap (λ (o : Option Vsic). unwrap_or (option_map (λ x. with_object m v (Objects.vsic (f x))) o) m) is

module _ (m : Machine) (s v : List ℕ) (apart : bytes_eq s v ≡ false) (held_log : Held) (g : Log) (o : Opened) (there_log : at m s ≡ Some held_log) (object_log : held_log.object ≡ Objects.log g) (is_open : g.opened ≡ Some o) (on : o.card ≡ v)
    (held_card : Held) (card : Vsic) (there_card : at m v ≡ Some held_card) (object_card : held_card.object ≡ Objects.vsic card) where
  log_is : log_at m s ≡ Some g
  log_is = rw (there_log, object_log) refl

  card_is : vsic_at m o.card ≡ Some card
  card_is = ap (vsic_at m) on ∙ rw (there_card, object_card) refl

  -- its oldest command, and its card
  pub polled_is : polled m s ≡ poll_oldest m s g o (commands o) (Some card)
  polled_is = ap (poll_log m s) log_is ∙ ap (poll_opened m s g) is_open ∙ ap (poll_oldest m s g o (commands o)) card_is

  pub none_waits : commands o ≡ [] → (polled m s).row ≡ says m said.Nothing
  none_waits none = ap (λ p. p.row) (polled_is ∙ ap (λ (cs : List Command). poll_oldest m s g o cs (Some card)) none)

  module _ (c : Command) (cs : List Command) (waits : commands o ≡ c ∷ cs) where
    by_card : polled m s ≡ poll_card m s g o c card.queue.unreaped card.queue.posted
    by_card = polled_is ∙ ap (λ (cs : List Command). poll_oldest m s g o cs (Some card)) waits

    by_ring : (us : List (Job × Outcome)) (js : List Job) → card.queue.unreaped ≡ us → card.queue.posted ≡ js → polled m s ≡ poll_card m s g o c us js
    by_ring us js unreaped posted = by_card ∙ (λ i. poll_card m s g o c (unreaped i) (posted i))

    -- its descriptor has not ended
    pub still_posted : (j : Job) (js : List Job) → card.queue.unreaped ≡ [] → card.queue.posted ≡ j ∷ js → (polled m s).row ≡ says m said.Nothing
    still_posted j js unreaped posted = ap (λ p. p.row) (by_ring [] (j ∷ js) unreaped posted)

    -- it begins
    pub begins : (p : Phase) (ps : List Phase) → card.queue.unreaped ≡ [] → card.queue.posted ≡ [] → phases_left g o c ≡ p ∷ ps → (polled m s).row ≡ says (with_object m v (Objects.vsic (posting (phase p) card))) said.Posted
    begins p ps unreaped posted left =
        ap (λ q. q.row) (by_ring [] [] unreaped posted) ∙ ap (λ (qs : List Phase). (next_phase m s g o c qs).row) left
        ∙ ap (λ (l : List ℕ). says (with_vsic m l (posting (phase p))) said.Posted) on
        ∙ ap (λ (n : Machine). says n said.Posted) (with_card m v card held_card there_card object_card (posting (phase p)))

    -- Its descriptor has ended, and is reaped.

    abbrev emptied_machine : Machine
    emptied_machine = with_object m v (Objects.vsic (emptied card))

    emptied_is : with_vsic m o.card emptied ≡ emptied_machine
    emptied_is = ap (λ (l : List ℕ). with_vsic m l emptied) on ∙ with_card m v card held_card there_card object_card emptied

    abbrev pub log_with : Opened → Log
    log_with q = record g { opened = Some q }

    -- the log is open as this one, and its card has this queue
    abbrev pub both_machine : Log → Vsic → Machine
    both_machine l k = with_object (with_object m s (Objects.log l)) v (Objects.vsic k)

    opened_as : (f : Opened → Opened) → with_opened (with_vsic m o.card emptied) s f ≡ both_machine (log_with (f o)) (emptied card)
    opened_as f =
        ap (λ (n : Machine). with_opened n s f) emptied_is
        ∙ ap (λ (x : Option Log). unwrap_or (option_map (λ (y : Log). with_object emptied_machine s (Objects.log (record y { opened = option_map f y.opened }))) x) emptied_machine) there
        ∙ ap (λ (x : Option Opened). with_object emptied_machine s (Objects.log (record g { opened = option_map f x }))) is_open
        ∙ put_turned m s v (Objects.log (log_with (f o))) (Objects.vsic (emptied card)) apart
      where
        there_still : at emptied_machine s ≡ Some held_log
        there_still = at_other m v s (Objects.vsic (emptied card)) (turned s v apart) ∙ there_log

        there : log_at emptied_machine s ≡ Some g
        there = rw (there_still, object_log) refl

    -- badly
    bad_is : (e : Outcome) → (e ≡ outcome.Ok → ⊥) → (phase_ended m s g o c e).row ≡ says (with_opened (with_vsic m o.card emptied) s failing) (said.Failed e)
    bad_is outcome.Ok not = absurd (not refl)
    bad_is _ not = refl

    pub fails : (j : Job) (e : Outcome) (us : List (Job × Outcome)) → card.queue.unreaped ≡ (j, e) ∷ us → (e ≡ outcome.Ok → ⊥) → (polled m s).row ≡ says (both_machine (log_with (failing o)) (emptied card)) (said.Failed e)
    fails j e us unreaped not =
        ap (λ p. p.row) (by_ring ((j, e) ∷ us) card.queue.posted unreaped refl) ∙ bad_is e not ∙ ap (λ (n : Machine). says n (said.Failed e)) (opened_as failing)

    -- well
    module _ (j : Job) (us : List (Job × Outcome)) (unreaped : card.queue.unreaped ≡ (j, outcome.Ok) ∷ us) where
      abbrev then : Machine
      then = both_machine (log_with (one_done o)) (emptied card)

      well : (ps : List Phase) → phases_left g (one_done o) c ≡ ps → (polled m s).row ≡ (next_phase then s (log_with (one_done o)) (one_done o) c ps).row
      well ps left =
          ap (λ p. p.row) (by_ring ((j, outcome.Ok) ∷ us) card.queue.posted unreaped refl)
          ∙ ap (λ (n : Machine). (next_phase n s (log_with (one_done o)) (one_done o) c (phases_left g (one_done o) c)).row) (opened_as one_done)
          ∙ ap (λ (qs : List Phase). (next_phase then s (log_with (one_done o)) (one_done o) c qs).row) left

      -- and the next phase is posted
      pub goes_on : (p : Phase) (ps : List Phase) → phases_left g (one_done o) c ≡ p ∷ ps → (polled m s).row ≡ says (both_machine (log_with (one_done o)) (posting (phase p) (emptied card))) said.Posted
      goes_on p ps left =
          let m1 = with_object m s (Objects.log (log_with (one_done o))) in
          let card_still : at m1 v ≡ Some held_card = at_other m s v (Objects.log (log_with (one_done o))) apart ∙ there_card in
          let there : at then v ≡ Some (holding (Objects.vsic (emptied card)) held_card) = at_here m1 v (Objects.vsic (emptied card)) held_card card_still in
          well (p ∷ ps) left
          ∙ ap (λ (l : List ℕ). says (with_vsic then l (posting (phase p))) said.Posted) on
          ∙ ap (λ (n : Machine). says n said.Posted) (with_card then v (emptied card) (holding (Objects.vsic (emptied card)) held_card) there refl (posting (phase p))
          ∙ put_twice m1 v (Objects.vsic (emptied card)) (Objects.vsic (posting (phase p) (emptied card))))

      -- and none is left: the command is acknowledged
      pub acknowledges : phases_left g (one_done o) c ≡ []
          → (polled m s).row ≡ record { machine = both_machine (acknowledging c (log_with (one_done o))) (emptied card); said = acked g.kind c; bytes = popped (entries g.list) c; calls = [] }
      acknowledges left =
          let m1 = with_object m s (Objects.log (log_with (one_done o))) in
          let last = acknowledging c (log_with (one_done o)) in
          well [] left
          ∙ ap (λ (n : Machine). record { machine = n; said = acked g.kind c; bytes = popped (entries g.list) c; calls = [] }) (put_turned m1 s v (Objects.log last) (Objects.vsic (emptied card)) apart
          ∙ ap (λ (n : Machine). with_object n v (Objects.vsic (emptied card))) (put_twice m s (Objects.log (log_with (one_done o))) (Objects.log last)))
