-- Settling leaves the card of its log, and passes what its calls cost.
use Rattle.std.proofs.Common.{◌≡◌, ℕ, ◌+◌, Bool, true, false, not, List, [], ◌∷◌, ◌++◌, ◌&&◌, refl, sym, ◌∙◌, ap, subst, cond}
use Rattle.std.proofs.lemmas.List.{append-nil}
use Rattle.std.specs.Prelude.{Option, Some, None, option_map, option_and_then, unwrap_or, nat_lt}
use Rattle.ark_base.specs.declared.kind.Outcome.{Outcome}
use Rattle.ark_base.specs.declared.kind.Outcome.TheVariants as outcome
use Rattle.ark_caladan.specs.Chain.{Log, Opened, Command, Phase, Verb, reading, writing, syncing, commands}
use Rattle.ark_script.specs.declared.said.Said.TheVariants as said
use Rattle.ark_machine.specs.Objects
use Rattle.ark_machine.specs.Objects.{Paced, Vsic, Job, transfer, flush, phase}
use Rattle.ark_machine.specs.Machine.{Machine, vsic_at, log_at, with_vsic}
use Rattle.ark_machine.specs.Row
use Rattle.ark_machine.specs.Row.{Row, Call, Ended, says, synced}
use Rattle.ark_machine.specs.Rates.{is_over_burst, may_pass, passed}
use Rattle.ark_machine.specs.Cards.{posting}
use Rattle.ark_machine.specs.Moves.{Move, moves, ended, ends, outcome_of, block_passed, block_moved, tried, gated, phase_written, phase_moves, log_moved, first_end}
use Rattle.ark_machine.specs.Logs.{card_of, with_opened}
use Rattle.ark_machine.specs.Polls.{Polled, acknowledging, oldest_done, next_phase, phases_left, emptied, failing, one_done, phase_ended, poll_card, unreaped_on, posted_on, poll_oldest, poll_opened, poll_log, polled, is_held, settle_move, Next, stops, calls_on, by_calls, due_move, next_of, next_call, settling}
use Rattle.ark_machine.specs.Sending.{pace_at, KeepsWith}
use Rattle.ark_machine.specs.Paced.{MachinePacedAt}
use Rattle.ark_laws.proofs.Framing.{card_in, shape_at, Same, same_after, object_same, vsic_shape, shape_vsic, log_shape, card_shape, pace_shape, vsic_same, log_same, ended_same, synced_same, same_card, written_same, vsic_set}
use Rattle.ark_laws.proofs.Passing.{added, added_none, passed_added, with_added, paced_with, pace_at_paced, costs, costs_append, OnceEach, FitsCalls}
use Rattle.ark_laws.proofs.Steady.{Leads, NextSteady, next_call_steady, settle_move_steady}
use Rattle.ark_laws.proofs.Touching.{StopsQuiet, call_quiet}

-- A poll leaves all paces and all cards of logs.

opened_same : (m : Machine) (l : List ℕ) (f : Opened → Opened) → ((o : Opened) → (f o).card ≡ o.card) → Same m (with_opened m l f)
opened_same m l f same = log_same m l (λ g. record g { opened = option_map f g.opened }) (λ g. same_card f g.opened same)

next_phase_same : (m : Machine) (l : List ℕ) (g : Log) (o : Opened) (c : Command) (ps : List Phase) → shape_at m l ≡ Some (None, card_in g.opened) → Same m (next_phase m l g o c ps).row.machine
next_phase_same m l g o c [] at =
    object_same m l (Objects.log (acknowledging c g)) (at ∙ ap (λ (x : Option (List ℕ)). Some (None, x)) (sym (same_card oldest_done g.opened (λ x. refl))))
next_phase_same m l g o c (p ∷ ps) at = vsic_same m o.card (posting (phase p)) (λ x. refl)

reaped_same : (m : Machine) (l : List ℕ) (o : Opened) (f : Opened → Opened) → ((x : Opened) → (f x).card ≡ x.card) → Same m (with_opened (with_vsic m o.card emptied) l f)
reaped_same m l o f same =
    same_after m (with_vsic m o.card emptied) (with_opened (with_vsic m o.card emptied) l f) (vsic_same m o.card emptied (λ x. refl)) (opened_same (with_vsic m o.card emptied) l f same)

phase_ended_same : (m : Machine) (l : List ℕ) (g : Log) (o : Opened) (c : Command) (out : Outcome) → shape_at m l ≡ Some (None, Some o.card) → Same m (phase_ended m l g o c out).row.machine
phase_ended_same m l g o c outcome.Ok at =
    let k : Machine = with_opened (with_vsic m o.card emptied) l one_done in
    let f : Log = record g { opened = Some (one_done o) } in
    same_after m k (next_phase k l f (one_done o) c (phases_left f (one_done o) c)).row.machine (reaped_same m l o one_done (λ x. refl))
    (next_phase_same k l f (one_done o) c (phases_left f (one_done o) c) (reaped_same m l o one_done (λ x. refl) l ∙ at))
phase_ended_same m l g o c outcome.NoGrant at = reaped_same m l o failing (λ x. refl)
phase_ended_same m l g o c outcome.OutOfRange at = reaped_same m l o failing (λ x. refl)
phase_ended_same m l g o c outcome.OverBurst at = reaped_same m l o failing (λ x. refl)
phase_ended_same m l g o c outcome.DeviceFault at = reaped_same m l o failing (λ x. refl)
phase_ended_same m l g o c outcome.NoFilter at = reaped_same m l o failing (λ x. refl)

poll_card_same : (m : Machine) (l : List ℕ) (g : Log) (o : Opened) (c : Command) (us : List (Job × Outcome)) (js : List Job) → g.opened ≡ Some o → shape_at m l ≡ Some (None, Some o.card)
    → Same m (poll_card m l g o c us js).row.machine
poll_card_same m l g o c (u ∷ us) js is at = phase_ended_same m l g o c u.1 at
poll_card_same m l g o c [] (j ∷ js) is at = λ k. refl
poll_card_same m l g o c [] [] is at = next_phase_same m l g o c (phases_left g o c) (rw is at)

poll_oldest_same : (m : Machine) (l : List ℕ) (g : Log) (o : Opened) (cs : List Command) (v : Option Vsic) → g.opened ≡ Some o → shape_at m l ≡ Some (None, Some o.card) → Same m (poll_oldest m l g o cs v).row.machine
poll_oldest_same m l g o [] v is at = λ k. refl
poll_oldest_same m l g o (c ∷ cs) v is at = poll_card_same m l g o c (unreaped_on v) (posted_on v) is at

poll_opened_same : (m : Machine) (l : List ℕ) (g : Log) (o : Option Opened) → g.opened ≡ o → shape_at m l ≡ Some (None, card_in o) → Same m (poll_opened m l g o).row.machine
poll_opened_same m l g None is at = λ k. refl
poll_opened_same m l g (Some o) is at = poll_oldest_same m l g o (commands o) (vsic_at m o.card) is at

polled_same : (m : Machine) (l : List ℕ) → Same m (polled m l).row.machine
polled_same m l = by (log_at m l) refl
  where
    by : (o : Option Log) → log_at m l ≡ o → Same m (poll_log m l o).row.machine
    by None e = λ k. refl
    by (Some g) e = poll_opened_same m l g g.opened refl (log_shape m l g e)

abbrev NextSame : Machine → Next → Type 0
NextSame m (stops r) = Unit {0}
NextSame m (calls_on k) = Same m k

next_same : (l : List ℕ) (m : Machine) (p : Polled) → Same m p.row.machine → NextSame m (next_of l p)
next_same l m p same = by p.due
  where
    x : Move
    x = settle_move p.row.machine l (first_end [])

    quiet : (b : Bool) → NextSame m (cond b (stops (says p.row.machine said.OkHeld)) (stops (polled x.machine l).row))
    quiet true = tt
    quiet false = tt

    calls : (cs : List Call) → NextSame m (by_calls l p.row.machine x cs)
    calls [] = quiet (is_held x.said)
    calls (c ∷ cs) = same

    by : (b : Bool) → NextSame m (cond b (due_move l p.row.machine x) (stops p.row))
    by true = calls x.calls
    by false = tt

-- A move passes what its calls cost.

record Goes (now : ℕ) (v l : List ℕ) (m k : Machine) (cs : List Call) : Type 0 where
  card : card_of k l ≡ card_of m l
  pace : pace_at k v ≡ added (pace_at m v) (costs now cs)
  once : OnceEach cs

same_goes : (now : ℕ) (v l : List ℕ) (m k : Machine) → Same m k → Goes now v l m k []
same_goes now v l m k same = record {
  card = card_shape k l ∙ ap (λ q. unwrap_or (option_and_then (λ y. y.1) q) []) (same l) ∙ sym (card_shape m l);
  pace = pace_shape k v ∙ ap (λ q. unwrap_or (option_and_then (λ y. y.0) q) None) (same v) ∙ sym (pace_shape m v) ∙ sym (added_none (pace_at m v));
  once = tt;
}

sync_goes : (now : ℕ) (v l : List ℕ) (m k : Machine) → Goes now v l m k [] → Goes now v l m k (Row.syncs ∷ [])
sync_goes now v l m k h = record { card = h.card; pace = h.pace; once = (refl, tt) }

-- a change after which the card has the pace
set_goes : (now : ℕ) (v l : List ℕ) (m k n : Machine) (x : Vsic) (f : Vsic → Vsic) (cs : List Call) → vsic_at m v ≡ Some x → Same m k → ((y : Vsic) → (f y).pace ≡ added x.pace (costs now cs)) → OnceEach cs
    → Same (with_vsic k v f) n → Goes now v l m n cs
set_goes now v l m k n x f cs at same pace once later =
    let there : (y : Vsic) × (vsic_at k v ≡ Some y) × (y.pace ≡ x.pace) = shape_vsic k v x.pace None (same v ∙ vsic_shape m v x at) in
    let set : (card_of (with_vsic k v f) l ≡ card_of k l) × (shape_at (with_vsic k v f) v ≡ Some (Some (f there.0).pace, None)) = vsic_set k v l f there.0 there.1 in
    record {
      card = (same_goes now v l (with_vsic k v f) n later).card ∙ set.0 ∙ (same_goes now v l m k same).card;
      pace = pace_shape n v ∙ ap (λ q. unwrap_or (option_and_then (λ y. y.0) q) None) (later v ∙ set.1) ∙ pace there.0 ∙ ap (λ (p : Option Paced). added p (costs now cs)) (pace_is (vsic_at m v) at);
      once = once;
    }
  where
    pace_is : (o : Option Vsic) → o ≡ Some x → x.pace ≡ option_and_then (λ y. y.pace) o
    pace_is o e = rw e refl

tried_goes : (now : ℕ) (ok : Bool) (count : ℕ) (l : List ℕ) (m k : Machine) (v : List ℕ) (x : Vsic) (j : Job) (js : List Job) (c : Call) → vsic_at m v ≡ Some x → Same m k
    → costs now (c ∷ []) ≡ (now, 512) ∷ [] → OnceEach (c ∷ []) → Goes now v l m (tried now ok count k v x j js (c ∷ [])).machine (tried now ok count k v x j js (c ∷ [])).calls
tried_goes now ok count l m k v x j js c at same one once = by (ok && nat_lt (x.queue.moved + 1) count)
  where
    pace : Option Paced
    pace = passed now 512 x.pace

    going : Move
    going = moves (with_vsic k v (block_moved pace)) said.Moved (c ∷ [])

    done : Move
    done = ends (with_vsic k v (block_passed pace)) v x j js (outcome_of ok) (c ∷ [])

    pace_is : pace ≡ added x.pace (costs now (c ∷ []))
    pace_is = passed_added now 512 x.pace ∙ ap (λ (p : List _). added x.pace p) (sym one)

    by : (b : Bool) → Goes now v l m (cond b going done).machine (cond b going done).calls
    by true = set_goes now v l m k (with_vsic k v (block_moved pace)) x (block_moved pace) (c ∷ []) at same (λ y. pace_is) once (λ q. refl)
    by false =
        set_goes now v l m k done.machine x (block_passed pace) (c ∷ []) at same (λ y. pace_is) once (ended_same (with_vsic k v (block_passed pace)) v x j js (outcome_of ok))

gated_goes : (now : ℕ) (l : List ℕ) (m : Machine) (v : List ℕ) (x : Vsic) (j : Job) (js : List Job) (move : Move) → Goes now v l m move.machine move.calls
    → Goes now v l m (gated m v x j js true move).machine (gated m v x j js true move).calls
gated_goes now l m v x j js move h = by (is_over_burst x.pace 512) (not (may_pass x.pace m.now 512))
  where
    over : Move
    over = ends m v x j js outcome.OverBurst []

    held : Move
    held = moves m said.Held []

    by : (b c : Bool) → Goes now v l m (cond b over (cond c held move)).machine (cond b over (cond c held move)).calls
    by true c = same_goes now v l m over.machine (ended_same m v x j js outcome.OverBurst)
    by false true = same_goes now v l m m (λ k. refl)
    by false false = h

phase_goes : (now : ℕ) (verb : Verb) (l : List ℕ) (m : Machine) (v : List ℕ) (x : Vsic) (p : Phase) (js : List Job) (e : Ended) → m.now ≡ now → vsic_at m v ≡ Some x
    → Goes now v l m (phase_moves verb l m v x p js e).machine (phase_moves verb l m v x p js e).calls
phase_goes now syncing l m v x p js e is at =
    let k : Machine = synced e.ok m in
    let n : Machine = ended k v x (phase p) js (outcome_of e.ok) in
    sync_goes now v l m n (same_goes now v l m n (same_after m k n (synced_same e.ok m) (ended_same k v x (phase p) js (outcome_of e.ok))))
phase_goes now reading l m v x p js e is at =
    let move : Move = tried m.now e.ok p.count m v x (phase p) js (Row.reads_in l ∷ []) in
    gated_goes now l m v x (phase p) js move
    (subst (λ t. Goes t v l m move.machine move.calls) is (tried_goes m.now e.ok p.count l m m v x (phase p) js (Row.reads_in l) at (λ k. refl) refl (refl, tt)))
phase_goes now writing l m v x p js e is at =
    let move : Move = tried m.now e.ok p.count (phase_written m v p e) v x (phase p) js (Row.writes_in l ∷ []) in
    gated_goes now l m v x (phase p) js move
    (subst (λ t. Goes t v l m move.machine move.calls) is (tried_goes m.now e.ok p.count l m (phase_written m v p e) v x (phase p) js (Row.writes_in l) at (written_same m v p e) refl (refl, tt)))

moves_goes : (now : ℕ) (l : List ℕ) (m : Machine) (v : List ℕ) (x : Vsic) (js : List Job) (e : Ended) → m.now ≡ now → vsic_at m v ≡ Some x
    → Goes now v l m (log_moved l m v x js e).machine (log_moved l m v x js e).calls
moves_goes now l m v x [] e is at = same_goes now v l m m (λ k. refl)
moves_goes now l m v x (flush ∷ js) e is at = same_goes now v l m m (λ k. refl)
moves_goes now l m v x (transfer t ∷ js) e is at = same_goes now v l m m (λ k. refl)
moves_goes now l m v x (phase p ∷ js) e is at = phase_goes now p.verb l m v x p js e is at

settle_goes : (now : ℕ) (l : List ℕ) (m : Machine) (e : Ended) → m.now ≡ now → Goes now (card_of m l) l m (settle_move m l e).machine (settle_move m l e).calls
settle_goes now l m e is = by (vsic_at m (card_of m l)) refl
  where
    v : List ℕ
    v = card_of m l

    by : (o : Option Vsic) → vsic_at m v ≡ o → Goes now v l m (unwrap_or (option_map (λ x. log_moved l m v x x.queue.posted e) o) (moves m said.Idle [])).machine
        (unwrap_or (option_map (λ x. log_moved l m v x x.queue.posted e) o) (moves m said.Idle [])).calls
    by None at = same_goes now v l m m (λ k. refl)
    by (Some x) at = moves_goes now l m v x x.queue.posted e is at

-- Settling.

once_append : (cs ds : List Call) → OnceEach cs → OnceEach ds → OnceEach (cs ++ ds)
once_append [] ds h k = k
once_append (c ∷ cs) ds h k = (h.0, once_append cs ds h.1 k)

quiet_fits : (now : ℕ) (p : Option Paced) (cs : List Call) → cs ≡ [] → KeepsWith p [] → FitsCalls now p cs
quiet_fits now p cs none h = rw none (tt, h)

-- a move, and what comes after it
more_fits : (now : ℕ) (v l : List ℕ) (m k : Machine) (cs ds : List Call) → Goes now v l m k cs → FitsCalls now (pace_at k v) ds → FitsCalls now (pace_at m v) (cs ++ ds)
more_fits now v l m k cs ds goes rest = (
  once_append cs ds goes.once rest.0,
  subst (λ p. KeepsWith (pace_at m v) p) (sym (costs_append now cs ds)) (with_added (pace_at m v) (costs now cs) (costs now ds) (subst (λ p. KeepsWith p (costs now ds)) goes.pace rest.1)),
)

pace_fits : (now : ℕ) (m : Machine) (v : List ℕ) → MachinePacedAt now m → FitsCalls now (pace_at m v) []
pace_fits now m v h = (tt, paced_with now (pace_at m v) (pace_at_paced now m v h))

-- a call from machine k, which a poll leaves, and what comes after it
after_fits : (now : ℕ) (l v : List ℕ) (e : Ended) (m k : Machine) (rest : List Call) → MachinePacedAt now m → card_of m l ≡ v → Same m k → Leads m k
    → (MachinePacedAt now (settle_move k l e).machine → card_of (settle_move k l e).machine l ≡ v → FitsCalls now (pace_at (settle_move k l e).machine v) rest)
    → FitsCalls now (pace_at m v) ((settle_move k l e).calls ++ rest)
after_fits now l v e m k rest h card same lead next =
    let on : Goes now v l m k [] = same_goes now v l m k same in
    let there : card_of k l ≡ v = on.card ∙ card in
    let goes : Goes now v l k (settle_move k l e).machine (settle_move k l e).calls = subst (λ u. Goes now u l k (settle_move k l e).machine (settle_move k l e).calls) there (settle_goes now l k e (lead now h).0) in
    subst (λ p. FitsCalls now p ((settle_move k l e).calls ++ rest)) (on.pace ∙ added_none (pace_at m v))
    (more_fits now v l k (settle_move k l e).machine (settle_move k l e).calls rest goes (next ((settle_move_steady k l e).goes now (lead now h)) (goes.card ∙ there)))

settling_fits : (now : ℕ) (l v : List ℕ) (es : List Ended) (m : Machine) (n : Next) → MachinePacedAt now m → card_of m l ≡ v → NextSame m n → NextSteady m n → StopsQuiet n
    → FitsCalls now (pace_at m v) (settling es l n).calls
settling_fits now l v [] m (stops row) h card same steady quiet = quiet_fits now (pace_at m v) row.calls quiet (pace_fits now m v h).1
settling_fits now l v [] m (calls_on k) h card same steady quiet =
    subst (λ cs. FitsCalls now (pace_at m v) cs) (append-nil (settle_move k l (first_end [])).calls)
    (after_fits now l v (first_end []) m k [] h card same steady (λ paced there. pace_fits now (settle_move k l (first_end [])).machine v paced))
settling_fits now l v (e ∷ es) m (stops row) h card same steady quiet = quiet_fits now (pace_at m v) row.calls quiet (pace_fits now m v h).1
settling_fits now l v (e ∷ es) m (calls_on k) h card same steady quiet =
    let after : Machine = (settle_move k l e).machine in
    after_fits now l v e m k (settling es l (next_call after l)).calls h card same steady
    (λ paced there. settling_fits now l v es after (next_call after l) paced there (next_same l after (polled after l) (polled_same after l)) (next_call_steady after l) (call_quiet after l))

pub settle_fits : (now : ℕ) (l : List ℕ) (es : List Ended) (m : Machine) → MachinePacedAt now m → FitsCalls now (pace_at m (card_of m l)) (settling es l (next_call m l)).calls
settle_fits now l es m h = settling_fits now l (card_of m l) es m (next_call m l) h refl (next_same l m (polled m l) (polled_same m l)) (next_call_steady m l) (call_quiet m l)
