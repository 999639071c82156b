-- What a stop may leave of an application's areas once a line that settles a log has synced.
use Rattle.std.proofs.Common.{◌≡◌, ◌⊎◌, inl, inr, ℕ, zero, suc, ◌+◌, Bool, true, false, not, ◌&&◌, List, [], ◌∷◌, ◌++◌, map, refl, sym, ◌∙◌, ap, subst, cond}
use Rattle.std.specs.Prelude.{Option, Some, None, option_map, option_and_then, unwrap_or, nat_lt, bytes_eq, slice_get}
use Rattle.ark_base.specs.Conditions.{Conditions, early, late}
use Rattle.ark_base.specs.declared.refusal.Refusal.{Refusal}
use Rattle.ark_base.specs.declared.kind.Outcome.{Outcome}
use Rattle.ark_base.specs.declared.kind.Outcome.TheVariants as outcome
use Rattle.ark_vic.specs.Bells as bells
use Rattle.ark_vic.specs.declared.door.Bell.{Bell}
use Rattle.ark_vic.specs.declared.door.Bell.TheVariants as bell
use Rattle.ark_vic.specs.declared.door.Counts.{Counts}
use Rattle.ark_caladan.specs.Chain.{Log, Opened, Command, Phase, Verb, reading, writing, syncing, commands}
use Rattle.ark_script.specs.Line as w
use Rattle.ark_machine.specs.Objects
use Rattle.ark_machine.specs.Objects.{Object, Raw, Vsic, Job, transfer, flush, phase, as_raw}
use Rattle.ark_machine.specs.Machine.{Machine, object_at, raw_at, vsic_at, log_at, door_at, with_object, each_object, with_vsic, with_log}
use Rattle.ark_machine.specs.Row.{Row, Given, Ended, Call, syncs, reads_in, writes_in, says, settled, synced, answer, unless_refused}
use Rattle.ark_machine.specs.Rates.{is_over_burst, may_pass, passed, rung}
use Rattle.ark_machine.specs.Cards.{posting}
use Rattle.ark_machine.specs.Moves.{Move, moves, ending, ended, ends, outcome_of, block_passed, block_moved, tried, gated, deciding_tried, phase_written, phase_moves, log_moved, first_end}
use Rattle.ark_machine.specs.Logs.{with_opened, card_of}
use Rattle.ark_machine.specs.Polls.{Polled, acknowledging, next_phase, phases_left, emptied, failing, one_done, phase_ended, poll_card, unreaped_on, posted_on, poll_oldest, poll_opened, poll_log, polled, is_held, settle_move, Next, stops, calls_on, by_calls, due_move, next_of, next_call, settling}
use Rattle.ark_machine.specs.Plane.{recorded}
use Rattle.ark_machine.specs.Step.{step}
use Rattle.ark_machine.specs.System.{System, machine_of, line_turn}
use Rattle.ark_script.specs.declared.said.Said.TheVariants as said
use Rattle.ark_laws.proofs.Listed.{same_bytes}
use Rattle.ark_laws.proofs.Flushing.{Syncs, tried_calls, gated_syncs, in_no_sync, out_no_sync}
use Rattle.ark_laws.proofs.Privacy.{own_machine}
use Rattle.ark_laws.proofs.Reaching.{poll_quiet}
use Rattle.ark_laws.proofs.Setting.{found_at, set_here, set_there, each_found}
use Rattle.ark_laws.proofs.Synced.{settled_is}

-- each area has but one content for each block
abbrev pub Settled : Machine → Type 0
Settled m = (l : List ℕ) (x : Raw) → raw_at m l ≡ Some x → x.maybe ≡ map (λ b. b ∷ []) x.content

-- Changes that leave the areas.

object_settled : (m : Machine) (d : List ℕ) (o : Object) → as_raw o ≡ None → Settled m → Settled (with_object m d o)
object_settled m d o none h l x is = by (bytes_eq l d) refl
  where
    gone : (q : Option Object) → option_and_then as_raw (option_map (λ (z : Object). o) q) ≡ Some x → ⊥
    gone None e = cc
    gone (Some z) e = cc (e, none)

    by : (b : Bool) → bytes_eq l d ≡ b → x.maybe ≡ map (λ b. b ∷ []) x.content
    by true same = absurd (gone (found_at d m.held) (ap (λ q. option_and_then as_raw q) (sym (set_here d o m.held)) ∙ subst (λ k. raw_at (with_object m d o) k ≡ Some x) (same_bytes l d same) is))
    by false apart = h l x (ap (λ q. option_and_then as_raw q) (sym (set_there l d o m.held apart)) ∙ is)

vsic_settled : (m : Machine) (v : List ℕ) (f : Vsic → Vsic) → Settled m → Settled (with_vsic m v f)
vsic_settled m v f h = by (vsic_at m v)
  where
    by : (o : Option Vsic) → Settled (unwrap_or (option_map (λ x. with_object m v (Objects.vsic (f x))) o) m)
    by None = h
    by (Some x) = object_settled m v (Objects.vsic (f x)) refl h

log_settled : (m : Machine) (l : List ℕ) (f : Log → Log) → Settled m → Settled (with_log m l f)
log_settled m l f h = by (log_at m l)
  where
    by : (o : Option Log) → Settled (unwrap_or (option_map (λ x. with_object m l (Objects.log (f x))) o) m)
    by None = h
    by (Some x) = object_settled m l (Objects.log (f x)) refl h

door_settled : (m : Machine) (d : List ℕ) (b : Bell) (o : Option Counts) → Settled m → Settled (unwrap_or (option_map (λ c. with_object m d (Objects.door (bells.one_more c b))) o) m)
door_settled m d b None h = h
door_settled m d b (Some c) h = object_settled m d (Objects.door (bells.one_more c b)) refl h

rung_settled : (m : Machine) (d : Option (List ℕ)) (b : Bell) → Settled m → Settled (rung m d b)
rung_settled m None b h = h
rung_settled m (Some d) b h = door_settled m d b (door_at m d) h

raw_kept : (f : Object → Object) → ((o : Object) (x : Raw) → as_raw (f o) ≡ Some x → as_raw o ≡ Some x) → (q : Option Object) (x : Raw) → option_and_then as_raw (option_map f q) ≡ Some x → option_and_then as_raw q ≡ Some x
raw_kept f fixes None x h = h
raw_kept f fixes (Some o) x h = fixes o x h

each_settled : (m : Machine) (f : Object → Object) → ((o : Object) (x : Raw) → as_raw (f o) ≡ Some x → as_raw o ≡ Some x) → Settled m → Settled (each_object f m)
each_settled m f fixes h l x is = h l x (raw_kept f fixes (object_at m l) x (ap (λ q. option_and_then as_raw q) (sym (each_found f l m.held)) ∙ is))

-- a sync that succeeded settles them
all_settled : (m : Machine) → Settled (synced true m)
all_settled m l x is = settled_is (object_at m l) x (ap (λ q. option_and_then as_raw q) (sym (each_found settled l m.held)) ∙ is)

synced_settled : (b : Bool) (m : Machine) → Settled m → Settled (synced b m)
synced_settled true m h = all_settled m
synced_settled false m h = h

-- Polls.

opened_settled : (m : Machine) (l : List ℕ) (f : Opened → Opened) → Settled m → Settled (with_opened m l f)
opened_settled m l f h = log_settled m l _ h

next_phase_settled : (m : Machine) (s : List ℕ) (g : Log) (o : Opened) (c : Command) (ps : List Phase) → Settled m → Settled (next_phase m s g o c ps).row.machine
next_phase_settled m s g o c [] h = object_settled m s (Objects.log (acknowledging c g)) refl h
next_phase_settled m s g o c (p ∷ ps) h = vsic_settled m o.card (posting (phase p)) h

phase_ended_settled : (m : Machine) (s : List ℕ) (g : Log) (o : Opened) (c : Command) (out : Outcome) → Settled m → Settled (phase_ended m s g o c out).row.machine
phase_ended_settled m s g o c outcome.Ok h =
    let k : Machine = with_opened (with_vsic m o.card emptied) s one_done in
    next_phase_settled k s (record g { opened = Some (one_done o) }) (one_done o) c (phases_left g (one_done o) c) (opened_settled (with_vsic m o.card emptied) s one_done (vsic_settled m o.card emptied h))
phase_ended_settled m s g o c outcome.NoGrant h = opened_settled (with_vsic m o.card emptied) s failing (vsic_settled m o.card emptied h)
phase_ended_settled m s g o c outcome.OutOfRange h = opened_settled (with_vsic m o.card emptied) s failing (vsic_settled m o.card emptied h)
phase_ended_settled m s g o c outcome.OverBurst h = opened_settled (with_vsic m o.card emptied) s failing (vsic_settled m o.card emptied h)
phase_ended_settled m s g o c outcome.DeviceFault h = opened_settled (with_vsic m o.card emptied) s failing (vsic_settled m o.card emptied h)
phase_ended_settled m s g o c outcome.NoFilter h = opened_settled (with_vsic m o.card emptied) s failing (vsic_settled m o.card emptied h)

poll_card_settled : (m : Machine) (s : List ℕ) (g : Log) (o : Opened) (c : Command) (us : List (Job × Outcome)) (js : List Job) → Settled m → Settled (poll_card m s g o c us js).row.machine
poll_card_settled m s g o c (u ∷ us) js h = phase_ended_settled m s g o c u.1 h
poll_card_settled m s g o c [] (j ∷ js) h = h
poll_card_settled m s g o c [] [] h = next_phase_settled m s g o c (phases_left g o c) h

poll_oldest_settled : (m : Machine) (s : List ℕ) (g : Log) (o : Opened) (cs : List Command) (v : Option Vsic) → Settled m → Settled (poll_oldest m s g o cs v).row.machine
poll_oldest_settled m s g o [] v h = h
poll_oldest_settled m s g o (c ∷ cs) v h = poll_card_settled m s g o c (unreaped_on v) (posted_on v) h

poll_opened_settled : (m : Machine) (s : List ℕ) (g : Log) (o : Option Opened) → Settled m → Settled (poll_opened m s g o).row.machine
poll_opened_settled m s g None h = h
poll_opened_settled m s g (Some o) h = poll_oldest_settled m s g o (commands o) (vsic_at m o.card) h

poll_log_settled : (m : Machine) (s : List ℕ) (g : Option Log) → Settled m → Settled (poll_log m s g).row.machine
poll_log_settled m s None h = h
poll_log_settled m s (Some g) h = poll_opened_settled m s g g.opened h

polled_settled : (m : Machine) (s : List ℕ) → Settled m → Settled (polled m s).row.machine
polled_settled m s h = poll_log_settled m s (log_at m s) h

-- Moves of a log's phases.

ended_settled : (m : Machine) (v : List ℕ) (x : Vsic) (j : Job) (js : List Job) (o : Outcome) → Settled m → Settled (ended m v x j js o)
ended_settled m v x j js o h = rung_settled (with_vsic m v (ending j js o)) x.door bell.Io (vsic_settled m v (ending j js o) h)

tried_settled : (now : ℕ) (ok : Bool) (count : ℕ) (m : Machine) (v : List ℕ) (x : Vsic) (j : Job) (js : List Job) (calls : List Call) → Settled m → Settled (tried now ok count m v x j js calls).machine
tried_settled now ok count m v x j js calls h =
    let pace = passed now 512 x.pace in
    elim (ok && nat_lt (x.queue.moved + 1) count) as (λ b. Settled (cond b (moves (with_vsic m v (block_moved pace)) said.Moved calls) (ends (with_vsic m v (block_passed pace)) v x j js (outcome_of ok) calls)).machine) [
      | true ↦ vsic_settled m v (block_moved pace) h
      | false ↦ ended_settled (with_vsic m v (block_passed pace)) v x j js (outcome_of ok) (vsic_settled m v (block_passed pace) h)
    ]

gated_settled : (m : Machine) (v : List ℕ) (x : Vsic) (j : Job) (js : List Job) (next : Move) → Settled m → Settled next.machine → Settled (gated m v x j js true next).machine
gated_settled m v x j js next h after = by (is_over_burst x.pace 512) (not (may_pass x.pace m.now 512))
  where
    by : (b c : Bool) → Settled (cond b (ends m v x j js outcome.OverBurst []) (cond c (moves m said.Held []) next)).machine
    by true c = ended_settled m v x j js outcome.OverBurst h
    by false true = h
    by false false = after

deciding_raw : (v : List ℕ) (took : Bool) (o : Object) (x : Raw) → as_raw (deciding_tried v took o) ≡ Some x → as_raw o ≡ Some x
deciding_raw v took (Objects.log g) x h = absurd cc
deciding_raw v took (Objects.raw r) x h = h
deciding_raw v took _ x h = h

written_settled : (m : Machine) (v : List ℕ) (p : Phase) (e : Ended) → Settled m → Settled (phase_written m v p e)
written_settled m v p e h = elim p.decides as (λ b. Settled (cond b (each_object (deciding_tried v e.took) m) m)) [ true ↦ each_settled m (deciding_tried v e.took) (deciding_raw v e.took) h | false ↦ h ]

phase_settled : (verb : Verb) (s : List ℕ) (m : Machine) (v : List ℕ) (x : Vsic) (p : Phase) (js : List Job) (e : Ended) → Settled m → Settled (phase_moves verb s m v x p js e).machine
phase_settled syncing s m v x p js e h = ended_settled (synced e.ok m) v x (phase p) js (outcome_of e.ok) (synced_settled e.ok m h)
phase_settled reading s m v x p js e h =
    gated_settled m v x (phase p) js (tried m.now e.ok p.count m v x (phase p) js (reads_in s ∷ [])) h (tried_settled m.now e.ok p.count m v x (phase p) js (reads_in s ∷ []) h)
phase_settled writing s m v x p js e h =
    let k : Machine = phase_written m v p e in
    gated_settled m v x (phase p) js (tried m.now e.ok p.count k v x (phase p) js (writes_in s ∷ [])) h (tried_settled m.now e.ok p.count k v x (phase p) js (writes_in s ∷ []) (written_settled m v p e h))

-- one that syncs, and succeeds
phase_syncs : (verb : Verb) (s : List ℕ) (m : Machine) (v : List ℕ) (x : Vsic) (p : Phase) (js : List Job) (e : Ended) → Syncs (phase_moves verb s m v x p js e) → e.ok ≡ true → Settled (phase_moves verb s m v x p js e).machine
phase_syncs syncing s m v x p js e c ok = ended_settled (synced e.ok m) v x (phase p) js (outcome_of e.ok) (subst (λ b. Settled (synced b m)) (sym ok) (all_settled m))
phase_syncs reading s m v x p js e c ok =
    absurd (in_no_sync s (sym (tried_calls m.now e.ok p.count m v x (phase p) js (reads_in s)) ∙ gated_syncs m v x (phase p) js true (tried m.now e.ok p.count m v x (phase p) js (reads_in s ∷ [])) c))
phase_syncs writing s m v x p js e c ok =
    let k : Machine = phase_written m v p e in
    absurd (out_no_sync s (sym (tried_calls m.now e.ok p.count k v x (phase p) js (writes_in s)) ∙ gated_syncs m v x (phase p) js true (tried m.now e.ok p.count k v x (phase p) js (writes_in s ∷ [])) c))

-- its calls are the same however they end: none, or one
abbrev CallsAs : (Ended → Move) → Type 0
CallsAs move = ((e : Ended) → (move e).calls ≡ []) ⊎ ((c : Call) × ((e : Ended) → (move e).calls ≡ c ∷ []))

gated_as : (m : Machine) (v : List ℕ) (x : Vsic) (j : Job) (js : List Job) (c : Call) (next : Ended → Move) → ((e : Ended) → (next e).calls ≡ c ∷ []) → CallsAs (λ e. gated m v x j js true (next e))
gated_as m v x j js c next calls = by (is_over_burst x.pace 512) (not (may_pass x.pace m.now 512))
  where
    by : (a b : Bool) → CallsAs (λ e. cond a (ends m v x j js outcome.OverBurst []) (cond b (moves m said.Held []) (next e)))
    by true b = inl (λ e. refl)
    by false true = inl (λ e. refl)
    by false false = inr (c, calls)

phase_as : (verb : Verb) (s : List ℕ) (m : Machine) (v : List ℕ) (x : Vsic) (p : Phase) (js : List Job) → CallsAs (λ e. phase_moves verb s m v x p js e)
phase_as syncing s m v x p js = inr (syncs, λ e. refl)
phase_as reading s m v x p js = gated_as m v x (phase p) js (reads_in s) (λ e. tried m.now e.ok p.count m v x (phase p) js (reads_in s ∷ [])) (λ e. tried_calls m.now e.ok p.count m v x (phase p) js (reads_in s))
phase_as writing s m v x p js =
    gated_as m v x (phase p) js (writes_in s) (λ e. tried m.now e.ok p.count (phase_written m v p e) v x (phase p) js (writes_in s ∷ [])) (λ e. tried_calls m.now e.ok p.count (phase_written m v p e) v x (phase p) js (writes_in s))

-- What is so of a move that settling makes.
record IsLogMove (m : Machine) (move : Ended → Move) : Type 0 where
  calls : CallsAs move
  keeps : Settled m → (e : Ended) → Settled (move e).machine
  syncs : (e : Ended) → Syncs (move e) → e.ok ≡ true → Settled (move e).machine

no_sync : (e : Ended) (m : Machine) → Syncs (moves m said.Idle []) → e.ok ≡ true → Settled m
no_sync e m c ok = absurd cc

idle : (m : Machine) → IsLogMove m (λ e. moves m said.Idle [])
idle m = record { calls = inl (λ e. refl); keeps = λ h e. h; syncs = λ e c ok. no_sync e m c ok }

log_moved_is : (s : List ℕ) (m : Machine) (v : List ℕ) (x : Vsic) (js : List Job) → IsLogMove m (λ e. log_moved s m v x js e)
log_moved_is s m v x [] = idle m
log_moved_is s m v x (flush ∷ js) = idle m
log_moved_is s m v x (transfer t ∷ js) = idle m
log_moved_is s m v x (phase p ∷ js) =
    record { calls = phase_as p.verb s m v x p js; keeps = λ h e. phase_settled p.verb s m v x p js e h; syncs = λ e c ok. phase_syncs p.verb s m v x p js e c ok }

settle_move_is : (m : Machine) (s : List ℕ) → IsLogMove m (λ e. settle_move m s e)
settle_move_is m s = by (vsic_at m (card_of m s))
  where
    by : (o : Option Vsic) → IsLogMove m (λ e. unwrap_or (option_map (λ x. log_moved s m (card_of m s) x x.queue.posted e) o) (moves m said.Idle []))
    by None = idle m
    by (Some x) = log_moved_is s m (card_of m s) x x.queue.posted

-- Settling.

abbrev NextSettled : Next → Type 0
NextSettled (stops r) = Settled r.machine
NextSettled (calls_on k) = Settled k

-- a row with which it stops makes no call, and else its move makes one
abbrev NextCalls : List ℕ → Next → Type 0
NextCalls s (stops r) = r.calls ≡ []
NextCalls s (calls_on k) = (c : Call) × ((e : Ended) → (settle_move k s e).calls ≡ c ∷ [])

one_call : (s : List ℕ) (m : Machine) (cs : List Call) → (settle_move m s (first_end [])).calls ≡ cs → NextCalls s (by_calls s m (settle_move m s (first_end [])) cs)
one_call s m [] is =
    let x : Move = settle_move m s (first_end []) in
    elim (is_held x.said) as (λ b. NextCalls s (cond b (stops (says m said.OkHeld)) (stops (polled x.machine s).row))) [ true ↦ refl | false ↦ poll_quiet x.machine s ]
one_call s m (c ∷ cs) is = by (settle_move_is m s).calls
  where
    by : CallsAs (λ e. settle_move m s e) → (d : Call) × ((e : Ended) → (settle_move m s e).calls ≡ d ∷ [])
    by (inl none) = let e : c ∷ cs ≡ [] = sym is ∙ none (first_end []) in absurd cc
    by (inr one) = one

next_calls : (m : Machine) (s : List ℕ) → NextCalls s (next_call m s)
next_calls m s = by (polled m s) (poll_quiet m s)
  where
    by : (p : Polled) → p.row.calls ≡ [] → NextCalls s (next_of s p)
    by p quiet = elim p.due as (λ b. NextCalls s (cond b (due_move s p.row.machine (settle_move p.row.machine s (first_end []))) (stops p.row))) [
      | true ↦ one_call s p.row.machine (settle_move p.row.machine s (first_end [])).calls refl
      | false ↦ quiet
    ]

next_settled : (m : Machine) (s : List ℕ) → Settled m → NextSettled (next_call m s)
next_settled m s h = by (polled m s) (polled_settled m s h)
  where
    calls : (k : Machine) (x : Move) (cs : List Call) → Settled k → Settled x.machine → NextSettled (by_calls s k x cs)
    calls k x [] here after = elim (is_held x.said) as (λ b. NextSettled (cond b (stops (says k said.OkHeld)) (stops (polled x.machine s).row))) [ true ↦ here | false ↦ polled_settled x.machine s after ]
    calls k x (c ∷ cs) here after = here

    by : (p : Polled) → Settled p.row.machine → NextSettled (next_of s p)
    by p at =
        let x : Move = settle_move p.row.machine s (first_end []) in
        elim p.due as (λ b. NextSettled (cond b (due_move s p.row.machine x) (stops p.row))) [
          | true ↦ calls p.row.machine x x.calls at ((settle_move_is p.row.machine s).keeps at (first_end []))
          | false ↦ at
        ]

stays_settled : (es : List Ended) (s : List ℕ) (n : Next) → NextSettled n → Settled (settling es s n).machine
stays_settled [] s (stops r) h = h
stays_settled [] s (calls_on k) h = (settle_move_is k s).keeps h (first_end [])
stays_settled (e ∷ es) s (stops r) h = h
stays_settled (e ∷ es) s (calls_on k) h =
    let after : Machine = (settle_move k s e).machine in
    stays_settled es s (next_call after s) (next_settled after s ((settle_move_is k s).keeps h e))

same_call : (c d : Call) → ◌≡◌ {A = Option Call} (Some c) (Some d) → c ≡ d
same_call c d h = cc

same_end : (c d : Ended) → ◌≡◌ {A = Option Ended} (Some c) (Some d) → c ≡ d
same_end c d h = cc

none_there : (cs : List Call) (i : ℕ) → cs ≡ [] → slice_get cs i ≡ Some syncs → ⊥
none_there [] i none h = cc
none_there (c ∷ cs) i none h = cc

settling_syncs : (es : List Ended) (s : List ℕ) (n : Next) → NextCalls s n → (i : ℕ) (e : Ended) → slice_get (settling es s n).calls i ≡ Some syncs → slice_get es i ≡ Some e → e.ok ≡ true → Settled (settling es s n).machine
settling_syncs [] s n calls i e at with_end ok = absurd (cc (with_end))
settling_syncs (d ∷ es) s (stops r) calls i e at with_end ok = absurd (none_there r.calls i calls at)
settling_syncs (d ∷ es) s (calls_on k) calls zero e at with_end ok =
    let after : Machine = (settle_move k s d).machine in
    let first : Some calls.0 ≡ Some syncs = subst (λ (l : List Call). slice_get (l ++ (settling es s (next_call after s)).calls) zero ≡ Some syncs) (calls.1 d) at in
    let does : (settle_move k s d).calls ≡ syncs ∷ [] = calls.1 d ∙ ap (λ (c : Call). c ∷ []) (same_call calls.0 syncs first) in
    let good : d.ok ≡ true = ap (λ (x : Ended). x.ok) (same_end d e with_end) ∙ ok in
    stays_settled es s (next_call after s) (next_settled after s ((settle_move_is k s).syncs d does good))
settling_syncs (d ∷ es) s (calls_on k) calls (suc i) e at with_end ok =
    let after : Machine = (settle_move k s d).machine in
    settling_syncs es s (next_call after s) (next_calls after s) i e (subst (λ (l : List Call). slice_get (l ++ (settling es s (next_call after s)).calls) (suc i) ≡ Some syncs) (calls.1 d) at) with_end ok

-- The line.

-- a row with a device call leaves its machine, and has the call
called : (m : Machine) (c : Conditions) (row : Row) (i : ℕ) (x : Call) → slice_get (answer m c row).calls i ≡ Some x → ((answer m c row).machine ≡ row.machine) × (slice_get row.calls i ≡ Some x)
unfolding answer
called m c row i x = by (early c) (late c)
  where
    by : (one two : Option Refusal) → slice_get (unless_refused one two m row).calls i ≡ Some x → ((unless_refused one two m row).machine ≡ row.machine) × (slice_get row.calls i ≡ Some x)
    by (Some y) two h = absurd (cc (h))
    by None (Some y) h = (refl, h)
    by None None h = (refl, h)

settles_machine : (m : Machine) (a l : List ℕ) (g : Given) (i : ℕ) (e : Ended) → slice_get (step m (w.settle a l) g).calls i ≡ Some syncs → slice_get g.ended i ≡ Some e → e.ok ≡ true → Settled (step m (w.settle a l) g).machine
unfolding step
settles_machine m a l g i e at with_end ok =
    let c = called m _ (settling g.ended l (next_call m l)) i syncs at in
    subst (λ (n : Machine). Settled n) (sym c.0) (settling_syncs g.ended l (next_call m l) (next_calls m l) i e c.1 with_end ok)

pub settle_may : (s : System) (a b : List ℕ) (ends : List Ended) (memory : Bool) (i : ℕ) (e : Ended) → slice_get (line_turn s (w.settle a b) ends memory).calls i ≡ Some syncs → slice_get ends i ≡ Some e → e.ok ≡ true
    → (l : List ℕ) (x : Raw) → raw_at (machine_of (line_turn s (w.settle a b) ends memory).after a) l ≡ Some x → x.maybe ≡ map (λ b. b ∷ []) x.content
settle_may s a b ends memory i e at with_end ok =
    let g : Given = recorded s.plane (w.settle a b) ends memory in
    subst (λ (n : Machine). Settled n) (sym (own_machine s a (w.settle a b) g)) (settles_machine (machine_of s a) a b g i e at with_end ok)
