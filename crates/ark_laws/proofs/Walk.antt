-- One walk over what cards and logs do: a relation of machines that holds of each plain change holds of every move of a storage card,
-- of every poll, and of settling. Their replies are plain.
use Rattle.std.proofs.Common.{◌≡◌, ℕ, ◌+◌, Bool, true, false, not, List, [], ◌∷◌, ◌&&◌, refl, sym, ◌∙◌, subst, cond}
use Rattle.std.specs.Prelude.{◌*◌, Option, Some, None, option_map, unwrap_or, nat_lt, slice_index_or}
use Rattle.ark_base.specs.declared.kind.Kind.{Kind}
use Rattle.ark_base.specs.declared.kind.Kind.TheVariants as kind
use Rattle.ark_base.specs.declared.kind.Outcome.{Outcome}
use Rattle.ark_base.specs.declared.kind.Outcome.TheVariants as outcome
use Rattle.ark_caladan.specs.Chain.{Log, Opened, Command, append, trim, pop, Phase, Verb, reading, writing, syncing, commands}
use Rattle.ark_vic.specs.declared.door.Bell.{Bell}
use Rattle.ark_vic.specs.declared.door.Bell.TheVariants as bell
use Rattle.ark_script.specs.declared.said.Said.{Said}
use Rattle.ark_script.specs.declared.said.Said.TheVariants as said
use Rattle.ark_machine.specs.Bytes.{block_of}
use Rattle.ark_machine.specs.Objects
use Rattle.ark_machine.specs.Objects.{Paced, Raw, Vsic, Job, Transfer, transfer, flush, phase, as_log}
use Rattle.ark_machine.specs.Machine.{Machine, object_at, vsic_at, log_at, label_numbered, bytes_at, with_object, each_object, with_vsic, with_log}
use Rattle.ark_machine.specs.Row.{Row, Ended, Call, reads_in, writes_in, says, synced}
use Rattle.ark_machine.specs.Areas.{raw_written, with_raw}
use Rattle.ark_machine.specs.Buffers.{with_bytes}
use Rattle.ark_machine.specs.Rates.{is_over_burst, may_pass, passed, rung}
use Rattle.ark_machine.specs.Cards.{posting}
use Rattle.ark_machine.specs.Moves.{Move, moves, ending, ended, ends, outcome_of, block_passed, block_moved, tried, gated, raw_numbered, is_bound, transferred, transfer_call, log_on, deciding_tried, phase_written, phase_moves, phase_moves_on, moved, move, log_moved, log_move, first_end}
use Rattle.ark_machine.specs.Logs.{with_opened, card_of}
use Rattle.ark_machine.specs.Polls.{Polled, acknowledging, acked, next_phase, phases_left, emptied, failing, one_done, phase_ended, poll_card, unreaped_on, posted_on, poll_oldest, poll_opened, poll_log, polled, is_held, settle_move, Next, stops, calls_on, without_call, by_calls, due_move, next_of, next_call, settle_end, settling}
use Rattle.ark_laws.proofs.Setting.{kind_set, kind_left, vsic_alone}

-- neither a refusal nor a frame that was sent or delivered
abbrev pub is_plain : Said → Bool
is_plain said.Sent = false
is_plain (said.Refused x) = false
is_plain (said.Delivered app card) = false
is_plain _ = true

-- R holds of each plain change, and of two in a row
pub record Walk (R : Machine → Machine → Type 0) : Type 0 where
  pub same : (m : Machine) → R m m
  pub then : (m k n : Machine) → R m k → R k n → R m n
  -- a storage card whose pace stays, or counts a block that may pass
  pub vsic : (m : Machine) (v : List ℕ) (f : Vsic → Vsic) → ((x : Vsic) → (f x).pace ≡ x.pace) → R m (with_vsic m v f)
  pub passes : (m k : Machine) (v : List ℕ) (x : Vsic) (f : Vsic → Vsic) → vsic_at m v ≡ Some x → may_pass x.pace m.now 512 ≡ true → ((y : Vsic) → (f y).pace ≡ passed m.now 512 x.pace)
      → R m k → R m (with_vsic k v f)
  pub rings : (m : Machine) (d : Option (List ℕ)) (b : Bell) → R m (rung m d b)
  pub log : (m : Machine) (l : List ℕ) (f : Log → Log) → R m (with_log m l f)
  pub acks : (m : Machine) (l : List ℕ) (g h : Log) → log_at m l ≡ Some h → R m (with_object m l (Objects.log g))
  pub raw : (m : Machine) (l : List ℕ) (f : Raw → Raw) → R m (with_raw m l f)
  pub bytes : (m : Machine) (b : List ℕ) (off : ℕ) (bytes : List ℕ) → R m (with_bytes m b off bytes)
  pub syncs : (b : Bool) (m : Machine) → R m (synced b m)
  pub decides : (m : Machine) (v : List ℕ) (took : Bool) → R m (each_object (deciding_tried v took) m)

-- R holds of a change, and its reply is plain
pub record Goes (R : Machine → Machine → Type 0) (m after : Machine) (x : Said) : Type 0 where
  pub plain : is_plain x ≡ true
  pub goes : R m after

vsic_log : (m : Machine) (v : List ℕ) (f : Vsic → Vsic) (l : List ℕ) → log_at (with_vsic m v f) l ≡ log_at m l
vsic_log m v f l = by (vsic_at m v) refl
  where
    by : (o : Option Vsic) → vsic_at m v ≡ o → log_at (unwrap_or (option_map (λ x. with_object m v (Objects.vsic (f x))) o) m) l ≡ log_at m l
    by None is = refl
    by (Some x) is = kind_left as_log m l v (Objects.vsic (f x)) (vsic_alone as_log (λ y. refl) (object_at m v) x is) refl

log_set : (m : Machine) (l : List ℕ) (f : Log → Log) (g : Log) → log_at m l ≡ Some g → log_at (with_log m l f) l ≡ Some (f g)
log_set m l f g is = subst (λ o. log_at (unwrap_or (option_map (λ y. with_object m l (Objects.log (f y))) o) m) l ≡ Some (f g)) (sym is) (kind_set as_log m l (Objects.log (f g)) g (f g) is refl)

acked_plain : (k : Kind) (c : Command) → is_plain (acked k c) ≡ true
acked_plain kind.Raw (append n p) = refl
acked_plain kind.Log (append n p) = refl
acked_plain kind.Queue (append n p) = refl
acked_plain kind.Raw (trim n) = refl
acked_plain kind.Log (trim n) = refl
acked_plain kind.Queue (trim n) = refl
acked_plain kind.Raw (pop n) = refl
acked_plain kind.Log (pop n) = refl
acked_plain kind.Queue (pop n) = refl

module _ (R : Machine → Machine → Type 0) (walk : Walk R) where
  abbrev pub MoveGoes : Machine → Move → Type 0
  MoveGoes m x = Goes R m x.machine x.said

  abbrev pub RowGoes : Machine → Row → Type 0
  RowGoes m r = Goes R m r.machine r.said

  stays : (m : Machine) (x : Said) → is_plain x ≡ true → Goes R m m x
  stays m x plain = record { plain = plain; goes = walk.same m }

  pub goes_behind : (m n after : Machine) (x : Said) → R m n → Goes R n after x → Goes R m after x
  goes_behind m n after x first s = record { plain = s.plain; goes = walk.then m n after first s.goes }

  -- Moves.

  ended_goes : (m k : Machine) (v : List ℕ) (x : Vsic) (j : Job) (js : List Job) (o : Outcome) → R m k → R m (ended k v x j js o)
  ended_goes m k v x j js o first =
      walk.then m k _ first (walk.then k (with_vsic k v (ending j js o)) _ (walk.vsic k v (ending j js o) (λ y. refl)) (walk.rings (with_vsic k v (ending j js o)) x.door bell.Io))

  tried_goes : (m : Machine) (ok : Bool) (count : ℕ) (k : Machine) (v : List ℕ) (x : Vsic) (j : Job) (js : List Job) (calls : List Call)
      → vsic_at m v ≡ Some x → may_pass x.pace m.now 512 ≡ true → R m k → MoveGoes m (tried m.now ok count k v x j js calls)
  tried_goes m ok count k v x j js calls at fits first =
      let pace : Option Paced = passed m.now 512 x.pace in
      let going : Move = moves (with_vsic k v (block_moved pace)) said.Moved calls in
      let done : Move = ends (with_vsic k v (block_passed pace)) v x j js (outcome_of ok) calls in
      elim (ok && nat_lt (x.queue.moved + 1) count) as (λ b. MoveGoes m (cond b going done)) [
        | true ↦ record { plain = refl; goes = walk.passes m k v x (block_moved pace) at fits (λ y. refl) first }
        | false ↦ record { plain = refl; goes = ended_goes m (with_vsic k v (block_passed pace)) v x j js (outcome_of ok) (walk.passes m k v x (block_passed pace) at fits (λ y. refl) first) }
      ]

  gated_goes : (m : Machine) (v : List ℕ) (x : Vsic) (j : Job) (js : List Job) (bound : Bool) (next : Move) → (may_pass x.pace m.now 512 ≡ true → MoveGoes m next) → MoveGoes m (gated m v x j js bound next)
  gated_goes m v x j js bound next some = by bound (is_over_burst x.pace 512) (may_pass x.pace m.now 512) refl
    where
      by : (a b c : Bool) → may_pass x.pace m.now 512 ≡ c → MoveGoes m (cond (not a) (ends m v x j js outcome.NoGrant []) (cond b (ends m v x j js outcome.OverBurst []) (cond (not c) (moves m said.Held []) next)))
      by false b c is = record { plain = refl; goes = ended_goes m m v x j js outcome.NoGrant (walk.same m) }
      by true true c is = record { plain = refl; goes = ended_goes m m v x j js outcome.OverBurst (walk.same m) }
      by true false false is = stays m said.Held refl
      by true false true is = some is

  transferred_goes : (m : Machine) (x : Transfer) (k : ℕ) (e : Ended) (r : Option Raw) → R m (transferred m x k e r)
  transferred_goes m x k e None = walk.same m
  transferred_goes m x k e (Some r) = by x.put e.ok
    where
      by : (b c : Bool) → R m (cond b (with_raw m (label_numbered m x.vsa) (raw_written (x.off + k) (block_of (bytes_at m x.buffer) k) e.took)) (cond c (with_bytes m x.buffer (512 * k) (slice_index_or r.content (x.off + k) [])) m))
      by true c = walk.raw m (label_numbered m x.vsa) (raw_written (x.off + k) (block_of (bytes_at m x.buffer) k) e.took)
      by false true = walk.bytes m x.buffer (512 * k) (slice_index_or r.content (x.off + k) [])
      by false false = walk.same m

  written_goes : (m : Machine) (v : List ℕ) (p : Phase) (e : Ended) → R m (phase_written m v p e)
  written_goes m v p e = elim p.decides as (λ b. R m (cond b (each_object (deciding_tried v e.took) m) m)) [ true ↦ walk.decides m v e.took | false ↦ walk.same m ]

  phase_goes : (verb : Verb) (l : List ℕ) (m : Machine) (v : List ℕ) (x : Vsic) (p : Phase) (js : List Job) (e : Ended) → vsic_at m v ≡ Some x → MoveGoes m (phase_moves verb l m v x p js e)
  phase_goes syncing l m v x p js e at = record { plain = refl; goes = ended_goes m (synced e.ok m) v x (phase p) js (outcome_of e.ok) (walk.syncs e.ok m) }
  phase_goes reading l m v x p js e at =
      gated_goes m v x (phase p) js true (tried m.now e.ok p.count m v x (phase p) js (reads_in l ∷ []))
      (λ fits. tried_goes m e.ok p.count m v x (phase p) js (reads_in l ∷ []) at fits (walk.same m))
  phase_goes writing l m v x p js e at =
      gated_goes m v x (phase p) js true (tried m.now e.ok p.count (phase_written m v p e) v x (phase p) js (writes_in l ∷ []))
      (λ fits. tried_goes m e.ok p.count (phase_written m v p e) v x (phase p) js (writes_in l ∷ []) at fits (written_goes m v p e))

  phase_on_goes : (o : Option (List ℕ)) (m : Machine) (v : List ℕ) (x : Vsic) (p : Phase) (js : List Job) (e : Ended) → vsic_at m v ≡ Some x → MoveGoes m (phase_moves_on o m v x p js e)
  phase_on_goes None m v x p js e at = record { plain = refl; goes = walk.same m }
  phase_on_goes (Some l) m v x p js e at = phase_goes p.verb l m v x p js e at

  moved_goes : (m : Machine) (v : List ℕ) (x : Vsic) (js : List Job) (e : Ended) → vsic_at m v ≡ Some x → MoveGoes m (moved m v x js e)
  moved_goes m v x [] e at = record { plain = refl; goes = walk.same m }
  moved_goes m v x (flush ∷ js) e at = record { plain = refl; goes = ended_goes m (synced e.ok m) v x flush js (outcome_of e.ok) (walk.syncs e.ok m) }
  moved_goes m v x (transfer y ∷ js) e at =
      let after : Machine = transferred m y x.queue.moved e (raw_numbered m y.vsa) in
      let calls : List Call = transfer_call m y x.queue.moved ∷ [] in
      gated_goes m v x (transfer y) js (is_bound m x y.vsa) (tried m.now e.ok y.count after v x (transfer y) js calls)
      (λ fits. tried_goes m e.ok y.count after v x (transfer y) js calls at fits (transferred_goes m y x.queue.moved e (raw_numbered m y.vsa)))
  moved_goes m v x (phase p ∷ js) e at = phase_on_goes (log_on m v) m v x p js e at

  log_moved_goes : (s : List ℕ) (m : Machine) (v : List ℕ) (x : Vsic) (js : List Job) (e : Ended) → vsic_at m v ≡ Some x → MoveGoes m (log_moved s m v x js e)
  log_moved_goes s m v x [] e at = record { plain = refl; goes = walk.same m }
  log_moved_goes s m v x (flush ∷ js) e at = record { plain = refl; goes = walk.same m }
  log_moved_goes s m v x (transfer y ∷ js) e at = record { plain = refl; goes = walk.same m }
  log_moved_goes s m v x (phase p ∷ js) e at = phase_goes p.verb s m v x p js e at

  pub move_goes : (m : Machine) (v : List ℕ) (e : Ended) → MoveGoes m (move m v e)
  move_goes m v e = by (vsic_at m v) refl
    where
      by : (o : Option Vsic) → vsic_at m v ≡ o → MoveGoes m (unwrap_or (option_map (λ x. moved m v x x.queue.posted e) o) (moves m said.Idle []))
      by None at = record { plain = refl; goes = walk.same m }
      by (Some x) at = moved_goes m v x x.queue.posted e at

  log_move_goes : (s : List ℕ) (m : Machine) (v : List ℕ) (e : Ended) → MoveGoes m (log_move s m v e)
  log_move_goes s m v e = by (vsic_at m v) refl
    where
      by : (o : Option Vsic) → vsic_at m v ≡ o → MoveGoes m (unwrap_or (option_map (λ x. log_moved s m v x x.queue.posted e) o) (moves m said.Idle []))
      by None at = record { plain = refl; goes = walk.same m }
      by (Some x) at = log_moved_goes s m v x x.queue.posted e at

  pub settle_move_goes : (m : Machine) (s : List ℕ) (e : Ended) → MoveGoes m (settle_move m s e)
  settle_move_goes m s e = log_move_goes s m (card_of m s) e

  -- Polls.

  next_phase_goes : (m : Machine) (s : List ℕ) (g h : Log) (o : Opened) (c : Command) (ps : List Phase) → log_at m s ≡ Some h → RowGoes m (next_phase m s g o c ps).row
  next_phase_goes m s g h o c [] at = record { plain = acked_plain g.kind c; goes = walk.acks m s (acknowledging c g) h at }
  next_phase_goes m s g h o c (p ∷ ps) at = record { plain = refl; goes = walk.vsic m o.card (posting (phase p)) (λ y. refl) }

  reaped_goes : (m : Machine) (s : List ℕ) (o : Opened) (f : Opened → Opened) → R m (with_opened (with_vsic m o.card emptied) s f)
  reaped_goes m s o f = walk.then m (with_vsic m o.card emptied) _ (walk.vsic m o.card emptied (λ y. refl)) (walk.log (with_vsic m o.card emptied) s _)

  phase_ended_goes : (m : Machine) (s : List ℕ) (g : Log) (o : Opened) (c : Command) (out : Outcome) → log_at m s ≡ Some g → RowGoes m (phase_ended m s g o c out).row
  phase_ended_goes m s g o c outcome.Ok at =
      let k : Machine = with_opened (with_vsic m o.card emptied) s one_done in
      goes_behind m k _ _ (reaped_goes m s o one_done)
      (next_phase_goes k s (record g { opened = Some (one_done o) }) _ (one_done o) c (phases_left g (one_done o) c)
      (log_set (with_vsic m o.card emptied) s (λ h. record h { opened = option_map one_done h.opened }) g (vsic_log m o.card emptied s ∙ at)))
  phase_ended_goes m s g o c outcome.NoGrant at = record { plain = refl; goes = reaped_goes m s o failing }
  phase_ended_goes m s g o c outcome.OutOfRange at = record { plain = refl; goes = reaped_goes m s o failing }
  phase_ended_goes m s g o c outcome.OverBurst at = record { plain = refl; goes = reaped_goes m s o failing }
  phase_ended_goes m s g o c outcome.DeviceFault at = record { plain = refl; goes = reaped_goes m s o failing }
  phase_ended_goes m s g o c outcome.NoFilter at = record { plain = refl; goes = reaped_goes m s o failing }

  poll_card_goes : (m : Machine) (s : List ℕ) (g : Log) (o : Opened) (c : Command) (us : List (Job × Outcome)) (js : List Job) → log_at m s ≡ Some g → RowGoes m (poll_card m s g o c us js).row
  poll_card_goes m s g o c (u ∷ us) js at = phase_ended_goes m s g o c u.1 at
  poll_card_goes m s g o c [] (j ∷ js) at = record { plain = refl; goes = walk.same m }
  poll_card_goes m s g o c [] [] at = next_phase_goes m s g g o c (phases_left g o c) at

  poll_oldest_goes : (m : Machine) (s : List ℕ) (g : Log) (o : Opened) (cs : List Command) (v : Option Vsic) → log_at m s ≡ Some g → RowGoes m (poll_oldest m s g o cs v).row
  poll_oldest_goes m s g o [] v at = record { plain = refl; goes = walk.same m }
  poll_oldest_goes m s g o (c ∷ cs) v at = poll_card_goes m s g o c (unreaped_on v) (posted_on v) at

  poll_opened_goes : (m : Machine) (s : List ℕ) (g : Log) (o : Option Opened) → log_at m s ≡ Some g → RowGoes m (poll_opened m s g o).row
  poll_opened_goes m s g None at = record { plain = refl; goes = walk.same m }
  poll_opened_goes m s g (Some o) at = poll_oldest_goes m s g o (commands o) (vsic_at m o.card) at

  pub polled_goes : (m : Machine) (s : List ℕ) → RowGoes m (polled m s).row
  polled_goes m s = by (log_at m s) refl
    where
      by : (o : Option Log) → log_at m s ≡ o → RowGoes m (poll_log m s o).row
      by None at = record { plain = refl; goes = walk.same m }
      by (Some g) at = poll_opened_goes m s g g.opened at

  -- Settling.

  abbrev pub NextGoes : Machine → Next → Type 0
  NextGoes m (stops r) = RowGoes m r
  NextGoes m (calls_on k) = R m k

  without_goes : (s : List ℕ) (m k : Machine) (x : Move) → R m k → R m x.machine → NextGoes m (without_call s k x)
  without_goes s m k x first after =
      elim (is_held x.said) as (λ b. NextGoes m (cond b (stops (says k said.OkHeld)) (stops (polled x.machine s).row))) [
        | true ↦ record { plain = refl; goes = first }
        | false ↦ goes_behind m x.machine _ _ after (polled_goes x.machine s)
      ]

  calls_goes : (s : List ℕ) (m k : Machine) (x : Move) (cs : List Call) → R m k → R m x.machine → NextGoes m (by_calls s k x cs)
  calls_goes s m k x [] first after = without_goes s m k x first after
  calls_goes s m k x (c ∷ cs) first after = first

  next_goes : (s : List ℕ) (m : Machine) (p : Polled) → RowGoes m p.row → NextGoes m (next_of s p)
  next_goes s m p h =
      let x : Move = settle_move p.row.machine s (first_end []) in
      elim p.due as (λ b. NextGoes m (cond b (due_move s p.row.machine x) (stops p.row))) [
        | true ↦ calls_goes s m p.row.machine x x.calls h.goes (walk.then m p.row.machine x.machine h.goes (settle_move_goes p.row.machine s (first_end [])).goes)
        | false ↦ h
      ]

  pub next_call_goes : (m : Machine) (s : List ℕ) → NextGoes m (next_call m s)
  next_call_goes m s = next_goes s m (polled m s) (polled_goes m s)

  next_behind : (m k : Machine) (n : Next) → R m k → NextGoes k n → NextGoes m n
  next_behind m k (stops r) first h = goes_behind m k _ _ first h
  next_behind m k (calls_on j) first h = walk.then m k j first h

  settle_end_goes : (m : Machine) (s : List ℕ) (n : Next) → NextGoes m n → RowGoes m (settle_end s n)
  settle_end_goes m s (stops r) h = h
  settle_end_goes m s (calls_on k) h = goes_behind m k _ _ h (settle_move_goes k s (first_end []))

  pub settling_goes : (m : Machine) (es : List Ended) (s : List ℕ) (n : Next) → NextGoes m n → RowGoes m (settling es s n)
  settling_goes m [] s n h = settle_end_goes m s n h
  settling_goes m (e ∷ es) s (stops r) h = h
  settling_goes m (e ∷ es) s (calls_on k) h =
      let after : Machine = (settle_move k s e).machine in
      let rest : RowGoes m (settling es s (next_call after s)) =
      settling_goes m es s (next_call after s) (next_behind m after (next_call after s) (walk.then m k after h (settle_move_goes k s e).goes) (next_call_goes after s)) in
      record { plain = rest.plain; goes = rest.goes }

  -- from the first call on
  pub settles_goes : (m : Machine) (es : List Ended) (s : List ℕ) → RowGoes m (settling es s (next_call m s))
  settles_goes m es s = settling_goes m es s (next_call m s) (next_call_goes m s)
