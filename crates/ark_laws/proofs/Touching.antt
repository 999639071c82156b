-- The calls of `settle`, of `dev`, and of each word's line are within what the line may touch.
use Rattle.std.proofs.Common.{◌≡◌, ℕ, ◌+◌, Bool, true, false, not, List, [], ◌∷◌, ◌++◌, take, refl, sym, subst, ◌==◌, eqb-true, cond}
use Rattle.std.proofs.lemmas.Bool.{and_parts, false≢true}
use Rattle.std.proofs.lemmas.List.Elements.{Contains-append_left, Contains-append_right}
use Rattle.std.specs.Prelude.{Option, Some, None, unwrap_or, option_map, find, Contains, is_some}
use Rattle.std.specs.List.{AllByRecursion, flat_map, list_any}
use Rattle.ark_base.specs.declared.refusal.Refusal.{Refusal}
use Rattle.ark_base.specs.declared.kind.Outcome.{Outcome}
use Rattle.ark_base.specs.declared.kind.Outcome.TheVariants as outcome
use Rattle.ark_caladan.specs.Chain.{Phase}
use Rattle.ark_packet.specs.declared.own.Own.{Own}
use Rattle.ark_filters.specs.declared.filter.Direction.{Direction}
use Rattle.ark_filters.specs.declared.filter.Direction.TheVariants as direction
use Rattle.ark_script.specs.Line as w
use Rattle.ark_script.specs.Line.{Line}
use Rattle.ark_script.specs.declared.said.Said.TheVariants as said
use Rattle.ark_machine.specs.Machine.{at_serial, with_vnic, Machine, Held, vsic_at, label_numbered, bytes_at}
use Rattle.ark_machine.specs.Objects.{Vsic, Vnic, Job, Transfer, Place, Datagram, transfer, flush, phase}
use Rattle.ark_machine.specs.Row
use Rattle.ark_machine.specs.Row.{Row, Call, Ended, Given, says, unless_refused, synced}
use Rattle.ark_machine.specs.Control.{is_open_on}
use Rattle.ark_machine.specs.Bytes.{block_of}
use Rattle.ark_machine.specs.Rates.{is_over_burst, may_pass, passed}
use Rattle.ark_machine.specs.Cards.{reap_oldest}
use Rattle.ark_machine.specs.Moves.{Move, moves, moved, tried, is_bound, transfer_call, transferred, raw_numbered, phase_moves_on, log_on, log_moved, first_end}
use Rattle.ark_machine.specs.Logs.{card_of}
use Rattle.ark_machine.specs.Polls.{Polled, polled, is_held, settle_move, Next, stops, calls_on, settling, settle_end, next_call, next_of, due_move, by_calls, without_call}
use Rattle.ark_machine.specs.Network.{take_received, take_sent, take_oldest, received_at, sent_at, tx_moves, frame_moves, bytes_in, is_let_out, tx_ended, tx_passed}
use Rattle.ark_machine.specs.Sockets.{give_oldest}
use Rattle.ark_machine.specs.Devices.{card_moves}
use Rattle.ark_machine.specs.System.{System, machine_of}
use Rattle.ark_machine.specs.Plane.{blocks_at}
use Rattle.ark_machine.specs.Confined.{reach, bound_to, blocks_numbered, open_blocks}
use Rattle.ark_laws.proofs.Reaching.{AllowsCall, AllowsAll, AreIn, reads, writes, syncs, gated_calls, tried_calls, phase_calls, poll_quiet, IsQuiet}

-- `settle`

pub quiet_all : (P : Call → Type 0) (r : Row) → IsQuiet r → AllByRecursion P r.calls
quiet_all P r h = subst (λ cs. AllByRecursion P cs) (sym h) tt

all_append : (P : Call → Type 0) (cs ds : List Call) → AllByRecursion P cs → AllByRecursion P ds → AllByRecursion P (cs ++ ds)
all_append P [] ds h k = k
all_append P (c ∷ cs) ds h k = (h.0, all_append P cs ds h.1 k)

log_moves : (s : System) (a l : List ℕ) (m : Machine) (v : List ℕ) (x : Vsic) (js : List Job) (e : Ended) → AllowsAll s a (w.settle a l) (log_moved l m v x js e).calls
log_moves s a l m v x [] e = tt
log_moves s a l m v x (flush ∷ js) e = tt
log_moves s a l m v x (transfer t ∷ js) e = tt
log_moves s a l m v x (phase p ∷ js) e = phase_calls s a (w.settle a l) l p.verb m v x p js e (λ n h. h) (λ n h. h) refl

log_move_all : (s : System) (a l : List ℕ) (m : Machine) (v : List ℕ) (o : Option Vsic) (e : Ended)
    → AllowsAll s a (w.settle a l) (unwrap_or (option_map (λ x. log_moved l m v x x.queue.posted e) o) (moves m said.Idle [])).calls
log_move_all s a l m v None e = tt
log_move_all s a l m v (Some x) e = log_moves s a l m v x x.queue.posted e

settle_moves : (s : System) (a l : List ℕ) (m : Machine) (e : Ended) → AllowsAll s a (w.settle a l) (settle_move m l e).calls
settle_moves s a l m e = log_move_all s a l m (card_of m l) (vsic_at m (card_of m l)) e

-- a row with which settling stops calls no device
abbrev pub StopsQuiet : Next → Type 0
StopsQuiet (stops r) = IsQuiet r
StopsQuiet (calls_on m) = Unit {0}

without_quiet : (l : List ℕ) (m : Machine) (x : Move) → StopsQuiet (without_call l m x)
without_quiet l m x = elim (is_held x.said) as (λ b. StopsQuiet (cond b (stops (says m said.OkHeld)) (stops (polled x.machine l).row))) [ true ↦ refl | false ↦ poll_quiet x.machine l ]

calls_quiet : (l : List ℕ) (m : Machine) (x : Move) (cs : List Call) → StopsQuiet (by_calls l m x cs)
calls_quiet l m x [] = without_quiet l m x
calls_quiet l m x (c ∷ cs) = tt

next_quiet : (l : List ℕ) (p : Polled) → IsQuiet p.row → StopsQuiet (next_of l p)
next_quiet l p h =
    let x : Move = settle_move p.row.machine l (first_end []) in
    elim p.due as (λ b. StopsQuiet (cond b (due_move l p.row.machine x) (stops p.row))) [ true ↦ calls_quiet l p.row.machine x x.calls | false ↦ h ]

pub call_quiet : (m : Machine) (l : List ℕ) → StopsQuiet (next_call m l)
call_quiet m l = next_quiet l (polled m l) (poll_quiet m l)

settles_end : (s : System) (a l : List ℕ) (n : Next) → StopsQuiet n → AllowsAll s a (w.settle a l) (settle_end l n).calls
settles_end s a l (stops r) h = quiet_all (AllowsCall s a (w.settle a l)) r h
settles_end s a l (calls_on m) h = settle_moves s a l m (first_end [])

pub settles : (s : System) (a l : List ℕ) (es : List Ended) (n : Next) → StopsQuiet n → AllowsAll s a (w.settle a l) (settling es l n).calls
settles s a l [] n h = settles_end s a l n h
settles s a l (e ∷ es) (stops r) h = quiet_all (AllowsCall s a (w.settle a l)) r h
settles s a l (e ∷ es) (calls_on m) h =
    let next : Next = next_call (settle_move m l e).machine l in
    all_append (AllowsCall s a (w.settle a l)) (settle_move m l e).calls (settling es l next).calls (settle_moves s a l m e) (settles s a l es next (call_quiet (settle_move m l e).machine l))

-- `dev`

-- a list that a test finds a member of
bound_in : (area : ℕ → List ℕ) (bound : List ℕ) (n b : ℕ) → list_any (λ k. k == n) bound ≡ true → Contains (area n) b → Contains (flat_map area bound) b
bound_in area [] n b h here = absurd (false≢true h)
bound_in area (k ∷ ks) n b h here =
    let go : (t : Bool) → (k == n) ≡ t → Contains (area k ++ flat_map area ks) b = λ t e. elim t as (λ u. (k == n) ≡ u → Contains (area k ++ flat_map area ks) b) [
      | true ↦ λ e. Contains-append_left (area k) (flat_map area ks) b (subst (λ z. Contains (area z) b) (sym (eqb-true k n e)) here)
      | false ↦ λ e. Contains-append_right (area k) (flat_map area ks) b (bound_in area ks n b (rw e at h) here)
    ] e in
    go (k == n) refl

some_label : (l k : List ℕ) → ◌≡◌ {A = Option (List ℕ)} (Some l) (Some k) → l ≡ k
some_label l k h = cc

-- the log that a search finds open on the card
open_in : (s : System) (a v l : List ℕ) (b : ℕ) (hs : List Held) → option_map (λ h. h.label) (find (λ h. is_open_on v h.object) hs) ≡ Some l
    → Contains (blocks_at s.plane a l) b → Contains (flat_map (λ h. open_blocks s a v h) hs) b
open_in s a v l b [] h here = cc
open_in s a v l b (x ∷ xs) h here =
    let rest : List ℕ = flat_map (λ y. open_blocks s a v y) xs in
    let found : Option Held = find (λ y. is_open_on v y.object) xs in
    let go : (t : Bool) → option_map (λ y. y.label) (cond t (Some x) found) ≡ Some l → Contains (cond t (blocks_at s.plane a x.label) [] ++ rest) b = λ t e.
    elim t as (λ u. option_map (λ y. y.label) (cond u (Some x) found) ≡ Some l → Contains (cond u (blocks_at s.plane a x.label) [] ++ rest) b) [
      | true ↦ λ e. Contains-append_left (blocks_at s.plane a x.label) rest b (subst (λ z. Contains (blocks_at s.plane a z) b) (sym (some_label x.label l e)) here)
      | false ↦ λ e. open_in s a v l b xs e here
    ] e in
    go (is_open_on v x.object) h

-- the blocks of an area that is bound to the card are within its reach
reaches_bound : (s : System) (a v : List ℕ) (x : Vsic) (n : ℕ) → vsic_at (machine_of s a) v ≡ Some x → list_any (λ b. b == n) x.bound ≡ true
    → AreIn (blocks_numbered s a (machine_of s a) n) (reach s a v)
reaches_bound s a v x n at bound b here =
    let area : ℕ → List ℕ = λ k. blocks_numbered s a (machine_of s a) k in
    let logs : List ℕ = flat_map (λ h. open_blocks s a v h) (machine_of s a).held in
    Contains-append_left (flat_map area (bound_to (machine_of s a) v)) logs b (rw at (bound_in area x.bound n b bound here))

reaches_log : (s : System) (a v l : List ℕ) → log_on (machine_of s a) v ≡ Some l → AreIn (blocks_at s.plane a l) (reach s a v)
reaches_log s a v l on b here =
    let area : ℕ → List ℕ = λ k. blocks_numbered s a (machine_of s a) k in
    let logs : List ℕ = flat_map (λ h. open_blocks s a v h) (machine_of s a).held in
    Contains-append_right (flat_map area (bound_to (machine_of s a) v)) logs b (open_in s a v l b (machine_of s a).held on here)

-- the call of a transfer whose area is bound
transfer_calls : (s : System) (a v : List ℕ) (t : Transfer) (k : ℕ) → AreIn (blocks_numbered s a (machine_of s a) t.vsa) (reach s a v) → AllowsAll s a (w.dev a v) (transfer_call (machine_of s a) t k ∷ [])
transfer_calls s a v t k within =
    let m : Machine = machine_of s a in
    let content : List ℕ = block_of (bytes_at m t.buffer) k in
    elim t.put as (λ p. AllowsAll s a (w.dev a v) (cond p (Row.writes (label_numbered m t.vsa) (t.off + k) content) (Row.reads (label_numbered m t.vsa) (t.off + k)) ∷ [])) [
      | true ↦ (writes s a (w.dev a v) (label_numbered m t.vsa) (t.off + k) content within, tt)
      | false ↦ (reads s a (w.dev a v) (label_numbered m t.vsa) (t.off + k) within, tt)
    ]

phases_on : (s : System) (a v : List ℕ) (x : Vsic) (p : Phase) (js : List Job) (e : Ended) (o : Option (List ℕ)) → vsic_at (machine_of s a) v ≡ Some x → log_on (machine_of s a) v ≡ o
    → AllowsAll s a (w.dev a v) (phase_moves_on o (machine_of s a) v x p js e).calls
phases_on s a v x p js e None at on = tt
phases_on s a v x p js e (Some l) at on = phase_calls s a (w.dev a v) l p.verb (machine_of s a) v x p js e (reaches_log s a v l on) (reaches_log s a v l on) (rw at refl)

moves_in : (s : System) (a v : List ℕ) (x : Vsic) (js : List Job) (e : Ended) → vsic_at (machine_of s a) v ≡ Some x → AllowsAll s a (w.dev a v) (moved (machine_of s a) v x js e).calls
moves_in s a v x [] e at = tt
moves_in s a v x (flush ∷ js) e at = (syncs s a (w.dev a v) (rw at refl), tt)
moves_in s a v x (phase p ∷ js) e at = phases_on s a v x p js e (log_on (machine_of s a) v) at refl
moves_in s a v x (transfer t ∷ js) e at =
    let m : Machine = machine_of s a in
    let after : Machine = transferred m t x.queue.moved e (raw_numbered m t.vsa) in
    let calls : List Call = transfer_call m t x.queue.moved ∷ [] in
    gated_calls (AllowsCall s a (w.dev a v)) m v x (transfer t) js (is_bound m x t.vsa) (tried m.now e.ok t.count after v x (transfer t) js calls)
    (λ g. tried_calls (AllowsCall s a (w.dev a v)) m.now e.ok t.count after v x (transfer t) js calls
    (transfer_calls s a v t x.queue.moved (reaches_bound s a v x t.vsa at (and_parts (list_any (λ b. b == t.vsa) x.bound) (is_some (at_serial m t.vsa)) g).0)))

card_moves_in : (s : System) (a v : List ℕ) (e : Ended) (o : Option Vsic) → vsic_at (machine_of s a) v ≡ o
    → AllowsAll s a (w.dev a v) (unwrap_or (option_map (λ x. moved (machine_of s a) v x x.queue.posted e) o) (moves (machine_of s a) said.Idle [])).calls
card_moves_in s a v e None at = tt
card_moves_in s a v e (Some x) at = moves_in s a v x x.queue.posted e at

-- a frame that goes out calls no device
frame_quiet : (P : Call → Type 0) (m : Machine) (v : List ℕ) (x : Vnic) (own : Option Own) (p : Place) (len : ℕ) (ps : List (Place × ℕ)) (frame : List ℕ)
    → AllByRecursion P (frame_moves m v x own p len ps frame).calls
frame_quiet P m v x own p len ps frame =
    let unfit : Move = moves (tx_ended m v x p ps outcome.NoFilter) (said.Done outcome.NoFilter) [] in
    let over : Move = moves (tx_ended m v x p ps outcome.OverBurst) (said.Done outcome.OverBurst) [] in
    let held : Move = moves m said.Held [] in
    let sent : Move = record { machine = tx_ended (with_vnic m v (tx_passed (passed m.now len x.tx_pace))) v x p ps outcome.Ok; said = said.Sent; bytes = frame; calls = [] } in
    elim (not (is_let_out m v own frame)) as (λ b. AllByRecursion P (cond b unfit (cond (is_over_burst x.tx_pace len) over (cond (not (may_pass x.tx_pace m.now len)) held sent))).calls) [
      | true ↦ tt
      | false ↦ elim (is_over_burst x.tx_pace len) as (λ b. AllByRecursion P (cond b over (cond (not (may_pass x.tx_pace m.now len)) held sent)).calls) [
        | true ↦ tt
        | false ↦ elim (not (may_pass x.tx_pace m.now len)) as (λ b. AllByRecursion P (cond b held sent).calls) [ true ↦ tt | false ↦ tt ]
      ]
    ]

pub tx_quiet : (P : Call → Type 0) (m : Machine) (v : List ℕ) (x : Vnic) (own : Option Own) (ps : List (Place × ℕ)) → AllByRecursion P (tx_moves m v x own ps).calls
tx_quiet P m v x own [] = tt
tx_quiet P m v x own (p ∷ ps) = frame_quiet P m v x own p.0 p.1 ps (take p.1 (bytes_in m p.0))

pub devices : (s : System) (a v : List ℕ) (g : Given) (o : Option Vnic) → AllowsAll s a (w.dev a v) (card_moves (machine_of s a) v g o).calls
devices s a v g None = card_moves_in s a v (first_end g.ended) (vsic_at (machine_of s a) v) refl
devices s a v g (Some x) = tx_quiet (AllowsCall s a (w.dev a v)) (machine_of s a) v x g.own x.tx.posted

-- Rows with no device call, by cases.

pub reaped_quiet : (P : Call → Type 0) (m : Machine) (v : List ℕ) (us : List (Job × Outcome)) → AllByRecursion P (reap_oldest m v us).calls
reaped_quiet P m v [] = tt
reaped_quiet P m v (u ∷ us) = tt

received_quiet : (P : Call → Type 0) (m : Machine) (v : List ℕ) (us : List (Place × ℕ)) → AllByRecursion P (take_received m v us).calls
received_quiet P m v [] = tt
received_quiet P m v (u ∷ us) = tt

sent_quiet : (P : Call → Type 0) (m : Machine) (v : List ℕ) (us : List (Place × Outcome)) → AllByRecursion P (take_sent m v us).calls
sent_quiet P m v [] = tt
sent_quiet P m v (u ∷ us) = tt

pub taken_quiet : (P : Call → Type 0) (m : Machine) (v : List ℕ) (d : Direction) → AllByRecursion P (take_oldest d m v).calls
taken_quiet P m v direction.Rx = received_quiet P m v (received_at m v)
taken_quiet P m v direction.Tx = sent_quiet P m v (sent_at m v)

pub given_quiet : (P : Call → Type 0) (m : Machine) (k : List ℕ) (ds : List Datagram) → AllByRecursion P (give_oldest m k ds).calls
given_quiet P m k [] = tt
given_quiet P m k (d ∷ ds) = tt

-- a row that is refused has its own calls, or none
pub unless : (P : Call → Type 0) (first late : Option Refusal) (m : Machine) (row : Row) → AllByRecursion P row.calls → AllByRecursion P (unless_refused first late m row).calls
unless P (Some r) late m row h = tt
unless P None (Some r) m row h = h
unless P None None m row h = h
