-- The blocks of every line's device events are within the rate of the card that it moves.
use Rattle.std.proofs.Common.{◌≡◌, ℕ, ◌+◌, Bool, true, false, not, List, [], ◌∷◌, ◌&&◌, refl, cond}
use Rattle.std.specs.Prelude.{Option, Some, None, option_map, option_and_then, unwrap_or, nat_lt}
use Rattle.std.specs.List.{AllByRecursion}
use Rattle.ark_base.specs.Conditions.{Conditions, early, late}
use Rattle.ark_base.specs.declared.kind.Outcome.TheVariants as outcome
use Rattle.ark_base.specs.declared.refusal.Refusal.{Refusal}
use Rattle.ark_caladan.specs.Chain.{Phase, Verb, reading, writing, syncing}
use Rattle.ark_media.specs.Journal.{Event}
use Rattle.ark_script.specs.Line as w
use Rattle.ark_script.specs.Line.{Line}
use Rattle.ark_script.specs.declared.said.Said.TheVariants as said
use Rattle.ark_machine.specs.Bytes.{block_of}
use Rattle.ark_machine.specs.Objects.{Paced, Vsic, Vnic, Job, Transfer, transfer, flush, phase}
use Rattle.ark_machine.specs.Machine.{Machine, vsic_at, vnic_at, label_numbered, bytes_at, with_vsic}
use Rattle.ark_machine.specs.Row
use Rattle.ark_machine.specs.Row.{Row, Call, Ended, Given, answer, unless_refused}
use Rattle.ark_machine.specs.Rates.{is_over_burst, may_pass, passed}
use Rattle.ark_machine.specs.Moves.{Move, moves, move, gated, tried, ends, outcome_of, block_passed, block_moved, is_bound, raw_numbered, transferred, transfer_call, log_on, phase_written, phase_moves, phase_moves_on, moved, first_end}
use Rattle.ark_machine.specs.Logs.{card_of}
use Rattle.ark_machine.specs.Devices.{card_moves}
use Rattle.ark_machine.specs.Plane.{recorded}
use Rattle.ark_machine.specs.Step.{step}
use Rattle.ark_machine.specs.System.{System, machine_of, owner, line_turn}
use Rattle.ark_machine.specs.Follow.{PerformsFor}
use Rattle.ark_machine.specs.Sending.{pace_at, KeepsWith, PassesWithin}
use Rattle.ark_machine.specs.Paced.{IsPacedAt, MachinePacedAt, StandsPaced}
use Rattle.ark_laws.proofs.Paced.{passed_paced}
use Rattle.ark_laws.proofs.Sent.{machine_paced}
use Rattle.ark_laws.proofs.Passing.{paced_with, pace_at_paced, FitsCalls, follow_fits}
use Rattle.ark_laws.proofs.Settling.{settle_fits}
use Rattle.ark_laws.proofs.Touching.{tx_quiet}

-- one block may pass
one_fits : (now : ℕ) (p : Option Paced) → IsPacedAt now p → may_pass p now 512 ≡ true → KeepsWith p ((now, 512) ∷ [])
one_fits now None h may = tt
one_fits now (Some p) h may = (passed_paced now now 512 (Some p) refl h may).0

gated_fits : (now : ℕ) (m : Machine) (v : List ℕ) (x : Vsic) (j : Job) (js : List Job) (bound : Bool) (move : Move) → m.now ≡ now → IsPacedAt now x.pace
    → (KeepsWith x.pace ((now, 512) ∷ []) → FitsCalls now x.pace move.calls) → FitsCalls now x.pace (gated m v x j js bound move).calls
gated_fits now m v x j js false move is h fits = (tt, paced_with now x.pace h)
gated_fits now m v x j js true move is h fits = by (is_over_burst x.pace 512) (may_pass x.pace m.now 512) refl
  where
    none : FitsCalls now x.pace []
    none = (tt, paced_with now x.pace h)

    by : (b c : Bool) → may_pass x.pace m.now 512 ≡ c → FitsCalls now x.pace (cond b (ends m v x j js outcome.OverBurst []) (cond (not c) (moves m said.Held []) move)).calls
    by true c e = none
    by false true e = fits (one_fits now x.pace h (rw is at e))
    by false false e = none

tried_fits : (now at : ℕ) (ok : Bool) (count : ℕ) (m : Machine) (v : List ℕ) (x : Vsic) (j : Job) (js : List Job) (calls : List Call) → FitsCalls now x.pace calls
    → FitsCalls now x.pace (tried at ok count m v x j js calls).calls
tried_fits now at ok count m v x j js calls h = by (ok && nat_lt (x.queue.moved + 1) count)
  where
    by : (b : Bool) → FitsCalls now x.pace (cond b (moves (with_vsic m v (block_moved (passed at 512 x.pace))) said.Moved calls) (ends (with_vsic m v (block_passed (passed at 512 x.pace))) v x j js (outcome_of ok) calls)).calls
    by true = h
    by false = h

transfer_fits : (now : ℕ) (m : Machine) (t : Transfer) (k : ℕ) (p : Option Paced) → KeepsWith p ((now, 512) ∷ []) → FitsCalls now p (transfer_call m t k ∷ [])
transfer_fits now m t k p h = by t.put
  where
    by : (b : Bool) → FitsCalls now p (cond b (Row.writes (label_numbered m t.vsa) (t.off + k) (block_of (bytes_at m t.buffer) k)) (Row.reads (label_numbered m t.vsa) (t.off + k)) ∷ [])
    by true = ((refl, tt), h)
    by false = ((refl, tt), h)

phase_fits : (now : ℕ) (verb : Verb) (l : List ℕ) (m : Machine) (v : List ℕ) (x : Vsic) (p : Phase) (js : List Job) (e : Ended) → m.now ≡ now → IsPacedAt now x.pace
    → FitsCalls now x.pace (phase_moves verb l m v x p js e).calls
phase_fits now syncing l m v x p js e is h = ((refl, tt), paced_with now x.pace h)
phase_fits now reading l m v x p js e is h =
    gated_fits now m v x (phase p) js true (tried m.now e.ok p.count m v x (phase p) js (Row.reads_in l ∷ [])) is h
    (λ one. tried_fits now m.now e.ok p.count m v x (phase p) js (Row.reads_in l ∷ []) ((refl, tt), one))
phase_fits now writing l m v x p js e is h =
    gated_fits now m v x (phase p) js true (tried m.now e.ok p.count (phase_written m v p e) v x (phase p) js (Row.writes_in l ∷ [])) is h
    (λ one. tried_fits now m.now e.ok p.count (phase_written m v p e) v x (phase p) js (Row.writes_in l ∷ []) ((refl, tt), one))

phases_fit : (now : ℕ) (o : Option (List ℕ)) (m : Machine) (v : List ℕ) (x : Vsic) (p : Phase) (js : List Job) (e : Ended) → m.now ≡ now → IsPacedAt now x.pace
    → FitsCalls now x.pace (phase_moves_on o m v x p js e).calls
phases_fit now None m v x p js e is h = (tt, paced_with now x.pace h)
phases_fit now (Some l) m v x p js e is h = phase_fits now p.verb l m v x p js e is h

moved_fits : (now : ℕ) (m : Machine) (v : List ℕ) (x : Vsic) (js : List Job) (e : Ended) → m.now ≡ now → IsPacedAt now x.pace → FitsCalls now x.pace (moved m v x js e).calls
moved_fits now m v x [] e is h = (tt, paced_with now x.pace h)
moved_fits now m v x (flush ∷ js) e is h = ((refl, tt), paced_with now x.pace h)
moved_fits now m v x (phase p ∷ js) e is h = phases_fit now (log_on m v) m v x p js e is h
moved_fits now m v x (transfer t ∷ js) e is h =
    let after : Machine = transferred m t x.queue.moved e (raw_numbered m t.vsa) in
    let calls : List Call = transfer_call m t x.queue.moved ∷ [] in
    gated_fits now m v x (transfer t) js (is_bound m x t.vsa) (tried m.now e.ok t.count after v x (transfer t) js calls) is h
    (λ one. tried_fits now m.now e.ok t.count after v x (transfer t) js calls (transfer_fits now m t x.queue.moved x.pace one))

move_fits : (now : ℕ) (m : Machine) (v : List ℕ) (e : Ended) → MachinePacedAt now m → FitsCalls now (pace_at m v) (move m v e).calls
move_fits now m v e h = by (vsic_at m v) (pace_at_paced now m v h)
  where
    by : (o : Option Vsic) → IsPacedAt now (option_and_then (λ x. x.pace) o)
        → FitsCalls now (option_and_then (λ x. x.pace) o) (unwrap_or (option_map (λ x. moved m v x x.queue.posted e) o) (moves m said.Idle [])).calls
    by None k = (tt, tt)
    by (Some x) k = moved_fits now m v x x.queue.posted e h.0 k

-- a network card's move calls no device
quiet_fits : (now : ℕ) (p : Option Paced) (cs : List Call) → KeepsWith p [] → cs ≡ [] → FitsCalls now p cs
quiet_fits now p cs h none = rw none (tt, h)

card_fits : (now : ℕ) (m : Machine) (v : List ℕ) (g : Given) (o : Option Vnic) → MachinePacedAt now m → FitsCalls now (pace_at m v) (card_moves m v g o).calls
card_fits now m v g None h = move_fits now m v (first_end g.ended) h
card_fits now m v g (Some x) h = quiet_fits now (pace_at m v) (card_moves m v g (Some x)).calls (paced_with now (pace_at m v) (pace_at_paced now m v h)) (none_of (card_moves m v g (Some x)).calls (tx_quiet (λ c. ⊥) m v x g.own x.tx.posted))
  where
    none_of : (cs : List Call) → AllByRecursion (λ c. ⊥) cs → cs ≡ []
    none_of [] q = refl
    none_of (c ∷ cs) q = absurd q.0

-- a row that is refused has its own calls, or none
answer_fits : (now : ℕ) (p : Option Paced) (m : Machine) (c : Conditions) (row : Row) → KeepsWith p [] → FitsCalls now p row.calls → FitsCalls now p (answer m c row).calls
unfolding answer
answer_fits now p m c row none h = by (early c) (late c)
  where
    by : (one two : Option Refusal) → FitsCalls now p (unless_refused one two m row).calls
    by (Some x) two = (tt, none)
    by None (Some x) = h
    by None None = h

-- no event passes nothing
pub none_within : (s : System) (line : Line) → StandsPaced s → PassesWithin s line []
none_within s (w.dev a v) k = paced_with s.now (pace_at (machine_of s a) v) (pace_at_paced s.now (machine_of s a) v (machine_paced s a k))
none_within s (w.settle a l) k = paced_with s.now _ (pace_at_paced s.now (machine_of s a) (card_of (machine_of s a) l) (machine_paced s a k))
none_within s _ k = tt

pub line_passes : (s : System) (line : Line) (ends : List Ended) (memory : Bool) (es : List Event) → StandsPaced s → PerformsFor s line (line_turn s line ends memory).calls es (owner line) → PassesWithin s line es
unfolding step
line_passes s (w.dev a v) ends memory es k h =
    let m : Machine = machine_of s a in
    follow_fits s a (w.dev a v) s.now (pace_at m v)
    (answer_fits s.now (pace_at m v) m _ _ (none_within s (w.dev a v) k) (card_fits s.now m v (recorded s.plane (w.dev a v) ends memory) (vnic_at m v) (machine_paced s a k))) h
line_passes s (w.settle a l) ends memory es k h =
    let m : Machine = machine_of s a in
    follow_fits s a (w.settle a l) s.now (pace_at m (card_of m l))
    (answer_fits s.now (pace_at m (card_of m l)) m _ _ (none_within s (w.settle a l) k) (settle_fits s.now l ends m (machine_paced s a k))) h
line_passes s _ ends memory es k h = tt
