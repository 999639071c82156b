-- What a stop may leave of an application's areas once a move of its card has synced.
use Rattle.std.proofs.Common.{◌≡◌, ℕ, ◌+◌, ◌&&◌, Bool, true, false, not, List, [], ◌∷◌, map, take, refl, sym, ◌∙◌, ap, subst, cond}
use Rattle.std.specs.Prelude.{Option, Some, None, option_map, option_and_then, unwrap_or, nat_lt}
use Rattle.ark_base.specs.Conditions.{Conditions, early, late}
use Rattle.ark_base.specs.declared.kind.Outcome.{Outcome}
use Rattle.ark_base.specs.declared.kind.Outcome.TheVariants as outcome
use Rattle.ark_base.specs.declared.refusal.Refusal.{Refusal}
use Rattle.ark_packet.specs.declared.own.Own.{Own}
use Rattle.ark_vic.specs.declared.door.Bell.TheVariants as bell
use Rattle.ark_caladan.specs.Chain.{Phase, Verb, reading, writing, syncing}
use Rattle.ark_script.specs.Line as w
use Rattle.ark_script.specs.declared.said.Said.TheVariants as said
use Rattle.ark_machine.specs.Objects.{Raw, Vsic, Vnic, Place, Job, Transfer, transfer, flush, phase, as_raw}
use Rattle.ark_machine.specs.Machine.{Machine, object_at, raw_at, vsic_at, vnic_at, with_vsic, with_vnic, label_numbered, bytes_at}
use Rattle.ark_machine.specs.Bytes.{block_of}
use Rattle.ark_machine.specs.Row.{Row, Given, Ended, Call, syncs, reads, writes, reads_in, writes_in, settled, synced, answer, unless_refused}
use Rattle.ark_machine.specs.Rates.{is_over_burst, may_pass, passed}
use Rattle.ark_machine.specs.Moves.{Move, moves, moved, ended, ending, ends, outcome_of, tried, gated, is_bound, transferred, transfer_call, raw_numbered, log_on, phase_written, phase_moves, phase_moves_on, first_end, row_of}
use Rattle.ark_machine.specs.Network.{is_let_out, bytes_in, tx_ended, tx_passed, frame_moves, tx_moves}
use Rattle.ark_machine.specs.Devices.{card_moves}
use Rattle.ark_machine.specs.Plane.{recorded}
use Rattle.ark_machine.specs.Step.{step}
use Rattle.ark_machine.specs.System.{System, machine_of, line_turn}
use Rattle.ark_laws.proofs.Privacy.{own_machine}
use Rattle.ark_laws.proofs.Setting.{each_found, vsic_raw, rung_left}
use Rattle.ark_laws.proofs.Contents.{settled_raw}

abbrev pub Syncs : Move → Type 0
Syncs x = x.calls ≡ syncs ∷ []

-- the area of label l with the content alone
abbrev IsSettled : Machine → List ℕ → Raw → Type 0
IsSettled m l y = raw_at m l ≡ Some (record y { maybe = map (λ b. b ∷ []) y.content })

-- A move that syncs and ends well.

ended_settles : (m : Machine) (v l : List ℕ) (x : Vsic) (j : Job) (js : List Job) (y : Raw) (ok : Bool) → raw_at m l ≡ Some y → said.Done (outcome_of ok) ≡ said.Done outcome.Ok
    → IsSettled (ended (synced ok m) v x j js (outcome_of ok)) l y
ended_settles m v l x j js y true is h =
    rung_left as_raw (λ c. refl) (with_vsic (synced true m) v (ending j js outcome.Ok)) x.door bell.Io l
    ∙ (vsic_raw (synced true m) v (ending j js outcome.Ok) l ∙ (ap (λ o. option_and_then as_raw o) (each_found settled l m.held) ∙ settled_raw (object_at m l) y is))
ended_settles m v l x j js y false is h = absurd cc

-- Moves that make another call.

pub tried_calls : (now : ℕ) (ok : Bool) (count : ℕ) (m : Machine) (v : List ℕ) (x : Vsic) (j : Job) (js : List Job) (c : Call) → (tried now ok count m v x j js (c ∷ [])).calls ≡ c ∷ []
tried_calls now ok count m v x j js c = by _ _ _ (ok && nat_lt (x.queue.moved + 1) count)
  where
    by : (k n : Machine) (o : Outcome) (b : Bool) → (cond b (moves k said.Moved (c ∷ [])) (moves n (said.Done o) (c ∷ []))).calls ≡ c ∷ []
    by k n o true = refl
    by k n o false = refl

pub gated_syncs : (m : Machine) (v : List ℕ) (x : Vsic) (j : Job) (js : List Job) (g : Bool) (next : Move) → Syncs (gated m v x j js g next) → Syncs next
gated_syncs m v x j js g next = by g (is_over_burst x.pace 512) (may_pass x.pace m.now 512)
  where
    by : (a b c : Bool) → Syncs (cond (not a) (ends m v x j js outcome.NoGrant []) (cond b (ends m v x j js outcome.OverBurst []) (cond (not c) (moves m said.Held []) next))) → Syncs next
    by false b c h = absurd cc
    by true true c h = absurd cc
    by true false false h = absurd cc
    by true false true h = h

transfer_no_sync : (m : Machine) (t : Transfer) (k : ℕ) → transfer_call m t k ∷ [] ≡ syncs ∷ [] → ⊥
transfer_no_sync m t k = by (label_numbered m t.vsa) (t.off + k) (block_of (bytes_at m t.buffer) k) t.put
  where
    by : (l : List ℕ) (n : ℕ) (bytes : List ℕ) (b : Bool) → cond b (writes l n bytes) (reads l n) ∷ [] ≡ syncs ∷ [] → ⊥
    by l n bytes true h = cc
    by l n bytes false h = cc

pub in_no_sync : (l : List ℕ) → reads_in l ∷ [] ≡ syncs ∷ [] → ⊥
in_no_sync l h = cc

pub out_no_sync : (l : List ℕ) → writes_in l ∷ [] ≡ syncs ∷ [] → ⊥
out_no_sync l h = cc

pub frame_calls : (m : Machine) (v : List ℕ) (x : Vnic) (own : Option Own) (p : Place) (len : ℕ) (ps : List (Place × ℕ)) (frame : List ℕ) → (frame_moves m v x own p len ps frame).calls ≡ []
frame_calls m v x own p len ps frame = by (is_let_out m v own frame) (is_over_burst x.tx_pace len) (may_pass x.tx_pace m.now len)
  where
    unfit : Move
    unfit = moves (tx_ended m v x p ps outcome.NoFilter) (said.Done outcome.NoFilter) []

    over : Move
    over = moves (tx_ended m v x p ps outcome.OverBurst) (said.Done outcome.OverBurst) []

    gone : Move
    gone = record { machine = tx_ended (with_vnic m v (tx_passed (passed m.now len x.tx_pace))) v x p ps outcome.Ok; said = said.Sent; bytes = frame; calls = [] }

    by : (a b c : Bool) → (cond (not a) unfit (cond b over (cond (not c) (moves m said.Held []) gone))).calls ≡ []
    by false b c = refl
    by true true c = refl
    by true false false = refl
    by true false true = refl

-- Every move.

phase_settles : (verb : Verb) (s : List ℕ) (m : Machine) (v l : List ℕ) (x : Vsic) (p : Phase) (js : List Job) (e : Ended) (y : Raw) → raw_at m l ≡ Some y → Syncs (phase_moves verb s m v x p js e)
    → (phase_moves verb s m v x p js e).said ≡ said.Done outcome.Ok → IsSettled (phase_moves verb s m v x p js e).machine l y
phase_settles syncing s m v l x p js e y is c h = ended_settles m v l x (phase p) js y e.ok is h
phase_settles reading s m v l x p js e y is c h =
    absurd (in_no_sync s (sym (tried_calls m.now e.ok p.count m v x (phase p) js (reads_in s)) ∙ gated_syncs m v x (phase p) js true (tried m.now e.ok p.count m v x (phase p) js (reads_in s ∷ [])) c))
phase_settles writing s m v l x p js e y is c h =
    let k : Machine = phase_written m v p e in
    absurd (out_no_sync s (sym (tried_calls m.now e.ok p.count k v x (phase p) js (writes_in s)) ∙ gated_syncs m v x (phase p) js true (tried m.now e.ok p.count k v x (phase p) js (writes_in s ∷ [])) c))

moved_settles : (m : Machine) (v l : List ℕ) (x : Vsic) (js : List Job) (e : Ended) (y : Raw) → raw_at m l ≡ Some y → Syncs (moved m v x js e) → (moved m v x js e).said ≡ said.Done outcome.Ok → IsSettled (moved m v x js e).machine l y
moved_settles m v l x [] e y is c h = absurd cc
moved_settles m v l x (flush ∷ js) e y is c h = ended_settles m v l x flush js y e.ok is h
moved_settles m v l x (transfer t ∷ js) e y is c h =
    let k : Machine = transferred m t x.queue.moved e (raw_numbered m t.vsa) in
    let call : Call = transfer_call m t x.queue.moved in
    absurd (transfer_no_sync m t x.queue.moved (sym (tried_calls m.now e.ok t.count k v x (transfer t) js call) ∙ gated_syncs m v x (transfer t) js (is_bound m x t.vsa) (tried m.now e.ok t.count k v x (transfer t) js (call ∷ [])) c))
moved_settles m v l x (phase p ∷ js) e y is c h = by (log_on m v) c h
  where
    by : (o : Option (List ℕ)) → Syncs (phase_moves_on o m v x p js e) → (phase_moves_on o m v x p js e).said ≡ said.Done outcome.Ok → IsSettled (phase_moves_on o m v x p js e).machine l y
    by None c h = absurd cc
    by (Some s) c h = phase_settles p.verb s m v l x p js e y is c h

card_settles : (m : Machine) (v l : List ℕ) (g : Given) (y : Raw) → raw_at m l ≡ Some y → (o : Option Vnic) → Syncs (card_moves m v g o) → (card_moves m v g o).said ≡ said.Done outcome.Ok → IsSettled (card_moves m v g o).machine l y
card_settles m v l g y is None = by (vsic_at m v)
  where
    by : (o : Option Vsic) → Syncs (unwrap_or (option_map (λ x. moved m v x x.queue.posted (first_end g.ended)) o) (moves m said.Idle []))
        → (unwrap_or (option_map (λ x. moved m v x x.queue.posted (first_end g.ended)) o) (moves m said.Idle [])).said ≡ said.Done outcome.Ok
        → IsSettled (unwrap_or (option_map (λ x. moved m v x x.queue.posted (first_end g.ended)) o) (moves m said.Idle [])).machine l y
    by None c h = absurd cc
    by (Some x) c h = moved_settles m v l x x.queue.posted (first_end g.ended) y is c h
card_settles m v l g y is (Some x) = by x.tx.posted
  where
    none_syncs : (cs : List Call) → cs ≡ [] → cs ≡ syncs ∷ [] → ⊥
    none_syncs cs e c = cc

    by : (ps : List (Place × ℕ)) → Syncs (tx_moves m v x g.own ps) → (tx_moves m v x g.own ps).said ≡ said.Done outcome.Ok → IsSettled (tx_moves m v x g.own ps).machine l y
    by [] c h = absurd cc
    by (p ∷ ps) c h = absurd (none_syncs (frame_moves m v x g.own p.0 p.1 ps (take p.1 (bytes_in m p.0))).calls (frame_calls m v x g.own p.0 p.1 ps (take p.1 (bytes_in m p.0))) c)

-- a row that answers so is not refused
done_row : (m : Machine) (c : Conditions) (row : Row) (o : Outcome) → (answer m c row).said ≡ said.Done o → answer m c row ≡ row
unfolding answer
done_row m c row o = by (early c) (late c)
  where
    by : (one two : Option Refusal) → (unless_refused one two m row).said ≡ said.Done o → unless_refused one two m row ≡ row
    by (Some y) two h = absurd cc
    by None (Some y) h = absurd cc
    by None None h = refl

dev_settles : (a v l : List ℕ) (m : Machine) (g : Given) (y : Raw) → raw_at m l ≡ Some y → (step m (w.dev a v) g).calls ≡ syncs ∷ [] → (step m (w.dev a v) g).said ≡ said.Done outcome.Ok → IsSettled (step m (w.dev a v) g).machine l y
unfolding step
dev_settles a v l m g y is c h =
    let row : Row = row_of (card_moves m v g (vnic_at m v)) in
    let same = done_row m _ row outcome.Ok h in
    let calls : row.calls ≡ syncs ∷ [] = subst (λ (z : Row). z.calls ≡ syncs ∷ []) same c in
    let good : row.said ≡ said.Done outcome.Ok = subst (λ (z : Row). z.said ≡ said.Done outcome.Ok) same h in
    subst (λ (z : Row). IsSettled z.machine l y) (sym same) (card_settles m v l g y is (vnic_at m v) calls good)

pub flushed_may : (s : System) (a v l : List ℕ) (ends : List Ended) (memory : Bool) (y : Raw) → (line_turn s (w.dev a v) ends memory).calls ≡ syncs ∷ [] → (line_turn s (w.dev a v) ends memory).said ≡ said.Done outcome.Ok
    → raw_at (machine_of s a) l ≡ Some y → raw_at (machine_of (line_turn s (w.dev a v) ends memory).after a) l ≡ Some (record y { maybe = map (λ b. b ∷ []) y.content })
flushed_may s a v l ends memory y c h is =
    let g : Given = recorded s.plane (w.dev a v) ends memory in
    ap (λ (n : Machine). raw_at n l) (own_machine s a (w.dev a v) g) ∙ dev_settles a v l (machine_of s a) g y is c h
