-- What a stop may leave of a block once a move of a card has tried to write it.
use Rattle.std.proofs.Common.{◌≡◌, ℕ, suc, ◌+◌, ◌==◌, ◌&&◌, Bool, true, false, not, List, [], ◌∷◌, take, refl, sym, ◌∙◌, ap, subst, cond, arith}
use Rattle.std.proofs.lemmas.Bool.{false≢true, and_parts}
use Rattle.std.specs.Prelude.{Option, Some, None, Contains, is_some, option_map, option_and_then, unwrap_or, nat_lt, find}
use Rattle.std.specs.List.{list_any}
use Rattle.ark_base.specs.Conditions.{Conditions, early, late}
use Rattle.ark_base.specs.declared.refusal.Refusal.{Refusal}
use Rattle.ark_base.specs.declared.kind.Outcome.TheVariants as outcome
use Rattle.ark_vic.specs.declared.door.Bell.TheVariants as bell
use Rattle.ark_caladan.specs.Chain.{Phase, Verb, reading, writing, syncing}
use Rattle.ark_script.specs.Line as w
use Rattle.ark_script.specs.declared.said.Said.TheVariants as said
use Rattle.ark_machine.specs.Objects.{Raw, Vsic, Vnic, Place, Job, Transfer, transfer, flush, phase, as_raw}
use Rattle.ark_machine.specs.Machine.{Machine, Held, at, at_serial, raw_at, vsic_at, vnic_at, label_numbered, bytes_at, with_vsic}
use Rattle.ark_machine.specs.Bytes.{block_of}
use Rattle.ark_machine.specs.Row.{Row, Given, Ended, Call, reads, writes, reads_in, writes_in, answer, unless_refused}
use Rattle.ark_machine.specs.Areas.{raw_written, with_raw}
use Rattle.ark_machine.specs.Rates.{is_over_burst, may_pass, passed}
use Rattle.ark_machine.specs.Moves.{Move, moves, moved, ending, ends, outcome_of, block_passed, block_moved, tried, gated, is_bound, transferred, transfer_call, raw_numbered, log_on, phase_written, phase_moves, phase_moves_on, row_of}
use Rattle.ark_machine.specs.Network.{bytes_in, frame_moves, tx_moves}
use Rattle.ark_machine.specs.Devices.{card_moves}
use Rattle.ark_machine.specs.Labels.{AreLabelled}
use Rattle.ark_machine.specs.Plane.{recorded}
use Rattle.ark_machine.specs.Step.{step}
use Rattle.ark_machine.specs.System.{System, machine_of, line_turn}
use Rattle.ark_laws.proofs.Flushing.{tried_calls, frame_calls}
use Rattle.ark_laws.proofs.Privacy.{own_machine}
use Rattle.ark_laws.proofs.Setting.{raw_set, vsic_raw, rung_left}

module _ (m : Machine) (l : List ℕ) (k : ℕ) (content : List ℕ) (e : Ended) (x : Raw) (each : AreLabelled m) (has : raw_at m l ≡ Some x) where
  -- a move makes this write
  abbrev Writes : Move → Type 0
  Writes z = z.calls ≡ writes l k content ∷ []

  -- then the area has been written so
  abbrev IsWritten : Move → Type 0
  IsWritten z = raw_at z.machine l ≡ Some (raw_written k content e.took x)

  abbrev Follows : Move → Type 0
  Follows z = Writes z → IsWritten z

  none_writes : (z : Move) → z.calls ≡ [] → Follows z
  none_writes z none h = let e : [] ≡ writes l k content ∷ [] = sym none ∙ h in absurd cc

  gated_writes : (v : List ℕ) (y : Vsic) (j : Job) (js : List Job) (g : Bool) (next : Move) → (g ≡ true → Follows next) → Follows (gated m v y j js g next)
  gated_writes v y j js false next does h = absurd cc
  gated_writes v y j js true next does h = by (is_over_burst y.pace 512) (not (may_pass y.pace m.now 512)) h
    where
      by : (b c : Bool) → Writes (cond b (ends m v y j js outcome.OverBurst []) (cond c (moves m said.Held []) next)) → IsWritten (cond b (ends m v y j js outcome.OverBurst []) (cond c (moves m said.Held []) next))
      by true c h = absurd cc
      by false true h = absurd cc
      by false false h = does refl h

  tried_writes : (now : ℕ) (ok : Bool) (count : ℕ) (n : Machine) (v : List ℕ) (y : Vsic) (j : Job) (js : List Job) (c : Call) → (c ≡ writes l k content → raw_at n l ≡ Some (raw_written k content e.took x)) → Follows (tried now ok count n v y j js (c ∷ []))
  tried_writes now ok count n v y j js c left h = by (ok && nat_lt (y.queue.moved + 1) count)
    where
      the_call : (a b : Call) → ◌≡◌ {A = List Call} (a ∷ []) (b ∷ []) → a ≡ b
      the_call a b e = cc

      there : raw_at n l ≡ Some (raw_written k content e.took x)
      there = left (the_call c (writes l k content) (sym (tried_calls now ok count n v y j js c) ∙ h))

      by : (b : Bool) → raw_at (cond b (moves (with_vsic n v (block_moved (passed now 512 y.pace))) said.Moved (c ∷ [])) (ends (with_vsic n v (block_passed (passed now 512 y.pace))) v y j js (outcome_of ok) (c ∷ []))).machine l
          ≡ Some (raw_written k content e.took x)
      by true = vsic_raw n v (block_moved (passed now 512 y.pace)) l ∙ there
      by false =
          let one : Machine = with_vsic n v (block_passed (passed now 512 y.pace)) in
          rung_left as_raw (λ c. refl) (with_vsic one v (ending j js (outcome_of ok))) y.door bell.Io l ∙ (vsic_raw one v (ending j js (outcome_of ok)) l ∙ (vsic_raw n v (block_passed (passed now 512 y.pace)) l ∙ there))

  -- the area of a number that is held, where the label is the one of the number
  find_held : (q : Held → Bool) (hs : List Held) (h : Held) → find q hs ≡ Some h → Contains hs h
  find_held q [] h is = absurd cc
  find_held q (y ∷ ys) h is = by (q y) is (λ e. find_held q ys h e)
    where
      the_held : (a b : Held) → ◌≡◌ {A = Option Held} (Some a) (Some b) → a ≡ b
      the_held a b e = cc

      by : (b : Bool) → cond b (Some y) (find q ys) ≡ Some h → (find q ys ≡ Some h → Contains ys h) → Contains (y ∷ ys) h
      by true e next = subst (λ z. Contains (y ∷ ys) z) (the_held y h e) (0, omega arith, refl)
      by false e next = let there : Contains ys h = next e in (suc there.0, omega (arith, there.1), there.2)

  area_numbered : (n : ℕ) → is_some (at_serial m n) ≡ true → label_numbered m n ≡ l → raw_numbered m n ≡ Some x
  area_numbered n = by (at_serial m n) refl
    where
      by : (o : Option Held) → at_serial m n ≡ o → is_some o ≡ true → unwrap_or (option_map (λ h. h.label) o) [] ≡ l → option_and_then (λ h. as_raw h.object) o ≡ Some x
      by None is held label = absurd (false≢true held)
      by (Some h) is held label =
          let found : at m l ≡ Some h = subst (λ z. at m z ≡ Some h) label (each h (find_held (λ y. y.serial == n) m.held h is)) in
          ap (λ o. option_and_then as_raw (option_map (λ (y : Held). y.object) o)) (sym found) ∙ has

  transfer_writes : (v : List ℕ) (y : Vsic) (t : Transfer) (js : List Job) → Follows (moved m v y (transfer t ∷ js) e)
  transfer_writes v y t js =
      gated_writes v y (transfer t) js (is_bound m y t.vsa) (tried m.now e.ok t.count (transferred m t y.queue.moved e (raw_numbered m t.vsa)) v y (transfer t) js (transfer_call m t y.queue.moved ∷ []))
      (λ bound. tried_writes m.now e.ok t.count (transferred m t y.queue.moved e (raw_numbered m t.vsa)) v y (transfer t) js (transfer_call m t y.queue.moved)
      (λ is. by t.put refl (and_parts (list_any (λ b. b == t.vsa) y.bound) (is_some (at_serial m t.vsa)) bound).1 is))
    where
      i : ℕ
      i = y.queue.moved

      label : List ℕ
      label = label_numbered m t.vsa

      block : List ℕ
      block = block_of (bytes_at m t.buffer) i

      same : (a b : List ℕ) (i j : ℕ) (c d : List ℕ) → writes a i c ≡ writes b j d → (a ≡ b) × (i ≡ j) × (c ≡ d)
      same a b i j c d e = (cc, cc, cc)

      no_read : (a b : List ℕ) (i j : ℕ) (d : List ℕ) → reads a i ≡ writes b j d → ⊥
      no_read a b i j d e = cc

      by : (p : Bool) → t.put ≡ p → is_some (at_serial m t.vsa) ≡ true → cond p (writes label (t.off + i) block) (reads label (t.off + i)) ≡ writes l k content
          → raw_at (transferred m t i e (raw_numbered m t.vsa)) l ≡ Some (raw_written k content e.took x)
      by false puts held is = absurd (no_read label l (t.off + i) k content is)
      by true puts held is =
          let parts = same label l (t.off + i) k block content is in
          let there : raw_at (with_raw m l (raw_written k content e.took)) l ≡ Some (raw_written k content e.took x) = raw_set m l (raw_written k content e.took) x has in
          rw (area_numbered t.vsa held parts.0, puts, parts.0, parts.1, parts.2) there

  phase_writes : (verb : Verb) (s v : List ℕ) (y : Vsic) (p : Phase) (js : List Job) → Follows (phase_moves verb s m v y p js e)
  phase_writes syncing s v y p js h = absurd cc
  phase_writes reading s v y p js h =
      gated_writes v y (phase p) js true (tried m.now e.ok p.count m v y (phase p) js (reads_in s ∷ [])) (λ g. tried_writes m.now e.ok p.count m v y (phase p) js (reads_in s) (λ is. absurd cc)) h
  phase_writes writing s v y p js h =
      gated_writes v y (phase p) js true (tried m.now e.ok p.count (phase_written m v p e) v y (phase p) js (writes_in s ∷ []))
      (λ g. tried_writes m.now e.ok p.count (phase_written m v p e) v y (phase p) js (writes_in s) (λ is. absurd cc)) h

  moved_writes : (v : List ℕ) (y : Vsic) (js : List Job) → Follows (moved m v y js e)
  moved_writes v y [] h = absurd cc
  moved_writes v y (flush ∷ js) h = absurd cc
  moved_writes v y (transfer t ∷ js) h = transfer_writes v y t js h
  moved_writes v y (phase p ∷ js) h = by (log_on m v) h
    where
      by : (o : Option (List ℕ)) → Follows (phase_moves_on o m v y p js e)
      by None h = absurd cc
      by (Some s) h = phase_writes p.verb s v y p js h

  card_writes : (v : List ℕ) (g : Given) → g.ended ≡ e ∷ [] → (o : Option Vnic) → Follows (card_moves m v g o)
  card_writes v g is None = rw is (by (vsic_at m v))
    where
      by : (o : Option Vsic) → Follows (unwrap_or (option_map (λ y. moved m v y y.queue.posted e) o) (moves m said.Idle []))
      by None h = absurd cc
      by (Some y) h = moved_writes v y y.queue.posted h
  card_writes v g is (Some y) = by y.tx.posted
    where
      by : (ps : List (Place × ℕ)) → Follows (tx_moves m v y g.own ps)
      by [] h = absurd cc
      by (p ∷ ps) h =
          let z : Move = frame_moves m v y g.own p.0 p.1 ps (take p.1 (bytes_in m p.0)) in
          none_writes z (frame_calls m v y g.own p.0 p.1 ps (take p.1 (bytes_in m p.0))) h

  called : (c : Conditions) (row : Row) → (answer m c row).calls ≡ writes l k content ∷ [] → ((answer m c row).machine ≡ row.machine) × (row.calls ≡ writes l k content ∷ [])
  unfolding answer
  called c row = by (early c) (late c)
    where
      by : (one two : Option Refusal) → (unless_refused one two m row).calls ≡ writes l k content ∷ [] → ((unless_refused one two m row).machine ≡ row.machine) × (row.calls ≡ writes l k content ∷ [])
      by (Some y) two h = absurd cc
      by None (Some y) h = (refl, h)
      by None None h = (refl, h)

  dev_writes : (a v : List ℕ) (g : Given) → g.ended ≡ e ∷ [] → (step m (w.dev a v) g).calls ≡ writes l k content ∷ [] → raw_at (step m (w.dev a v) g).machine l ≡ Some (raw_written k content e.took x)
  unfolding step
  dev_writes a v g is h =
      let c = called _ (row_of (card_moves m v g (vnic_at m v))) h in
      ap (λ (n : Machine). raw_at n l) c.0 ∙ card_writes v g is (vnic_at m v) c.1

pub put_may : (s : System) (a v l : List ℕ) (k : ℕ) (content : List ℕ) (e : Ended) (memory : Bool) (x : Raw) → AreLabelled (machine_of s a) → raw_at (machine_of s a) l ≡ Some x
    → (line_turn s (w.dev a v) (e ∷ []) memory).calls ≡ writes l k content ∷ [] → raw_at (machine_of (line_turn s (w.dev a v) (e ∷ []) memory).after a) l ≡ Some (raw_written k content e.took x)
put_may s a v l k content e memory x each has h =
    let g : Given = recorded s.plane (w.dev a v) (e ∷ []) memory in
    ap (λ (n : Machine). raw_at n l) (own_machine s a (w.dev a v) g) ∙ dev_writes (machine_of s a) l k content e x each has a v g refl h
