-- A frame that goes out: its filter, and its count.
use Rattle.std.proofs.Common.{◌≡◌, ◌≤◌, ℕ, Bool, true, false, not, ◌&&◌, List, [], ◌∷◌, length, take, refl, sym, ◌∙◌, ap, subst, arith, cond}
use Rattle.std.proofs.lemmas.Bool.{and_parts, false≢true}
use Rattle.std.proofs.lemmas.List.{length-take, length-take-le}
use Rattle.std.proofs.lemmas.List.Folds.{Any-from_list_any}
use Rattle.std.specs.Prelude.{Option, Some, None, Ok, IsTrue, Contains, option_map, option_and_then, unwrap_or, bytes_eq}
use Rattle.ark_base.specs.Conditions.{Conditions, early, late}
use Rattle.ark_base.specs.declared.kind.Outcome.TheVariants as outcome
use Rattle.ark_base.specs.declared.refusal.Refusal.{Refusal}
use Rattle.ark_filters.specs.In.{is_in}
use Rattle.ark_filters.specs.declared.filter.Direction.{Direction}
use Rattle.ark_filters.specs.declared.filter.Direction.TheVariants as direction
use Rattle.ark_packet.specs.declared.own.Own.{Own}
use Rattle.ark_script.specs.Line as w
use Rattle.ark_script.specs.declared.said.Said.TheVariants as said
use Rattle.ark_vic.specs.declared.door.Bell.TheVariants as bell
use Rattle.ark_machine.specs.Objects
use Rattle.ark_machine.specs.Objects.{Object, Paced, Place, Vnic, as_vnic}
use Rattle.ark_machine.specs.Machine.{Machine, Held, vnic_at, with_vnic}
use Rattle.ark_machine.specs.Row.{Row, Given, Ended, answer, unless_refused}
use Rattle.ark_machine.specs.Rates.{is_over_burst, may_pass, passed}
use Rattle.ark_machine.specs.Network.{is_transmit, lets_out, is_let_out, bytes_in, tx_ended, tx_ending, tx_passed, frame_moves, tx_moves}
use Rattle.ark_machine.specs.Moves.{Move, moves, move, first_end, row_of}
use Rattle.ark_machine.specs.Devices.{card_moves}
use Rattle.ark_machine.specs.Plane.{recorded}
use Rattle.ark_machine.specs.Step.{step}
use Rattle.ark_machine.specs.System.{System, machine_of, line_turn}
use Rattle.ark_machine.specs.Sending.{IsLetOut, tx_pace_at}
use Rattle.ark_machine.specs.Frames.{LetsOut, frames_at, FramesThere, IsCounted}
use Rattle.ark_laws.proofs.Listed.{same_bytes}
use Rattle.ark_laws.proofs.Privacy.{own_machine}
use Rattle.ark_laws.proofs.Setting.{vnic_set, rung_left}
use Rattle.ark_laws.proofs.Steady.{move_steady}
use Rattle.ark_laws.proofs.Answering.{plain_not_sent}

-- The filter.

transmits_is : (d : Direction) → is_transmit d ≡ true → d ≡ direction.Tx
transmits_is direction.Tx h = refl
transmits_is direction.Rx h = absurd (false≢true h)

filter_is : (s : System) (a v frame : List ℕ) (own : Own) (h : Held) → s.plane.own ≡ Some own → Contains (machine_of s a).held h → (o : Object) → h.object ≡ o → lets_out v own frame o ≡ true → LetsOut s a v frame
filter_is s a v frame own h is there (Objects.filter rule (Some card)) e lets =
    let parts = and_parts (bytes_eq v card) (is_transmit rule.direction && is_in rule frame own) lets in
    let more = and_parts (is_transmit rule.direction) (is_in rule frame own) parts.1 in
    record {
      own = own;
      filter = h;
      rule = rule;
      addressed = is;
      is_held = there;
      is_assigned = e ∙ ap (λ (c : List ℕ). Objects.filter rule (Some c)) (sym (same_bytes v card parts.0));
      transmits = transmits_is rule.direction more.0;
      matches = more.1;
    }
filter_is s a v frame own h is there _ e lets = absurd (false≢true lets)

pub let_out_by_filter : (s : System) (a v frame : List ℕ) → IsLetOut s (Ok (w.dev a v)) frame → LetsOut s a v frame
let_out_by_filter s a v frame = by s.plane.own refl
  where
    by : (o : Option Own) → s.plane.own ≡ o → IsTrue (is_let_out (machine_of s a) v o frame) → LetsOut s a v frame
    by None is h = absurd (false≢true h)
    by (Some own) is h =
        let found = Any-from_list_any (λ (x : Held). lets_out v own frame x.object) (machine_of s a).held h in
        filter_is s a v frame own found.1 is (found.0, found.2, found.3) found.1.object refl found.4

-- The count.

take_within : (n : ℕ) (xs : List ℕ) → length (take n xs) ≤ n
take_within n xs = omega (arith, length-take n xs)

gone_pace : (m : Machine) (v : List ℕ) (x : Vnic) (p : Place) (ps : List (Place × ℕ)) (pace : Option Paced) → vnic_at m v ≡ Some x → tx_pace_at (tx_ended (with_vnic m v (tx_passed pace)) v x p ps outcome.Ok) v ≡ pace
gone_pace m v x p ps pace is =
    let one : Machine = with_vnic m v (tx_passed pace) in
    let two : Machine = with_vnic one v (tx_ending p ps outcome.Ok) in
    ap (λ o. option_and_then (λ y. y.tx_pace) o)
    (rung_left as_vnic (λ c. refl) two x.tx_door bell.Tx v ∙ vnic_set one v (tx_ending p ps outcome.Ok) (tx_passed pace x) (vnic_set m v (tx_passed pace) x is))

frame_counted : (m : Machine) (v : List ℕ) (x : Vnic) (own : Option Own) (p : Place) (len : ℕ) (ps : List (Place × ℕ)) → vnic_at m v ≡ Some x → x.tx.posted ≡ (p, len) ∷ ps
    → (frame_moves m v x own p len ps (take len (bytes_in m p))).said ≡ said.Sent
    → IsCounted m v x (frame_moves m v x own p len ps (take len (bytes_in m p))).bytes (frame_moves m v x own p len ps (take len (bytes_in m p))).machine
frame_counted m v x own p len ps at is = by (is_let_out m v own frame) (is_over_burst x.tx_pace len) (may_pass x.tx_pace m.now len)
  where
    frame : List ℕ
    frame = take len (bytes_in m p)

    unfit : Move
    unfit = moves (tx_ended m v x p ps outcome.NoFilter) (said.Done outcome.NoFilter) []

    over : Move
    over = moves (tx_ended m v x p ps outcome.OverBurst) (said.Done outcome.OverBurst) []

    pace : Option Paced
    pace = passed m.now len x.tx_pace

    gone : Move
    gone = record { machine = tx_ended (with_vnic m v (tx_passed pace)) v x p ps outcome.Ok; said = said.Sent; bytes = frame; calls = [] }

    chosen : Bool → Bool → Bool → Move
    chosen a b c = cond (not a) unfit (cond b over (cond (not c) (moves m said.Held []) gone))

    by : (a b c : Bool) → (chosen a b c).said ≡ said.Sent → IsCounted m v x (chosen a b c).bytes (chosen a b c).machine
    by false b c h = absurd cc
    by true true c h = absurd cc
    by true false false h = absurd cc
    by true false true h = record { place = p; len = len; others = ps; oldest = is; is_frame = refl; within = take_within len (bytes_in m p); exact = λ le. length-take-le len (bytes_in m p) le; pace = gone_pace m v x p ps pace at }

tx_counted : (m : Machine) (v : List ℕ) (x : Vnic) (own : Option Own) (ps : List (Place × ℕ)) → vnic_at m v ≡ Some x → x.tx.posted ≡ ps → (tx_moves m v x own ps).said ≡ said.Sent
    → IsCounted m v x (tx_moves m v x own ps).bytes (tx_moves m v x own ps).machine
tx_counted m v x own [] at is h = absurd cc
tx_counted m v x own (p ∷ ps) at is h = frame_counted m v x own p.0 p.1 ps at is h

-- a row that answers so is not refused
answered : (m : Machine) (c : Conditions) (row : Row) → (answer m c row).said ≡ said.Sent → answer m c row ≡ row
unfolding answer
answered m c row = by (early c) (late c)
  where
    by : (one two : Option Refusal) → (unless_refused one two m row).said ≡ said.Sent → unless_refused one two m row ≡ row
    by (Some y) two h = absurd cc
    by None (Some y) h = absurd cc
    by None None h = refl

-- only a network card sends
pub sends_by_card : (a v : List ℕ) (m : Machine) (g : Given) → (step m (w.dev a v) g).said ≡ said.Sent → (x : Vnic) × (vnic_at m v ≡ Some x)
unfolding step
sends_by_card a v m g h =
    let row : Row = row_of (card_moves m v g (vnic_at m v)) in
    let sent : row.said ≡ said.Sent = subst (λ (y : Row). y.said ≡ said.Sent) (answered m _ row h) h in
    by (vnic_at m v) refl sent
  where
    by : (o : Option Vnic) → vnic_at m v ≡ o → (card_moves m v g o).said ≡ said.Sent → (x : Vnic) × (vnic_at m v ≡ Some x)
    by None is e = absurd (plain_not_sent (move m v (first_end g.ended)).said (move_steady m v (first_end g.ended)).plain e)
    by (Some x) is e = (x, is)

dev_counted : (a v : List ℕ) (m : Machine) (g : Given) (x : Vnic) → vnic_at m v ≡ Some x → (step m (w.dev a v) g).said ≡ said.Sent → IsCounted m v x (step m (w.dev a v) g).bytes (step m (w.dev a v) g).machine
unfolding step
dev_counted a v m g x at h =
    let row : Row = row_of (card_moves m v g (vnic_at m v)) in
    let same = answered m _ row h in
    let sent : row.said ≡ said.Sent = subst (λ (y : Row). y.said ≡ said.Sent) same h in
    subst (λ (y : Row). IsCounted m v x y.bytes y.machine) (sym same)
    (subst (λ o. (card_moves m v g o).said ≡ said.Sent → IsCounted m v x (card_moves m v g o).bytes (card_moves m v g o).machine) (sym at) (tx_counted m v x g.own x.tx.posted at refl) sent)

pub sent_counted : (s : System) (a v : List ℕ) (ends : List Ended) (memory : Bool) (x : Vnic) → vnic_at (machine_of s a) v ≡ Some x → (line_turn s (w.dev a v) ends memory).said ≡ said.Sent
    → IsCounted (machine_of s a) v x (line_turn s (w.dev a v) ends memory).bytes (machine_of (line_turn s (w.dev a v) ends memory).after a)
sent_counted s a v ends memory x at h =
    let g : Given = recorded s.plane (w.dev a v) ends memory in
    subst (λ (n : Machine). IsCounted (machine_of s a) v x (step (machine_of s a) (w.dev a v) g).bytes n) (sym (own_machine s a (w.dev a v) g)) (dev_counted a v (machine_of s a) g x at h)

-- exactly so many bytes as went out, where what is posted is there
pub sent_exactly : (s : System) (a v : List ℕ) (ends : List Ended) (memory : Bool) (x : Vnic) → FramesThere (machine_of s a) → vnic_at (machine_of s a) v ≡ Some x → (line_turn s (w.dev a v) ends memory).said ≡ said.Sent
    → tx_pace_at (machine_of (line_turn s (w.dev a v) ends memory).after a) v ≡ passed (machine_of s a).now (length (line_turn s (w.dev a v) ends memory).bytes) x.tx_pace
sent_exactly s a v ends memory x there at h =
    let c : IsCounted (machine_of s a) v x (line_turn s (w.dev a v) ends memory).bytes (machine_of (line_turn s (w.dev a v) ends memory).after a) = sent_counted s a v ends memory x at h in
    let posted : Contains (frames_at (machine_of s a) v) (c.place, c.len) =
    subst (λ o. Contains (unwrap_or (option_map (λ (y : Vnic). y.tx.posted) o) []) (c.place, c.len)) (sym at) (subst (λ (ps : List (Place × ℕ)). Contains ps (c.place, c.len)) (sym c.oldest) (0, omega arith, refl)) in
    let same : length (line_turn s (w.dev a v) ends memory).bytes ≡ c.len = c.exact (there v (c.place, c.len) posted) in
    c.pace ∙ ap (λ (n : ℕ). passed (machine_of s a).now n x.tx_pace) (sym same)
