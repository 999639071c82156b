-- Moves, polls and settling leave the filters and network cards that are held.
use Rattle.std.proofs.Common.{◌≡◌, ℕ, Bool, true, false, not, List, [], ◌∷◌, ◌++◌, ◌&&◌, length, take, refl, cond}
use Rattle.std.specs.Prelude.{Option, Some, None, option_map, unwrap_or, nat_lt}
use Rattle.ark_base.specs.declared.kind.Outcome.{Outcome}
use Rattle.ark_base.specs.declared.kind.Outcome.TheVariants as outcome
use Rattle.ark_packet.specs.Udp as udp
use Rattle.ark_packet.specs.declared.own.Own.{Own}
use Rattle.ark_vic.specs.declared.door.Bell.TheVariants as bell
use Rattle.ark_script.specs.declared.said.Said.TheVariants as said
use Rattle.ark_machine.specs.Objects
use Rattle.ark_machine.specs.Objects.{Object, Paced, Raw, Vsic, Vnic, Job, Place, Transfer, Datagram, transfer, flush, phase, as_log}
use Rattle.ark_machine.specs.Machine.{Machine, object_at, vnic_at, with_vnic}
use Rattle.ark_machine.specs.Row.{Given, says}
use Rattle.ark_machine.specs.Rates.{is_over_burst, may_pass, passed, pace_of, with_pace, no_rings}
use Rattle.ark_machine.specs.Moves.{Move, moves, deciding_tried, first_end}
use Rattle.ark_machine.specs.Network.{is_let_out, bytes_in, tx_ended, tx_ending, tx_passed, frame_moves, tx_moves, with_frame, filled_place, rx_ending, rx_passed, received, arrival, arrive}
use Rattle.ark_machine.specs.Sockets.{has_port, max_datagrams, delivered, posted_at}
use Rattle.ark_machine.specs.Devices.{card_moves}
use Rattle.ark_laws.proofs.Walk.{Walk, move_goes}
use Rattle.ark_laws.proofs.Seen.{Sees, view, other, sees_itself, sees_then, object_sees, each_sees, synced_sees, vsic_sees, vnic_sees, log_sees, buffer_sees, socket_sees, raw_sees, rung_sees, log_view, new_sees, door_view}
use Rattle.std.proofs.lemmas.Bool.{false≢true}
use Rattle.ark_script.specs.declared.step.Side.{Side}
use Rattle.ark_script.specs.declared.step.Side.TheVariants as side
use Rattle.ark_laws.proofs.RowWalk.{RowWalk, is_new}

deciding_view : (v : List ℕ) (took : Bool) (o : Object) → view (deciding_tried v took o) ≡ view o
deciding_view v took (Objects.raw r) = refl
deciding_view v took (Objects.log g) = refl
deciding_view v took (Objects.vsic x) = refl
deciding_view v took (Objects.vnic x) = refl
deciding_view v took (Objects.filter f c) = refl
deciding_view v took (Objects.door c) = refl
deciding_view v took (Objects.rate q b) = refl
deciding_view v took (Objects.buffer b) = refl
deciding_view v took (Objects.socket k) = refl

sees_walk : Walk Sees
sees_walk = record {
  same = sees_itself;
  then = λ m k n one two. sees_then one two;
  vsic = λ m v f keeps. vsic_sees m v f;
  passes = λ m k v x f at fits is before. sees_then before (vsic_sees k v f);
  rings = rung_sees;
  log = log_sees;
  acks = λ m l g old at. object_sees m l (Objects.log g) (log_view (object_at m l) old at);
  raw = raw_sees;
  bytes = λ m b off bytes. buffer_sees m b _;
  syncs = synced_sees;
  decides = λ m v took. each_sees m (deciding_tried v took) (deciding_view v took);
}

-- Frames that go out and that arrive.

tx_ended_sees : (m : Machine) (v : List ℕ) (x : Vnic) (p : Place) (ps : List (Place × ℕ)) (o : Outcome) → Sees m (tx_ended m v x p ps o)
tx_ended_sees m v x p ps o = sees_then (vnic_sees m v (tx_ending p ps o)) (rung_sees (with_vnic m v (tx_ending p ps o)) x.tx_door bell.Tx)

frame_sees : (m : Machine) (v : List ℕ) (x : Vnic) (own : Option Own) (p : Place) (len : ℕ) (ps : List (Place × ℕ)) (frame : List ℕ) → Sees m (frame_moves m v x own p len ps frame).machine
frame_sees m v x own p len ps frame = by (is_let_out m v own frame) (is_over_burst x.tx_pace len) (may_pass x.tx_pace m.now len)
  where
    pace : Option Paced
    pace = passed m.now len x.tx_pace

    gone : Move
    gone = record { machine = tx_ended (with_vnic m v (tx_passed pace)) v x p ps outcome.Ok; said = said.Sent; bytes = frame; calls = [] }

    by : (a b c : Bool) → Sees m (cond (not a) (moves (tx_ended m v x p ps outcome.NoFilter) (said.Done outcome.NoFilter) [])
        (cond b (moves (tx_ended m v x p ps outcome.OverBurst) (said.Done outcome.OverBurst) []) (cond (not c) (moves m said.Held []) gone))).machine
    by false b c = tx_ended_sees m v x p ps outcome.NoFilter
    by true true c = tx_ended_sees m v x p ps outcome.OverBurst
    by true false false = sees_itself m
    by true false true = sees_then (vnic_sees m v (tx_passed pace)) (tx_ended_sees (with_vnic m v (tx_passed pace)) v x p ps outcome.Ok)

tx_sees : (m : Machine) (v : List ℕ) (x : Vnic) (own : Option Own) (ps : List (Place × ℕ)) → Sees m (tx_moves m v x own ps).machine
tx_sees m v x own [] = sees_itself m
tx_sees m v x own (p ∷ ps) = frame_sees m v x own p.0 p.1 ps (take p.1 (bytes_in m p.0))

pub card_moves_sees : (m : Machine) (v : List ℕ) (g : Given) (o : Option Vnic) → Sees m (card_moves m v g o).machine
card_moves_sees m v g None = (move_goes Sees sees_walk m v (first_end g.ended)).goes
card_moves_sees m v g (Some x) = tx_sees m v x g.own x.tx.posted

with_frame_sees : (m : Machine) (p : Place) (frame : List ℕ) → Sees m (with_frame m p frame)
with_frame_sees m (Objects.named b) frame = buffer_sees m b _
with_frame_sees m (Objects.taken b) frame = sees_itself m

received_sees : (m : Machine) (v : List ℕ) (x : Vnic) (p : Place) (ps : List Place) (frame : List ℕ) → Sees m (received m v x p ps frame)
received_sees m v x p ps frame =
    let pace : Option Paced = passed m.now (length frame) x.rx_pace in
    let one : Machine = with_vnic (with_frame m p frame) v (rx_passed pace) in
    sees_then (with_frame_sees m p frame) (sees_then (vnic_sees (with_frame m p frame) v (rx_passed pace))
    (sees_then (vnic_sees one v (rx_ending (filled_place p frame) ps (length frame))) (rung_sees (with_vnic one v (rx_ending (filled_place p frame) ps (length frame))) x.rx_door bell.Rx)))

arrival_sees : (a : List ℕ) (m : Machine) (v : List ℕ) (x : Vnic) (ps : List Place) (frame : List ℕ) → Sees m (arrival a m v x ps frame).machine
arrival_sees a m v x [] frame = sees_itself m
arrival_sees a m v x (p ∷ ps) frame = by (nat_lt (length (bytes_in m p)) (length frame)) (may_pass x.rx_pace m.now (length frame))
  where
    by : (b c : Bool) → Sees m (cond b (says m (said.DroppedTooLong a v)) (cond (not c) (says m (said.DroppedThrottled a v)) (says (received m v x p ps frame) (said.Delivered a v)))).machine
    by true c = sees_itself m
    by false false = sees_itself m
    by false true = received_sees m v x p ps frame

pub arrive_sees : (a : List ℕ) (m : Machine) (v frame : List ℕ) → Sees m (arrive a m v frame).machine
arrive_sees a m v frame = by (vnic_at m v)
  where
    by : (o : Option Vnic) → Sees m (unwrap_or (option_map (λ x. arrival a m v x x.rx.posted frame) o) (says m said.DroppedNoFilter)).machine
    by None = sees_itself m
    by (Some x) = arrival_sees a m v x x.rx.posted frame

-- Rows.

delivered_view : (v : List ℕ) (d : udp.Datagram) (o : Object) → view (delivered v d o) ≡ view o
delivered_view v d (Objects.raw r) = refl
delivered_view v d (Objects.log g) = refl
delivered_view v d (Objects.vsic x) = refl
delivered_view v d (Objects.vnic x) = refl
delivered_view v d (Objects.filter f c) = refl
delivered_view v d (Objects.door c) = refl
delivered_view v d (Objects.rate q b) = refl
delivered_view v d (Objects.buffer b) = refl
delivered_view v d (Objects.socket k) =
    elim (has_port v d.to_port (Objects.socket k) && nat_lt (length k.datagrams) max_datagrams) as (λ b. view (cond b (Objects.socket (record k { datagrams = k.datagrams ++ (record { ip = d.from; port = d.from_port; payload = d.payload }) ∷ [] })) (Objects.socket k)) ≡ other) [ true ↦ refl | false ↦ refl ]

new_view : (o : Object) → is_new o ≡ true → view o ≡ other
new_view (Objects.raw r) h = refl
new_view (Objects.log g) h = refl
new_view (Objects.vsic v) h = refl
new_view (Objects.vnic v) h = absurd (false≢true h)
new_view (Objects.filter f c) h = absurd (false≢true h)
new_view (Objects.door c) h = refl
new_view (Objects.rate q b) h = refl
new_view (Objects.buffer b) h = refl
new_view (Objects.socket k) h = refl

pace_sees : (m : Machine) (v : List ℕ) (q : Side) (p : Option Paced) → Sees m (with_pace m v q p)
pace_sees m v side.Rx p = vnic_sees m v _
pace_sees m v side.Tx p = vnic_sees m v _
pace_sees m v side.Io p = vsic_sees m v _

posted_sees : (m : Machine) (v frame : List ℕ) (o : Option ℕ) → Sees m (posted_at m v frame o)
posted_sees m v frame None = sees_itself m
posted_sees m v frame (Some s) = vnic_sees m v _

pub sees_rows : RowWalk Sees
sees_rows = record {
  walk = sees_walk;
  created = λ m l o free fresh. new_sees m l o free (new_view o fresh);
  vnic = λ m v f rx tx posts. vnic_sees m v f;
  paces = λ m v q o. pace_sees m v q (pace_of m o);
  socket = socket_sees;
  delivers = λ m v d. each_sees m (delivered v d) (delivered_view v d);
  sends = posted_sees;
  looks = λ m d c is. object_sees m d (Objects.door no_rings) (door_view (object_at m d) c is);
}
