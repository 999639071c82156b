-- The frames that are posted to transmit stay whole in their buffers, whatever comes to the machine.
use Rattle.std.proofs.Common.{◌≡◌, ◌⊎◌, inl, ℕ, suc, Bool, true, false, not, List, [], ◌∷◌, length, refl, sym, subst, arith, cond}
use Rattle.std.specs.Prelude.{Option, Some, None, option_map, unwrap_or, nat_lt, Contains}
use Rattle.ark_base.specs.declared.kind.Outcome.{Outcome}
use Rattle.ark_base.specs.declared.kind.Outcome.TheVariants as outcome
use Rattle.ark_packet.specs.declared.own.Own.{Own}
use Rattle.ark_vic.specs.declared.door.Bell.TheVariants as bell
use Rattle.ark_script.specs.declared.said.Said.TheVariants as said
use Rattle.ark_machine.specs.Objects
use Rattle.ark_machine.specs.Objects.{Object, Raw, Vsic, Vnic, Place, Job, Transfer, transfer, flush, phase, as_log}
use Rattle.ark_machine.specs.Machine.{Machine, object_at, vnic_at, with_vnic}
use Rattle.ark_machine.specs.Row.{Given, says}
use Rattle.ark_machine.specs.Buffers.{with_bytes}
use Rattle.ark_machine.specs.Rates.{is_over_burst, may_pass, passed}
use Rattle.ark_machine.specs.Moves.{Move, moves, deciding_tried, first_end}
use Rattle.ark_machine.specs.Network.{bytes_in, is_let_out, tx_ending, tx_ended, tx_passed, frame_moves, tx_moves, with_frame, filled_place, rx_ending, rx_passed, received, arrival, arrive}
use Rattle.ark_machine.specs.Devices.{card_moves}
use Rattle.ark_machine.specs.Frames.{frames_at, HasFrame}
use Rattle.ark_laws.proofs.Walk.{Walk, move_goes}
use Rattle.ark_laws.proofs.Growing.{size_in, frames_in, Grows, same_grows, then_grows, plain_grows, log_is, vsic_grows, log_grows, raw_grows, buffer_grows, vnic_grows, rung_grows, each_grows, synced_grows, written_longer}
use Rattle.ark_laws.proofs.Setting.{vnic_set}

-- the transmit ring stays, or loses its oldest
kept : (m : Machine) (x : Vnic) (p : Place × ℕ) → Contains x.tx.posted p → Contains x.tx.posted p ⊎ HasFrame m p
kept m x p has = inl has

pub bytes_grow : (m : Machine) (b : List ℕ) (off : ℕ) (bytes : List ℕ) → Grows m (with_bytes m b off bytes)
bytes_grow m b off bytes = buffer_grows m b _ (λ x. written_longer x.bytes off bytes)

deciding_size : (v : List ℕ) (took : Bool) (o : Object) → size_in (Some (deciding_tried v took o)) ≡ size_in (Some o)
deciding_size v took (Objects.log g) = refl
deciding_size v took (Objects.buffer b) = refl
deciding_size v took _ = refl

deciding_frames : (v : List ℕ) (took : Bool) (o : Object) → frames_in (Some (deciding_tried v took o)) ≡ frames_in (Some o)
deciding_frames v took (Objects.log g) = refl
deciding_frames v took (Objects.vnic x) = refl
deciding_frames v took _ = refl

pub grows_walk : Walk Grows
grows_walk = record {
  same = same_grows;
  then = λ m k n f g. then_grows f g;
  vsic = λ m v f keeps. vsic_grows m v f;
  passes = λ m k v x f at fits is before. then_grows before (vsic_grows k v f);
  rings = rung_grows;
  log = log_grows;
  acks = λ m l g old at. plain_grows m l (Objects.log g) (Objects.log old) (log_is (object_at m l) old at) refl refl;
  raw = raw_grows;
  bytes = bytes_grow;
  syncs = synced_grows;
  decides = λ m v took. each_grows m (deciding_tried v took) (deciding_size v took) (deciding_frames v took);
}

-- Moves of a network card, and frames that arrive.

later_frame : (ps : List (Place × ℕ)) (q p : Place × ℕ) → Contains ps p → Contains (q ∷ ps) p
later_frame ps q p has = (suc has.0, omega (arith, has.1), has.2)

tx_ended_grows : (b m : Machine) (v : List ℕ) (x : Vnic) (p : Place × ℕ) (ps : List (Place × ℕ)) (o : Outcome) → Grows b m → ((q : Place × ℕ) → Contains ps q → Contains (frames_at m v) q) → Grows b (tx_ended m v x p.0 ps o)
tx_ended_grows b m v x p ps o h among =
    then_grows h (then_grows
    (vnic_grows m v (tx_ending p.0 ps o) (λ y at q has. inl (subst (λ c. Contains (unwrap_or (option_map (λ (z : Vnic). z.tx.posted) c) []) q) at (among q has))))
    (rung_grows (with_vnic m v (tx_ending p.0 ps o)) x.tx_door bell.Tx))

frame_grows : (m : Machine) (v : List ℕ) (x : Vnic) (own : Option Own) (p : Place × ℕ) (ps : List (Place × ℕ)) (frame : List ℕ) → vnic_at m v ≡ Some x → x.tx.posted ≡ p ∷ ps → Grows m (frame_moves m v x own p.0 p.1 ps frame).machine
frame_grows m v x own p ps frame at is = by (is_let_out m v own frame) (is_over_burst x.tx_pace p.1) (may_pass x.tx_pace m.now p.1)
  where
    one : Machine
    one = with_vnic m v (tx_passed (passed m.now p.1 x.tx_pace))

    among : (k : Machine) (y : Vnic) → vnic_at k v ≡ Some y → y.tx.posted ≡ p ∷ ps → (q : Place × ℕ) → Contains ps q → Contains (frames_at k v) q
    among k y there same q has =
        subst (λ c. Contains (unwrap_or (option_map (λ (z : Vnic). z.tx.posted) c) []) q) (sym there) (subst (λ (l : List (Place × ℕ)). Contains l q) (sym same) (later_frame ps p q has))

    gone : Move
    gone = record { machine = tx_ended one v x p.0 ps outcome.Ok; said = said.Sent; bytes = frame; calls = [] }

    by : (a b c : Bool) → Grows m (cond (not a) (moves (tx_ended m v x p.0 ps outcome.NoFilter) (said.Done outcome.NoFilter) []) (cond b (moves (tx_ended m v x p.0 ps outcome.OverBurst) (said.Done outcome.OverBurst) []) (cond (not c) (moves m said.Held []) gone))).machine
    by false b c = tx_ended_grows m m v x p ps outcome.NoFilter (same_grows m) (among m x at is)
    by true true c = tx_ended_grows m m v x p ps outcome.OverBurst (same_grows m) (among m x at is)
    by true false false = same_grows m
    by true false true =
        tx_ended_grows m one v x p ps outcome.Ok (vnic_grows m v (tx_passed (passed m.now p.1 x.tx_pace)) (λ y there q has. inl has))
        (among one (tx_passed (passed m.now p.1 x.tx_pace) x) (vnic_set m v (tx_passed (passed m.now p.1 x.tx_pace)) x at) is)

tx_grows : (m : Machine) (v : List ℕ) (x : Vnic) (own : Option Own) (ps : List (Place × ℕ)) → vnic_at m v ≡ Some x → x.tx.posted ≡ ps → Grows m (tx_moves m v x own ps).machine
tx_grows m v x own [] at is = same_grows m
tx_grows m v x own (p ∷ ps) at is = frame_grows m v x own p ps _ at is

pub card_grows : (m : Machine) (v : List ℕ) (g : Given) → Grows m (card_moves m v g (vnic_at m v)).machine
card_grows m v g = by (vnic_at m v) refl
  where
    by : (o : Option Vnic) → vnic_at m v ≡ o → Grows m (card_moves m v g o).machine
    by None at = (move_goes Grows grows_walk m v (first_end g.ended)).goes
    by (Some x) at = tx_grows m v x g.own x.tx.posted at refl

with_frame_grows : (m : Machine) (p : Place) (frame : List ℕ) → Grows m (with_frame m p frame)
with_frame_grows m (Objects.named b) frame = bytes_grow m b 0 frame
with_frame_grows m (Objects.taken b) frame = same_grows m

received_grows : (m : Machine) (v : List ℕ) (x : Vnic) (p : Place) (ps : List Place) (frame : List ℕ) → Grows m (received m v x p ps frame)
received_grows m v x p ps frame =
    let one : Machine = with_vnic (with_frame m p frame) v (rx_passed (passed m.now (length frame) x.rx_pace)) in
    then_grows (with_frame_grows m p frame) (then_grows
    (vnic_grows (with_frame m p frame) v (rx_passed (passed m.now (length frame) x.rx_pace)) (λ y at q has. inl has)) (then_grows
    (vnic_grows one v (rx_ending (filled_place p frame) ps (length frame)) (λ y at q has. inl has))
    (rung_grows (with_vnic one v (rx_ending (filled_place p frame) ps (length frame))) x.rx_door bell.Rx)))

arrival_grows : (a : List ℕ) (m : Machine) (v : List ℕ) (x : Vnic) (ps : List Place) (frame : List ℕ) → Grows m (arrival a m v x ps frame).machine
arrival_grows a m v x [] frame = same_grows m
arrival_grows a m v x (p ∷ ps) frame = by (nat_lt (length (bytes_in m p)) (length frame)) (may_pass x.rx_pace m.now (length frame))
  where
    by : (b c : Bool) → Grows m (cond b (says m (said.DroppedTooLong a v)) (cond (not c) (says m (said.DroppedThrottled a v)) (says (received m v x p ps frame) (said.Delivered a v)))).machine
    by true c = same_grows m
    by false false = same_grows m
    by false true = received_grows m v x p ps frame

pub arrive_grows : (a : List ℕ) (m : Machine) (v frame : List ℕ) → Grows m (arrive a m v frame).machine
arrive_grows a m v frame = by (vnic_at m v)
  where
    by : (o : Option Vnic) → Grows m (unwrap_or (option_map (λ x. arrival a m v x x.rx.posted frame) o) (says m said.DroppedNoFilter)).machine
    by None = same_grows m
    by (Some x) = arrival_grows a m v x x.rx.posted frame
