-- What is so of the row of every word, and of a frame that arrives.
use Rattle.std.proofs.Common.{◌≡◌, inl, inr, ℕ, Bool, true, false, not, List, [], ◌∷◌, length, refl, sym, ap, subst, cond}
use Rattle.std.specs.Prelude.{Option, Some, None, option_map, option_and_then, unwrap_or, nat_lt}
use Rattle.ark_base.specs.declared.refusal.Refusal.{Refusal}
use Rattle.ark_vic.specs.declared.door.Bell.TheVariants as bell
use Rattle.ark_script.specs.Line as w
use Rattle.ark_script.specs.Line.{Line}
use Rattle.ark_script.specs.declared.said.Said.{Said}
use Rattle.ark_script.specs.declared.said.Said.TheVariants as said
use Rattle.ark_machine.specs.Objects
use Rattle.ark_machine.specs.Objects.{Paced, Vnic, Place, flush}
use Rattle.ark_machine.specs.Machine.{Machine, vnic_at, filter_at, serial_at, without, with_vnic, with_log}
use Rattle.ark_machine.specs.Row.{Row, Given, says, has_fault}
use Rattle.ark_machine.specs.Control.{lets_go}
use Rattle.ark_machine.specs.Areas.{new_area, grown}
use Rattle.ark_machine.specs.Bytes.{padded}
use Rattle.ark_machine.specs.Rates.{may_pass, passed, pace_of}
use Rattle.ark_machine.specs.Cards.{unreaped_at}
use Rattle.ark_machine.specs.Network.{bytes_in, rx_ending, rx_passed, filled_place, with_frame, received, arrival, arrive}
use Rattle.ark_machine.specs.Sockets.{with_socket_card, card_at, pulled, give_oldest, datagrams_at}
use Rattle.ark_machine.specs.Logs.{closing, card_of}
use Rattle.ark_machine.specs.Polls.{next_call, settling}
use Rattle.ark_machine.specs.Devices.{card_moves}
use Rattle.ark_machine.specs.Step.{step}
use Rattle.ark_machine.specs.Sending.{KeepsWith, rx_pace_at, FrameWithin}
use Rattle.ark_machine.specs.Paced.{IsPacedAt, MachinePacedAt}
use Rattle.ark_laws.proofs.Paced.{VnicPaced, passed_paced, new_paced, object_paced, each_paced, without_paced, vnic_at_paced, vsic_paced, vnic_paced, log_paced, buffer_paced, raw_paced, rung_paced}
use Rattle.ark_laws.proofs.Steady.{Leads, RowSteady, behind, polled_steady, settling_steady, next_call_steady, leads_walk}
use Rattle.ark_laws.proofs.Walk.{is_plain}
use Rattle.ark_laws.proofs.Answering.{plain_not_sent, plain_not_refused, plain_not_delivered, of_answer, of_made, IsRow}
use Rattle.ark_laws.proofs.Leading.{synced_leads, unless_leads, area_paced, lets_go_paced, assigned_leads, pace_of_paced, with_pace_leads, new_buffer_leads, reap_steady, oldest_steady, give_steady, leads_rows}
use Rattle.ark_laws.proofs.RowWalk.{watch_goes, block_goes, socket_card_goes, pulled_goes, opened_goes}
use Rattle.ark_laws.proofs.SendRows.{sendto_row, IsTxOf, card_is, dev_row, quiet_row, IsMove}

-- the row of every line
pub row_is : (m : Machine) (line : Line) (g : Given) → IsRow line m g.own (step m line g)
unfolding step
row_is m (w.app a x1) g = of_answer (w.app a x1) m g.own _ _ (inl refl) refl (λ t h. h) (λ no is. inl refl)
row_is m (w.vsic a x1 x2) g = of_made (w.vsic a x1 x2) m g.own _ _ refl (inl refl) refl (λ t h. new_paced t m x1 _ h tt)
row_is m (w.vnic a x1 x2 x3) g = of_made (w.vnic a x1 x2 x3) m g.own _ _ refl (inl refl) refl (λ t h. new_paced t m x1 _ h (tt, tt))
row_is m (w.vsa a x1 x2 x3) g = of_made (w.vsa a x1 x2 x3) m g.own _ _ refl (inr refl) refl
    (synced_leads m _ _ (unless_leads m m _ (has_fault g.ended) (λ t h. h) (λ t h. new_paced t m x1 (new_area x3 x2) h (area_paced t x3 x2))))
row_is m (w.grow a x1 x2) g = of_made (w.grow a x1 x2) m g.own _ _ refl (inr refl) refl
    (synced_leads m _ _ (unless_leads m m _ (has_fault g.ended) (λ t h. h) (λ t h. raw_paced t m x1 (grown x2) h)))
row_is m (w.bind a x1 x2) g = of_made (w.bind a x1 x2) m g.own _ _ refl (inl refl) refl (λ t h. vsic_paced t m x1 _ (λ y q. q) h)
row_is m (w.unbind a x1 x2) g = of_made (w.unbind a x1 x2) m g.own _ _ refl (inl refl) refl (λ t h. vsic_paced t m x1 _ (λ y q. q) h)
row_is m (w.filter a x1 x2) g = of_made (w.filter a x1 x2) m g.own _ _ refl (inl refl) refl (λ t h. new_paced t m x1 _ h tt)
row_is m (w.assign a x1 x2) g = of_made (w.assign a x1 x2) m g.own _ _ refl (inl refl) refl (assigned_leads m x1 x2 (filter_at m x2))
row_is m (w.rate a x1 x2 x3) g = of_made (w.rate a x1 x2 x3) m g.own _ _ refl (inl refl) refl (λ t h. new_paced t m x1 _ h tt)
row_is m (w.pace a x1 x2 x3) g = of_made (w.pace a x1 x2 x3) m g.own _ _ refl (inl refl) refl (with_pace_leads m x1 x3 (pace_of m x2) (λ t. pace_of_paced t m x2))
row_is m (w.door a x1) g = of_made (w.door a x1) m g.own _ _ refl (inl refl) refl (λ t h. new_paced t m x1 _ h tt)
row_is m (w.watch a x1 x2 x3) g = of_made (w.watch a x1 x2 x3) m g.own _ _ refl (inl refl) refl (watch_goes Leads leads_rows m x1 x3 x2)
row_is m (w.drop a x) g = of_made (w.drop a x) m g.own _ _ refl (inr refl) refl
    (synced_leads m _ _ (λ t h. each_paced t (lets_go x (serial_at m x)) (without m x) (lets_go_paced x (serial_at m x) t) (without_paced t m x h)))
row_is m (w.buf a x1 x2) g = of_made (w.buf a x1 x2) m g.own _ _ refl (inl refl) refl (new_buffer_leads m x1 x2 _)
row_is m (w.fill a x1 x2 x3) g = of_made (w.fill a x1 x2 x3) m g.own _ _ refl (inl refl) refl (λ t h. buffer_paced t m x1 _ h)
row_is m (w.show a x1 x2 x3) g = of_made (w.show a x1 x2 x3) m g.own _ _ refl (inl refl) refl (λ t h. h)
row_is m (w.copy a x1 x2 x3) g = of_made (w.copy a x1 x2 x3) m g.own _ _ refl (inl refl) refl (λ t h. buffer_paced t m x2 _ h)
row_is m (w.free a x1) g = of_made (w.free a x1) m g.own _ _ refl (inl refl) refl (λ t h. without_paced t m x1 h)
row_is m (w.peek a x1 x2) g = of_made (w.peek a x1 x2) m g.own _ _ refl (inr refl) refl (λ t h. h)
row_is m (w.poke a x1 x2 x3) g = of_made (w.poke a x1 x2 x3) m g.own _ _ refl (inr refl) refl (block_goes Leads leads_rows m x1 x2 (padded x3) g.ended)
row_is m (w.get a x1 x2 x3 x4 x5) g = of_made (w.get a x1 x2 x3 x4 x5) m g.own _ _ refl (inl refl) refl (λ t h. vsic_paced t m x1 _ (λ y q. q) h)
row_is m (w.put a x1 x2 x3 x4 x5) g = of_made (w.put a x1 x2 x3 x4 x5) m g.own _ _ refl (inl refl) refl (λ t h. vsic_paced t m x1 _ (λ y q. q) h)
row_is m (w.flush a x1) g = of_made (w.flush a x1) m g.own _ _ refl (inl refl) refl (λ t h. vsic_paced t m x1 _ (λ y q. q) h)
row_is m (w.reap a x1) g = of_made (w.reap a x1) m g.own _ _ refl (inl refl) (reap_steady m x1 (unreaped_at m x1)).plain (reap_steady m x1 (unreaped_at m x1)).goes
row_is m (w.post a x1 x2) g = of_made (w.post a x1 x2) m g.own _ _ refl (inl refl) refl (λ t h. vnic_paced t m x1 _ (λ y q. q) h)
row_is m (w.send a x1 x2 x3) g = of_made (w.send a x1 x2 x3) m g.own _ _ refl (inl refl) refl (λ t h. vnic_paced t m x1 _ (λ y q. q) h)
row_is m (w.take a x1 x2) g = of_made (w.take a x1 x2) m g.own _ _ refl (inl refl) (oldest_steady x2 m x1).plain (oldest_steady x2 m x1).goes
row_is m (w.sock a x1 x2 x3) g = of_made (w.sock a x1 x2 x3) m g.own _ _ refl (inl refl) refl (λ t h. new_paced t (with_socket_card m x2) x1 _ (socket_card_goes Leads leads_rows m x2 t h) tt)
row_is m (w.sendto a x1 x2 x3 x4) g = sendto_row a m g.own x1 x2 x3 x4 _ g refl refl
row_is m (w.recv a x1) g =
    let k : Machine = pulled m (card_at m x1) g.own in
    let s : RowSteady m (give_oldest k x1 (datagrams_at k x1)) = behind m k _ _ (pulled_goes Leads leads_rows m (card_at m x1) g.own) (give_steady k x1 (datagrams_at k x1)) in
    of_made (w.recv a x1) m g.own _ _ refl (inl refl) s.plain s.goes
row_is m (w.look a x1) g = of_made (w.look a x1) m g.own _ _ refl (inl refl) refl (λ t h. object_paced t m x1 _ h tt)
row_is m (w.log a x1 x2) g = of_made (w.log a x1 x2) m g.own _ _ refl (inr refl) refl (opened_goes Leads leads_rows m x1 x2 g)
row_is m (w.queue a x1 x2) g = of_made (w.queue a x1 x2) m g.own _ _ refl (inr refl) refl (opened_goes Leads leads_rows m x1 x2 g)
row_is m (w.append a x1 x2) g = of_made (w.append a x1 x2) m g.own _ _ refl (inl refl) refl (leads_walk.log m x1 _)
row_is m (w.push a x1 x2) g = of_made (w.push a x1 x2) m g.own _ _ refl (inl refl) refl (leads_walk.log m x1 _)
row_is m (w.trim a x1 x2) g = of_made (w.trim a x1 x2) m g.own _ _ refl (inl refl) refl (leads_walk.log m x1 _)
row_is m (w.pop a x1) g = of_made (w.pop a x1) m g.own _ _ refl (inl refl) refl (leads_walk.log m x1 _)
row_is m (w.walk a x1 x2) g = of_made (w.walk a x1 x2) m g.own _ _ refl (inr refl) refl (λ t h. h)
row_is m (w.poll a x1) g = of_made (w.poll a x1) m g.own _ _ refl (inl refl) (polled_steady m x1).plain (polled_steady m x1).goes
row_is m (w.settle a x1) g =
    let s : RowSteady m (settling g.ended x1 (next_call m x1)) = settling_steady m g.ended x1 (next_call m x1) (next_call_steady m x1) in
    of_made (w.settle a x1) m g.own _ _ refl (inl refl) s.plain s.goes
row_is m (w.close a x1) g = of_made (w.close a x1) m g.own _ _ refl (inl refl) refl (λ t h. vsic_paced t (with_log m x1 closing) (card_of m x1) _ (λ y q. q) (log_paced t m x1 closing h))
row_is m (w.dev a x1) g =
    let s : IsMove m g.own x1 (card_moves m x1 g (vnic_at m x1)) = card_is m x1 g (vnic_at m x1) (λ t h. vnic_at_paced t m x1 h) in
    dev_row a x1 m g.own _ _ refl refl s.sent s.undelivered s.unrefused s.paced
row_is m (w.nic own) g = quiet_row (w.nic own) m g.own
row_is m (w.wire frame) g = quiet_row (w.wire frame) m g.own
row_is m (w.tick n) g = quiet_row (w.tick n) m g.own

-- A frame that arrives.

frame_leads : (m : Machine) (p : Place) (frame : List ℕ) → Leads m (with_frame m p frame)
frame_leads m (Objects.named b) frame t h = buffer_paced t m b _ h
frame_leads m (Objects.taken b) frame t h = h

received_leads : (m : Machine) (v : List ℕ) (x : Vnic) (p : Place) (ps : List Place) (frame : List ℕ) → ((t : ℕ) → MachinePacedAt t m → IsPacedAt t (passed m.now (length frame) x.rx_pace))
    → Leads m (received m v x p ps frame)
received_leads m v x p ps frame of t h =
    let pace : Option Paced = passed m.now (length frame) x.rx_pace in
    let one : Machine = with_vnic (with_frame m p frame) v (rx_passed pace) in
    rung_paced t (with_vnic one v (rx_ending (filled_place p frame) ps (length frame))) x.rx_door bell.Rx
    (vnic_paced t one v (rx_ending (filled_place p frame) ps (length frame)) (λ y q. q) (vnic_paced t (with_frame m p frame) v (rx_passed pace) (λ y q. (of t h, q.1)) (frame_leads m p frame t h)))

-- What is so of the row of a frame that arrives.
pub record IsArrival (a : List ℕ) (m : Machine) (v frame : List ℕ) (row : Row) : Type 0 where
  pub unsent : row.said ≡ said.Sent → ⊥
  pub unrefused : (x : Refusal) → row.said ≡ said.Refused x → ⊥
  pub delivered : (t : ℕ) (b u : List ℕ) → MachinePacedAt t m → row.said ≡ said.Delivered b u → (b ≡ a) × (u ≡ v) × FrameWithin (rx_pace_at m v) t frame
  pub paced : Leads m row.machine

plain_arrival : (a : List ℕ) (m : Machine) (v frame : List ℕ) (x : Said) → is_plain x ≡ true → IsArrival a m v frame (says m x)
plain_arrival a m v frame x plain = record {
  unsent = plain_not_sent x plain;
  unrefused = λ y h. plain_not_refused x y plain h;
  delivered = λ t b u paced h. absurd (plain_not_delivered x b u plain h);
  paced = λ t h. h;
}

-- what may pass is within the rate
pub within_of : (t n : ℕ) (p : Option Paced) → IsPacedAt t (passed t n p) → KeepsWith p ((t, n) ∷ [])
within_of t n None h = tt
within_of t n (Some p) h = h.0

the_same : (a v b u : List ℕ) → said.Delivered a v ≡ said.Delivered b u → (b ≡ a) × (u ≡ v)
the_same a v b u h = (cc, cc)

arrival_is : (a : List ℕ) (m : Machine) (v : List ℕ) (x : Vnic) (ps : List Place) (frame : List ℕ) → rx_pace_at m v ≡ x.rx_pace → IsTxOf m x.rx_pace → IsArrival a m v frame (arrival a m v x ps frame)
arrival_is a m v x [] frame at of = plain_arrival a m v frame (said.DroppedNoBuffer a v) refl
arrival_is a m v x (p ∷ ps) frame at of = by (nat_lt (length (bytes_in m p)) (length frame)) (may_pass x.rx_pace m.now (length frame)) refl
  where
    by : (b c : Bool) → may_pass x.rx_pace m.now (length frame) ≡ c
        → IsArrival a m v frame (cond b (says m (said.DroppedTooLong a v)) (cond (not c) (says m (said.DroppedThrottled a v)) (says (received m v x p ps frame) (said.Delivered a v))))
    by true c is = plain_arrival a m v frame (said.DroppedTooLong a v) refl
    by false false is = plain_arrival a m v frame (said.DroppedThrottled a v) refl
    by false true is =
        let fits : (t : ℕ) → MachinePacedAt t m → IsPacedAt t (passed m.now (length frame) x.rx_pace) = λ t h. passed_paced t m.now (length frame) x.rx_pace h.0 (of t h) is in
        record {
          unsent = λ h. absurd cc;
          unrefused = λ y h. absurd cc;
          delivered = λ t b u h e.
              let same = the_same a v b u e in
              (same.0, same.1, subst (λ q. KeepsWith q ((t, length frame) ∷ [])) (sym at) (within_of t (length frame) x.rx_pace (subst (λ n. IsPacedAt t (passed n (length frame) x.rx_pace)) h.0 (fits t h))));
          paced = received_leads m v x p ps frame fits;
        }

pub arrive_is : (a : List ℕ) (m : Machine) (v frame : List ℕ) → IsArrival a m v frame (arrive a m v frame)
arrive_is a m v frame = by (vnic_at m v) refl (λ t h. vnic_at_paced t m v h)
  where
    by : (o : Option Vnic) → vnic_at m v ≡ o → ((t : ℕ) → MachinePacedAt t m → VnicPaced t o) → IsArrival a m v frame (unwrap_or (option_map (λ x. arrival a m v x x.rx.posted frame) o) (says m said.DroppedNoFilter))
    by None is of = plain_arrival a m v frame said.DroppedNoFilter refl
    by (Some x) is of = arrival_is a m v x x.rx.posted frame (ap (λ o. option_and_then (λ (y : Vnic). y.rx_pace) o) is) (λ t h. (of t h).0)
