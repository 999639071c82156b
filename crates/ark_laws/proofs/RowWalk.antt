-- One walk over the rows of all words but eight: a relation of machines that holds of each plain change holds of what these words do.
use Rattle.std.proofs.Common.{◌≡◌, ℕ, Bool, true, false, List, [], ◌∷◌, map, refl, sym, ◌∙◌, cond, take}
use Rattle.std.proofs.lemmas.Bool.{false≢true}
use Rattle.std.specs.Prelude.{Option, Some, None, Result, Ok, Err, is_none, is_some, find, unwrap_or, option_map, bytes_eq}
use Rattle.ark_base.specs.Conditions.{Conditions, early, late}
use Rattle.ark_base.specs.declared.kind.Kind.{Kind}
use Rattle.ark_base.specs.declared.kind.Kind.TheVariants as kinds
use Rattle.ark_base.specs.declared.kind.Outcome.{Outcome}
use Rattle.ark_base.specs.declared.refusal.Refusal.{Refusal}
use Rattle.ark_packet.specs.Frame.{packet_in}
use Rattle.ark_packet.specs.Udp as udp
use Rattle.ark_packet.specs.Udp.{datagram_in}
use Rattle.ark_packet.specs.declared.own.Own.{Own}
use Rattle.ark_packet.specs.declared.udp.Bad.{Bad}
use Rattle.ark_filters.specs.declared.filter.Direction.{Direction}
use Rattle.ark_filters.specs.declared.filter.Direction.TheVariants as direction
use Rattle.ark_vic.specs.declared.door.Counts.{Counts}
use Rattle.ark_script.specs.Line as w
use Rattle.ark_script.specs.Line.{Line}
use Rattle.ark_script.specs.declared.step.Side.{Side}
use Rattle.ark_script.specs.declared.step.Side.TheVariants as side
use Rattle.ark_machine.specs.Objects
use Rattle.ark_machine.specs.Objects.{Object, Vnic, Socket, Job, Place, Datagram}
use Rattle.ark_machine.specs.Machine.{Machine, Held, holding, at, vnic_at, with_object, each_object, with_new, with_vnic, with_socket, log_at, door_at, bytes_at, serial_at, room_for, with_log}
use Rattle.ark_machine.specs.Row.{Row, Given, Ended, has_fault, synced_by, answer, unless_refused}
use Rattle.ark_machine.specs.Areas.{new_area, block_written, grown, raw_written}
use Rattle.ark_machine.specs.Bytes.{padded}
use Rattle.ark_machine.specs.Buffers.{with_new_buffer}
use Rattle.ark_machine.specs.Rates.{pace_of, with_pace, with_door, no_rings}
use Rattle.ark_machine.specs.Cards.{reap_oldest, unreaped_at, bound_with, bound_without}
use Rattle.ark_machine.specs.Network.{take_received, take_sent, take_oldest, received_at, sent_at, is_socketed, bytes_in}
use Rattle.ark_machine.specs.Sockets.{with_buffers, socketed_at, with_socket_card, card_places, card_at, tx_reaped, sent_reaped, posted_at, framed, frame_frames, delivered, with_datagram, with_received, all_received, rx_reaped, unreaped_rx, pulled, give_oldest, datagrams_at}
use Rattle.ark_machine.specs.Logs.{opening, opened_on, opened_machine, damage_of, found_in, closing, card_of}
use Rattle.ark_machine.specs.Step.{step}
use Rattle.ark_laws.proofs.Granted.{kind_and_limit}
use Rattle.ark_laws.proofs.Seen.{name_free}
use Rattle.ark_laws.proofs.Walk.{Walk, polled_goes, settles_goes}

-- an object as it is granted: no network card and no filter, and with no pace
abbrev pub is_new : Object → Bool
is_new (Objects.vsic v) = is_none v.pace
is_new (Objects.vnic v) = false
is_new (Objects.filter f c) = false
is_new _ = true

-- R holds of each plain change of a row
pub record RowWalk (R : Machine → Machine → Type 0) : Type 0 where
  pub walk : Walk R
  pub created : (m : Machine) (l : List ℕ) (o : Object) → is_some (at m l) ≡ false → is_new o ≡ true → R m (with_new m l o)
  -- a network card whose paces stay, and the frames that are posted to transmit
  pub vnic : (m : Machine) (v : List ℕ) (f : Vnic → Vnic) → ((x : Vnic) → (f x).rx_pace ≡ x.rx_pace) → ((x : Vnic) → (f x).tx_pace ≡ x.tx_pace) → ((x : Vnic) → (f x).tx.posted ≡ x.tx.posted)
      → R m (with_vnic m v f)
  pub paces : (m : Machine) (v : List ℕ) (q : Side) (o : Option (List ℕ)) → R m (with_pace m v q (pace_of m o))
  pub socket : (m : Machine) (k : List ℕ) (f : Socket → Socket) → R m (with_socket m k f)
  pub delivers : (m : Machine) (v : List ℕ) (d : udp.Datagram) → R m (each_object (delivered v d) m)
  pub sends : (m : Machine) (v frame : List ℕ) (o : Option ℕ) → R m (posted_at m v frame o)
  pub looks : (m : Machine) (d : List ℕ) (c : Counts) → door_at m d ≡ Some c → R m (with_object m d (Objects.door no_rings))

area_new : (k : Kind) (n : ℕ) → is_new (new_area k n) ≡ true
area_new kinds.Raw n = refl
area_new kinds.Log n = refl
area_new kinds.Queue n = refl

-- taking buffers takes no label
socket_free : (m : Machine) (k v : List ℕ) → is_some (at m k) ≡ false → is_some (at (with_socket_card m v) k) ≡ false
socket_free m k v free = by (is_socketed m v) (card_places m v)
  where
    set_free : (o : Object) → is_some (at (with_object m v o) k) ≡ is_some (at m k)
    set_free o = labelled m.held
      where
        labelled : (hs : List Held) → is_some (find (λ h. bytes_eq k h.label) (map (λ h. cond (bytes_eq v h.label) (holding o h) h) hs)) ≡ is_some (find (λ h. bytes_eq k h.label) hs)
        labelled [] = refl
        labelled (x ∷ xs) = two (bytes_eq v x.label) (bytes_eq k x.label) refl (labelled xs)
          where
            two : (b t : Bool) → bytes_eq k x.label ≡ t → is_some (find (λ h. bytes_eq k h.label) (map (λ h. cond (bytes_eq v h.label) (holding o h) h) xs)) ≡ is_some (find (λ h. bytes_eq k h.label) xs)
                → is_some (find (λ h. bytes_eq k h.label) (cond b (holding o x) x ∷ map (λ h. cond (bytes_eq v h.label) (holding o h) h) xs)) ≡ is_some (cond t (Some x) (find (λ h. bytes_eq k h.label) xs))
            two true true e rest = rw e refl
            two false true e rest = rw e refl
            two true false e rest = rw e rest
            two false false e rest = rw e rest

    card_free : (o : Option Vnic) (ss : List ℕ) → is_some (at (unwrap_or (option_map (λ x. with_object m v (Objects.vnic (with_buffers ss x))) o) m) k) ≡ false
    card_free None ss = free
    card_free (Some x) ss = set_free (Objects.vnic (with_buffers ss x)) ∙ free

    by : (b : Bool) (o : Option (List ℕ)) → is_some (at (cond b m (socketed_at m v o)) k) ≡ false
    by true o = free
    by false None = free
    by false (Some ss) = card_free (vnic_at m v) ss

-- the words whose rows are no plain changes
abbrev pub is_plain_word : Line → Bool
is_plain_word (w.app a frames) = false
is_plain_word (w.vnic a v rx tx) = false
is_plain_word (w.filter a f rule) = false
is_plain_word (w.assign a v f) = false
is_plain_word (w.drop a x) = false
is_plain_word (w.free a b) = false
is_plain_word (w.send a v b len) = false
is_plain_word (w.dev a v) = false
is_plain_word _ = true

module _ (R : Machine → Machine → Type 0) (rows : RowWalk R) where
  cond_goes : (m k n : Machine) (b : Bool) → R m k → R m n → R m (cond b k n)
  cond_goes m k n true f g = f
  cond_goes m k n false f g = g

  synced_goes : (m k : Machine) (ends : List Ended) → R m k → R m (synced_by ends k)
  synced_goes m k ends f = rows.walk.then m k (synced_by ends k) f (rows.walk.syncs _ k)

  pub block_goes : (m : Machine) (s : List ℕ) (off : ℕ) (block : List ℕ) (es : List Ended) → R m (block_written m s off block es)
  block_goes m s off block [] = rows.walk.same m
  block_goes m s off block (e ∷ es) = rows.walk.raw m s (raw_written off block e.took)

  buffer_goes : (m : Machine) (b : List ℕ) (len : ℕ) (o : Option ℕ) → is_some (at m b) ≡ false → R m (with_new_buffer m b len o)
  buffer_goes m b len None free = rows.walk.same m
  buffer_goes m b len (Some start) free = rows.created m b _ free refl

  pub watch_goes : (m : Machine) (v : List ℕ) (q : Side) (d : Option (List ℕ)) → R m (with_door m v q d)
  watch_goes m v side.Rx d = rows.vnic m v _ (λ x. refl) (λ x. refl) (λ x. refl)
  watch_goes m v side.Tx d = rows.vnic m v _ (λ x. refl) (λ x. refl) (λ x. refl)
  watch_goes m v side.Io d = rows.walk.vsic m v _ (λ x. refl)

  reap_goes : (m : Machine) (v : List ℕ) (us : List (Job × Outcome)) → R m (reap_oldest m v us).machine
  reap_goes m v [] = rows.walk.same m
  reap_goes m v (u ∷ us) = rows.walk.vsic m v _ (λ x. refl)

  received_goes : (m : Machine) (v : List ℕ) (us : List (Place × ℕ)) → R m (take_received m v us).machine
  received_goes m v [] = rows.walk.same m
  received_goes m v (u ∷ us) = rows.vnic m v _ (λ x. refl) (λ x. refl) (λ x. refl)

  sent_goes : (m : Machine) (v : List ℕ) (us : List (Place × Outcome)) → R m (take_sent m v us).machine
  sent_goes m v [] = rows.walk.same m
  sent_goes m v (u ∷ us) = rows.vnic m v _ (λ x. refl) (λ x. refl) (λ x. refl)

  oldest_goes : (d : Direction) (m : Machine) (v : List ℕ) → R m (take_oldest d m v).machine
  oldest_goes direction.Rx m v = received_goes m v (received_at m v)
  oldest_goes direction.Tx m v = sent_goes m v (sent_at m v)

  socketed_goes : (m : Machine) (v : List ℕ) (o : Option (List ℕ)) → R m (socketed_at m v o)
  socketed_goes m v None = rows.walk.same m
  socketed_goes m v (Some ss) = rows.vnic m v (with_buffers ss) (λ x. refl) (λ x. refl) (λ x. refl)

  pub socket_card_goes : (m : Machine) (v : List ℕ) → R m (with_socket_card m v)
  socket_card_goes m v = cond_goes m m (socketed_at m v (card_places m v)) (is_socketed m v) (rows.walk.same m) (socketed_goes m v (card_places m v))

  pub sent_reaped_goes : (m : Machine) (k : List ℕ) → R m (sent_reaped m k)
  sent_reaped_goes m k = rows.vnic m (card_at m k) tx_reaped (λ x. refl) (λ x. refl) (λ x. refl)

  datagram_goes : (m : Machine) (v : List ℕ) (own : Own) (d : Result udp.Datagram Bad) → R m (with_datagram m v own d)
  datagram_goes m v own (Err e) = rows.walk.same m
  datagram_goes m v own (Ok d) = cond_goes m (each_object (delivered v d) m) m (bytes_eq own.ip d.to) (rows.delivers m v d) (rows.walk.same m)

  all_received_goes : (m : Machine) (v : List ℕ) (own : Own) (us : List (Place × ℕ)) → R m (all_received m v own us)
  all_received_goes m v own [] = rows.walk.same m
  all_received_goes m v own (u ∷ us) =
      let frame : List ℕ = take u.1 (bytes_in m u.0) in
      rows.walk.then m (with_received m v own frame) _ (datagram_goes m v own (datagram_in (packet_in frame))) (all_received_goes (with_received m v own frame) v own us)

  pub pulled_goes : (m : Machine) (v : List ℕ) (own : Option Own) → R m (pulled m v own)
  pulled_goes m v None = rows.walk.same m
  pulled_goes m v (Some own) =
      let after : Machine = all_received m v own (unreaped_rx m v) in
      rows.walk.then m after _ (all_received_goes m v own (unreaped_rx m v)) (rows.vnic after v rx_reaped (λ x. refl) (λ x. refl) (λ x. refl))

  give_goes : (m : Machine) (k : List ℕ) (ds : List Datagram) → R m (give_oldest m k ds).machine
  give_goes m k [] = rows.walk.same m
  give_goes m k (d ∷ ds) = rows.socket m k _

  look_goes : (m : Machine) (d : List ℕ) → is_none (door_at m d) ≡ false → R m (with_object m d (Objects.door no_rings))
  look_goes m d h = by (door_at m d) refl h
    where
      by : (o : Option Counts) → door_at m d ≡ o → is_none o ≡ false → R m (with_object m d (Objects.door no_rings))
      by None is e = absurd (false≢true (sym e))
      by (Some c) is e = rows.looks m d c is

  pub opened_goes : (m : Machine) (s v : List ℕ) (g : Given) → R m (opened_machine m s v g)
  opened_goes m s v g =
      let one : Machine = with_log m s (opening v (room_for m 1)) in
      cond_goes m (synced_by g.ended m) _ (has_fault g.ended) (synced_goes m m g.ended (rows.walk.same m))
      (cond_goes m m (synced_by g.ended (opened_on m s v)) (is_some (damage_of (found_in (log_at m s)))) (rows.walk.same m)
      (synced_goes m (opened_on m s v) g.ended (rows.walk.then m one (opened_on m s v) (rows.walk.log m s (opening v (room_for m 1))) (rows.walk.vsic one v (bound_with (serial_at m s)) (λ x. refl)))))

  -- the row is used only where it is not refused
  answer_goes : (m : Machine) (c : Conditions) (row : Row) → (c.name_taken ≡ false → c.wrong_kind ≡ false → R m row.machine) → R m (answer m c row).machine
  unfolding answer
  answer_goes m c row h = by (early c) (late c) refl
    where
      by : (one two : Option Refusal) → early c ≡ one → R m (unless_refused one two m row).machine
      by (Some x) two e = rows.walk.same m
      by None None e = h (name_free c e) (kind_and_limit c e).0
      by None (Some y) e = h (name_free c e) (kind_and_limit c e).0

  pub row_goes : (m : Machine) (line : Line) (g : Given) → is_plain_word line ≡ true → R m (step m line g).machine
  unfolding step
  row_goes m (w.app a x1) g h = absurd (false≢true h)
  row_goes m (w.vnic a x1 x2 x3) g h = absurd (false≢true h)
  row_goes m (w.filter a x1 x2) g h = absurd (false≢true h)
  row_goes m (w.assign a x1 x2) g h = absurd (false≢true h)
  row_goes m (w.drop a x1) g h = absurd (false≢true h)
  row_goes m (w.free a x1) g h = absurd (false≢true h)
  row_goes m (w.send a x1 x2 x3) g h = absurd (false≢true h)
  row_goes m (w.dev a x1) g h = absurd (false≢true h)
  row_goes m (w.vsic a x1 x2) g h = answer_goes m _ _ (λ free kind. rows.created m x1 _ free refl)
  row_goes m (w.vsa a x1 x2 x3) g h =
      answer_goes m _ _ (λ free kind. synced_goes m _ g.ended (cond_goes m m _ (has_fault g.ended) (rows.walk.same m) (rows.created m x1 (new_area x3 x2) free (area_new x3 x2))))
  row_goes m (w.grow a x1 x2) g h = answer_goes m _ _ (λ free kind. synced_goes m _ g.ended (cond_goes m m _ (has_fault g.ended) (rows.walk.same m) (rows.walk.raw m x1 (grown x2))))
  row_goes m (w.bind a x1 x2) g h = answer_goes m _ _ (λ free kind. rows.walk.vsic m x1 _ (λ x. refl))
  row_goes m (w.unbind a x1 x2) g h = answer_goes m _ _ (λ free kind. rows.walk.vsic m x1 _ (λ x. refl))
  row_goes m (w.rate a x1 x2 x3) g h = answer_goes m _ _ (λ free kind. rows.created m x1 _ free refl)
  row_goes m (w.pace a x1 x2 x3) g h = answer_goes m _ _ (λ free kind. rows.paces m x1 x3 x2)
  row_goes m (w.door a x1) g h = answer_goes m _ _ (λ free kind. rows.created m x1 _ free refl)
  row_goes m (w.watch a x1 x2 x3) g h = answer_goes m _ _ (λ free kind. watch_goes m x1 x3 x2)
  row_goes m (w.buf a x1 x2) g h = answer_goes m _ _ (λ free kind. buffer_goes m x1 x2 _ free)
  row_goes m (w.fill a x1 x2 x3) g h = answer_goes m _ _ (λ free kind. rows.walk.bytes m x1 x2 x3)
  row_goes m (w.show a x1 x2 x3) g h = answer_goes m _ _ (λ free kind. rows.walk.same m)
  row_goes m (w.copy a x1 x2 x3) g h = answer_goes m _ _ (λ free kind. rows.walk.bytes m x2 0 (take x3 (bytes_at m x1)))
  row_goes m (w.peek a x1 x2) g h = answer_goes m _ _ (λ free kind. rows.walk.same m)
  row_goes m (w.poke a x1 x2 x3) g h = answer_goes m _ _ (λ free kind. block_goes m x1 x2 (padded x3) g.ended)
  row_goes m (w.get a x1 x2 x3 x4 x5) g h = answer_goes m _ _ (λ free kind. rows.walk.vsic m x1 _ (λ x. refl))
  row_goes m (w.put a x1 x2 x3 x4 x5) g h = answer_goes m _ _ (λ free kind. rows.walk.vsic m x1 _ (λ x. refl))
  row_goes m (w.flush a x1) g h = answer_goes m _ _ (λ free kind. rows.walk.vsic m x1 _ (λ x. refl))
  row_goes m (w.reap a x1) g h = answer_goes m _ _ (λ free kind. reap_goes m x1 (unreaped_at m x1))
  row_goes m (w.post a x1 x2) g h = answer_goes m _ _ (λ free kind. rows.vnic m x1 _ (λ x. refl) (λ x. refl) (λ x. refl))
  row_goes m (w.take a x1 x2) g h = answer_goes m _ _ (λ free kind. oldest_goes x2 m x1)
  row_goes m (w.sock a x1 x2 x3) g h =
      answer_goes m _ _ (λ free kind. rows.walk.then m (with_socket_card m x2) _ (socket_card_goes m x2) (rows.created (with_socket_card m x2) x1 _ (socket_free m x1 x2 free) refl))
  row_goes m (w.sendto a x1 x2 x3 x4) g h =
      let n : Machine = sent_reaped m x1 in
      answer_goes m _ _ (λ free kind. rows.walk.then m n _ (sent_reaped_goes m x1)
      (answer_goes n _ _ (λ unused fine. rows.sends n (card_at n x1) (framed n x1 g.own x2 x3 x4) (room_for n (frame_frames x4)))))
  row_goes m (w.recv a x1) g h =
      let n : Machine = pulled m (card_at m x1) g.own in
      answer_goes m _ _ (λ free kind. rows.walk.then m n _ (pulled_goes m (card_at m x1) g.own) (give_goes n x1 (datagrams_at n x1)))
  row_goes m (w.look a x1) g h = answer_goes m _ _ (λ free kind. look_goes m x1 kind)
  row_goes m (w.log a x1 x2) g h = answer_goes m _ _ (λ free kind. opened_goes m x1 x2 g)
  row_goes m (w.queue a x1 x2) g h = answer_goes m _ _ (λ free kind. opened_goes m x1 x2 g)
  row_goes m (w.append a x1 x2) g h = answer_goes m _ _ (λ free kind. rows.walk.log m x1 _)
  row_goes m (w.push a x1 x2) g h = answer_goes m _ _ (λ free kind. rows.walk.log m x1 _)
  row_goes m (w.trim a x1 x2) g h = answer_goes m _ _ (λ free kind. rows.walk.log m x1 _)
  row_goes m (w.pop a x1) g h = answer_goes m _ _ (λ free kind. rows.walk.log m x1 _)
  row_goes m (w.walk a x1 x2) g h = answer_goes m _ _ (λ free kind. rows.walk.same m)
  row_goes m (w.poll a x1) g h = answer_goes m _ _ (λ free kind. (polled_goes R rows.walk m x1).goes)
  row_goes m (w.settle a x1) g h = answer_goes m _ _ (λ free kind. (settles_goes R rows.walk m g.ended x1).goes)
  row_goes m (w.close a x1) g h =
      answer_goes m _ _ (λ free kind. rows.walk.then m (with_log m x1 closing) _ (rows.walk.log m x1 closing) (rows.walk.vsic (with_log m x1 closing) (card_of m x1) (bound_without (serial_at m x1)) (λ x. refl)))
  row_goes m (w.nic own) g h = rows.walk.same m
  row_goes m (w.wire frame) g h = rows.walk.same m
  row_goes m (w.tick n) g h = rows.walk.same m
