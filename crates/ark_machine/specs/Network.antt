-- Network cards: `vnic`, `filter`, `use`, `post`, `send`, `take`, a frame that goes out, and one that arrives.
use Rattle.std.specs.Prelude.{ℕ, Bool, true, false, not, ◌&&◌, ◌||◌, List, [], ◌∷◌, ◌++◌, length, take, nat_le, nat_lt, if◌then◌else◌, Option, Some, None, is_some, is_none, option_map, unwrap_or, bytes_eq}
use Rattle.ark_base.specs.Conditions.{none}
use Rattle.ark_base.specs.declared.kind.Outcome.{Outcome}
use Rattle.ark_base.specs.declared.kind.Outcome.TheVariants as outcome
use Rattle.ark_packet.specs.declared.own.Own.{Own}
use Rattle.ark_filters.specs.In.{is_in}
use Rattle.ark_filters.specs.declared.filter.Direction.{Direction}
use Rattle.ark_filters.specs.declared.filter.Direction.TheVariants as direction
use Rattle.ark_filters.specs.declared.filter.Filter.{Filter}
use Rattle.ark_vic.specs.declared.door.Bell.TheVariants as bell
use Rattle.ark_script.specs.declared.said.Said.TheVariants as said
use Rattle.ark_machine.specs.Bytes.{written}
use Rattle.ark_machine.specs.Objects
use Rattle.ark_machine.specs.Objects.{Object, Paced, Vnic, Place, named, taken, Buffer, held_in, no_queue, is_filter}
use Rattle.ark_machine.specs.Machine.{Machine, at, vnic_at, filter_at, buffer_at, missing, is_full, held_count, holds_any, with_new, with_object, with_vnic, bytes_at}
use Rattle.ark_machine.specs.Row.{Row, Given, says, answer}
use Rattle.ark_machine.specs.Buffers.{is_lent, with_bytes}
use Rattle.ark_machine.specs.Rates.{is_over_burst, may_pass, passed, rung}
use Rattle.ark_machine.specs.Cards.{no_more_cards}
use Rattle.ark_machine.specs.Moves.{Move, moves}

abbrev pub new_vnic : ℕ → ℕ → Object
new_vnic rx tx = Objects.vnic (record {
  rx_size = rx;
  tx_size = tx;
  rx = no_queue;
  tx = no_queue;
  rx_pace = None;
  tx_pace = None;
  rx_door = None;
  tx_door = None;
  socketed = false;
})

-- `vnic A v SIZE SIZE`: a network card, with a receive and a transmit ring of so many descriptors
abbrev pub vnic : Machine → List ℕ → ℕ → ℕ → Given → Row
vnic m v rx tx g =
    answer m
    (record none {
      no_application = not m.made;
      name_taken = is_some (at m v);
      limit = no_more_cards m;
      no_nic = g.no_nic;
      no_memory = g.no_memory;
    })
    (says (with_new m v (new_vnic rx tx)) said.Ok)

-- no application has more filters than these
abbrev pub max_filters : ℕ
max_filters = 16

-- `filter A f DIR PROTO PEERS SERVICES`: a filter, assigned to no card
abbrev pub filter : Machine → List ℕ → Filter → Given → Row
filter m f rule g =
    answer m
    (record none {
      no_application = not m.made;
      name_taken = is_some (at m f);
      limit = is_full m || nat_le max_filters (held_count is_filter m);
      no_nic = g.no_nic;
      overlap = g.overlap;
      no_memory = g.no_memory;
    })
    (says (with_new m f (Objects.filter rule None)) said.Ok)

abbrev pub assigned_to : Machine → List ℕ → List ℕ → Option Filter → Machine
assigned_to m v f None = m
assigned_to m v f (Some rule) = with_object m f (Objects.filter rule (Some v))

-- `use A v f`: the filter is assigned to the card, and to no other
abbrev pub assign : Machine → List ℕ → List ℕ → Given → Row
assign m v f g =
    answer m
    (record none {
      no_application = not m.made;
      no_grant = missing m (v ∷ f ∷ []);
      wrong_kind = is_none (vnic_at m v) || is_none (filter_at m f);
    })
    (says (assigned_to m v f (filter_at m f)) said.Ok)

abbrev pub is_socketed : Machine → List ℕ → Bool
is_socketed m v = unwrap_or (option_map (λ x. x.socketed) (vnic_at m v)) false

abbrev pub is_rx_full : Machine → List ℕ → Bool
is_rx_full m v = unwrap_or (option_map (λ x. nat_le x.rx_size (held_in x.rx)) (vnic_at m v)) false

abbrev pub is_tx_full : Machine → List ℕ → Bool
is_tx_full m v = unwrap_or (option_map (λ x. nat_le x.tx_size (held_in x.tx)) (vnic_at m v)) false

abbrev pub posting_rx : Place → Vnic → Vnic
posting_rx p v = record v { rx = record v.rx { posted = v.rx.posted ++ p ∷ [] } }

abbrev pub posting_tx : Place → ℕ → Vnic → Vnic
posting_tx p len v = record v { tx = record v.tx { posted = v.tx.posted ++ (p, len) ∷ [] } }

-- `post A v b`: posts the buffer to receive
abbrev pub post_rx : Machine → List ℕ → List ℕ → Given → Row
post_rx m v b g =
    answer m
    (record none {
      no_application = not m.made;
      no_grant = missing m (v ∷ b ∷ []);
      wrong_kind = is_none (vnic_at m v) || is_none (buffer_at m b);
      busy = is_socketed m v;
      lent = is_lent m b;
      ring_full = is_rx_full m v;
    })
    (says (with_vnic m v (posting_rx (named b))) said.Ok)

-- `send A v b LEN`: posts the buffer's first LEN bytes to transmit
abbrev pub send : Machine → List ℕ → List ℕ → ℕ → Given → Row
send m v b len g =
    answer m
    (record none {
      no_application = not m.made;
      no_grant = missing m (v ∷ b ∷ []);
      wrong_kind = is_none (vnic_at m v) || is_none (buffer_at m b);
      out_of_range = nat_lt (length (bytes_at m b)) len;
      busy = is_socketed m v;
      lent = is_lent m b;
      ring_full = is_tx_full m v;
    })
    (says (with_vnic m v (posting_tx (named b) len)) said.Ok)

-- the label of a buffer that the application named
abbrev pub name_of : Place → List ℕ
name_of (named b) = b
name_of (taken b) = []

abbrev pub take_received : Machine → List ℕ → List (Place × ℕ) → Row
take_received m v [] = says m said.Nothing
take_received m v (u ∷ us) = says (with_vnic m v (λ x. record x { rx = record x.rx { unreaped = us } })) (said.TakenRx (name_of u.0) u.1)

abbrev pub take_sent : Machine → List ℕ → List (Place × Outcome) → Row
take_sent m v [] = says m said.Nothing
take_sent m v (u ∷ us) = says (with_vnic m v (λ x. record x { tx = record x.tx { unreaped = us } })) (said.TakenTx (name_of u.0) u.1)

abbrev pub received_at : Machine → List ℕ → List (Place × ℕ)
received_at m v = unwrap_or (option_map (λ x. x.rx.unreaped) (vnic_at m v)) []

abbrev pub sent_at : Machine → List ℕ → List (Place × Outcome)
sent_at m v = unwrap_or (option_map (λ x. x.tx.unreaped) (vnic_at m v)) []

abbrev pub take_oldest : Direction → Machine → List ℕ → Row
take_oldest direction.Rx m v = take_received m v (received_at m v)
take_oldest direction.Tx m v = take_sent m v (sent_at m v)

-- `take A v rx` and `take A v tx`: takes the ring's oldest finished descriptor
abbrev pub take_frame : Machine → List ℕ → Direction → Given → Row
take_frame m v d g =
    answer m
    (record none {
      no_application = not m.made;
      no_grant = missing m (v ∷ []);
      wrong_kind = is_none (vnic_at m v);
      busy = is_socketed m v;
    })
    (take_oldest d m v)

-- A frame goes out.

abbrev pub is_transmit : Direction → Bool
is_transmit direction.Rx = false
is_transmit direction.Tx = true

-- it is a transmit filter that is assigned to the card, and the frame matches it
abbrev pub lets_out : List ℕ → Own → List ℕ → Object → Bool
lets_out v own frame (Objects.filter rule (Some card)) = bytes_eq v card && (is_transmit rule.direction && is_in rule frame own)
lets_out v own frame o = false

abbrev pub is_let_out : Machine → List ℕ → Option Own → List ℕ → Bool
is_let_out m v None frame = false
is_let_out m v (Some own) frame = holds_any m (lets_out v own frame)

abbrev pub bytes_in : Machine → Place → List ℕ
bytes_in m (named b) = bytes_at m b
bytes_in m (taken b) = b.bytes

abbrev pub tx_ending : Place → List (Place × ℕ) → Outcome → Vnic → Vnic
tx_ending p ps o v = record v { tx = record { posted = ps; moved = 0; unreaped = v.tx.unreaped ++ (p, o) ∷ [] } }

-- the oldest posted frame has ended, and the doorbell rings
abbrev pub tx_ended : Machine → List ℕ → Vnic → Place → List (Place × ℕ) → Outcome → Machine
tx_ended m v x p ps o = rung (with_vnic m v (tx_ending p ps o)) x.tx_door bell.Tx

abbrev pub tx_passed : Option Paced → Vnic → Vnic
tx_passed pace v = record v { tx_pace = pace }

-- the first of these that applies, else the frame goes out
abbrev pub frame_moves : Machine → List ℕ → Vnic → Option Own → Place → ℕ → List (Place × ℕ) → List ℕ → Move
frame_moves m v x own p len ps frame =
    if not (is_let_out m v own frame) then moves (tx_ended m v x p ps outcome.NoFilter) (said.Done outcome.NoFilter) []
    else if is_over_burst x.tx_pace len then moves (tx_ended m v x p ps outcome.OverBurst) (said.Done outcome.OverBurst) []
    else if not (may_pass x.tx_pace m.now len) then moves m said.Held []
    else record { machine = tx_ended (with_vnic m v (tx_passed (passed m.now len x.tx_pace))) v x p ps outcome.Ok; said = said.Sent; bytes = frame; calls = [] }

abbrev pub tx_moves : Machine → List ℕ → Vnic → Option Own → List (Place × ℕ) → Move
tx_moves m v x own [] = moves m said.Idle []
tx_moves m v x own (p ∷ ps) = frame_moves m v x own p.0 p.1 ps (take p.1 (bytes_in m p.0))

-- A frame arrives.

-- the bytes of a place with the frame at its front
abbrev pub with_frame : Machine → Place → List ℕ → Machine
with_frame m (named b) frame = with_bytes m b 0 frame
with_frame m (taken b) frame = m

abbrev pub filled_place : Place → List ℕ → Place
filled_place (named b) frame = named b
filled_place (taken b) frame = taken (record b { bytes = written b.bytes 0 frame })

abbrev pub rx_ending : Place → List Place → ℕ → Vnic → Vnic
rx_ending p ps len v = record v { rx = record { posted = ps; moved = 0; unreaped = v.rx.unreaped ++ (p, len) ∷ [] } }

abbrev pub rx_passed : Option Paced → Vnic → Vnic
rx_passed pace v = record v { rx_pace = pace }

-- the frame stands in the buffer of the oldest posted descriptor, which has ended, and the doorbell rings
abbrev pub received : Machine → List ℕ → Vnic → Place → List Place → List ℕ → Machine
received m v x p ps frame =
    rung (with_vnic (with_vnic (with_frame m p frame) v (rx_passed (passed m.now (length frame) x.rx_pace))) v (rx_ending (filled_place p frame) ps (length frame))) x.rx_door bell.Rx

abbrev pub arrival : List ℕ → Machine → List ℕ → Vnic → List Place → List ℕ → Row
arrival a m v x [] frame = says m (said.DroppedNoBuffer a v)
arrival a m v x (p ∷ ps) frame =
    if nat_lt (length (bytes_in m p)) (length frame) then says m (said.DroppedTooLong a v)
    else if not (may_pass x.rx_pace m.now (length frame)) then says m (said.DroppedThrottled a v)
    else says (received m v x p ps frame) (said.Delivered a v)

-- a frame at the card at a label, of application a
abbrev pub arrive : List ℕ → Machine → List ℕ → List ℕ → Row
arrive a m v frame = unwrap_or (option_map (λ x. arrival a m v x x.rx.posted frame) (vnic_at m v)) (says m said.DroppedNoFilter)
