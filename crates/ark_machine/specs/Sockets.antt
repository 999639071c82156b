-- Sockets over a network card: `sock`, `sendto`, `recv`.
use Rattle.std.specs.Prelude.{ℕ, zero, suc, ◌+◌, Bool, true, false, not, ◌&&◌, ◌||◌, List, [], ◌∷◌, ◌++◌, length, take, map, replicate, nat_le, nat_lt, nat_eq, if◌then◌else◌, Option, Some, None, is_some, is_none, option_map, option_and_then, unwrap_or, bytes_eq, Result, Ok, Err}
use Rattle.ark_base.specs.Conditions.{none}
use Rattle.ark_packet.specs.Frame.{packet_in}
use Rattle.ark_packet.specs.Udp as udp
use Rattle.ark_packet.specs.Udp.{datagram_in}
use Rattle.ark_packet.specs.Written.{frame_of}
use Rattle.ark_packet.specs.declared.own.Own.{Own}
use Rattle.ark_packet.specs.declared.udp.Bad.{Bad}
use Rattle.ark_region.specs.Frames.{frames_of}
use Rattle.ark_script.specs.declared.said.Said.TheVariants as said
use Rattle.ark_machine.specs.Bytes.{Frames, place}
use Rattle.ark_machine.specs.Objects
use Rattle.ark_machine.specs.Objects.{Object, Vnic, Place, taken, Socket, Datagram, held_in}
use Rattle.ark_machine.specs.Machine.{Machine, at, vnic_at, socket_at, missing, is_full, held_count, holds_any, each_object, with_new, with_vnic, with_socket, live_frames, room_for}
use Rattle.ark_machine.specs.Row.{Row, Given, says, answer}
use Rattle.ark_machine.specs.Control.{is_socket_on}
use Rattle.ark_machine.specs.Network.{is_socketed, is_tx_full, posting_tx, bytes_in}

-- the bytes of a buffer for a frame that comes in
abbrev pub frame_room : ℕ
frame_room = 1514

-- no card has more sockets, and no socket more datagrams, than these
abbrev pub max_sockets : ℕ
max_sockets = 8

abbrev pub max_datagrams : ℕ
max_datagrams = 8

-- the places of n buffers of k frames, one after another at the least place that is left, or none where one has no place
abbrev pub places : List Frames → ℕ → ℕ → ℕ → Option (List ℕ)
places live k frames zero = Some []
places live k frames (suc n) = option_and_then (λ s. option_map (λ ss. s ∷ ss) (places ((s, k) ∷ live) k frames n)) (place live k frames)

-- Making a socket.

abbrev pub has_port : List ℕ → ℕ → Object → Bool
has_port v port (Objects.socket k) = bytes_eq v k.card && nat_eq k.port port
has_port v port o = false

abbrev pub sockets_on : Machine → List ℕ → ℕ
sockets_on m v = held_count (is_socket_on v) m

-- anything is posted or unreaped on either ring
abbrev pub is_used : Machine → List ℕ → Bool
is_used m v = unwrap_or (option_map (λ x. nat_lt 0 (held_in x.rx + held_in x.tx)) (vnic_at m v)) false

abbrev pub rx_size_of : Machine → List ℕ → ℕ
rx_size_of m v = unwrap_or (option_map (λ x. x.rx_size) (vnic_at m v)) 0

-- the places of the buffers that the card's first socket takes
abbrev pub card_places : Machine → List ℕ → Option (List ℕ)
card_places m v = places (live_frames m) (frames_of frame_room) m.frames (rx_size_of m v)

abbrev pub new_buffer : ℕ → ℕ → Place
new_buffer len s = taken (record { start = s; bytes = replicate len 0 })

-- all of them are posted to receive
abbrev pub with_buffers : List ℕ → Vnic → Vnic
with_buffers ss v = record v { socketed = true; rx = record v.rx { posted = v.rx.posted ++ map (new_buffer frame_room) ss } }

abbrev pub socketed_at : Machine → List ℕ → Option (List ℕ) → Machine
socketed_at m v None = m
socketed_at m v (Some ss) = with_vnic m v (with_buffers ss)

-- the machine whose card has its buffers
abbrev pub with_socket_card : Machine → List ℕ → Machine
with_socket_card m v = if is_socketed m v then m else socketed_at m v (card_places m v)

-- `sock A k v PORT`: a socket at a port; the card's first one takes a buffer for each place of the receive ring
abbrev pub sock : Machine → List ℕ → List ℕ → ℕ → Given → Row
sock m k v port g =
    answer m
    (record none {
      no_application = not m.made;
      name_taken = is_some (at m k);
      no_grant = missing m (v ∷ []);
      wrong_kind = is_none (vnic_at m v);
      limit = is_full m || nat_le max_sockets (sockets_on m v);
      busy = holds_any m (has_port v port) || (not (is_socketed m v) && is_used m v);
      no_buffer = not (is_socketed m v) && is_none (card_places m v);
      no_memory = g.no_memory;
    })
    (says (with_new (with_socket_card m v) k (Objects.socket (record { card = v; port = port; datagrams = [] }))) said.Ok)

-- Sending.

abbrev pub card_at : Machine → List ℕ → List ℕ
card_at m k = unwrap_or (option_map (λ x. x.card) (socket_at m k)) []

abbrev pub port_at : Machine → List ℕ → ℕ
port_at m k = unwrap_or (option_map (λ x. x.port) (socket_at m k)) 0

-- what was sent is reaped, and its buffers are given back
abbrev pub tx_reaped : Vnic → Vnic
tx_reaped v = record v { tx = record v.tx { unreaped = [] } }

abbrev pub sent_reaped : Machine → List ℕ → Machine
sent_reaped m k = with_vnic m (card_at m k) tx_reaped

-- the frame of a datagram from the socket's port
abbrev pub frame_from : Machine → List ℕ → Own → List ℕ → ℕ → List ℕ → List ℕ
frame_from m k own ip port payload =
    frame_of own (record { from = own.ip; to = ip; from_port = port_at m k; to_port = port; payload = payload })

-- a frame has so many bytes before its payload
abbrev pub frame_head : ℕ
frame_head = 42

abbrev pub frame_frames : List ℕ → ℕ
frame_frames payload = frames_of (frame_head + length payload)

-- a frame in a new buffer at this place is posted to transmit
abbrev pub posted_at : Machine → List ℕ → List ℕ → Option ℕ → Machine
posted_at m v frame None = m
posted_at m v frame (Some s) = with_vnic m v (posting_tx (taken (record { start = s; bytes = frame })) (length frame))

abbrev pub framed : Machine → List ℕ → Option Own → List ℕ → ℕ → List ℕ → List ℕ
framed m k None ip port payload = []
framed m k (Some own) ip port payload = frame_from m k own ip port payload

-- what is left to send once the ring was reaped
abbrev pub send_reaped : Machine → List ℕ → List ℕ → ℕ → List ℕ → Given → Row
send_reaped m k ip port payload g =
    answer m
    (record none {
      ring_full = is_tx_full m (card_at m k);
      no_buffer = is_none (room_for m (frame_frames payload));
    })
    (says (posted_at m (card_at m k) (framed m k g.own ip port payload) (room_for m (frame_frames payload))) said.Ok)

-- `sendto A k IP PORT HEX0`: reaps the transmit ring, also where the datagram is then refused, and posts it
abbrev pub sendto : Machine → List ℕ → List ℕ → ℕ → List ℕ → Given → Row
sendto m k ip port payload g =
    answer m
    (record none {
      no_application = not m.made;
      no_grant = missing m (k ∷ []);
      wrong_kind = is_none (socket_at m k);
    })
    (send_reaped (sent_reaped m k) k ip port payload g)

-- Receiving.

-- a datagram for the socket, if it is at its port and has room
abbrev pub delivered : List ℕ → udp.Datagram → Object → Object
delivered v d (Objects.socket k) =
    if has_port v d.to_port (Objects.socket k) && nat_lt (length k.datagrams) max_datagrams
    then Objects.socket (record k { datagrams = k.datagrams ++ (record { ip = d.from; port = d.from_port; payload = d.payload }) ∷ [] })
    else Objects.socket k
delivered v d o = o

abbrev pub with_datagram : Machine → List ℕ → Own → Result udp.Datagram Bad → Machine
with_datagram m v own (Err e) = m
with_datagram m v own (Ok d) = if bytes_eq own.ip d.to then each_object (delivered v d) m else m

-- a frame that was received is given to the socket that its datagram is for, else dropped
abbrev pub with_received : Machine → List ℕ → Own → List ℕ → Machine
with_received m v own frame = with_datagram m v own (datagram_in (packet_in frame))

-- oldest first
abbrev pub all_received : Machine → List ℕ → Own → List (Place × ℕ) → Machine
all_received m v own [] = m
all_received m v own (u ∷ us) = all_received (with_received m v own (take u.1 (bytes_in m u.0))) v own us

-- each buffer is posted again
abbrev pub rx_reaped : Vnic → Vnic
rx_reaped v = record v { rx = record v.rx { posted = v.rx.posted ++ map (λ u. u.0) v.rx.unreaped; unreaped = [] } }

abbrev pub unreaped_rx : Machine → List ℕ → List (Place × ℕ)
unreaped_rx m v = unwrap_or (option_map (λ x. x.rx.unreaped) (vnic_at m v)) []

abbrev pub pulled : Machine → List ℕ → Option Own → Machine
pulled m v None = m
pulled m v (Some own) = with_vnic (all_received m v own (unreaped_rx m v)) v rx_reaped

abbrev pub give_oldest : Machine → List ℕ → List Datagram → Row
give_oldest m k [] = says m said.Nothing
give_oldest m k (d ∷ ds) = record { machine = with_socket m k (λ x. record x { datagrams = ds }); said = said.Datagram d.ip d.port; bytes = d.payload; calls = [] }

abbrev pub datagrams_at : Machine → List ℕ → List Datagram
datagrams_at m k = unwrap_or (option_map (λ x. x.datagrams) (socket_at m k)) []

abbrev pub recv_pulled : Machine → List ℕ → Row
recv_pulled m k = give_oldest m k (datagrams_at m k)

-- `recv A k`: reaps the receive ring, and gives the socket's oldest datagram
abbrev pub recv : Machine → List ℕ → Given → Row
recv m k g =
    answer m
    (record none {
      no_application = not m.made;
      no_grant = missing m (k ∷ []);
      wrong_kind = is_none (socket_at m k);
    })
    (recv_pulled (pulled m (card_at m k) g.own) k)
