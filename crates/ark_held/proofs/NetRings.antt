-- The receive ring of a network card and the right to a buffer change together: what stays, and what labels stand for then.
use Rattle.std.proofs.Common.{◌≡◌, ℕ, ◌+◌, Bool, false, not, ◌&&◌, List, sym, ◌∙◌, ap, subst, arith, bytes_eq, None}
use Rattle.std.specs.Prelude.{Option, Some, is_some, is_none, option_map, unwrap_or}
use Rattle.ark_objects.specs.Held.{at as key_at, Changes}
use Rattle.ark_caps.specs.Labels.{value_at}
use Rattle.ark_caps.specs.declared.capability.Capability.{Capability}
use Rattle.ark_caps.specs.declared.capability.CapKind.TheVariants as cap_kind
use Rattle.ark_region.specs.Frames.{Piece}
use Rattle.ark_vic.specs.Queue.{Queue}
use Rattle.ark_machine.specs.Objects
use Rattle.ark_machine.specs.Objects.{Object, Vnic, Buffer, Place}
use Rattle.ark_machine.specs.Machine.{Held, at, with_object}
use Rattle.ark_machine.specs.Control.{is_open_on, is_socket_on}
use Rattle.ark_held.specs.Totals.{bit, uses, object_covers, lent_count}
use Rattle.ark_held.specs.Kept.{NetKept}
use Rattle.ark_held.specs.Stored.{place_kept}
use Rattle.ark_held.specs.Rings.{card_kept}
use Rattle.ark_held.specs.Nets.{kept_net, net_kept, with_rx}
use Rattle.ark_held.specs.Around.{Around, Each, Both}
use Rattle.ark_held.specs.Cards.{IsBuffer, IsPaced, IsWatched}
use Rattle.ark_held.specs.Network.{IsNet, IsReceiving, IsReceived, IsSending, IsSent}
use Rattle.ark_held.specs.Held.{Holds, has_key}
use Rattle.ark_held.specs.Keeps.{Keeps, PlaceWithin, Within, any_label, any_piece}
use Rattle.ark_held.specs.Beyond.{Beyond, around}
use Rattle.ark_held.specs.declared.app.App.{App}
use Rattle.ark_held.specs.declared.buffer.Buffer as kept
use Rattle.ark_held.specs.declared.card.StorageCard.{StorageCard}
use Rattle.ark_held.specs.declared.network_card.NetworkCard.{NetworkCard}
use Rattle.ark_held.proofs.Lists.{other_name, some_same, each_kept}
use Rattle.ark_held.proofs.Keeping.{receiving_kept, received_kept, sending_kept, sent_kept, paced_kept, watched_kept}
use Rattle.ark_held.proofs.Opens.{stays_same}
use Rattle.ark_held.proofs.Staying.{within}
use Rattle.ark_held.proofs.Swapping as swapping
use Rattle.ark_held.proofs.Swapping.{Swaps}

-- a network card and a buffer under their labels
pub record HasNetAndBuffer (x : Around) (v b : List ℕ) : Type 0 where
  pub held : Held
  pub vnic : Vnic
  pub card : Capability
  pub there : at x.machine v ≡ Some held
  pub object : held.object ≡ Objects.vnic vnic
  pub card_label : value_at x.labels v ≡ Some card
  pub card_fits : IsNet x v card vnic
  pub cap : Capability
  pub buffer_label : value_at x.labels b ≡ Some cap
  pub buffer : Buffer
  pub buffer_fits : IsBuffer x b cap buffer

-- the card with another receive ring
abbrev pub with_received : Objects.Queue Place (Place × ℕ) → Vnic → Vnic
with_received q v = record v { rx = q }

module _ (r : Beyond) (app app1 : App) (v b : List ℕ) (h : Holds (around r app)) (both : HasNetAndBuffer (around r app) v b) (one : NetworkCard) (here : key_at app.devices.nets.cards both.card.key ≡ Some one) (lent : kept.Buffer)
    (was : key_at app.store.buffers both.cap.key ≡ Some lent) (ring : Queue) (queue : Objects.Queue Place (Place × ℕ)) (right : Option Piece)
    (nets : Changes app.devices.nets.cards app1.devices.nets.cards both.card.key (Some (with_rx ring one))) (buffers : Changes app.store.buffers app1.store.buffers both.cap.key (Some (record lent { buf = right })))
    (region : app1.store.region ≡ app.store.region) (labels : app1.labels ≡ app.labels) (cards : app1.devices.cards ≡ app.devices.cards) (doors : app1.devices.doors ≡ app.devices.doors) (rates : app1.devices.rates ≡ app.devices.rates) (areas : app1.areas ≡ app.areas)
    (used : (k : List ℕ) → bytes_eq k b ≡ false → uses k (Objects.vnic (with_received queue both.vnic)) ≡ uses k (Objects.vnic both.vnic)) (covers : (j : ℕ) → object_covers j (Objects.vnic both.vnic) ≡ object_covers j (Objects.vnic (with_received queue both.vnic))) where
  abbrev x : Around
  x = around r app

  abbrev o : Object
  o = Objects.vnic (with_received queue both.vnic)

  abbrev pub y : Around
  y = around (record r { machine = with_object r.machine v o }) app1

  abbrev rest : List ℕ → Bool
  rest k = not (bytes_eq v k) && not (bytes_eq b k)

  same_card : (key : ℕ) → card_kept app1.devices.cards key ≡ card_kept app.devices.cards key
  same_card key = ap (λ (cs : List (Option StorageCard)). card_kept cs key) cards

  other_net : (k : List ℕ) (c : Capability) → bytes_eq v k ≡ false → value_at app.labels k ≡ Some c → c.kind ≡ cap_kind.Vnic → net_kept app1.devices.nets.cards c.key ≡ net_kept app.devices.nets.cards c.key
  other_net k c apart is kind = ap (λ z. option_map kept_net z)
      (nets.others c.key (λ e. other_name v k apart (h.own.keys v k both.card c both.card_label is (both.card_fits.its_kind ∙ sym kind) (ap has_key both.card_fits.its_kind) (sym e))))

  abbrev swaps : Swaps r app app1 v b o right
  swaps = record {
    holds = h;
    held = both.held;
    there = both.there;
    card = both.card;
    card_label = both.card_label;
    cap = both.cap;
    buffer_label = both.buffer_label;
    buffer = both.buffer;
    buffer_fits = both.buffer_fits;
    lent = lent;
    was = was;
    buffers = buffers;
    region = region;
    labels = labels;
    doors = doors;
    rates = rates;
    areas = areas;
    cards = λ k c apart is kind. same_card c.key;
    nets = other_net;
    logs = λ k c is kind q grant there on. stays_same grant q (card_kept app.devices.cards c.key) (card_kept app1.devices.cards c.key) (same_card c.key) there;
    used = λ k apart. used k apart ∙ sym (ap (uses k) both.object);
    opens = λ k. ap (λ z. bit (is_open_on k z)) both.object;
    sockets = λ k. ap (λ z. bit (is_socket_on k z)) both.object;
    covers = λ j. ap (object_covers j) both.object ∙ covers j;
  }

  -- what the card's new descriptors add to the uses of a buffer
  pub lent_then : (k : List ℕ) → lent_count (with_object r.machine v o) k + uses k (Objects.vnic both.vnic) ≡ lent_count r.machine k + uses k o
  lent_then k =
      let put = swapping.lent_then r app app1 v b o right swaps k in
      let old : uses k both.held.object ≡ uses k (Objects.vnic both.vnic) = ap (uses k) both.object in
      omega (arith, put, old)

  keeps : Keeps rest any_label any_piece x y
  keeps = swapping.keeps r app app1 v b o right swaps

  pub entry_same : both.card_fits.net ≡ kept_net one
  entry_same = some_same (net_kept app.devices.nets.cards both.card.key) both.card_fits.net (kept_net one) both.card_fits.kept (ap (λ z. option_map kept_net z) here)

  pub was_lent : bit (is_none lent.buf) ≡ lent_count r.machine b
  was_lent = swapping.was_lent r app app1 v b o right swaps

  abbrev inside : Within any_label any_piece (Objects.vnic both.vnic)
  inside = within (Objects.vnic both.vnic)

  -- the card's descriptors, as they are then
  pub posted_then : Each (IsReceiving y None) one.vnic.rx.posted both.vnic.rx.posted
  posted_then = let f = both.card_fits in subst (λ (k : NetKept). Each (IsReceiving y k.ports) k.rx.posted both.vnic.rx.posted) entry_same
      (each_kept (IsReceiving x f.net.ports) (IsReceiving y f.net.ports) (PlaceWithin any_label any_piece) (receiving_kept rest any_label any_piece x y keeps f.net.ports) f.net.rx.posted both.vnic.rx.posted inside.0 f.rx_posted)

  pub unreaped_then : Each (IsReceived y None) one.vnic.rx.unreaped both.vnic.rx.unreaped
  unreaped_then = let f = both.card_fits in subst (λ (k : NetKept). Each (IsReceived y k.ports) k.rx.unreaped both.vnic.rx.unreaped) entry_same
      (each_kept (IsReceived x f.net.ports) (IsReceived y f.net.ports) (λ u. PlaceWithin any_label any_piece u.0) (received_kept rest any_label any_piece x y keeps f.net.ports) f.net.rx.unreaped both.vnic.rx.unreaped inside.1 f.rx_unreaped)

  pub moved_then : both.vnic.rx.moved ≡ one.vnic.rx.moved
  moved_then = both.card_fits.rx_moved ∙ ap (λ (k : NetKept). k.rx.moved) entry_same

  module _ (size : ring.size ≡ one.vnic.rx.size) (posted : Each (IsReceiving y None) ring.posted queue.posted) (unreaped : Each (IsReceived y None) ring.unreaped queue.unreaped) (moved : queue.moved ≡ ring.moved)
      (owned : (p : Piece) → right ≡ Some p → p ≡ place_kept lent) (counted : bit (is_none right) ≡ lent_count (with_object r.machine v o) b) where
    net_now : IsNet y v both.card (with_received queue both.vnic)
    net_now =
        let f = both.card_fits in
        record {
          its_kind = f.its_kind;
          net = kept_net (with_rx ring one);
          kept = ap (λ z. option_map kept_net z) nets.changed;
          rx_size = f.rx_size ∙ ap (λ (k : NetKept). k.rx.size) entry_same ∙ sym size;
          tx_size = f.tx_size ∙ ap (λ (k : NetKept). k.tx.size) entry_same;
          rx_posted = posted;
          rx_unreaped = unreaped;
          rx_moved = moved;
          tx_posted = subst (λ (k : NetKept). Each (IsSending y k.ports) k.tx.posted both.vnic.tx.posted) entry_same
              (each_kept (IsSending x f.net.ports) (IsSending y f.net.ports) (λ p. PlaceWithin any_label any_piece p.0) (sending_kept rest any_label any_piece x y keeps f.net.ports) f.net.tx.posted both.vnic.tx.posted inside.2 f.tx_posted);
          tx_unreaped = subst (λ (k : NetKept). Each (IsSent y k.ports) k.tx.unreaped both.vnic.tx.unreaped) entry_same
              (each_kept (IsSent x f.net.ports) (IsSent y f.net.ports) (λ u. PlaceWithin any_label any_piece u.0) (sent_kept rest any_label any_piece x y keeps f.net.ports) f.net.tx.unreaped both.vnic.tx.unreaped inside.3 f.tx_unreaped);
          tx_moved = f.tx_moved ∙ ap (λ (k : NetKept). k.tx.moved) entry_same;
          rx_pace = subst (λ (k : NetKept). Both (IsPaced y) k.rx_pace both.vnic.rx_pace) entry_same (paced_kept rest any_label any_piece x y keeps f.net.rx_pace both.vnic.rx_pace inside.4 f.rx_pace);
          tx_pace = subst (λ (k : NetKept). Both (IsPaced y) k.tx_pace both.vnic.tx_pace) entry_same (paced_kept rest any_label any_piece x y keeps f.net.tx_pace both.vnic.tx_pace inside.5 f.tx_pace);
          rx_door = subst (λ (k : NetKept). Both (IsWatched y) k.rx_door both.vnic.rx_door) entry_same (watched_kept rest any_label any_piece x y keeps f.net.rx_door both.vnic.rx_door inside.6 f.rx_door);
          tx_door = subst (λ (k : NetKept). Both (IsWatched y) k.tx_door both.vnic.tx_door) entry_same (watched_kept rest any_label any_piece x y keeps f.net.tx_door both.vnic.tx_door inside.7 f.tx_door);
          socketed = ap (λ (k : NetKept). is_some k.ports) (sym entry_same) ∙ f.socketed;
          sockets = ap (λ (k : NetKept). unwrap_or k.ports 0) (sym entry_same) ∙ f.sockets ∙ sym (swapping.sockets_same r app app1 v b o right swaps v);
        }

    pub net_exchanged : Holds y
    net_exchanged = swapping.swapped r app app1 v b o right swaps net_now owned counted
