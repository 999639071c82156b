-- A network card that changes, under its label and its key.
use Rattle.std.proofs.Common.{◌≡◌, ℕ, List, refl, sym, ◌∙◌, ap, subst, arith}
use Rattle.std.specs.Prelude.{Option, Some, None, is_some, unwrap_or}
use Rattle.ark_caps.specs.Labels.{value_at}
use Rattle.ark_caps.specs.declared.capability.Capability.{Capability}
use Rattle.ark_caps.specs.declared.capability.CapKind.TheVariants as cap_kind
use Rattle.ark_machine.specs.Objects
use Rattle.ark_machine.specs.Objects.{Object, Vnic}
use Rattle.ark_machine.specs.Machine.{Machine, Held, at, with_object}
use Rattle.ark_machine.specs.Control.{is_open_on, is_socket_on}
use Rattle.ark_held.specs.Totals.{bit, total, uses, socket_count, object_covers}
use Rattle.ark_held.specs.Kept.{NetKept}
use Rattle.ark_held.specs.Around.{Around, Each, Both}
use Rattle.ark_held.specs.Cards.{IsPaced, IsWatched}
use Rattle.ark_held.specs.Network.{IsNet, IsReceiving, IsReceived, IsSending, IsSent}
use Rattle.ark_held.specs.Held.{Holds, IsObjectOf, has_key}
use Rattle.ark_held.specs.Keeps.{Keeps, PlaceWithin, LabelWithin, Within, any_label, any_piece}
use Rattle.ark_held.specs.Ringing.{Sets}
use Rattle.ark_held.proofs.Lists.{some_same, each_kept}
use Rattle.ark_held.proofs.Besides.{same_history}
use Rattle.ark_held.proofs.Changing.{changed, same_put}
use Rattle.ark_held.proofs.Creating.{but}
use Rattle.ark_held.proofs.Devising.{key_apart}
use Rattle.ark_held.proofs.Finding.{stands_at}
use Rattle.ark_held.proofs.Keeping.{receiving_kept, received_kept, sending_kept, sent_kept, paced_kept, watched_kept}
use Rattle.ark_held.proofs.Opens.{stays_same}
use Rattle.ark_held.proofs.Spreading.{spread_same}
use Rattle.ark_held.proofs.Staying.{within}

-- what is around the application with these network cards, and this machine
abbrev pub with_nets : Around → (ℕ → Option NetKept) → Machine → Around
with_nets x nets machine = record x { tables = record x.tables { nets = nets }; machine = machine }

-- a kept card stands for a machine's card under a label
pub record NetStands (x : Around) (v : List ℕ) (k : NetKept) (net : Vnic) : Type 0 where
  pub rx_size : net.rx_size ≡ k.rx.size
  pub tx_size : net.tx_size ≡ k.tx.size
  pub rx_posted : Each (IsReceiving x k.ports) k.rx.posted net.rx.posted
  pub rx_unreaped : Each (IsReceived x k.ports) k.rx.unreaped net.rx.unreaped
  pub rx_moved : net.rx.moved ≡ k.rx.moved
  pub tx_posted : Each (IsSending x k.ports) k.tx.posted net.tx.posted
  pub tx_unreaped : Each (IsSent x k.ports) k.tx.unreaped net.tx.unreaped
  pub tx_moved : net.tx.moved ≡ k.tx.moved
  pub rx_pace : Both (IsPaced x) k.rx_pace net.rx_pace
  pub tx_pace : Both (IsPaced x) k.tx_pace net.tx_pace
  pub rx_door : Both (IsWatched x) k.rx_door net.rx_door
  pub tx_door : Both (IsWatched x) k.tx_door net.tx_door
  pub socketed : is_some k.ports ≡ net.socketed
  pub sockets : unwrap_or k.ports 0 ≡ socket_count x.machine v

-- the card under a label, kept and held
pub record OnNet (x : Around) (v : List ℕ) (c : Capability) (k : NetKept) (net : Vnic) : Type 0 where
  pub holds : Holds x
  pub named : value_at x.labels v ≡ Some c
  pub kind : c.kind ≡ cap_kind.Vnic
  pub held : Held
  pub there : at x.machine v ≡ Some held
  pub object : held.object ≡ Objects.vnic net
  pub was : x.tables.nets c.key ≡ Some k
  pub fits : NetStands x v k net

net_stands : (x : Around) (v : List ℕ) (c : Capability) (net : Vnic) (f : IsNet x v c net) → NetStands x v f.net net
net_stands x v c net f = record {
  rx_size = f.rx_size;
  tx_size = f.tx_size;
  rx_posted = f.rx_posted;
  rx_unreaped = f.rx_unreaped;
  rx_moved = f.rx_moved;
  tx_posted = f.tx_posted;
  tx_unreaped = f.tx_unreaped;
  tx_moved = f.tx_moved;
  rx_pace = f.rx_pace;
  tx_pace = f.tx_pace;
  rx_door = f.rx_door;
  tx_door = f.tx_door;
  socketed = f.socketed;
  sockets = f.sockets;
}

pub on_net : (x : Around) (v : List ℕ) (c : Capability) (k : NetKept) (net : Vnic) (held : Held) → Holds x → value_at x.labels v ≡ Some c → c.kind ≡ cap_kind.Vnic → at x.machine v ≡ Some held → held.object ≡ Objects.vnic net → x.tables.nets c.key ≡ Some k
    → OnNet x v c k net
on_net x v c k net held h named kind there object was =
    let s = stands_at x v c h named in
    let same : s.held ≡ held = some_same (at x.machine v) s.held held s.there there in
    let f : IsNet x v c net = subst (λ (o : Object). IsObjectOf x v c o) (ap (λ (z : Held). z.object) same ∙ object) s.matches.object in record {
      holds = h;
      named = named;
      kind = kind;
      held = held;
      there = there;
      object = object;
      was = was;
      fits = subst (λ (z : NetKept). NetStands x v z net) (some_same (x.tables.nets c.key) f.net k f.kept was) (net_stands x v c net f);
    }

module _ (x : Around) (v : List ℕ) (c : Capability) (k : NetKept) (net : Vnic) (on : OnNet x v c k net) (new : Vnic) (now : NetKept) (nets : ℕ → Option NetKept) (sets : Sets c.key now x.tables.nets nets)
    (used : (l : List ℕ) → uses l (Objects.vnic new) ≡ uses l (Objects.vnic net)) (covers : (j : ℕ) → object_covers j (Objects.vnic new) ≡ object_covers j (Objects.vnic net)) (fits : NetStands x v now new) where
  abbrev machine : Machine
  machine = with_object x.machine v (Objects.vnic new)

  abbrev pub y : Around
  y = with_nets x nets machine

  count : (f : Object → ℕ) → f (Objects.vnic new) ≡ f (Objects.vnic net) → total (λ z. f z.object) machine.held ≡ total (λ z. f z.object) x.machine.held
  count f same = same_put x on.holds v (Objects.vnic new) on.held f on.there (ap f on.object ∙ sym same)

  keeps : Keeps (but v) any_label any_piece x y
  keeps = record {
    now = omega arith;
    numbers = λ i n is. is;
    frames = refl;
    base = refl;
    bytes = λ p rests. refl;
    granted = λ l d i is old. is;
    spread = λ i g a old is. spread_same x.areas g a is;
    labels = λ l d named is. is;
    places = λ l d named is kind. refl;
    logs = λ s l d e card stays at named is kind there on_it. stays_same d.grant card (x.tables.cards e.key) (x.tables.cards e.key) refl there;
    buffers = λ l d stays is kind. refl;
    cards = λ l d stays is kind. refl;
    nets = λ l d other is kind. sets.others d.key (key_apart x on.holds v c on.named (ap has_key on.kind) l d other is (kind ∙ sym on.kind));
    doors = λ l d stays is kind. refl;
    rates = λ l d stays is kind. refl;
    sockets = λ l d stays is kind. refl;
    rules = λ l d stays is kind. refl;
    areas = λ l d stays is kind. refl;
    slots = λ l stays. refl;
    history = λ l u stays is. same_history x.history u.blocks;
    lent = λ l stays. count (uses l) (used l);
    opened = λ l stays. count (λ o. bit (is_open_on l o)) refl;
    socketed = λ l stays. count (λ o. bit (is_socket_on l o)) refl;
  }

  abbrev its : Within any_label any_piece (Objects.vnic new)
  its = within (Objects.vnic new)

  net_now : IsNet y v c new
  net_now = record {
    its_kind = on.kind;
    net = now;
    kept = sets.here;
    rx_size = fits.rx_size;
    tx_size = fits.tx_size;
    rx_posted = each_kept (IsReceiving x now.ports) (IsReceiving y now.ports) (PlaceWithin any_label any_piece) (receiving_kept (but v) any_label any_piece x y keeps now.ports) now.rx.posted new.rx.posted its.0 fits.rx_posted;
    rx_unreaped = each_kept (IsReceived x now.ports) (IsReceived y now.ports) (λ u. PlaceWithin any_label any_piece u.0) (received_kept (but v) any_label any_piece x y keeps now.ports) now.rx.unreaped new.rx.unreaped its.1 fits.rx_unreaped;
    rx_moved = fits.rx_moved;
    tx_posted = each_kept (IsSending x now.ports) (IsSending y now.ports) (λ p. PlaceWithin any_label any_piece p.0) (sending_kept (but v) any_label any_piece x y keeps now.ports) now.tx.posted new.tx.posted its.2 fits.tx_posted;
    tx_unreaped = each_kept (IsSent x now.ports) (IsSent y now.ports) (λ u. PlaceWithin any_label any_piece u.0) (sent_kept (but v) any_label any_piece x y keeps now.ports) now.tx.unreaped new.tx.unreaped its.3 fits.tx_unreaped;
    tx_moved = fits.tx_moved;
    rx_pace = paced_kept (but v) any_label any_piece x y keeps now.rx_pace new.rx_pace its.4 fits.rx_pace;
    tx_pace = paced_kept (but v) any_label any_piece x y keeps now.tx_pace new.tx_pace its.5 fits.tx_pace;
    rx_door = watched_kept (but v) any_label any_piece x y keeps now.rx_door new.rx_door its.6 fits.rx_door;
    tx_door = watched_kept (but v) any_label any_piece x y keeps now.tx_door new.tx_door its.7 fits.tx_door;
    socketed = fits.socketed;
    sockets = fits.sockets ∙ sym (count (λ o. bit (is_socket_on v o)) refl);
  }

  -- the machine has the card too
  pub net_holds : Holds y
  net_holds = changed x y on.holds v on.held (Objects.vnic new) on.there any_piece keeps (λ p l apart inn m. within l.object) refl refl refl refl refl (λ l none. refl)
      (λ j. let same = covers j in let old : object_covers j on.held.object ≡ object_covers j (Objects.vnic net) = ap (object_covers j) on.object in omega (arith, same, old))
      (λ d is m. subst (λ (z : Capability). IsNet y v z new) (some_same (value_at x.labels v) c d on.named is) net_now)

  -- a door that watches a side of it still does
  pub still_watched : (key : Option ℕ) (door : Option (List ℕ)) → Both (IsWatched x) key door → Both (IsWatched y) key door
  still_watched key door watched = watched_kept (but v) any_label any_piece x y keeps key door (any_door door) watched
    where
      any_door : (d : Option (List ℕ)) → LabelWithin any_label any_piece d
      any_door None = tt
      any_door (Some l) = refl
