-- Network cards, as words on them come to their rows.
use Rattle.std.proofs.Common.{◌≡◌, ℕ, true, false, List, [], ◌∷◌, refl, sym, ◌∙◌, ap, subst, arith}
use Rattle.std.specs.Prelude.{Option, Some, None, Result, Ok, Err, is_ok, is_some, is_none, option_map, unwrap_or, nat_le}
use Rattle.std.proofs.lemmas.Bool.{false≢true}
use Rattle.ark_base.specs.declared.refusal.Refusal.{Refusal}
use Rattle.ark_base.specs.declared.refusal.Refusal.TheVariants as r
use Rattle.ark_caps.specs.Labels.{value_at}
use Rattle.ark_caps.specs.declared.capability.Capability.{Capability}
use Rattle.ark_caps.specs.declared.capability.CapKind.{CapKind}
use Rattle.ark_caps.specs.declared.capability.CapKind.TheVariants as cap_kind
use Rattle.ark_objects.specs.Held.{at as slot, Changes}
use Rattle.ark_vic.specs.Queue.{members}
use Rattle.ark_vic.specs.declared.door.Counts.{Counts}
use Rattle.ark_machine.specs.Objects
use Rattle.ark_machine.specs.Objects.{Object, Vnic, as_vnic, held_in}
use Rattle.ark_machine.specs.Machine.{Held, at, vnic_at, with_object}
use Rattle.ark_machine.specs.Network.{is_rx_full, is_socketed}
use Rattle.ark_held.specs.Words.{Labels}
use Rattle.ark_held.specs.Totals.{socket_count}
use Rattle.ark_held.specs.Kept.{NetKept}
use Rattle.ark_held.specs.Rings.{card_kept}
use Rattle.ark_held.specs.Nets.{kept_net, net_kept}
use Rattle.ark_held.specs.Pacing.{rate_kept}
use Rattle.ark_held.specs.Around.{Around, Each, Both}
use Rattle.ark_held.specs.Cards.{IsPaced, IsWatched}
use Rattle.ark_held.specs.Network.{IsNet, IsReceiving, IsReceived, IsSending, IsSent}
use Rattle.ark_held.specs.Held.{IsObjectOf, AtLabel, Holds, has_key, is_net, is_net_kind}
use Rattle.ark_held.specs.Keeps.{Keeps, PlaceWithin, Within, any_label, any_piece}
use Rattle.ark_held.specs.Beyond.{Beyond, around}
use Rattle.ark_held.specs.declared.allowance.Allowance.{Allowance}
use Rattle.ark_held.specs.declared.app.App.{App}
use Rattle.ark_held.specs.declared.card.StorageCard.{StorageCard}
use Rattle.ark_held.specs.declared.network_card.NetworkCard.{NetworkCard}
use Rattle.ark_held.proofs.Lists.{not_some, some_same, other_name, each_kept, each_length}
use Rattle.ark_held.proofs.ByKind.{net_of, no_net}
use Rattle.ark_held.proofs.Creating.{but}
use Rattle.ark_held.proofs.Finding.{found}
use Rattle.ark_held.proofs.Granted.{not_but}
use Rattle.ark_held.proofs.Keeping.{receiving_kept, received_kept, sending_kept, sent_kept, paced_kept, watched_kept}
use Rattle.ark_held.proofs.Opens.{stays_same}
use Rattle.ark_held.proofs.Parts.{KeepsParts, CountsAlike, alter_keeps, alike_all, altered}
use Rattle.ark_held.proofs.Staying.{within}
use Rattle.ark_own.specs.Keys.{net_key, net_under, key_if_net}
use Rattle.ark_own.proofs.Looked.{Looked, is_there, is_missing}

-- What is under a label.

pub record HasNet (x : Around) (l : List ℕ) (key : ℕ) : Type 0 where
  pub held : Held
  pub cap : Capability
  pub vnic : Vnic
  pub label : value_at x.labels l ≡ Some cap
  pub key_is : cap.key ≡ key
  pub there : at x.machine l ≡ Some held
  pub object : held.object ≡ Objects.vnic vnic
  pub fits : IsNet x l cap vnic

abbrev pub HasNone : Around → List ℕ → Refusal → Type 0
HasNone x l (r.NoGrant k) = (k ≡ l) × (at x.machine l ≡ None)
HasNone x l r.WrongKind = (h : Held) × (at x.machine l ≡ Some h) × (as_vnic h.object ≡ None)
HasNone x l _ = ⊥

abbrev pub FoundAs : Around → List ℕ → Result ℕ Refusal → Type 0
FoundAs x l (Ok key) = HasNet x l key
FoundAs x l (Err e) = HasNone x l e

module _ (x : Around) (l : List ℕ) where
  by_kind : (c : Capability) (k : CapKind) (h : Held) → c.kind ≡ k → value_at x.labels l ≡ Some c → at x.machine l ≡ Some h → IsObjectOf x l c h.object → FoundAs x l (key_if_net k c.key)
  by_kind c cap_kind.Vnic h kind label there f =
      let d = net_of x l c h.object f kind in
      record { held = h; cap = c; vnic = d.0; label = label; key_is = refl; there = there; object = d.1; fits = d.2 }
  by_kind c cap_kind.Vsa h kind label there f = (h, there, no_net x l c h.object f (λ e. cc (kind, e)))
  by_kind c cap_kind.Door h kind label there f = (h, there, no_net x l c h.object f (λ e. cc (kind, e)))
  by_kind c cap_kind.Vsic h kind label there f = (h, there, no_net x l c h.object f (λ e. cc (kind, e)))
  by_kind c cap_kind.Filter h kind label there f = (h, there, no_net x l c h.object f (λ e. cc (kind, e)))
  by_kind c cap_kind.Rate h kind label there f = (h, there, no_net x l c h.object f (λ e. cc (kind, e)))
  by_kind c cap_kind.Buf h kind label there f = (h, there, no_net x l c h.object f (λ e. cc (kind, e)))
  by_kind c cap_kind.Sock h kind label there f = (h, there, no_net x l c h.object f (λ e. cc (kind, e)))

  by_label : (c : Option Capability) (o : Option Held) → value_at x.labels l ≡ c → at x.machine l ≡ o → AtLabel x l c o → FoundAs x l (net_under l c)
  by_label None None label there m = (refl, there)
  by_label (Some c) (Some h) label there m = by_kind c c.kind h refl label there m.object
  by_label None (Some h) label there m = absurd m
  by_label (Some c) None label there m = absurd m

  pub found_net : Holds x → (res : Result ℕ Refusal) → res ≡ net_key x.labels l → FoundAs x l res
  found_net h res is = subst (λ (z : Result ℕ Refusal). FoundAs x l z) (sym is) (by_label (value_at x.labels l) (at x.machine l) refl refl (found x l x.labels x.machine.held h.held))

  pub net_looked : (p : Result ℕ Refusal) → FoundAs x l p → Looked x.machine (l ∷ []) (is_none (vnic_at x.machine l)) p
  net_looked (Ok key) f = (is_there x.machine l (rw f.there refl), rw (f.there, f.object) refl)
  net_looked (Err (r.NoGrant k)) f = is_missing x.machine l (rw f.1 refl) ∙ ap (λ z. Some z) (sym f.0)
  net_looked (Err r.WrongKind) f = (is_there x.machine l (rw f.1 refl), rw (f.1, f.2) refl)
  net_looked (Err _) f = absurd f

-- what is no network card by its label is none by its object
pub other_kind : (x : Around) → Holds x → (l : List ℕ) → is_net (value_at x.labels l) ≡ false → (h : Held) → at x.machine l ≡ Some h → as_vnic h.object ≡ None
other_kind x holds l other h there = by (value_at x.labels l) (at x.machine l) other there (found x l x.labels x.machine.held holds.held)
  where
    not_net : (c : Capability) → is_net_kind c.kind ≡ false → c.kind ≡ cap_kind.Vnic → ⊥
    not_net c none is = false≢true (sym none ∙ ap is_net_kind is)

    by : (c : Option Capability) (o : Option Held) → is_net c ≡ false → o ≡ Some h → AtLabel x l c o → as_vnic h.object ≡ None
    by (Some c) (Some g) none is m = ap (λ (z : Held). as_vnic z.object) (sym (some_same (Some g) g h refl is)) ∙ no_net x l c g.object m.object (not_net c none)
    by None None none is m = absurd (not_some None h refl is)
    by None (Some g) none is m = absurd m
    by (Some c) None none is m = absurd m

-- a network card's label has its key
pub net_at : (l : List ℕ) (o : Option Capability) (e : Refusal) → is_net o ≡ true → Err e ≡ net_under l o → ⊥
net_at l None e net is = false≢true net
net_at l (Some c) e net is = by c.kind net is
  where
    by : (k : CapKind) → is_net_kind k ≡ true → Err e ≡ key_if_net k c.key → ⊥
    by cap_kind.Vnic net is = false≢true (ap is_ok is)
    by _ net is = false≢true net

-- a card by its key, as the code has it
module _ (app : App) (l : List ℕ) (key : ℕ) (is : Ok key ≡ net_key app.labels l) where
  pub its : (y : Beyond) → Holds (around y app) → HasNet (around y app) l key
  its y h = found_net (around y app) l h (Ok key) is

  entry_is : (y : Beyond) (v : HasNet (around y app) l key) → net_kept app.devices.nets.cards key ≡ Some v.fits.net
  entry_is y v = ap (λ k. net_kept app.devices.nets.cards k) (sym v.key_is) ∙ v.fits.kept

  -- a card's label has its card
  pub never_gone : (y : Beyond) → Holds (around y app) → slot app.devices.nets.cards key ≡ None → ⊥
  never_gone y h gone = not_some (net_kept app.devices.nets.cards key) (its y h).fits.net (ap (λ o. option_map kept_net o) gone) (entry_is y (its y h))

  module _ (one : NetworkCard) (here : slot app.devices.nets.cards key ≡ Some one) (y : Beyond) (v : HasNet (around y app) l key) where
    pub entry_same : v.fits.net ≡ kept_net one
    entry_same = some_same (net_kept app.devices.nets.cards key) v.fits.net (kept_net one) (entry_is y v) (ap (λ o. option_map kept_net o) here)

    -- no word makes a socket so far
    pub no_socket : v.vnic.socketed ≡ false
    no_socket = sym v.fits.socketed ∙ ap (λ (k : NetKept). is_some k.ports) entry_same

    pub not_socketed : is_socketed y.machine l ≡ false
    not_socketed = rw (v.there, v.object) no_socket

    pub sockets_none : 0 ≡ socket_count y.machine l
    sockets_none = sym (ap (λ (k : NetKept). unwrap_or k.ports 0) entry_same) ∙ v.fits.sockets

    pub rx_same : held_in v.vnic.rx ≡ members one.vnic.rx
    rx_same =
        let posted = each_length (IsReceiving (around y app) v.fits.net.ports) v.fits.net.rx.posted v.vnic.rx.posted v.fits.rx_posted in
        let unreaped = each_length (IsReceived (around y app) v.fits.net.ports) v.fits.net.rx.unreaped v.vnic.rx.unreaped v.fits.rx_unreaped in
        let count : held_in v.vnic.rx ≡ members v.fits.net.rx = omega (arith, posted, unreaped) in
        count ∙ ap (λ (k : NetKept). members k.rx) entry_same

    pub tx_same : held_in v.vnic.tx ≡ members one.vnic.tx
    tx_same =
        let posted = each_length (IsSending (around y app) v.fits.net.ports) v.fits.net.tx.posted v.vnic.tx.posted v.fits.tx_posted in
        let unreaped = each_length (IsSent (around y app) v.fits.net.ports) v.fits.net.tx.unreaped v.vnic.tx.unreaped v.fits.tx_unreaped in
        let count : held_in v.vnic.tx ≡ members v.fits.net.tx = omega (arith, posted, unreaped) in
        count ∙ ap (λ (k : NetKept). members k.tx) entry_same

    pub full_same : is_rx_full y.machine l ≡ nat_le one.vnic.rx.size (members one.vnic.rx)
    full_same = rw (v.there, v.object) (ap (λ n. nat_le n (held_in v.vnic.rx)) (v.fits.rx_size ∙ ap (λ (k : NetKept). k.rx.size) entry_same) ∙ ap (λ n. nat_le one.vnic.rx.size n) rx_same)

    -- what a change leaves of the card's own content
    module _ (now : Around) (keeps : Keeps (but l) any_label any_piece (around y app) now) where
      within_all : Within any_label any_piece (Objects.vnic v.vnic)
      within_all = within (Objects.vnic v.vnic)

      pub rx_posted_now : Each (IsReceiving now None) one.vnic.rx.posted v.vnic.rx.posted
      rx_posted_now = subst (λ (k : NetKept). Each (IsReceiving now k.ports) k.rx.posted v.vnic.rx.posted) entry_same
          (each_kept (IsReceiving (around y app) v.fits.net.ports) (IsReceiving now v.fits.net.ports) (PlaceWithin any_label any_piece) (receiving_kept (but l) any_label any_piece (around y app) now keeps v.fits.net.ports) v.fits.net.rx.posted v.vnic.rx.posted within_all.0 v.fits.rx_posted)

      pub rx_unreaped_now : Each (IsReceived now None) one.vnic.rx.unreaped v.vnic.rx.unreaped
      rx_unreaped_now = subst (λ (k : NetKept). Each (IsReceived now k.ports) k.rx.unreaped v.vnic.rx.unreaped) entry_same
          (each_kept (IsReceived (around y app) v.fits.net.ports) (IsReceived now v.fits.net.ports) (λ u. PlaceWithin any_label any_piece u.0) (received_kept (but l) any_label any_piece (around y app) now keeps v.fits.net.ports) v.fits.net.rx.unreaped v.vnic.rx.unreaped within_all.1 v.fits.rx_unreaped)

      pub tx_posted_now : Each (IsSending now None) one.vnic.tx.posted v.vnic.tx.posted
      tx_posted_now = subst (λ (k : NetKept). Each (IsSending now k.ports) k.tx.posted v.vnic.tx.posted) entry_same
          (each_kept (IsSending (around y app) v.fits.net.ports) (IsSending now v.fits.net.ports) (λ p. PlaceWithin any_label any_piece p.0) (sending_kept (but l) any_label any_piece (around y app) now keeps v.fits.net.ports) v.fits.net.tx.posted v.vnic.tx.posted within_all.2 v.fits.tx_posted)

      pub tx_unreaped_now : Each (IsSent now None) one.vnic.tx.unreaped v.vnic.tx.unreaped
      tx_unreaped_now = subst (λ (k : NetKept). Each (IsSent now k.ports) k.tx.unreaped v.vnic.tx.unreaped) entry_same
          (each_kept (IsSent (around y app) v.fits.net.ports) (IsSent now v.fits.net.ports) (λ u. PlaceWithin any_label any_piece u.0) (sent_kept (but l) any_label any_piece (around y app) now keeps v.fits.net.ports) v.fits.net.tx.unreaped v.vnic.tx.unreaped within_all.3 v.fits.tx_unreaped)

      pub rx_pace_now : Both (IsPaced now) (kept_net one).rx_pace v.vnic.rx_pace
      rx_pace_now = subst (λ (k : NetKept). Both (IsPaced now) k.rx_pace v.vnic.rx_pace) entry_same (paced_kept (but l) any_label any_piece (around y app) now keeps v.fits.net.rx_pace v.vnic.rx_pace within_all.4 v.fits.rx_pace)

      pub tx_pace_now : Both (IsPaced now) (kept_net one).tx_pace v.vnic.tx_pace
      tx_pace_now = subst (λ (k : NetKept). Both (IsPaced now) k.tx_pace v.vnic.tx_pace) entry_same (paced_kept (but l) any_label any_piece (around y app) now keeps v.fits.net.tx_pace v.vnic.tx_pace within_all.5 v.fits.tx_pace)

      pub rx_door_now : Both (IsWatched now) one.rx.door v.vnic.rx_door
      rx_door_now = subst (λ (k : NetKept). Both (IsWatched now) k.rx_door v.vnic.rx_door) entry_same (watched_kept (but l) any_label any_piece (around y app) now keeps v.fits.net.rx_door v.vnic.rx_door within_all.6 v.fits.rx_door)

      pub tx_door_now : Both (IsWatched now) one.tx.door v.vnic.tx_door
      tx_door_now = subst (λ (k : NetKept). Both (IsWatched now) k.tx_door v.vnic.tx_door) entry_same (watched_kept (but l) any_label any_piece (around y app) now keeps v.fits.net.tx_door v.vnic.tx_door within_all.7 v.fits.tx_door)

-- Other doors and paces of the card under a label, where all else stays.
module _ (app app1 : App) (l : List ℕ) (key : ℕ) (is : Ok key ≡ net_key app.labels l) (one one1 : NetworkCard) (here : slot app.devices.nets.cards key ≡ Some one) (changes : Changes app.devices.nets.cards app1.devices.nets.cards key (Some one1)) (same_rx : one1.vnic.rx ≡ one.vnic.rx) (same_tx : one1.vnic.tx ≡ one.vnic.tx)
    (labels : app1.labels ≡ app.labels) (cards : app1.devices.cards ≡ app.devices.cards) (doors : app1.devices.doors ≡ app.devices.doors) (rates : app1.devices.rates ≡ app.devices.rates) (store : app1.store ≡ app.store) (areas : app1.areas ≡ app.areas) (y : Beyond) (h : Holds (around y app)) (v : HasNet (around y app) l key) where
  same_net : (k : List ℕ) (c : Capability) → but l k ≡ true → value_at app.labels k ≡ Some c → c.kind ≡ cap_kind.Vnic → net_kept app1.devices.nets.cards c.key ≡ net_kept app.devices.nets.cards c.key
  same_net k c stays at kind = ap (λ o. option_map kept_net o)
      (changes.others c.key (λ e. other_name l k (not_but l k stays) (h.own.keys l k v.cap c v.label at (v.fits.its_kind ∙ sym kind) (ap has_key v.fits.its_kind) (v.key_is ∙ sym e))))

  same_card : (k : ℕ) → card_kept app1.devices.cards k ≡ card_kept app.devices.cards k
  same_card k = ap (λ (cs : List (Option StorageCard)). card_kept cs k) cards

  parts : KeepsParts (but l) app app1
  parts = record {
    store = store;
    areas = areas;
    labels = λ k c at. ap (λ (ls : Labels). value_at ls k) labels ∙ at;
    logs = λ k c at kind q g there on. stays_same g q (card_kept app.devices.cards c.key) (card_kept app1.devices.cards c.key) (same_card c.key) there;
    cards = λ k c stays at kind. same_card c.key;
    doors = λ k c stays at kind. ap (λ (ds : List (Option Counts)). slot ds c.key) doors;
    rates = λ k c stays at kind. ap (λ (rs : List (Option Allowance)). rate_kept rs c.key) rates;
    nets = same_net;
  }

  module _ (v1 : Vnic) (only : v1 ≡ record v.vnic { rx_pace = v1.rx_pace; tx_pace = v1.tx_pace; rx_door = v1.rx_door; tx_door = v1.tx_door }) where
    abbrev pub after : Around
    after = around (record y { machine = with_object y.machine l (Objects.vnic v1) }) app1

    alike : CountsAlike v.held.object (Objects.vnic v1)
    alike = subst (λ (o : Object). CountsAlike o (Objects.vnic v1)) (sym v.object) (subst (λ (z : Vnic). CountsAlike (Objects.vnic v.vnic) (Objects.vnic z)) (sym only) (record { uses = λ k. refl; opens = λ k. refl; sockets = λ k. refl; covers = λ j. refl }))

    pub net_keeps : Keeps (but l) any_label any_piece (around y app) after
    net_keeps = alter_keeps y app app1 l v.held (Objects.vnic v1) h v.there labels parts alike

    pub net_set : Both (IsPaced after) (kept_net one1).rx_pace v1.rx_pace → Both (IsPaced after) (kept_net one1).tx_pace v1.tx_pace → Both (IsWatched after) one1.rx.door v1.rx_door → Both (IsWatched after) one1.tx.door v1.tx_door → Holds after
    net_set rx_pace tx_pace rx_door tx_door = altered y app app1 l v.held (Objects.vnic v1) h v.there labels parts alike
        (λ c at f. subst (λ (z : Capability). IsNet after l z v1) (some_same (value_at app.labels l) v.cap c v.label at) fits)
      where
        same : NetKept → NetKept
        same k = record k { rx = one1.vnic.rx; tx = one1.vnic.tx }

        rings : kept_net one1 ≡ record (kept_net one1) { rx = one.vnic.rx; tx = one.vnic.tx }
        rings = λ i. record (kept_net one1) { rx = same_rx i; tx = same_tx i }

        fits : IsNet after l v.cap v1
        fits = record {
          its_kind = v.fits.its_kind;
          net = record (kept_net one1) { rx = one.vnic.rx; tx = one.vnic.tx };
          kept = ap (λ i. net_kept app1.devices.nets.cards i) v.key_is ∙ ap (λ o. option_map kept_net o) changes.changed ∙ ap (λ k. Some k) rings;
          rx_size = ap (λ (z : Vnic). z.rx_size) only ∙ v.fits.rx_size ∙ ap (λ (k : NetKept). k.rx.size) (entry_same app l key is one here y v);
          tx_size = ap (λ (z : Vnic). z.tx_size) only ∙ v.fits.tx_size ∙ ap (λ (k : NetKept). k.tx.size) (entry_same app l key is one here y v);
          rx_posted = subst (λ (z : Vnic). Each (IsReceiving after None) one.vnic.rx.posted z.rx.posted) (sym only) (rx_posted_now app l key is one here y v after net_keeps);
          rx_unreaped = subst (λ (z : Vnic). Each (IsReceived after None) one.vnic.rx.unreaped z.rx.unreaped) (sym only) (rx_unreaped_now app l key is one here y v after net_keeps);
          rx_moved = ap (λ (z : Vnic). z.rx.moved) only ∙ v.fits.rx_moved ∙ ap (λ (k : NetKept). k.rx.moved) (entry_same app l key is one here y v);
          tx_posted = subst (λ (z : Vnic). Each (IsSending after None) one.vnic.tx.posted z.tx.posted) (sym only) (tx_posted_now app l key is one here y v after net_keeps);
          tx_unreaped = subst (λ (z : Vnic). Each (IsSent after None) one.vnic.tx.unreaped z.tx.unreaped) (sym only) (tx_unreaped_now app l key is one here y v after net_keeps);
          tx_moved = ap (λ (z : Vnic). z.tx.moved) only ∙ v.fits.tx_moved ∙ ap (λ (k : NetKept). k.tx.moved) (entry_same app l key is one here y v);
          rx_pace = rx_pace;
          tx_pace = tx_pace;
          rx_door = rx_door;
          tx_door = tx_door;
          socketed = sym (ap (λ (z : Vnic). z.socketed) only ∙ no_socket app l key is one here y v);
          sockets = sockets_none app l key is one here y v ∙ sym (alike_all y app app1 l v.held (Objects.vnic v1) h v.there labels parts alike l).2;
        }
