-- A frame that comes to a network card under a label comes to its row.
use Rattle.std.proofs.Common.{◌≡◌, ℕ, List, [], refl, sym, ◌∙◌, ap, subst}
use Rattle.std.specs.Prelude.{Option, Some, None, Ok, length, option_map}
use Rattle.ark_caps.specs.Labels.{value_at}
use Rattle.ark_caps.specs.declared.capability.Capability.{Capability}
use Rattle.ark_caps.specs.declared.capability.CapKind.{CapKind}
use Rattle.ark_media.specs.Calls.{Told}
use Rattle.ark_objects.specs.Held.{at as slot, Changes}
use Rattle.ark_script.specs.declared.said.Said.{Said}
use Rattle.ark_vic.specs.Pace.{Pace}
use Rattle.ark_vnic.specs.Arrivals.{HoldsFrame, arrived_of, arrived_for}
use Rattle.ark_vnic.specs.Card.{head_of, passed}
use Rattle.ark_vnic.specs.declared.arrived.Arrived.{Arrived}
use Rattle.ark_vnic.specs.declared.arrived.Arrived.TheVariants as arrived
use Rattle.ark_machine.specs.Machine.{Machine}
use Rattle.ark_machine.specs.Network as network
use Rattle.ark_machine.specs.Row.{Row, Given, says}
use Rattle.ark_held.specs.Words.{Labels, AreaList}
use Rattle.ark_held.specs.Kept.{NetKept, PaceKept, Tables}
use Rattle.ark_held.specs.Stored.{buffer_kept}
use Rattle.ark_held.specs.Rings.{card_kept}
use Rattle.ark_held.specs.Pacing.{rate_kept}
use Rattle.ark_held.specs.Nets.{kept_net, net_kept, with_arrival}
use Rattle.ark_held.specs.Around.{Around}
use Rattle.ark_held.specs.Frames.{said_of}
use Rattle.ark_held.specs.Held.{Holds}
use Rattle.ark_held.specs.Beyond.{Beyond, around, tables_of}
use Rattle.ark_held.specs.Does.{ActsAt}
use Rattle.ark_held.specs.Ringing.{IsWatching, RingsFor}
use Rattle.ark_held.specs.declared.allowance.Allowance.{Allowance}
use Rattle.ark_held.specs.declared.app.App.{App}
use Rattle.ark_held.specs.declared.buffer.Buffer.{Buffer}
use Rattle.ark_held.specs.declared.card.StorageCard.{StorageCard}
use Rattle.ark_held.specs.declared.network_card.NetworkCard.{NetworkCard}
use Rattle.ark_held.proofs.Brought.{Brings, WasBrought, arrived_kept, brings, brought}
use Rattle.ark_held.proofs.Doing.{comes_at}
use Rattle.ark_held.proofs.Lists.{some_same}
use Rattle.ark_held.proofs.Netting.{OnNet, on_net}
use Rattle.ark_held.proofs.Paces.{with_passed}
use Rattle.ark_own.specs.Keys.{IsNetOf, key_if_net, net_key, net_under}
use Rattle.ark_own.proofs.MovingCards.{as_kept, pace_back, watching}
use Rattle.ark_own.proofs.OfNets as nets
use Rattle.ark_own.proofs.OfNets.{HasNet, found_net}
use Rattle.ark_own.proofs.Places.{value_here}

-- What a table keeps of a card once a frame came.

pace_passed : (rate : ℕ) (p : Option Pace) (len now : ℕ) → option_map (as_kept rate) (passed p len now) ≡ option_map (with_passed len now) (option_map (as_kept rate) p)
pace_passed rate None len now = refl
pace_passed rate (Some p) len now = refl

kept_then : (one : NetworkCard) (a : Arrived) (len now : ℕ) → kept_net (with_arrival a len now one) ≡ arrived_kept (kept_net one) a len now
kept_then one arrived.Into len now = ap (λ (p : Option PaceKept). record (kept_net (with_arrival arrived.Into len now one)) { rx_pace = p }) (pace_passed one.rx.rate one.vnic.rx_pace len now)
kept_then one arrived.NoBuffer len now = refl
kept_then one arrived.TooLong len now = refl
kept_then one arrived.Throttled len now = refl

module _ (now : ℕ) (t : Told) (app app1 : App) (grant : ℕ) (frame v : List ℕ) (key : ℕ) (its : IsNetOf app.labels grant v key) where
  abbrev row : Machine → Given → Row
  row m g = network.arrive app.name m v frame

  -- what can't be
  pub no_label : (reply : Said) → ((l : List ℕ) (k : ℕ) → IsNetOf app.labels grant l k → ⊥) → ActsAt now t app app1 row [] reply []
  no_label reply none = absurd (none v key its)

  module _ (label : List ℕ) (found : ℕ) (is : IsNetOf app.labels grant label found) where
    module _ (y : Beyond) (h : Holds (around y app)) where
      at_v : value_at app.labels v ≡ Some its.cap
      at_v = value_here app.labels its.place (v, its.cap) h.apart its.there

      at_label : value_at app.labels label ≡ Some is.cap
      at_label = value_here app.labels is.place (label, is.cap) h.apart is.there

      -- a grant has one label
      same : v ≡ label
      same = h.own.grants v label its.cap is.cap at_v at_label (its.its_grant ∙ sym is.its_grant)

      keyed : Ok found ≡ net_key app.labels v
      keyed =
          let one : its.cap ≡ is.cap = some_same (value_at app.labels v) its.cap is.cap at_v (ap (λ (l : List ℕ). value_at app.labels l) same ∙ at_label) in
          sym (ap (λ (o : Option Capability). net_under v o) at_v ∙ ap (λ (k : CapKind). key_if_net k its.cap.key) its.its_kind ∙ ap (λ (k : ℕ). Ok k) (ap (λ (c : Capability). c.key) one ∙ is.its_key))

      pub the_net : HasNet (around y app) v found
      the_net = found_net (around y app) v h (Ok found) keyed

    pub no_card : (reply : Said) → slot app.devices.nets.cards found ≡ None → ActsAt now t app app row [] reply []
    no_card reply gone = comes_at now t app app row reply [] refl refl (λ y g tick came sited h. absurd (nets.never_gone app v found (keyed y h) y h gone))

    module _ (one : NetworkCard) (here : slot app.devices.nets.cards found ≡ Some one) (a : Arrived) (answer : a ≡ arrived_of one.vnic (length frame) now) (changes : Changes app.devices.nets.cards app1.devices.nets.cards found (Some (with_arrival a (length frame) now one)))
        (region : HoldsFrame one.vnic a frame app.store.region app1.store.region) (rings : IsWatching one.rx.door (slot app.devices.doors) → RingsFor a one.rx.door (slot app.devices.doors) (slot app1.devices.doors))
        (labels : app1.labels ≡ app.labels) (cards : app1.devices.cards ≡ app.devices.cards) (rates : app1.devices.rates ≡ app.devices.rates) (areas : app1.areas ≡ app.areas) (buffers : app1.store.buffers ≡ app.store.buffers) (name : app1.name ≡ app.name) where
      module _ (y : Beyond) (tick : y.now ≡ now) (h : Holds (around y app)) where
        abbrev c : HasNet (around y app) v found
        c = the_net y h

        abbrev k : NetKept
        k = kept_net one

        on : OnNet (around y app) v c.cap k c.vnic
        on = on_net (around y app) v c.cap k c.vnic c.held h c.label c.fits.its_kind c.there c.object (ap (λ i. net_kept app.devices.nets.cards i) c.key_is ∙ ap (λ (o : Option NetworkCard). option_map kept_net o) here)

        was_brought : WasBrought (around y app) c.cap.key k frame a app1.store.region (net_kept app1.devices.nets.cards) (slot app1.devices.doors)
        was_brought = record {
          answer = answer ∙ ap (λ (p : Option Pace). arrived_for (head_of one.vnic.rx) p (length frame) now) (sym (pace_back one.rx.rate one.vnic.rx_pace))
              ∙ ap (λ (n : ℕ). arrived_for (head_of one.vnic.rx) (option_map (λ z. z.pace) k.rx_pace) (length frame) n) (sym tick);
          sets = record {
            here = ap (λ i. net_kept app1.devices.nets.cards i) c.key_is ∙ ap (λ (o : Option NetworkCard). option_map kept_net o) changes.changed
                ∙ ap (λ (z : NetKept). Some z) (kept_then one a (length frame) now ∙ ap (λ (n : ℕ). arrived_kept k a (length frame) n) (sym tick));
            others = λ i other. ap (λ (o : Option NetworkCard). option_map kept_net o) (changes.others i (λ e. other (e ∙ sym c.key_is)));
          };
          holds = region;
          rings = rings (watching y app h one.rx.door c.vnic.rx_door on.fits.rx_door);
        }

        comes_so : Brings (around y app) (network.arrival app.name y.machine v c.vnic c.vnic.rx.posted frame) app.name v a app1.store.region (net_kept app1.devices.nets.cards) (slot app1.devices.doors)
        comes_so = brings (around y app) v c.cap k c.vnic on refl frame a app1.store.region (net_kept app1.devices.nets.cards) (slot app1.devices.doors) was_brought app.name

        row_is : network.arrive app.name y.machine v frame ≡ says comes_so.machine (said_of app.name label a)
        row_is =
            let at_card : network.arrive app.name y.machine v frame ≡ network.arrival app.name y.machine v c.vnic c.vnic.rx.posted frame = rw (c.there, c.object) refl in
            at_card ∙ comes_so.is ∙ ap (λ (l : List ℕ). says comes_so.machine (said_of app.name l a)) (same y h)

      pub came : ActsAt now t app app1 row [] (said_of app.name label a) []
      came = comes_at now t app app1 row (said_of app.name label a) [] areas name (λ y g tick came sited h. ((comes_so y tick h).machine, row_is y tick h, held_then y (comes_so y tick h).machine (comes_so y tick h).holds))
        where
          held_then : (y : Beyond) (m : Machine) → Holds (brought (around y app) app1.store.region (net_kept app1.devices.nets.cards) (slot app1.devices.doors) m) → Holds (around (record y { machine = m }) app1)
          held_then y m done =
              let z : Around = around (record y { machine = m }) app1 in
              let same : tables_of app1.store app1.devices ≡ record (tables_of app1.store app1.devices) { buffers = buffer_kept app.store.buffers; cards = card_kept app.devices.cards; rates = rate_kept app.devices.rates } =
              ap (λ (bs : List (Option Buffer)). record (tables_of app1.store app1.devices) { buffers = buffer_kept bs }) buffers
              ∙ ap (λ (cs : List (Option StorageCard)). record (tables_of app1.store app1.devices) { buffers = buffer_kept app.store.buffers; cards = card_kept cs }) cards
              ∙ ap (λ (rs : List (Option Allowance)). record (tables_of app1.store app1.devices) { buffers = buffer_kept app.store.buffers; cards = card_kept app.devices.cards; rates = rate_kept rs }) rates in
              subst (λ (ls : Labels). Holds (record z { labels = ls })) (sym labels)
              (subst (λ (es : AreaList). Holds (record z { labels = app.labels; areas = es })) (sym areas)
              (subst (λ (ts : Tables). Holds (record z { labels = app.labels; areas = app.areas; tables = ts })) (sym same) done))
