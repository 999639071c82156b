-- The rows of `watch` and `pace` for a side of a network card.
use Rattle.std.proofs.Common.{◌≡◌, ℕ, List, [], refl, ◌∙◌, ap}
use Rattle.std.specs.Prelude.{Option, Some, None, Ok}
use Rattle.ark_filters.specs.declared.filter.Direction.{Direction}
use Rattle.ark_filters.specs.declared.filter.Direction.TheVariants as direction
use Rattle.ark_media.specs.Calls.{Told}
use Rattle.ark_script.specs.declared.said.Said.TheVariants as said
use Rattle.ark_objects.specs.Held.{at as slot, Changes}
use Rattle.ark_vic.specs.Pace.{Pace, IsPaceOf}
use Rattle.ark_machine.specs.Objects
use Rattle.ark_machine.specs.Objects.{Vnic, Paced}
use Rattle.ark_machine.specs.Machine.{Machine, with_object}
use Rattle.ark_machine.specs.Rates as rows
use Rattle.ark_machine.specs.Rates.{pace_of}
use Rattle.ark_machine.specs.Row.{says}
use Rattle.ark_held.specs.Nets.{with_door, with_pace}
use Rattle.ark_held.specs.Around.{Around, Both}
use Rattle.ark_held.specs.Cards.{IsPaced}
use Rattle.ark_held.specs.Held.{Holds}
use Rattle.ark_held.specs.Beyond.{Beyond, around}
use Rattle.ark_held.specs.Does.{Acts, ActsAt}
use Rattle.ark_held.specs.declared.allowance.Allowance.{Allowance}
use Rattle.ark_held.specs.declared.app.App.{App}
use Rattle.ark_held.specs.declared.network_card.NetworkCard.{NetworkCard}
use Rattle.ark_held.proofs.Doing.{comes, comes_at}
use Rattle.ark_own.specs.Keys.{both_keys, door_given, net_key, rate_given}
use Rattle.ark_own.specs.Sides.{side_of}
use Rattle.ark_own.proofs.OfNets.{HasNet, its, net_keeps, net_set, rx_pace_now, tx_pace_now, rx_door_now, tx_door_now}
use Rattle.ark_own.proofs.Pacing as pacing
use Rattle.ark_own.proofs.Pacing.{kept_pace, none_paces, paces_anew}
use Rattle.ark_own.proofs.Sides.{net_side}
use Rattle.ark_own.proofs.Watching as watching
use Rattle.ark_own.proofs.Watching.{watches}

-- a card with another door at a side
abbrev watched_at : Direction → Option (List ℕ) → Vnic → Vnic
watched_at direction.Rx d x = record x { rx_door = d }
watched_at direction.Tx d x = record x { tx_door = d }

-- a card with another pace of a side
abbrev paced_at : Direction → Option Paced → Vnic → Vnic
paced_at direction.Rx p x = record x { rx_pace = p }
paced_at direction.Tx p x = record x { tx_pace = p }

module _ (app app1 : App) (v : List ℕ) (key : ℕ) (one : NetworkCard) (here : slot app.devices.nets.cards key ≡ Some one)
    (labels : app1.labels ≡ app.labels) (cards : app1.devices.cards ≡ app.devices.cards) (doors : app1.devices.doors ≡ app.devices.doors) (rates : app1.devices.rates ≡ app.devices.rates) (store : app1.store ≡ app.store) (areas : app1.areas ≡ app.areas) (name : app1.name ≡ app.name) where
  -- A door.
  module _ (t : Told) (d : Option (List ℕ)) (at : Direction) (given : Option ℕ) (keys : Ok (key, given) ≡ both_keys (net_key app.labels v) (door_given app.labels d)) (changes : Changes app.devices.nets.cards app1.devices.nets.cards key (Some (with_door at given one))) where
    abbrev is : Ok key ≡ net_key app.labels v
    is = watching.is t app v d (side_of at) (net_key app.labels v) (net_side app v at) key given keys

    abbrev its_door : (y : Beyond) → Holds (around y app) → watching.FoundGiven (around y app) d (Ok given)
    its_door = watching.its_door t app v d (side_of at) (net_key app.labels v) (net_side app v at) key given keys

    holds : (z : Direction) → at ≡ z → Ok key ≡ net_key app.labels v → Changes app.devices.nets.cards app1.devices.nets.cards key (Some (with_door z given one)) → (y : Beyond) (h : Holds (around y app)) (c : HasNet (around y app) v key)
        → Holds (around (record y { machine = with_object y.machine v (Objects.vnic (watched_at z d c.vnic)) }) app1)
    holds direction.Rx e at_key set y h c =
        let keeps = net_keeps app app1 v key at_key one (with_door direction.Rx given one) here set refl refl labels cards doors rates store areas y h c (watched_at direction.Rx d c.vnic) refl in
        net_set app app1 v key at_key one (with_door direction.Rx given one) here set refl refl labels cards doors rates store areas y h c (watched_at direction.Rx d c.vnic) refl
        (rx_pace_now app v key at_key one here y c _ keeps) (tx_pace_now app v key at_key one here y c _ keeps) (watches (around y app) _ d given labels (its_door y h)) (tx_door_now app v key at_key one here y c _ keeps)
    holds direction.Tx e at_key set y h c =
        let keeps = net_keeps app app1 v key at_key one (with_door direction.Tx given one) here set refl refl labels cards doors rates store areas y h c (watched_at direction.Tx d c.vnic) refl in
        net_set app app1 v key at_key one (with_door direction.Tx given one) here set refl refl labels cards doors rates store areas y h c (watched_at direction.Tx d c.vnic) refl
        (rx_pace_now app v key at_key one here y c _ keeps) (tx_pace_now app v key at_key one here y c _ keeps) (rx_door_now app v key at_key one here y c _ keeps) (watches (around y app) _ d given labels (its_door y h))

    on_net : (z : Direction) (y : Beyond) (c : HasNet (around y app) v key) → rows.with_door y.machine v (side_of z) d ≡ with_object y.machine v (Objects.vnic (watched_at z d c.vnic))
    on_net direction.Rx y c = rw (c.there, c.object) refl
    on_net direction.Tx y c = rw (c.there, c.object) refl

    pub net_watched : Acts t app app1 (λ m g. rows.watch m v d (side_of at) g) [] said.Ok []
    net_watched = comes t app app1 (λ m g. rows.watch m v d (side_of at) g) said.Ok [] areas name (λ y g sited h.
        let c = its app v key is y h in (
          with_object y.machine v (Objects.vnic (watched_at at d c.vnic)),
          watching.row_done t app v d (side_of at) (net_key app.labels v) (net_side app v at) key given keys y g h ∙ ap (λ (m : Machine). says m said.Ok) (on_net at y c),
          holds at refl is changes y h c,
        ))

  -- A pace.
  module _ (now : ℕ) (t : Told) (d : Option (List ℕ)) (at : Direction) (given : Option ℕ) (keys : Ok (key, given) ≡ both_keys (net_key app.labels v) (rate_given app.labels d)) (pace : Option Pace) (rate : ℕ) (changes : Changes app.devices.nets.cards app1.devices.nets.cards key (Some (with_pace at rate pace one)))
      (begins : (y : Beyond) → y.now ≡ now → pacing.FoundGiven (around y app) d (Ok given) → (z : Around) → z.labels ≡ app.labels → z.now ≡ y.now → Both (IsPaced z) (kept_pace pace rate) (pace_of y.machine d)) where
    abbrev its_key : Ok key ≡ net_key app.labels v
    its_key = pacing.is t app v d (side_of at) (net_key app.labels v) (net_side app v at) key given keys

    abbrev its_rate : (y : Beyond) → Holds (around y app) → pacing.FoundGiven (around y app) d (Ok given)
    its_rate = pacing.its_rate t app v d (side_of at) (net_key app.labels v) (net_side app v at) key given keys

    holds_paced : (z : Direction) → Ok key ≡ net_key app.labels v → Changes app.devices.nets.cards app1.devices.nets.cards key (Some (with_pace z rate pace one)) → (y : Beyond) → y.now ≡ now → (h : Holds (around y app)) (c : HasNet (around y app) v key)
        → Holds (around (record y { machine = with_object y.machine v (Objects.vnic (paced_at z (pace_of y.machine d) c.vnic)) }) app1)
    holds_paced direction.Rx at_key set y tick h c =
        let keeps = net_keeps app app1 v key at_key one (with_pace direction.Rx rate pace one) here set refl refl labels cards doors rates store areas y h c (paced_at direction.Rx (pace_of y.machine d) c.vnic) refl in
        net_set app app1 v key at_key one (with_pace direction.Rx rate pace one) here set refl refl labels cards doors rates store areas y h c (paced_at direction.Rx (pace_of y.machine d) c.vnic) refl
        (begins y tick (its_rate y h) _ labels refl) (tx_pace_now app v key at_key one here y c _ keeps) (rx_door_now app v key at_key one here y c _ keeps) (tx_door_now app v key at_key one here y c _ keeps)
    holds_paced direction.Tx at_key set y tick h c =
        let keeps = net_keeps app app1 v key at_key one (with_pace direction.Tx rate pace one) here set refl refl labels cards doors rates store areas y h c (paced_at direction.Tx (pace_of y.machine d) c.vnic) refl in
        net_set app app1 v key at_key one (with_pace direction.Tx rate pace one) here set refl refl labels cards doors rates store areas y h c (paced_at direction.Tx (pace_of y.machine d) c.vnic) refl
        (rx_pace_now app v key at_key one here y c _ keeps) (begins y tick (its_rate y h) _ labels refl) (rx_door_now app v key at_key one here y c _ keeps) (tx_door_now app v key at_key one here y c _ keeps)

    paced_net : (z : Direction) (y : Beyond) (c : HasNet (around y app) v key) (p : Option Paced) → rows.with_pace y.machine v (side_of z) p ≡ with_object y.machine v (Objects.vnic (paced_at z p c.vnic))
    paced_net direction.Rx y c p = rw (c.there, c.object) refl
    paced_net direction.Tx y c p = rw (c.there, c.object) refl

    net_paced : ActsAt now t app app1 (λ m g. rows.pace m v d (side_of at) g) [] said.Ok []
    net_paced = comes_at now t app app1 (λ m g. rows.pace m v d (side_of at) g) said.Ok [] areas name (λ y g tick came sited h.
        let c = its app v key its_key y h in (
          with_object y.machine v (Objects.vnic (paced_at at (pace_of y.machine d) c.vnic)),
          pacing.row_done t app v d (side_of at) (net_key app.labels v) (net_side app v at) key given keys y g h ∙ ap (λ (m : Machine). says m said.Ok) (paced_net at y c (pace_of y.machine d)),
          holds_paced at its_key changes y tick h c,
        ))

  module _ (now : ℕ) (t : Told) (d : Option (List ℕ)) (at : Direction) where
    -- no rate paces it any more
    pub net_unpaced : Ok (key, None) ≡ both_keys (net_key app.labels v) (rate_given app.labels d) → Changes app.devices.nets.cards app1.devices.nets.cards key (Some (with_pace at 0 None one)) → ActsAt now t app app1 (λ m g. rows.pace m v d (side_of at) g) [] said.Ok []
    net_unpaced keys changes = net_paced now t d at None keys None 0 changes (λ y tick s z same when. none_paces y app d s z)

    -- a rate paces it from now on, with no passes yet
    pub net_paced_anew : (rate : ℕ) → Ok (key, Some rate) ≡ both_keys (net_key app.labels v) (rate_given app.labels d) → (a : Allowance) → slot app.devices.rates rate ≡ Some a → (pace : Pace)
        → pace ≡ record { per_tick = a.per_tick; burst = a.burst; tick = now; fill = 0 } → IsPaceOf pace [] → Changes app.devices.nets.cards app1.devices.nets.cards key (Some (with_pace at rate (Some pace) one)) → ActsAt now t app app1 (λ m g. rows.pace m v d (side_of at) g) [] said.Ok []
    net_paced_anew rate keys a there pace value stands changes = net_paced now t d at (Some rate) keys (Some pace) rate changes (λ y tick s. paces_anew now app rate a there pace value stands y tick d s)
