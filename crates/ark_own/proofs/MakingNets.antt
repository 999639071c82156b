-- The row of `vnic`.
use Rattle.std.proofs.Common.{◌≡◌, ℕ, ◌<◌, ◌≤◌, Bool, true, false, not, List, [], ◌∷◌, ◌++◌, length, refl, sym, ◌∙◌, ap, arith, bytes_eq}
use Rattle.std.specs.Prelude.{Option, Some, None, is_some, option_map}
use Rattle.ark_base.specs.Conditions.{Conditions, none}
use Rattle.ark_base.specs.declared.refusal.Refusal.TheVariants as refusal
use Rattle.ark_caps.specs.Labels.{value_at}
use Rattle.ark_caps.specs.declared.capability.Capability.{Capability}
use Rattle.ark_caps.specs.declared.capability.CapKind.TheVariants as cap_kind
use Rattle.ark_media.specs.Calls.{Told}
use Rattle.ark_objects.specs.Held.{at as slot, Changes}
use Rattle.ark_script.specs.Text.{wants_memory}
use Rattle.ark_script.specs.declared.said.Said.{Said}
use Rattle.ark_script.specs.declared.said.Said.TheVariants as said
use Rattle.ark_vic.specs.declared.door.Counts.{Counts}
use Rattle.ark_vnic.specs.Card.{NetCard}
use Rattle.ark_machine.specs.Objects
use Rattle.ark_machine.specs.Objects.{Object}
use Rattle.ark_machine.specs.Machine.{Machine, Held, at, with_new}
use Rattle.ark_machine.specs.Control.{is_socket_on}
use Rattle.ark_machine.specs.Cards.{no_more_cards}
use Rattle.ark_machine.specs.Network as rows
use Rattle.ark_machine.specs.Network.{new_vnic}
use Rattle.ark_machine.specs.Row.{Row, Given, says, answer}
use Rattle.ark_held.specs.Words.{Labels}
use Rattle.ark_held.specs.Totals.{bit, socket_count}
use Rattle.ark_held.specs.Rings.{card_kept, no_ring}
use Rattle.ark_held.specs.Nets.{kept_net, net_kept, new_net}
use Rattle.ark_held.specs.Pacing.{rate_kept}
use Rattle.ark_held.specs.Network.{IsNet}
use Rattle.ark_held.specs.Held.{Holds, card_labels}
use Rattle.ark_held.specs.Beyond.{Beyond, around}
use Rattle.ark_held.specs.Does.{Grants}
use Rattle.ark_held.specs.declared.allowance.Allowance.{Allowance}
use Rattle.ark_held.specs.declared.app.App.{App}
use Rattle.ark_held.specs.declared.card.StorageCard.{StorageCard}
use Rattle.ark_held.proofs.ByKind.{net_of}
use Rattle.ark_held.proofs.Lists.{le_true, le_false, none_of, not_some, lookup_front, total_last}
use Rattle.ark_held.proofs.Creating.{but}
use Rattle.ark_held.proofs.Doing.{makes, refused_first, refuses}
use Rattle.ark_held.proofs.Finding.{there_same, stands_at}
use Rattle.ark_held.proofs.Lending.{none_socketed}
use Rattle.ark_held.proofs.Opens.{stays_same}
use Rattle.ark_held.proofs.Parts.{KeepsParts, added}
use Rattle.ark_own.proofs.Making.{free_name}
use Rattle.ark_own.proofs.MakingCards.{limited}

abbrev conditions : Machine → List ℕ → Bool → Bool → Conditions
conditions m v no_nic lacks = record none { no_application = not m.made; name_taken = is_some (at m v); limit = no_more_cards m; no_nic = no_nic; no_memory = lacks }

-- a card of a grant with empty rings, which nothing paces
abbrev pub empty : ℕ → ℕ → ℕ → NetCard
empty grant rx tx = record { grant = grant; rx = no_ring rx; tx = no_ring tx; rx_pace = None; tx_pace = None }

done_row : (m : Machine) (v : List ℕ) (rx tx : ℕ) (g : Given) → m.made ≡ true → is_some (at m v) ≡ false → no_more_cards m ≡ false → g.no_nic ≡ false → g.no_memory ≡ false → rows.vnic m v rx tx g ≡ says (with_new m v (new_vnic rx tx)) said.Ok
unfolding answer
done_row m v rx tx g made gone few nic memory = rw (made, gone, few, nic, memory) refl

-- a card as its fields say
pub whole : (card : NetCard) (grant rx tx : ℕ) → card.grant ≡ grant → card.rx ≡ no_ring rx → card.tx ≡ no_ring tx → card.rx_pace ≡ None → card.tx_pace ≡ None → card ≡ empty grant rx tx
whole card grant rx tx is_grant is_rx is_tx is_rx_pace is_tx_pace = λ i. record { grant = is_grant i; rx = is_rx i; tx = is_tx i; rx_pace = is_rx_pace i; tx_pace = is_tx_pace i }

module _ (t : Told) (app : App) (v : List ℕ) (rx tx grant : ℕ) (has_nic : Bool) where
  abbrev row : Said → Machine → Given → Row
  row reply m g = rows.vnic m v rx tx (record g { no_nic = not has_nic; no_memory = wants_memory reply })

  pub vnic_taken : is_some (value_at app.labels v) ≡ true → Grants t app app (row (said.Refused refusal.NameTaken)) [] (said.Refused refusal.NameTaken) [] grant
  vnic_taken has = refuses t app (row (said.Refused refusal.NameTaken)) refusal.NameTaken (λ y g sited h.
      let there = there_same (around y app) v h ∙ has in
      refused_first y.machine (conditions y.machine v (not has_nic) false) _ refusal.NameTaken (rw (h.made, there) refl)) grant

  module _ (none : is_some (value_at app.labels v) ≡ false) where
    refused_limit : ((y : Beyond) → Holds (around y app) → no_more_cards y.machine ≡ true) → Grants t app app (row (said.Refused refusal.Limit)) [] (said.Refused refusal.Limit) [] grant
    refused_limit full = refuses t app (row (said.Refused refusal.Limit)) refusal.Limit (λ y g sited h.
        let gone = free_name y app v none h in
        let at_limit = full y h in
        refused_first y.machine (conditions y.machine v (not has_nic) false) _ refusal.Limit (rw (h.made, gone, at_limit) refl)) grant

    pub vnic_full : 64 ≤ length app.labels → Grants t app app (row (said.Refused refusal.Limit)) [] (said.Refused refusal.Limit) [] grant
    vnic_full many = refused_limit (λ y h. limited app y h true _ (le_true 64 (length app.labels) many) refl)

    module _ (few : length app.labels < 64) where
      pub vnic_many : 8 ≤ length (card_labels app.labels) → Grants t app app (row (said.Refused refusal.Limit)) [] (said.Refused refusal.Limit) [] grant
      vnic_many many = refused_limit (λ y h. limited app y h false true (le_false 64 (length app.labels) few) (le_true 8 (length (card_labels app.labels)) many))

      module _ (less : length (card_labels app.labels) < 8) where
        room : (y : Beyond) → Holds (around y app) → no_more_cards y.machine ≡ false
        room y h = limited app y h false false (le_false 64 (length app.labels) few) (le_false 8 (length (card_labels app.labels)) less)

        pub vnic_away : has_nic ≡ false → Grants t app app (row (said.Refused refusal.NoNic)) [] (said.Refused refusal.NoNic) [] grant
        vnic_away away = refuses t app (row (said.Refused refusal.NoNic)) refusal.NoNic (λ y g sited h.
            let gone = free_name y app v none h in
            let below = room y h in
            refused_first y.machine (conditions y.machine v (not has_nic) false) _ refusal.NoNic (rw (h.made, gone, below, away) refl)) grant

        module _ (nic : has_nic ≡ true) where
          pub vnic_lacks : Grants t app app (row (said.Refused refusal.NoMemory)) [] (said.Refused refusal.NoMemory) [] grant
          vnic_lacks = refuses t app (row (said.Refused refusal.NoMemory)) refusal.NoMemory (λ y g sited h.
              let gone = free_name y app v none h in
              let below = room y h in
              refused_first y.machine (conditions y.machine v (not has_nic) true) _ refusal.NoMemory (rw (h.made, gone, below, nic) refl)) grant

          module _ (app1 : App) (key : ℕ) (card : NetCard) (is_empty : card ≡ empty grant rx tx) (vacant : slot app.devices.nets.cards key ≡ None) (changes : Changes app.devices.nets.cards app1.devices.nets.cards key (Some (new_net card)))
              (labels : app1.labels ≡ app.labels ++ (v, record { kind = cap_kind.Vnic; grant = grant; key = key }) ∷ []) (cards : app1.devices.cards ≡ app.devices.cards) (doors : app1.devices.doors ≡ app.devices.doors) (rates : app1.devices.rates ≡ app.devices.rates) (store : app1.store ≡ app.store) (areas : app1.areas ≡ app.areas) (name : app1.name ≡ app.name) where
            abbrev cap : Capability
            cap = record { kind = cap_kind.Vnic; grant = grant; key = key }

            -- no label has the key yet
            apart_key : (y : Beyond) → Holds (around y app) → (k : List ℕ) (d : Capability) → value_at app.labels k ≡ Some d → d.kind ≡ cap_kind.Vnic → d.key ≡ key → ⊥
            apart_key y h k d is kind e =
                let at = stands_at (around y app) k d h is in
                let o = net_of (around y app) k d at.held.object at.matches.object kind in
                not_some (net_kept app.devices.nets.cards key) o.2.net (ap (λ z. option_map kept_net z) vacant) (ap (λ i. net_kept app.devices.nets.cards i) (sym e) ∙ o.2.kept)

            same_card : (k : ℕ) → card_kept app1.devices.cards k ≡ card_kept app.devices.cards k
            same_card k = ap (λ (cs : List (Option StorageCard)). card_kept cs k) cards

            parts : (y : Beyond) → Holds (around y app) → KeepsParts (but v) app app1
            parts y h = record {
              store = store;
              areas = areas;
              labels = λ k c is. ap (λ (ls : Labels). value_at ls k) labels ∙ lookup_front (bytes_eq k) app.labels (v, cap) c is;
              logs = λ k c is kind q g there on. stays_same g q (card_kept app.devices.cards c.key) (card_kept app1.devices.cards c.key) (same_card c.key) there;
              cards = λ k c stays is kind. same_card c.key;
              doors = λ k c stays is kind. ap (λ (ds : List (Option Counts)). slot ds c.key) doors;
              rates = λ k c stays is kind. ap (λ (rs : List (Option Allowance)). rate_kept rs c.key) rates;
              nets = λ k c stays is kind. ap (λ z. option_map kept_net z) (changes.others c.key (λ e. apart_key y h k c is kind e));
            }

            abbrev one : Machine → Held
            one m = record { label = v; serial = m.serial; object = new_vnic rx tx }

            no_socket : (y : Beyond) → Holds (around y app) → 0 ≡ socket_count (with_new y.machine v (new_vnic rx tx)) v
            no_socket y h =
                let more = total_last (λ z. bit (is_socket_on v z.object)) y.machine.held (one y.machine) in
                let none_there = none_socketed (around y app) v (none_of (value_at app.labels v) none) app.labels y.machine.held h.held in
                sym (more ∙ omega (arith, none_there))

            fits : (y : Beyond) → Holds (around y app) → IsNet (around (record y { numbers = y.numbers ++ grant ∷ []; machine = with_new y.machine v (new_vnic rx tx) }) app1) v cap (record { rx_size = rx; tx_size = tx; rx = Objects.no_queue; tx = Objects.no_queue; rx_pace = None; tx_pace = None; rx_door = None; tx_door = None; socketed = false })
            fits y h = record {
              its_kind = refl;
              net = kept_net (new_net (empty grant rx tx));
              kept = ap (λ z. option_map kept_net z) changes.changed ∙ ap (λ (c : NetCard). Some (kept_net (new_net c))) is_empty;
              rx_size = refl;
              tx_size = refl;
              rx_posted = tt;
              rx_unreaped = tt;
              rx_moved = refl;
              tx_posted = tt;
              tx_unreaped = tt;
              tx_moved = refl;
              rx_pace = tt;
              tx_pace = tt;
              rx_door = tt;
              tx_door = tt;
              socketed = refl;
              sockets = no_socket y h;
            }

            pub vnic_done : Grants t app app1 (row said.Ok) [] said.Ok [] grant
            vnic_done = makes t app app1 (row said.Ok) said.Ok grant areas name (λ y g fresh h. (
              with_new y.machine v (new_vnic rx tx),
              done_row y.machine v rx tx (record g { no_nic = not has_nic; no_memory = false }) h.made (free_name y app v none h) (room y h) (ap not nic) refl,
              added y app app1 v cap (new_vnic rx tx) h (none_of (value_at app.labels v) none) fresh labels (parts y h) (λ k d is kind stored e. apart_key y h k d is kind e)
                  (record { uses = λ k. refl; opens = λ k. refl; sockets = λ k. refl; covers = λ j. refl }) refl (fits y h),
            ))
