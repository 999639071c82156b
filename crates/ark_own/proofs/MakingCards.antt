-- The row of `vsic`.
use Rattle.std.proofs.Common.{◌≡◌, ℕ, ◌<◌, ◌≤◌, Bool, true, false, not, List, [], ◌∷◌, ◌++◌, length, refl, sym, ◌∙◌, ap, arith, bytes_eq}
use Rattle.std.specs.Prelude.{Option, Some, None, ◌||◌, is_some, option_map, nat_le}
use Rattle.ark_base.specs.Conditions.{Conditions, none}
use Rattle.ark_base.specs.declared.refusal.Refusal.TheVariants as refusal
use Rattle.ark_media.specs.Calls.{Told}
use Rattle.ark_script.specs.Text.{wants_memory}
use Rattle.ark_script.specs.declared.said.Said.{Said}
use Rattle.ark_script.specs.declared.said.Said.TheVariants as said
use Rattle.ark_caps.specs.Labels.{value_at}
use Rattle.ark_caps.specs.declared.capability.Capability.{Capability}
use Rattle.ark_caps.specs.declared.capability.CapKind.TheVariants as cap_kind
use Rattle.ark_objects.specs.Held.{at as slot, Changes}
use Rattle.ark_vic.specs.Pace.{Pace}
use Rattle.ark_vic.specs.Queue.{Queue}
use Rattle.ark_vic.specs.declared.door.Counts.{Counts}
use Rattle.ark_vsic.specs.Card.{Card}
use Rattle.ark_machine.specs.Objects
use Rattle.ark_machine.specs.Objects.{Vsic, is_card, no_queue}
use Rattle.ark_machine.specs.Machine.{Machine, Held, at, with_new, held_count}
use Rattle.ark_machine.specs.Control.{is_open_on}
use Rattle.ark_machine.specs.Cards as rows
use Rattle.ark_machine.specs.Cards.{no_more_cards}
use Rattle.ark_machine.specs.Row.{Row, Given, says, answer}
use Rattle.ark_held.specs.Words.{Labels}
use Rattle.ark_held.specs.Totals.{bit, open_count}
use Rattle.ark_held.specs.Rings.{card_kept, kept_card, new_card, no_ring}
use Rattle.ark_held.specs.Pacing.{rate_kept}
use Rattle.ark_held.specs.Nets.{net_kept}
use Rattle.ark_held.specs.Cards.{IsCard}
use Rattle.ark_held.specs.Held.{Holds}
use Rattle.ark_held.specs.Beyond.{Beyond, around}
use Rattle.ark_held.specs.Does.{Grants}
use Rattle.ark_held.specs.declared.allowance.Allowance.{Allowance}
use Rattle.ark_held.specs.declared.app.App.{App}
use Rattle.ark_held.specs.declared.nets.Nets.{Nets}
use Rattle.ark_held.proofs.ByKind.{card_of}
use Rattle.ark_held.proofs.Lists.{le_true, le_false, none_of, not_some, lookup_front, total_last}
use Rattle.ark_held.proofs.Creating.{but}
use Rattle.ark_held.proofs.Doing.{makes, refused_first, refuses}
use Rattle.ark_held.proofs.Finding.{there_same, full_is, stands_at, count_cards}
use Rattle.ark_held.proofs.Lending.{none_open}
use Rattle.ark_held.proofs.Parts.{KeepsParts, added}
use Rattle.ark_held.proofs.Opens.{stays_same}
use Rattle.ark_held.specs.Held.{card_labels}
use Rattle.ark_own.proofs.Making.{free_name}

abbrev conditions : Machine → List ℕ → Bool → Conditions
conditions m v lacks = record none { no_application = not m.made; name_taken = is_some (at m v); limit = no_more_cards m; no_memory = lacks }

-- whether no more cards are possible
pub limited : (app : App) (y : Beyond) → Holds (around y app) → (full many : Bool) → nat_le 64 (length app.labels) ≡ full → nat_le 8 (length (card_labels app.labels)) ≡ many → no_more_cards y.machine ≡ (full || many)
limited app y h full many is cards = ap (λ b. b || nat_le 8 (held_count is_card y.machine)) (full_is (around y app) h ∙ is) ∙ ap (λ n. full || nat_le 8 n) (count_cards (around y app) h) ∙ ap (λ b. full || b) cards

-- a card with an empty ring, to which nothing is bound
abbrev empty : ℕ → Card
empty size = record { ring = no_ring size; bound = []; pace = None }

abbrev its_vsic : ℕ → Vsic
its_vsic size = record { size = size; queue = no_queue; bound = []; pace = None; door = None }

done_row : (m : Machine) (v : List ℕ) (size : ℕ) (g : Given) → m.made ≡ true → is_some (at m v) ≡ false → no_more_cards m ≡ false → g.no_memory ≡ false → rows.vsic m v size g ≡ says (with_new m v (Objects.vsic (its_vsic size))) said.Ok
unfolding answer
done_row m v size g made gone few memory = rw (made, gone, few, memory) refl

-- a card as its fields say
whole : (card : Card) (size : ℕ) → card.ring ≡ no_ring size → card.bound ≡ [] → card.pace ≡ None → card ≡ empty size
whole card size ring bound pace =
    ap (λ (q : Queue). record card { ring = q }) ring
    ∙ ap (λ (b : List ℕ). record { ring = no_ring size; bound = b; pace = card.pace }) bound
    ∙ ap (λ (p : Option Pace). record { ring = no_ring size; bound = []; pace = p }) pace

module _ (t : Told) (app : App) (v : List ℕ) (size grant : ℕ) where
  abbrev row : Said → Machine → Given → Row
  row reply m g = rows.vsic m v size (record g { no_memory = wants_memory reply })

  pub vsic_taken : is_some (value_at app.labels v) ≡ true → Grants t app app (row (said.Refused refusal.NameTaken)) [] (said.Refused refusal.NameTaken) [] grant
  vsic_taken has = refuses t app (row (said.Refused refusal.NameTaken)) refusal.NameTaken (λ y g sited h.
      let there = there_same (around y app) v h ∙ has in
      refused_first y.machine (conditions y.machine v false) _ refusal.NameTaken (rw (h.made, there) refl)) grant

  module _ (none : is_some (value_at app.labels v) ≡ false) where
    refused_limit : ((y : Beyond) → Holds (around y app) → no_more_cards y.machine ≡ true) → Grants t app app (row (said.Refused refusal.Limit)) [] (said.Refused refusal.Limit) [] grant
    refused_limit full = refuses t app (row (said.Refused refusal.Limit)) refusal.Limit (λ y g sited h.
        let gone = free_name y app v none h in
        let at_limit = full y h in
        refused_first y.machine (conditions y.machine v false) _ refusal.Limit (rw (h.made, gone, at_limit) refl)) grant

    pub vsic_full : 64 ≤ length app.labels → Grants t app app (row (said.Refused refusal.Limit)) [] (said.Refused refusal.Limit) [] grant
    vsic_full many = refused_limit (λ y h. limited app y h true _ (le_true 64 (length app.labels) many) refl)

    module _ (few : length app.labels < 64) where
      pub vsic_many : 8 ≤ length (card_labels app.labels) → Grants t app app (row (said.Refused refusal.Limit)) [] (said.Refused refusal.Limit) [] grant
      vsic_many many = refused_limit (λ y h. limited app y h false true (le_false 64 (length app.labels) few) (le_true 8 (length (card_labels app.labels)) many))

      module _ (less : length (card_labels app.labels) < 8) where
        room : (y : Beyond) → Holds (around y app) → no_more_cards y.machine ≡ false
        room y h = limited app y h false false (le_false 64 (length app.labels) few) (le_false 8 (length (card_labels app.labels)) less)

        pub vsic_lacks : Grants t app app (row (said.Refused refusal.NoMemory)) [] (said.Refused refusal.NoMemory) [] grant
        vsic_lacks = refuses t app (row (said.Refused refusal.NoMemory)) refusal.NoMemory (λ y g sited h.
            let gone = free_name y app v none h in
            let below = room y h in
            refused_first y.machine (conditions y.machine v true) _ refusal.NoMemory (rw (h.made, gone, below) refl)) grant

        module _ (app1 : App) (key : ℕ) (card : Card) (ring : card.ring ≡ no_ring size) (bound : card.bound ≡ []) (pace : card.pace ≡ None) (vacant : slot app.devices.cards key ≡ None) (changes : Changes app.devices.cards app1.devices.cards key (Some (new_card card)))
            (labels : app1.labels ≡ app.labels ++ (v, record { kind = cap_kind.Vsic; grant = grant; key = key }) ∷ []) (doors : app1.devices.doors ≡ app.devices.doors) (rates : app1.devices.rates ≡ app.devices.rates) (nets : app1.devices.nets ≡ app.devices.nets) (store : app1.store ≡ app.store) (areas : app1.areas ≡ app.areas) (name : app1.name ≡ app.name) where
          abbrev cap : Capability
          cap = record { kind = cap_kind.Vsic; grant = grant; key = key }

          -- no label has the key yet
          apart_key : (y : Beyond) → Holds (around y app) → (k : List ℕ) (d : Capability) → value_at app.labels k ≡ Some d → d.kind ≡ cap_kind.Vsic → d.key ≡ key → ⊥
          apart_key y h k d is kind e =
              let at = stands_at (around y app) k d h is in
              let o = card_of (around y app) k d at.held.object at.matches.object kind in
              not_some (card_kept app.devices.cards key) o.2.card (ap (λ z. option_map kept_card z) vacant) (ap (λ i. card_kept app.devices.cards i) (sym e) ∙ o.2.kept)

          same_card : (y : Beyond) → Holds (around y app) → (k : List ℕ) (c : Capability) → value_at app.labels k ≡ Some c → c.kind ≡ cap_kind.Vsic → card_kept app1.devices.cards c.key ≡ card_kept app.devices.cards c.key
          same_card y h k c is kind = ap (λ z. option_map kept_card z) (changes.others c.key (λ e. apart_key y h k c is kind e))

          parts : (y : Beyond) → Holds (around y app) → KeepsParts (but v) app app1
          parts y h = record {
            store = store;
            areas = areas;
            labels = λ k c is. ap (λ (ls : Labels). value_at ls k) labels ∙ lookup_front (bytes_eq k) app.labels (v, cap) c is;
            logs = λ k c is kind q g there on. stays_same g q (card_kept app.devices.cards c.key) (card_kept app1.devices.cards c.key) (same_card y h k c is kind) there;
            cards = λ k c stays is kind. same_card y h k c is kind;
            doors = λ k c stays is kind. ap (λ (ds : List (Option Counts)). slot ds c.key) doors;
            rates = λ k c stays is kind. ap (λ (rs : List (Option Allowance)). rate_kept rs c.key) rates;
            nets = λ k c stays is kind. ap (λ (ns : Nets). net_kept ns.cards c.key) nets;
          }

          abbrev one : Machine → Held
          one m = record { label = v; serial = m.serial; object = Objects.vsic (its_vsic size) }

          no_log : (y : Beyond) → Holds (around y app) → 0 ≡ open_count (with_new y.machine v (Objects.vsic (its_vsic size))) v
          no_log y h =
              let more = total_last (λ z. bit (is_open_on v z.object)) y.machine.held (one y.machine) in
              let none_there = none_open (around y app) v (none_of (value_at app.labels v) none) app.labels y.machine.held h.held in
              sym (more ∙ omega (arith, none_there))

          fits : (y : Beyond) → Holds (around y app) → IsCard (around (record y { numbers = y.numbers ++ grant ∷ []; machine = with_new y.machine v (Objects.vsic (its_vsic size)) }) app1) v cap (its_vsic size)
          fits y h = record {
            its_kind = refl;
            card = kept_card (new_card (empty size));
            kept = ap (λ z. option_map kept_card z) changes.changed ∙ ap (λ (c : Card). Some (kept_card (new_card c))) (whole card size ring bound pace);
            size = refl;
            posted = tt;
            unreaped = tt;
            moved = refl;
            bound = tt;
            pace = tt;
            door = tt;
            log = no_log y h;
            phases = tt;
          }

          pub vsic_done : Grants t app app1 (row said.Ok) [] said.Ok [] grant
          vsic_done = makes t app app1 (row said.Ok) said.Ok grant areas name (λ y g fresh h. (
            with_new y.machine v (Objects.vsic (its_vsic size)),
            done_row y.machine v size (record g { no_memory = false }) h.made (free_name y app v none h) (room y h) refl,
            added y app app1 v cap (Objects.vsic (its_vsic size)) h (none_of (value_at app.labels v) none) fresh labels (parts y h) (λ k d is kind stored e. apart_key y h k d is kind e)
                (record { uses = λ k. refl; opens = λ k. refl; sockets = λ k. refl; covers = λ j. refl }) refl (fits y h),
          ))
