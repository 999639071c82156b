-- The row of `rate`.
use Rattle.std.proofs.Common.{◌≡◌, ℕ, ◌<◌, ◌≤◌, true, false, not, List, [], ◌∷◌, ◌++◌, length, refl, sym, ◌∙◌, ap, bytes_eq}
use Rattle.std.specs.Prelude.{Option, Some, None, is_some, option_map}
use Rattle.ark_base.specs.Conditions.{Conditions, none}
use Rattle.ark_base.specs.declared.refusal.Refusal.TheVariants as refusal
use Rattle.ark_media.specs.Calls.{Told}
use Rattle.ark_script.specs.declared.said.Said.TheVariants as said
use Rattle.ark_caps.specs.Labels.{value_at}
use Rattle.ark_caps.specs.declared.capability.Capability.{Capability}
use Rattle.ark_caps.specs.declared.capability.CapKind.TheVariants as cap_kind
use Rattle.ark_objects.specs.Held.{at as slot, Changes}
use Rattle.ark_vic.specs.declared.door.Counts.{Counts}
use Rattle.ark_machine.specs.Objects
use Rattle.ark_machine.specs.Machine.{Machine, at, is_full, with_new}
use Rattle.ark_machine.specs.Rates as rows
use Rattle.ark_machine.specs.Row.{Row, Given, says, answer}
use Rattle.ark_held.specs.Words.{Labels}
use Rattle.ark_held.specs.Rings.{card_kept}
use Rattle.ark_held.specs.Pacing.{allowed, rate_kept}
use Rattle.ark_held.specs.Nets.{net_kept}
use Rattle.ark_held.specs.Held.{Holds}
use Rattle.ark_held.specs.Beyond.{Beyond, around}
use Rattle.ark_held.specs.Does.{Grants}
use Rattle.ark_held.specs.declared.app.App.{App}
use Rattle.ark_held.specs.declared.nets.Nets.{Nets}
use Rattle.ark_held.specs.declared.card.StorageCard.{StorageCard}
use Rattle.ark_held.proofs.ByKind.{rate_of}
use Rattle.ark_held.proofs.Lists.{le_true, none_of, not_some, lookup_front}
use Rattle.ark_held.proofs.Creating.{but}
use Rattle.ark_held.proofs.Doing.{makes, refused_first, refuses}
use Rattle.ark_held.proofs.Finding.{there_same, full_is, stands_at}
use Rattle.ark_held.proofs.Parts.{KeepsParts, added}
use Rattle.ark_own.proofs.Making.{free_name, few_labels}
use Rattle.ark_held.proofs.Opens.{stays_same}

abbrev conditions : Machine → List ℕ → Conditions
conditions m l = record none { no_application = not m.made; name_taken = is_some (at m l); limit = is_full m }

done_row : (m : Machine) (l : List ℕ) (q b : ℕ) (g : Given) → m.made ≡ true → is_some (at m l) ≡ false → is_full m ≡ false → rows.rate m l q b g ≡ says (with_new m l (Objects.rate q b)) said.Ok
unfolding answer
done_row m l q b g made gone room = rw (made, gone, room) refl

module _ (t : Told) (app : App) (l : List ℕ) (q b grant : ℕ) where
  abbrev row : Machine → Given → Row
  row m g = rows.rate m l q b g

  pub rate_taken : is_some (value_at app.labels l) ≡ true → Grants t app app row [] (said.Refused refusal.NameTaken) [] grant
  rate_taken has = refuses t app row refusal.NameTaken (λ y g sited h.
      let there = there_same (around y app) l h ∙ has in
      refused_first y.machine (conditions y.machine l) _ refusal.NameTaken (rw (h.made, there) refl)) grant

  module _ (none : is_some (value_at app.labels l) ≡ false) where
    pub rate_full : 64 ≤ length app.labels → Grants t app app row [] (said.Refused refusal.Limit) [] grant
    rate_full many = refuses t app row refusal.Limit (λ y g sited h.
        let gone = free_name y app l none h in
        let full : is_full y.machine ≡ true = full_is (around y app) h ∙ le_true 64 (length app.labels) many in
        refused_first y.machine (conditions y.machine l) _ refusal.Limit (rw (h.made, gone, full) refl)) grant

    module _ (few : length app.labels < 64) (app1 : App) (key : ℕ) (vacant : slot app.devices.rates key ≡ None) (changes : Changes app.devices.rates app1.devices.rates key (Some (record { per_tick = q; burst = b })))
        (labels : app1.labels ≡ app.labels ++ (l, record { kind = cap_kind.Rate; grant = grant; key = key }) ∷ []) (cards : app1.devices.cards ≡ app.devices.cards) (doors : app1.devices.doors ≡ app.devices.doors) (nets : app1.devices.nets ≡ app.devices.nets) (store : app1.store ≡ app.store) (areas : app1.areas ≡ app.areas) (name : app1.name ≡ app.name) where
      abbrev cap : Capability
      cap = record { kind = cap_kind.Rate; grant = grant; key = key }

      -- no label has the key yet
      apart_key : (y : Beyond) → Holds (around y app) → (k : List ℕ) (d : Capability) → value_at app.labels k ≡ Some d → d.kind ≡ cap_kind.Rate → d.key ≡ key → ⊥
      apart_key y h k d is kind e =
          let at = stands_at (around y app) k d h is in
          let o = rate_of (around y app) k d at.held.object at.matches.object kind in
          not_some (rate_kept app.devices.rates key) o.0 (ap (λ z. option_map allowed z) vacant) (ap (λ i. rate_kept app.devices.rates i) (sym e) ∙ o.2.kept)

      parts : (y : Beyond) → Holds (around y app) → KeepsParts (but l) app app1
      parts y h = record {
        store = store;
        areas = areas;
        labels = λ k c is. ap (λ (ls : Labels). value_at ls k) labels ∙ lookup_front (bytes_eq k) app.labels (l, cap) c is;
        logs = λ k c at kind q grant1 there on. stays_same grant1 q (card_kept app.devices.cards c.key) (card_kept app1.devices.cards c.key) (ap (λ (cs : List (Option StorageCard)). card_kept cs c.key) cards) there;
        cards = λ k c stays is kind. ap (λ (cs : List (Option StorageCard)). card_kept cs c.key) cards;
        doors = λ k c stays is kind. ap (λ (ds : List (Option Counts)). slot ds c.key) doors;
        rates = λ k c stays is kind. ap (λ o. option_map allowed o) (changes.others c.key (λ e. apart_key y h k c is kind e));
        nets = λ k c stays is kind. ap (λ (ns : Nets). net_kept ns.cards c.key) nets;
      }

      pub rate_done : Grants t app app1 row [] said.Ok [] grant
      rate_done = makes t app app1 row said.Ok grant areas name (λ y g fresh h. (
        with_new y.machine l (Objects.rate q b),
        done_row y.machine l q b g h.made (free_name y app l none h) (few_labels y app few h),
        added y app app1 l cap (Objects.rate q b) h (none_of (value_at app.labels l) none) fresh labels (parts y h) (λ k d is kind stored e. apart_key y h k d is kind e)
            (record { uses = λ k. refl; opens = λ k. refl; sockets = λ k. refl; covers = λ j. refl }) refl (record { its_kind = refl; kept = ap (λ o. option_map allowed o) changes.changed }),
      ))
