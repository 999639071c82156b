-- The row of `drop`, of a rate: it paces a card, or goes.
use Rattle.std.proofs.Common.{◌≡◌, ℕ, true, false, List, [], refl, sym, ◌∙◌, ap, subst}
use Rattle.std.specs.Prelude.{Option, Some, None, Ok, option_map}
use Rattle.ark_base.specs.declared.refusal.Refusal.{Refusal}
use Rattle.ark_base.specs.declared.refusal.Refusal.TheVariants as r
use Rattle.ark_media.specs.Calls.{Told}
use Rattle.ark_script.specs.declared.said.Said.TheVariants as said
use Rattle.ark_caps.specs.Labels.{value_at, others}
use Rattle.ark_caps.specs.declared.capability.Capability.{Capability}
use Rattle.ark_caps.specs.declared.capability.CapKind.{CapKind}
use Rattle.ark_caps.specs.declared.capability.CapKind.TheVariants as cap_kind
use Rattle.ark_objects.specs.Held.{at as slot, Changes}
use Rattle.ark_vic.specs.declared.door.Counts.{Counts}
use Rattle.ark_machine.specs.Objects.{Object, is_vsa, is_buffer}
use Rattle.ark_machine.specs.Control.{is_in_use}
use Rattle.ark_held.specs.Kept.{Tables}
use Rattle.ark_held.specs.Rings.{card_kept, kept_card, unbound}
use Rattle.ark_held.specs.Pacing.{allowed, rate_kept}
use Rattle.ark_held.specs.Nets.{net_kept}
use Rattle.ark_held.specs.Seen.{paces_any}
use Rattle.ark_held.specs.Held.{Holds, is_area, has_key}
use Rattle.ark_held.specs.Beyond.{Beyond, around, tables_of}
use Rattle.ark_held.specs.Does.{Acts}
use Rattle.ark_held.specs.declared.app.App.{App}
use Rattle.ark_held.specs.declared.nets.Nets.{Nets}
use Rattle.ark_held.specs.declared.store.Store.{Store}
use Rattle.ark_held.proofs.Doing.{comes_quiet, never, refused_first, refuses}
use Rattle.ark_held.proofs.Losing.{IsDevice, LosesOne, lost_all}
use Rattle.ark_held.proofs.Parts.{CountsNothing}
use Rattle.ark_held.proofs.Unbound.{unbound_tables, kept_unbound, tables_unbound}
use Rattle.ark_own.specs.Keys.{rate_under, key_if_rate}
use Rattle.ark_own.proofs.GivingUp.{conditions, row, left, early_busy, row_done, without_it}
use Rattle.ark_own.proofs.OfRates.{HasRate, found_rate, never_gone}
use Rattle.ark_own.proofs.Paced.{paced_same}

module _ (t : Told) (app app1 : App) (l : List ℕ) (cap : Capability) (label : value_at app.labels l ≡ Some cap) (kind : cap.kind ≡ cap_kind.Rate) where
  device : IsDevice cap
  device = record { no_buffer = λ e. cc (kind, e); plain = ap is_area kind; stored = ap has_key kind }

  its : (y : Beyond) → Holds (around y app) → HasRate (around y app) l cap.key
  its y h = found_rate (around y app) l h (Ok cap.key) (sym (ap (λ o. rate_under l o) label ∙ ap (λ (k : CapKind). key_if_rate k cap.key) kind))

  pub no_rate_there : (e : Refusal) → slot app.devices.rates cap.key ≡ None → Acts t app app1 (row l) [] (said.Refused e) []
  no_rate_there e gone = never t app app1 (row l) (said.Refused e) [] (λ y h. never_gone app cap.key l y (its y h) gone)

  pacing : (y : Beyond) (h : Holds (around y app)) (d : HasRate (around y app) l cap.key) → is_in_use y.machine l d.held.object ≡ paces_any app.devices.cards app.devices.nets.cards cap.key app.labels
  pacing y h d = ap (λ (o : Object). is_in_use y.machine l o) d.object ∙ sym (paced_same y app h l cap label kind)

  pub rate_busy : paces_any app.devices.cards app.devices.nets.cards cap.key app.labels ≡ true → Acts t app app (row l) [] (said.Refused r.Busy) []
  rate_busy used = refuses t app (row l) r.Busy (λ y g sited h.
      let d = its y h in
      refused_first y.machine (conditions y.machine l g) _ r.Busy
      (early_busy y.machine l g h.made d.held d.there (ap is_buffer d.object) (ap is_vsa d.object) (pacing y h d ∙ used)))

  module _ (unused : paces_any app.devices.cards app.devices.nets.cards cap.key app.labels ≡ false) (labels : app1.labels ≡ others l app.labels) (changes : Changes app.devices.rates app1.devices.rates cap.key None)
      (unbind : (k : ℕ) → slot app1.devices.cards k ≡ option_map (unbound cap.grant) (slot app.devices.cards k)) (doors : app1.devices.doors ≡ app.devices.doors) (nets : app1.devices.nets ≡ app.devices.nets) (areas : app1.areas ≡ app.areas) (name : app1.name ≡ app.name) (store : app1.store ≡ app.store) where
    tables_less : Tables
    tables_less = record (tables_of app.store app.devices) { rates = rate_kept app1.devices.rates }

    rate_less : LosesOne (tables_of app.store app.devices) tables_less cap
    unfolding tables_less
    rate_less = record { cards = λ k other. refl; doors = λ k other. refl; rates = λ k other. ap (λ o. option_map allowed o) (changes.others k (λ e. other kind e)); nets = λ k other. refl; rest = refl }

    tables_then : tables_of app1.store app1.devices ≡ unbound_tables cap.grant tables_less
    unfolding tables_less
    tables_then = tables_unbound app1.store app.store app1.devices app.devices cap.grant (card_kept app.devices.cards) (slot app.devices.doors) (rate_kept app1.devices.rates) (net_kept app.devices.nets.cards) (ap (λ (z : Store). z.region) store) (ap (λ (z : Store). z.buffers) store)
        (λ k. ap (λ o. option_map kept_card o) (unbind k) ∙ kept_unbound cap.grant (slot app.devices.cards k)) (λ k. ap (λ (z : List (Option Counts)). slot z k) doors) (λ k. refl) (λ k. ap (λ (z : Nets). net_kept z.cards k) nets)

    no_count : (y : Beyond) (d : HasRate (around y app) l cap.key) → CountsNothing d.held.object
    no_count y d = subst (λ (o : Object). CountsNothing o) (sym d.object) (record { uses = λ k. refl; opens = λ k. refl; sockets = λ k. refl; covers = λ j. refl })

    rate_gone : (y : Beyond) (h : Holds (around y app)) → Holds (around (record y { machine = left y.machine l }) app1)
    rate_gone y h =
        let d = its y h in
        without_it y app app1 l cap.grant tables_less labels areas tables_then
        (lost_all (around y app) h l cap label d.held d.there device (no_count y d) (λ door. cc (kind, door)) (λ card. cc (kind, card)) (λ rate. sym (paced_same y app h l cap label kind) ∙ unused) (λ net. cc (kind, net)) tables_less rate_less)

    pub rate_done : Acts t app app1 (row l) [] said.Ok []
    rate_done = comes_quiet t app app1 (row l) said.Ok [] areas name (λ y g came sited h.
        let d = its y h in (
          left y.machine l,
          row_done y.machine l g h.made d.held d.there (ap is_buffer d.object) (ap is_vsa d.object) came (pacing y h d ∙ unused),
          rate_gone y h,
        ))
