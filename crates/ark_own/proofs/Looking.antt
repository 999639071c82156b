-- The row of `look`.
use Rattle.std.proofs.Common.{◌≡◌, ℕ, true, not, List, [], ◌∷◌, refl, sym, ◌∙◌, ap}
use Rattle.std.specs.Prelude.{Option, Some, None, Ok, Err, is_none}
use Rattle.ark_base.specs.Conditions.{Conditions, none, early}
use Rattle.ark_base.specs.declared.refusal.Refusal.{Refusal}
use Rattle.ark_base.specs.declared.refusal.Refusal.TheVariants as r
use Rattle.ark_media.specs.Calls.{Told}
use Rattle.ark_script.specs.declared.said.Said.{Said}
use Rattle.ark_script.specs.declared.said.Said.TheVariants as said
use Rattle.ark_caps.specs.Labels.{value_at}
use Rattle.ark_caps.specs.declared.capability.Capability.{Capability}
use Rattle.ark_objects.specs.Held.{at as slot, Changes}
use Rattle.ark_vic.specs.Bells.{counts_of}
use Rattle.ark_vic.specs.declared.door.Counts.{Counts}
use Rattle.ark_machine.specs.Objects
use Rattle.ark_machine.specs.Objects.{Object}
use Rattle.ark_machine.specs.Machine.{Machine, door_at, missing, with_object}
use Rattle.ark_machine.specs.Rates as rows
use Rattle.ark_machine.specs.Rates.{no_rings, counts_at}
use Rattle.ark_machine.specs.Row.{Row, Given, says, answer}
use Rattle.ark_held.specs.Words.{Labels}
use Rattle.ark_machine.specs.Control.{is_open_on, is_socket_on}
use Rattle.ark_held.specs.Totals.{bit, uses, object_covers}
use Rattle.ark_held.specs.Rings.{card_kept}
use Rattle.ark_held.specs.Pacing.{rate_kept}
use Rattle.ark_held.specs.Nets.{net_kept}
use Rattle.ark_held.specs.Around.{Around}
use Rattle.ark_held.specs.Held.{Holds, has_key}
use Rattle.ark_held.specs.Beyond.{Beyond, around}
use Rattle.ark_held.specs.Does.{Acts}
use Rattle.ark_held.specs.declared.allowance.Allowance.{Allowance}
use Rattle.ark_held.specs.declared.app.App.{App}
use Rattle.ark_held.specs.declared.nets.Nets.{Nets}
use Rattle.ark_held.specs.declared.card.StorageCard.{StorageCard}
use Rattle.ark_held.proofs.Lists.{not_some, some_same, other_name}
use Rattle.ark_held.proofs.Creating.{but}
use Rattle.ark_held.proofs.Granted.{not_but}
use Rattle.ark_held.proofs.Doing.{comes, never, refused_first, refuses}
use Rattle.ark_held.proofs.Parts.{KeepsParts, altered}
use Rattle.ark_held.proofs.Opens.{stays_same}
use Rattle.ark_own.specs.Keys.{door_key}
use Rattle.ark_own.proofs.OfDoors.{HasDoor, HasNone, found_door, its, entry_is}

abbrev conditions : Machine → List ℕ → Conditions
conditions m l = record none { no_application = not m.made; no_grant = missing m (l ∷ []); wrong_kind = is_none (door_at m l) }

why : (x : Around) (l : List ℕ) (e : Refusal) → x.machine.made ≡ true → HasNone x l e → early (conditions x.machine l) ≡ Some e
why x l (r.NoGrant k) made h = rw (h.0, made, h.1) refl
why x l r.WrongKind made h = rw (made, h.1, h.2) refl
why x l _ made h = absurd h

abbrev rung : Counts → Said
rung c = said.Rings c.rx c.tx c.io

abbrev row : List ℕ → Machine → Given → Row
row l m g = rows.look m l g

done_row : (x : Around) (l : List ℕ) (key : ℕ) (g : Given) → x.machine.made ≡ true → (d : HasDoor x l key) → rows.look x.machine l g ≡ says (with_object x.machine l (Objects.door no_rings)) (rung d.counts)
unfolding answer
done_row x l key g made d = rw (made, d.there, d.object) refl

module _ (t : Told) (app : App) (l : List ℕ) where
  pub no_key : (e : Refusal) → Err e ≡ door_key app.labels l → Acts t app app (row l) [] (said.Refused e) []
  no_key e is = refuses t app (row l) e (λ y g sited h. refused_first y.machine (conditions y.machine l) _ e (why (around y app) l e h.made (found_door (around y app) l h (Err e) is)))

  module _ (key : ℕ) (is : Ok key ≡ door_key app.labels l) (app1 : App) where
    pub no_door_there : (e : Refusal) → slot app.devices.doors key ≡ None → Acts t app app1 (row l) [] (said.Refused e) []
    no_door_there e gone = never t app app1 (row l) (said.Refused e) [] (λ y h. let d = its app l key is y h in not_some (slot app.devices.doors key) d.counts gone (entry_is app l key is y d))

    module _ (counts : Counts) (here : slot app.devices.doors key ≡ Some counts) (changes : Changes app.devices.doors app1.devices.doors key (Some (counts_of [])))
        (labels : app1.labels ≡ app.labels) (cards : app1.devices.cards ≡ app.devices.cards) (rates : app1.devices.rates ≡ app.devices.rates) (nets : app1.devices.nets ≡ app.devices.nets) (store : app1.store ≡ app.store) (areas : app1.areas ≡ app.areas) (name : app1.name ≡ app.name) where
      parts : (y : Beyond) → Holds (around y app) → HasDoor (around y app) l key → KeepsParts (but l) app app1
      parts y h d = record {
        store = store;
        areas = areas;
        labels = λ k c at. ap (λ (ls : Labels). value_at ls k) labels ∙ at;
        logs = λ k c at kind q grant there on. stays_same grant q (card_kept app.devices.cards c.key) (card_kept app1.devices.cards c.key) (ap (λ (cs : List (Option StorageCard)). card_kept cs c.key) cards) there;
        cards = λ k c stays at kind. ap (λ (cs : List (Option StorageCard)). card_kept cs c.key) cards;
        doors = λ k c stays at kind. changes.others c.key
            (λ e. other_name l k (not_but l k stays) (h.own.keys l k d.cap c d.label at (d.fits.its_kind ∙ sym kind) (ap has_key d.fits.its_kind) (d.key_is ∙ sym e)));
        rates = λ k c stays at kind. ap (λ (rs : List (Option Allowance)). rate_kept rs c.key) rates;
        nets = λ k c stays at kind. ap (λ (ns : Nets). net_kept ns.cards c.key) nets;
      }

      pub look_done : Acts t app app1 (row l) [] (rung counts) []
      look_done = comes t app app1 (row l) (rung counts) [] areas name (λ y g sited h.
          let d = its app l key is y h in
          let same = some_same (slot app.devices.doors key) d.counts counts (entry_is app l key is y d) here in (
            with_object y.machine l (Objects.door no_rings),
            done_row (around y app) l key g h.made d ∙ ap (λ c. says (with_object y.machine l (Objects.door no_rings)) (rung c)) same,
            altered y app app1 l d.held (Objects.door no_rings) h d.there labels (parts y h d)
                (record {
                  uses = λ k. ap (uses k) d.object;
                  opens = λ k. ap (λ o. bit (is_open_on k o)) d.object;
                  sockets = λ k. ap (λ o. bit (is_socket_on k o)) d.object;
                  covers = λ j. ap (object_covers j) d.object;
                })
                (λ c at f. record {
                  its_kind = ap (λ (z : Capability). z.kind) (some_same (value_at app.labels l) c d.cap at d.label) ∙ d.fits.its_kind;
                  kept = ap (λ i. slot app1.devices.doors i) (ap (λ (z : Capability). z.key) (some_same (value_at app.labels l) c d.cap at d.label) ∙ d.key_is) ∙ changes.changed;
                }),
          ))
