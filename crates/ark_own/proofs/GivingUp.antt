-- The row of `drop`, of a card, a door or a rate.
use Rattle.std.proofs.Common.{◌≡◌, ℕ, ◌<◌, Bool, true, false, not, nat_lt, List, [], ◌∷◌, length, refl, sym, ◌∙◌, ap, subst, arith}
use Rattle.std.specs.Prelude.{Option, Some, None, Result, Ok, Err, ◌&&◌, ◌||◌, is_some, option_map}
use Rattle.std.proofs.Math.Bool.{and-false}
use Rattle.std.proofs.lemmas.Bool.{false≢true}
use Rattle.std.proofs.lemmas.Bool.Decides.{nat_tests}
use Rattle.ark_base.specs.Conditions.{Conditions, none, early}
use Rattle.ark_base.specs.declared.refusal.Refusal.{Refusal}
use Rattle.ark_base.specs.declared.refusal.Refusal.TheVariants as r
use Rattle.ark_media.specs.Calls.{Told}
use Rattle.ark_script.specs.declared.said.Said.TheVariants as said
use Rattle.ark_caps.specs.Labels.{value_at, others}
use Rattle.ark_caps.specs.declared.capability.Capability.{Capability}
use Rattle.ark_caps.specs.declared.capability.CapKind.{CapKind}
use Rattle.ark_caps.specs.declared.capability.CapKind.TheVariants as cap_kind
use Rattle.ark_objects.specs.Held.{at as slot, Changes}
use Rattle.ark_vic.specs.Queue.{members}
use Rattle.ark_vic.specs.declared.door.Counts.{Counts}
use Rattle.ark_machine.specs.Objects
use Rattle.ark_machine.specs.Objects.{Object, is_vsa, is_buffer, held_in}
use Rattle.ark_machine.specs.Machine.{Machine, Held, at, object_at, serial_at, is_so, missing, each_object, without}
use Rattle.ark_machine.specs.Buffers.{job_has}
use Rattle.ark_machine.specs.Control as rows
use Rattle.ark_machine.specs.Control.{has_log, is_in_use, is_open_on, is_watched, lets_go}
use Rattle.ark_machine.specs.Row.{Row, Given, answer, has_fault}
use Rattle.ark_held.specs.Words.{Labels, AreaList}
use Rattle.ark_held.specs.Totals.{bit, total}
use Rattle.ark_held.specs.Kept.{Tables}
use Rattle.ark_held.specs.Rings.{LosesCard, card_kept, kept_card, unbound}
use Rattle.ark_held.specs.Nets.{net_kept}
use Rattle.ark_held.specs.Seen.{sees_any}
use Rattle.ark_held.specs.Pacing.{rate_kept}
use Rattle.ark_held.specs.Held.{IsObjectOf, AtLabel, Holds, is_area, has_key, is_shared, is_shared_kind, is_net, is_net_kind}
use Rattle.ark_held.specs.Beyond.{Beyond, around, tables_of}
use Rattle.ark_held.specs.Does.{Acts}
use Rattle.ark_held.specs.declared.allowance.Allowance.{Allowance}
use Rattle.ark_held.specs.declared.app.App.{App}
use Rattle.ark_held.specs.declared.nets.Nets.{Nets}
use Rattle.ark_held.specs.declared.card.StorageCard.{StorageCard}
use Rattle.ark_held.specs.declared.store.Store.{Store}
use Rattle.ark_held.proofs.Lists.{not_some, some_same}
use Rattle.ark_held.proofs.Doing.{comes_quiet, never, refused_first, refuses}
use Rattle.ark_held.proofs.Finding.{found}
use Rattle.ark_held.proofs.Losing.{IsDevice, LosesOne, lost_all}
use Rattle.ark_held.proofs.Parts.{CountsNothing}
use Rattle.ark_held.proofs.Seeing.{none_of_both}
use Rattle.ark_held.proofs.Unbound.{unbound_tables, kept_unbound, tables_unbound}
use Rattle.ark_own.specs.Keys.{cap_under, card_key, card_under, key_if_card, door_key, door_under, key_if_door}
use Rattle.ark_own.proofs.OfCards as cards
use Rattle.ark_own.proofs.OfCards.{HasCard, log_same, count_same}
use Rattle.ark_own.proofs.OfDoors as doors
use Rattle.ark_own.proofs.OfDoors.{HasDoor}
use Rattle.ark_own.proofs.Watched.{watched_same}

abbrev pub conditions : Machine → List ℕ → Given → Conditions
conditions m l g = record none {
  no_application = not m.made;
  no_grant = missing m (l ∷ []);
  wrong_kind = is_so is_buffer (object_at m l);
  table_failed = g.table_failed && is_so is_vsa (object_at m l);
  busy = is_so (is_in_use m l) (object_at m l);
  device_fault = has_fault g.ended;
}

abbrev pub row : List ℕ → Machine → Given → Row
row l m g = rows.drop m l g

-- the machine without what is under the label
abbrev pub left : Machine → List ℕ → Machine
left m l = each_object (lets_go l (serial_at m l)) (without m l)

module _ (m : Machine) (l : List ℕ) (g : Given) (made : m.made ≡ true) where
  early_none : at m l ≡ None → early (conditions m l g) ≡ Some (r.NoGrant l)
  early_none none = rw (made, none) refl

  module _ (h : Held) (there : at m l ≡ Some h) where
    early_kind : is_buffer h.object ≡ true → early (conditions m l g) ≡ Some r.WrongKind
    early_kind buffer = rw (made, there, buffer) refl

    module _ (no_buffer : is_buffer h.object ≡ false) (no_area : is_vsa h.object ≡ false) where
      pub early_busy : is_in_use m l h.object ≡ true → early (conditions m l g) ≡ Some r.Busy
      early_busy used = rw (made, there, no_buffer, no_area, and-false g.table_failed, used) refl

      pub row_done : g.ended ≡ [] → is_in_use m l h.object ≡ false → rows.drop m l g ≡ record { machine = left m l; said = said.Ok; bytes = []; calls = [] }
      unfolding answer
      row_done quiet unused = rw (made, there, no_buffer, no_area, and-false g.table_failed, unused, quiet) refl

-- What a label stands for.

err_is : (e f : Refusal) → ◌≡◌ {A = Result Capability Refusal} (Err e) (Err f) → e ≡ f
err_is e f h = cc

ok_is : (c d : Capability) → ◌≡◌ {A = Result Capability Refusal} (Ok c) (Ok d) → c ≡ d
ok_is c d h = cc

ok_no : (c : Capability) (e : Refusal) → ◌≡◌ {A = Result Capability Refusal} (Ok c) (Err e) → ⊥
ok_no c e h = cc

pub cap_found : (l : List ℕ) (c : Capability) (o : Option Capability) → Ok c ≡ cap_under l o → o ≡ Some c
cap_found l c (Some d) is = ap (λ (z : Capability). Some z) (sym (ok_is c d is))
cap_found l c None is = absurd (ok_no c (r.NoGrant l) is)

pub cap_missing : (l : List ℕ) (e : Refusal) (o : Option Capability) → Err e ≡ cap_under l o → (e ≡ r.NoGrant l) × (o ≡ None)
cap_missing l e None is = (err_is e (r.NoGrant l) is, refl)
cap_missing l e (Some d) is = absurd (ok_no d e (sym is))

-- Refusals of what is no card, no door and no rate.

module _ (t : Told) (app : App) (l : List ℕ) where
  pub no_label : value_at app.labels l ≡ None → Acts t app app (row l) [] (said.Refused (r.NoGrant l)) []
  no_label none = refuses t app (row l) (r.NoGrant l) (λ y g sited h.
      refused_first y.machine (conditions y.machine l g) _ (r.NoGrant l) (early_none y.machine l g h.made (by y (value_at app.labels l) (at y.machine l) none (found (around y app) l app.labels y.machine.held h.held))))
    where
      by : (y : Beyond) (c : Option Capability) (o : Option Held) → c ≡ None → AtLabel (around y app) l c o → o ≡ None
      by y None None is m = refl
      by y (Some c) (Some g) is m = absurd (not_some (Some c) c is refl)
      by y None (Some g) is m = absurd m
      by y (Some c) None is m = absurd m

  -- what is under the label is a buffer
  pub other_kind : (cap : Capability) → value_at app.labels l ≡ Some cap → is_shared (value_at app.labels l) ≡ false → (cap.kind ≡ cap_kind.Vsic → ⊥) → (cap.kind ≡ cap_kind.Door → ⊥) → (cap.kind ≡ cap_kind.Rate → ⊥) → is_net (value_at app.labels l) ≡ false → Acts t app app (row l) [] (said.Refused r.WrongKind) []
  other_kind cap label plain no_card no_door no_rate no_net = refuses t app (row l) r.WrongKind (λ y g sited h.
      let b = by y (value_at app.labels l) (at y.machine l) label (found (around y app) l app.labels y.machine.held h.held) in
      refused_first y.machine (conditions y.machine l g) _ r.WrongKind (early_kind y.machine l g h.made b.0 b.1 b.2))
    where
      not_shared : (k : CapKind) → is_shared_kind k ≡ true → cap.kind ≡ k → ⊥
      not_shared k shared kind = false≢true (sym plain ∙ ap is_shared label ∙ ap is_shared_kind kind ∙ shared)

      not_net : cap.kind ≡ cap_kind.Vnic → ⊥
      not_net kind = false≢true (sym no_net ∙ ap is_net label ∙ ap is_net_kind kind)

      buffer : (y : Beyond) (k : List ℕ) (c : Capability) (o : Object) → c ≡ cap → IsObjectOf (around y app) k c o → is_buffer o ≡ true
      buffer y k c (Objects.buffer z) same f = refl
      buffer y k c (Objects.raw z) same f = absurd (not_shared cap_kind.Vsa refl (ap (λ (q : Capability). q.kind) (sym same) ∙ f.its_kind))
      buffer y k c (Objects.log z) same f = absurd (not_shared cap_kind.Vsa refl (ap (λ (q : Capability). q.kind) (sym same) ∙ f.its_kind))
      buffer y k c (Objects.vsic z) same f = absurd (no_card (ap (λ (q : Capability). q.kind) (sym same) ∙ f.its_kind))
      buffer y k c (Objects.door z) same f = absurd (no_door (ap (λ (q : Capability). q.kind) (sym same) ∙ f.its_kind))
      buffer y k c (Objects.vnic z) same f = absurd (not_net (ap (λ (q : Capability). q.kind) (sym same) ∙ f.its_kind))
      buffer y k c (Objects.filter z q) same f = absurd (not_shared cap_kind.Filter refl (ap (λ (q : Capability). q.kind) (sym same) ∙ f.its_kind))
      buffer y k c (Objects.rate z q) same f = absurd (no_rate (ap (λ (q : Capability). q.kind) (sym same) ∙ f.its_kind))
      buffer y k c (Objects.socket z) same f = absurd (not_some None f.socket refl f.kept)

      by : (y : Beyond) (c : Option Capability) (o : Option Held) → c ≡ Some cap → AtLabel (around y app) l c o → (b : Held) × (o ≡ Some b) × (is_buffer b.object ≡ true)
      by y (Some c) (Some b) is m = (b, refl, buffer y l c b.object (some_same (Some c) c cap refl is) m.object)
      by y None None is m = absurd (not_some None cap refl is)
      by y None (Some b) is m = absurd m
      by y (Some c) None is m = absurd m

-- A card that is in use, or goes.

card_device : (cap : Capability) → cap.kind ≡ cap_kind.Vsic → IsDevice cap
card_device cap kind = record { no_buffer = λ e. cc (kind, e); plain = ap is_area kind; stored = ap has_key kind }

door_device : (cap : Capability) → cap.kind ≡ cap_kind.Door → IsDevice cap
door_device cap kind = record { no_buffer = λ e. cc (kind, e); plain = ap is_area kind; stored = ap has_key kind }

some_items : {X : Type 0} (f : X → ℕ) (xs : List X) → length xs ≡ 0 → total f xs ≡ 0
some_items f [] none = refl
some_items f (x ∷ xs) none = absurd (let z : ⊥ = omega (arith, none) in z)

pub busy_by_log : (one : StorageCard) → is_some one.log ≡ true → (is_some one.log || nat_lt 0 (members one.vsic.ring)) ≡ true
busy_by_log one is = ap (λ b. b || nat_lt 0 (members one.vsic.ring)) is

pub busy_by_ring : (one : StorageCard) → 0 < members one.vsic.ring → (is_some one.log || nat_lt 0 (members one.vsic.ring)) ≡ true
busy_by_ring one some = by (is_some one.log) (members one.vsic.ring) some
  where
    by : (log : Bool) (n : ℕ) → 0 < n → (log || nat_lt 0 n) ≡ true
    by true n lt = refl
    by false n lt = grind (arith, nat_tests)

pub not_busy : (one : StorageCard) → is_some one.log ≡ false → members one.vsic.ring ≡ 0 → (is_some one.log || nat_lt 0 (members one.vsic.ring)) ≡ false
not_busy one closed none = ap (λ b. b || nat_lt 0 (members one.vsic.ring)) closed ∙ ap (λ m. nat_lt 0 m) none

-- the application without it, and what its tables are then
pub without_it : (y : Beyond) (app app1 : App) (l : List ℕ) (grant : ℕ) (tables : Tables) → app1.labels ≡ others l app.labels → app1.areas ≡ app.areas → tables_of app1.store app1.devices ≡ unbound_tables grant tables
    → Holds (record (around y app) { labels = others l app.labels; tables = unbound_tables grant tables; machine = left y.machine l }) → Holds (around (record y { machine = left y.machine l }) app1)
without_it y app app1 l grant tables labels areas is h =
    subst (λ (z : Labels). Holds (record (around (record y { machine = left y.machine l }) app1) { labels = z })) (sym labels)
    (subst (λ (z : AreaList). Holds (record (around (record y { machine = left y.machine l }) app1) { labels = others l app.labels; areas = z })) (sym areas)
    (subst (λ (z : Tables). Holds (record (around (record y { machine = left y.machine l }) app) { labels = others l app.labels; tables = z })) (sym is) h))

module _ (t : Told) (app app1 : App) (l : List ℕ) (cap : Capability) (label : value_at app.labels l ≡ Some cap) (kind : cap.kind ≡ cap_kind.Vsic) where
  is_key : Ok cap.key ≡ card_key app.labels l
  is_key = sym (ap (λ o. card_under l o) label ∙ ap (λ (k : CapKind). key_if_card k cap.key) kind)

  its : (y : Beyond) → Holds (around y app) → HasCard (around y app) l cap.key
  its y h = cards.its app l cap.key is_key y h

  pub no_card_there : (e : Refusal) → slot app.devices.cards cap.key ≡ None → Acts t app app1 (row l) [] (said.Refused e) []
  no_card_there e gone = never t app app1 (row l) (said.Refused e) [] (λ y h. cards.never_gone app l cap.key is_key y h gone)

  module _ (one : StorageCard) (here : slot app.devices.cards cap.key ≡ Some one) where
    in_use : (y : Beyond) (h : Holds (around y app)) (v : HasCard (around y app) l cap.key) → is_in_use y.machine l v.held.object ≡ (is_some one.log || nat_lt 0 (members one.vsic.ring))
    in_use y h v =
        ap (λ (o : Object). is_in_use y.machine l o) v.object
        ∙ ap (λ b. b || nat_lt 0 (held_in v.vsic.queue)) (log_same app l cap.key is_key one here y v)
        ∙ ap (λ n. is_some one.log || nat_lt 0 n) (count_same app l cap.key is_key one here y v)

    pub card_busy : (is_some one.log || nat_lt 0 (members one.vsic.ring)) ≡ true → Acts t app app (row l) [] (said.Refused r.Busy) []
    card_busy used = refuses t app (row l) r.Busy (λ y g sited h.
        let v = its y h in
        refused_first y.machine (conditions y.machine l g) _ r.Busy
        (early_busy y.machine l g h.made v.held v.there (ap is_buffer v.object) (ap is_vsa v.object) (in_use y h v ∙ used)))

    module _ (unused : (is_some one.log || nat_lt 0 (members one.vsic.ring)) ≡ false) (labels : app1.labels ≡ others l app.labels) (loses : LosesCard app.devices.cards app1.devices.cards cap.key cap.grant)
        (doors : app1.devices.doors ≡ app.devices.doors) (rates : app1.devices.rates ≡ app.devices.rates) (nets : app1.devices.nets ≡ app.devices.nets) (areas : app1.areas ≡ app.areas) (name : app1.name ≡ app.name) (store : app1.store ≡ app.store) where
      tables : Tables
      tables = record (tables_of app.store app.devices) { cards = card_kept loses.rest }

      one_less : LosesOne (tables_of app.store app.devices) tables cap
      unfolding tables
      one_less = record {
        cards = λ k other. ap (λ o. option_map kept_card o) (loses.gone.others k (λ e. other kind e));
        doors = λ k other. refl;
        rates = λ k other. refl;
        nets = λ k other. refl;
        rest = refl;
      }

      tables_now : tables_of app1.store app1.devices ≡ unbound_tables cap.grant tables
      unfolding tables
      tables_now = tables_unbound app1.store app.store app1.devices app.devices cap.grant (card_kept loses.rest) (slot app.devices.doors) (rate_kept app.devices.rates) (net_kept app.devices.nets.cards) (ap (λ (z : Store). z.region) store) (ap (λ (z : Store). z.buffers) store)
          (λ k. ap (λ o. option_map kept_card o) (loses.cards k) ∙ kept_unbound cap.grant (slot loses.rest k)) (λ k. ap (λ (z : List (Option Counts)). slot z k) doors) (λ k. ap (λ (z : List (Option Allowance)). rate_kept z k) rates) (λ k. ap (λ (z : Nets). net_kept z.cards k) nets)

      empty : (y : Beyond) (v : HasCard (around y app) l cap.key) → held_in v.vsic.queue ≡ 0
      empty y v =
          let none : members one.vsic.ring ≡ 0 = let b = (none_of_both (is_some one.log) (nat_lt 0 (members one.vsic.ring)) unused).1 in grind (arith, nat_tests, b) in
          count_same app l cap.key is_key one here y v ∙ none

      nothing : (y : Beyond) (v : HasCard (around y app) l cap.key) → CountsNothing v.held.object
      nothing y v = subst (λ (o : Object). CountsNothing o) (sym v.object) (record {
        uses = λ k.
            let all = empty y v in
            let a = some_items (λ j. bit (job_has k j)) v.vsic.queue.posted (omega (arith, all)) in
            let b = some_items (λ u. bit (job_has k u.0)) v.vsic.queue.unreaped (omega (arith, all)) in
            omega (arith, a, b);
        opens = λ k. refl;
        sockets = λ k. refl;
        covers = λ j. refl;
      })

      gone : (y : Beyond) (h : Holds (around y app)) → Holds (around (record y { machine = left y.machine l }) app1)
      gone y h =
          let v = its y h in
          without_it y app app1 l cap.grant tables labels areas tables_now
          (lost_all (around y app) h l cap label v.held v.there (card_device cap kind) (nothing y v) (λ door. cc (kind, door))
          (λ card. log_same app l cap.key is_key one here y v ∙ (none_of_both (is_some one.log) (nat_lt 0 (members one.vsic.ring)) unused).0) (λ rate. cc (kind, rate)) (λ net. cc (kind, net)) tables one_less)

      pub card_done : Acts t app app1 (row l) [] said.Ok []
      card_done = comes_quiet t app app1 (row l) said.Ok [] areas name (λ y g came sited h.
          let v = its y h in (
            left y.machine l,
            row_done y.machine l g h.made v.held v.there (ap is_buffer v.object) (ap is_vsa v.object) came (in_use y h v ∙ unused),
            gone y h,
          ))

-- A door that is watching, or goes.

module _ (t : Told) (app app1 : App) (l : List ℕ) (cap : Capability) (label : value_at app.labels l ≡ Some cap) (kind : cap.kind ≡ cap_kind.Door) where
  door_is : Ok cap.key ≡ door_key app.labels l
  door_is = sym (ap (λ o. door_under l o) label ∙ ap (λ (k : CapKind). key_if_door k cap.key) kind)

  its_door : (y : Beyond) → Holds (around y app) → HasDoor (around y app) l cap.key
  its_door y h = doors.its app l cap.key door_is y h

  pub no_door_there : (e : Refusal) → slot app.devices.doors cap.key ≡ None → Acts t app app1 (row l) [] (said.Refused e) []
  no_door_there e gone = never t app app1 (row l) (said.Refused e) [] (λ y h.
      let d = its_door y h in not_some (slot app.devices.doors cap.key) d.counts gone (doors.entry_is app l cap.key door_is y d))

  watching : (y : Beyond) (h : Holds (around y app)) (d : HasDoor (around y app) l cap.key) → is_in_use y.machine l d.held.object ≡ sees_any app.devices.cards app.devices.nets.cards cap.key app.labels
  watching y h d = ap (λ (o : Object). is_in_use y.machine l o) d.object ∙ sym (watched_same y app h l cap label kind)

  pub door_busy : sees_any app.devices.cards app.devices.nets.cards cap.key app.labels ≡ true → Acts t app app (row l) [] (said.Refused r.Busy) []
  door_busy used = refuses t app (row l) r.Busy (λ y g sited h.
      let d = its_door y h in
      refused_first y.machine (conditions y.machine l g) _ r.Busy
      (early_busy y.machine l g h.made d.held d.there (ap is_buffer d.object) (ap is_vsa d.object) (watching y h d ∙ used)))

  module _ (unused : sees_any app.devices.cards app.devices.nets.cards cap.key app.labels ≡ false) (labels : app1.labels ≡ others l app.labels) (changes : Changes app.devices.doors app1.devices.doors cap.key None)
      (unbind : (k : ℕ) → slot app1.devices.cards k ≡ option_map (unbound cap.grant) (slot app.devices.cards k)) (rates : app1.devices.rates ≡ app.devices.rates) (nets : app1.devices.nets ≡ app.devices.nets) (areas : app1.areas ≡ app.areas) (name : app1.name ≡ app.name) (store : app1.store ≡ app.store) where
    tables_less : Tables
    tables_less = record (tables_of app.store app.devices) { doors = slot app1.devices.doors }

    door_less : LosesOne (tables_of app.store app.devices) tables_less cap
    unfolding tables_less
    door_less = record { cards = λ k other. refl; doors = λ k other. changes.others k (λ e. other kind e); rates = λ k other. refl; nets = λ k other. refl; rest = refl }

    tables_then : tables_of app1.store app1.devices ≡ unbound_tables cap.grant tables_less
    unfolding tables_less
    tables_then = tables_unbound app1.store app.store app1.devices app.devices cap.grant (card_kept app.devices.cards) (slot app1.devices.doors) (rate_kept app.devices.rates) (net_kept app.devices.nets.cards) (ap (λ (z : Store). z.region) store) (ap (λ (z : Store). z.buffers) store)
        (λ k. ap (λ o. option_map kept_card o) (unbind k) ∙ kept_unbound cap.grant (slot app.devices.cards k)) (λ k. refl) (λ k. ap (λ (z : List (Option Allowance)). rate_kept z k) rates) (λ k. ap (λ (z : Nets). net_kept z.cards k) nets)

    no_count : (y : Beyond) (d : HasDoor (around y app) l cap.key) → CountsNothing d.held.object
    no_count y d = subst (λ (o : Object). CountsNothing o) (sym d.object) (record { uses = λ k. refl; opens = λ k. refl; sockets = λ k. refl; covers = λ j. refl })

    door_gone : (y : Beyond) (h : Holds (around y app)) → Holds (around (record y { machine = left y.machine l }) app1)
    door_gone y h =
        let d = its_door y h in
        without_it y app app1 l cap.grant tables_less labels areas tables_then
        (lost_all (around y app) h l cap label d.held d.there (door_device cap kind) (no_count y d) (λ door. sym (watched_same y app h l cap label kind) ∙ unused) (λ card. cc (kind, card)) (λ rate. cc (kind, rate)) (λ net. cc (kind, net)) tables_less door_less)

    pub door_done : Acts t app app1 (row l) [] said.Ok []
    door_done = comes_quiet t app app1 (row l) said.Ok [] areas name (λ y g came sited h.
        let d = its_door y h in (
          left y.machine l,
          row_done y.machine l g h.made d.held d.there (ap is_buffer d.object) (ap is_vsa d.object) came (watching y h d ∙ unused),
          door_gone y h,
        ))
