-- The rows of `bind` and `unbind`.
use Rattle.std.proofs.Common.{◌≡◌, ℕ, Bool, true, false, not, cond, ◌||◌, List, [], ◌∷◌, ◌++◌, refl, sym, ◌∙◌, ap, subst}
use Rattle.std.specs.Prelude.{Option, Some, None, Result, Ok, Err, ◌==◌, if◌then◌else◌, is_ok, is_some, is_none, nat_eq, slice_get, filter as select}
use Rattle.std.specs.List.{list_any}
use Rattle.std.specs.Map.{lookup}
use Rattle.std.proofs.lemmas.Bool.{false≢true}
use Rattle.ark_base.specs.declared.kind.Kind.{Kind}
use Rattle.ark_base.specs.declared.kind.Kind.TheVariants as kind
use Rattle.ark_base.specs.declared.refusal.Refusal.{Refusal}
use Rattle.ark_base.specs.declared.refusal.Refusal.TheVariants as r
use Rattle.ark_media.specs.Calls.{Told}
use Rattle.ark_script.specs.declared.said.Said.TheVariants as said
use Rattle.ark_objects.specs.Held.{at as slot, Changes}
use Rattle.ark_caps.specs.declared.capability.Capability.{Capability}
use Rattle.ark_caps.specs.declared.capability.CapKind.{CapKind}
use Rattle.ark_caps.specs.declared.capability.CapKind.TheVariants as cap_kind
use Rattle.ark_vsic.specs.Card as card
use Rattle.ark_machine.specs.Objects
use Rattle.ark_machine.specs.Objects.{Vsic}
use Rattle.ark_machine.specs.Machine.{Machine, Held, at, missing, vsic_at, raw_at, serial_at, with_object, with_vsic}
use Rattle.ark_machine.specs.Cards as rows
use Rattle.ark_machine.specs.Cards.{bound_with, bound_without}
use Rattle.ark_machine.specs.Control.{has_log}
use Rattle.ark_machine.specs.Row.{Row, Given, says, answer}
use Rattle.ark_held.specs.Words.{AreaList}
use Rattle.ark_held.specs.Bound.{with_bound}
use Rattle.ark_held.specs.Rings.{unbound}
use Rattle.ark_held.specs.Kept.{CardKept}
use Rattle.ark_held.specs.Rings.{kept_card}
use Rattle.ark_held.specs.Around.{Around, Each}
use Rattle.ark_held.specs.Cards.{IsCard}
use Rattle.ark_held.specs.Held.{Holds}
use Rattle.ark_held.specs.Beyond.{Beyond, around}
use Rattle.ark_held.specs.Does.{Acts}
use Rattle.ark_held.specs.declared.app.App.{App}
use Rattle.ark_held.specs.declared.areas.Area.{Area}
use Rattle.ark_held.specs.declared.card.StorageCard.{StorageCard}
use Rattle.ark_held.proofs.Lists.{by_test, each_more}
use Rattle.ark_held.proofs.Doing.{comes}
use Rattle.ark_held.proofs.Dues.{bound_same, same_test}
use Rattle.ark_held.proofs.Parts.{CountsAlike}
use Rattle.ark_held.proofs.Opens.{shut_stays}
use Rattle.ark_own.specs.Keys.{both_keys, card_key, raw_area, raw_under, raw_granted, raw_found, if_raw}
use Rattle.ark_own.specs.declared.keys.RawArea.{RawArea}
use Rattle.ark_own.proofs.Looked as looked
use Rattle.ark_own.proofs.Looked.{Looked, looked_both, each_key}
use Rattle.ark_own.proofs.OfCards as cards
use Rattle.ark_own.proofs.OfCards.{HasCard, found_card, posted_now, unreaped_now, bound_now, pace_now, door_now, size_now, moved_now, opens_now, now, card_keeps, card_opens, kept_now, card_altered, phases_now}
use Rattle.ark_own.proofs.OfRaw.{HasRaw, found_raw}
use Rattle.ark_own.proofs.Transferring.{card_looked, raw_looked}

-- An area that is found is held.

held_if : (grant : ℕ) (k : Kind) (n : ℕ) (area : RawArea) → Ok area ≡ if_raw k (record { grant = grant; blocks = n }) → area.grant ≡ grant
held_if grant kind.Raw n area is = ap grant_in is
  where
    grant_in : Result RawArea Refusal → ℕ
    grant_in (Ok a) = a.grant
    grant_in (Err e) = 0
held_if grant kind.Log n area is = absurd (false≢true (sym (ap is_ok is)))
held_if grant kind.Queue n area is = absurd (false≢true (sym (ap is_ok is)))

held_found : (grant : ℕ) (o : Option Area) (area : RawArea) → Ok area ≡ raw_found grant o → (is_some o ≡ true) × (area.grant ≡ grant)
held_found grant None area is = absurd (false≢true (sym (ap is_ok is)))
held_found grant (Some a) area is = (refl, held_if grant a.kind _ area is)

held_granted : (areas : AreaList) (k : CapKind) (grant : ℕ) (area : RawArea) → Ok area ≡ raw_granted areas k grant → is_some (lookup (nat_eq area.grant) areas) ≡ true
held_granted areas cap_kind.Vsa grant area is = let f = held_found grant (lookup (nat_eq grant) areas) area is in ap (λ n. is_some (lookup (nat_eq n) areas)) f.1 ∙ f.0
held_granted areas cap_kind.Vsic grant area is = absurd (false≢true (sym (ap is_ok is)))
held_granted areas cap_kind.Vnic grant area is = absurd (false≢true (sym (ap is_ok is)))
held_granted areas cap_kind.Filter grant area is = absurd (false≢true (sym (ap is_ok is)))
held_granted areas cap_kind.Door grant area is = absurd (false≢true (sym (ap is_ok is)))
held_granted areas cap_kind.Rate grant area is = absurd (false≢true (sym (ap is_ok is)))
held_granted areas cap_kind.Buf grant area is = absurd (false≢true (sym (ap is_ok is)))
held_granted areas cap_kind.Sock grant area is = absurd (false≢true (sym (ap is_ok is)))

pub held_under : (areas : AreaList) (l : List ℕ) (c : Option Capability) (area : RawArea) → Ok area ≡ raw_under areas l c → is_some (lookup (nat_eq area.grant) areas) ≡ true
held_under areas l None area is = absurd (false≢true (sym (ap is_ok is)))
held_under areas l (Some c) area is = held_granted areas c.kind c.grant area is

-- The bindings of a kept card and of the machine's.

module _ (x : Around) (one : (i j g : ℕ) → slice_get x.numbers i ≡ Some g → slice_get x.numbers j ≡ Some g → i ≡ j) (n g : ℕ) (its : slice_get x.numbers n ≡ Some g) where
  abbrev P : ℕ → ℕ → Type 0
  P b s = slice_get x.numbers s ≡ Some b

  pub each_with : (gs ns : List ℕ) → Each P gs ns → Each P (card.bound_with g gs) (if list_any (λ s. s == n) ns then ns else ns ++ n ∷ [])
  each_with gs ns each = subst (λ t. Each P (if t then gs else gs ++ g ∷ []) (if list_any (λ s. s == n) ns then ns else ns ++ n ∷ [])) (sym (bound_same x one n g its gs ns each))
      (by_test (λ t. Each P (if t then gs else gs ++ g ∷ []) (if t then ns else ns ++ n ∷ [])) (list_any (λ s. s == n) ns) (λ yes. each) (λ no. each_more P gs ns g n each its))

  pub each_without : (gs ns : List ℕ) → Each P gs ns → Each P (card.bound_without g gs) (select (λ s. not (s == n)) ns)
  each_without [] [] each = tt
  each_without (b ∷ bs) (s ∷ ss) each =
      subst (λ t. Each P (cond (not t) (b ∷ card.bound_without g bs) (card.bound_without g bs)) (cond (not (s == n)) (s ∷ select (λ z. not (z == n)) ss) (select (λ z. not (z == n)) ss))) (sym (same_test x one n g its b s each.0))
      (by_test (λ t. Each P (cond (not t) (b ∷ card.bound_without g bs) (card.bound_without g bs)) (cond (not t) (s ∷ select (λ z. not (z == n)) ss) (select (λ z. not (z == n)) ss))) (s == n)
      (λ yes. each_without bs ss each.1) (λ no. (each.0, each_without bs ss each.1)))
  each_without [] (s ∷ ss) each = absurd each
  each_without (b ∷ bs) [] each = absurd each

-- Both words, whose rows change what is bound alone.
module _ (v s : List ℕ) (change : ℕ → Vsic → Vsic) where
  abbrev its_labels : List (List ℕ)
  its_labels = v ∷ s ∷ []

  abbrev other : Machine → Bool
  other m = is_none (vsic_at m v) || is_none (raw_at m s)

  abbrev used : Machine → Bool
  used m = has_log m v

  abbrev no : Machine → Bool
  no m = false

  abbrev pub rest : Machine → Given → Row
  rest m g = says (with_vsic m v (change (serial_at m s))) said.Ok

  rest_is : (m : Machine) (g : Given) (held area : Held) (x : Vsic) → at m v ≡ Some held → held.object ≡ Objects.vsic x → at m s ≡ Some area
      → rest m g ≡ record { machine = with_object m v (Objects.vsic (change area.serial x)); said = said.Ok; bytes = []; calls = [] }
  rest_is m g held area x there object at_s = rw (there, object, at_s) refl

  abbrev pub told : App → Result (ℕ × RawArea) Refusal
  told app = both_keys (card_key app.labels v) (raw_area app.labels app.areas s)

  all_looked : (app : App) (res : Result (ℕ × RawArea) Refusal) → res ≡ told app → (y : Beyond) → Holds (around y app) → Looked y.machine its_labels (other y.machine) res
  all_looked app res is y h =
      let x = around y app in
      subst (λ (z : Result (ℕ × RawArea) Refusal). Looked y.machine its_labels (other y.machine) z) (sym is)
      (looked_both y.machine (v ∷ []) (s ∷ []) _ _ _ _ (card_looked x v _ (found_card x v h _ refl)) (raw_looked x s _ (found_raw x s h _ refl)))

  module _ (t : Told) (app : App) (row : Machine → Given → Row) (is_row : (m : Machine) (g : Given) → row m g ≡ answer m (looked.conditions m its_labels (other m) false (used m) false false) (rest m g)) where
    pub no_keys : (e : Refusal) → Err e ≡ told app → Acts t app app row [] (said.Refused e) []
    no_keys e is = looked.not_found t app its_labels other no used no no row rest is_row (ℕ × RawArea) e (all_looked app (Err e) is)

    module _ (key : ℕ) (area : RawArea) (keys : Ok (key, area) ≡ told app) where
      abbrev pub each : (Ok key ≡ card_key app.labels v) × (Ok area ≡ raw_area app.labels app.areas s)
      each = each_key key area _ _ keys

      pub no_card : (e : Refusal) → slot app.devices.cards key ≡ None → Acts t app app row [] (said.Refused e) []
      no_card e gone = looked.never_there t app its_labels other no used no no row rest is_row e (λ y h. cards.never_gone app v key each.0 y h gone)

      all_there : (y : Beyond) → Holds (around y app) → (missing y.machine its_labels ≡ None) × (other y.machine ≡ false)
      all_there = all_looked app (Ok (key, area)) keys

      never : (y : Beyond) → Holds (around y app) → false ≡ false
      never y h = refl

      module _ (one : StorageCard) (here : slot app.devices.cards key ≡ Some one) where
        log_is : (y : Beyond) (h : Holds (around y app)) → has_log y.machine v ≡ is_some one.log
        log_is y h = cards.log_same app v key each.0 one here y (cards.its app v key each.0 y h)

        pub is_busy : is_some one.log ≡ true → Acts t app app row [] (said.Refused r.Busy) []
        is_busy busy = looked.is_busy t app its_labels other no used no no row rest is_row all_there never (λ y h. log_is y h ∙ busy)

        module _ (free : is_some one.log ≡ false) where
          pub done : (y : Beyond) (g : Given) → Holds (around y app) → row y.machine g ≡ rest y.machine g
          done y g h = looked.done t app its_labels other no used no no row rest is_row all_there never (λ y h. log_is y h ∙ free) never y g h refl

alike : (x : Vsic) (bound : List ℕ) → CountsAlike (Objects.vsic x) (Objects.vsic (record x { bound = bound }))
alike x bound = record { uses = λ k. refl; opens = λ k. refl; sockets = λ k. refl; covers = λ j. refl }

-- the card with other bindings
abbrev pub rebound : List ℕ → StorageCard → StorageCard
rebound ks one = record one { vsic = record one.vsic { bound = ks } }

module _ (app app1 : App) (v : List ℕ) (key : ℕ) (is : Ok key ≡ card_key app.labels v) (one : StorageCard) (here : slot app.devices.cards key ≡ Some one) (free : is_some one.log ≡ false) (ks : List ℕ) (changes : Changes app.devices.cards app1.devices.cards key (Some (rebound ks one)))
    (labels : app1.labels ≡ app.labels) (doors : app1.devices.doors ≡ app.devices.doors) (rates : app1.devices.rates ≡ app.devices.rates) (nets : app1.devices.nets ≡ app.devices.nets) (store : app1.store ≡ app.store) (areas : app1.areas ≡ app.areas) (y : Beyond) (h : Holds (around y app)) (c : HasCard (around y app) v key) (ms : List ℕ) where
  abbrev its_vsic : Vsic
  its_vsic = record c.vsic { bound = ms }

  abbrev after : Around
  after = now app app1 v key is one (rebound ks one) here changes (shut_stays one (rebound ks one) free) labels doors rates nets store areas y h c its_vsic (alike c.vsic ms)

  held : Each (λ g s. slice_get y.numbers s ≡ Some g) ks ms → Holds after
  held bound = card_altered app app1 v key is one (rebound ks one) here changes (shut_stays one (rebound ks one) free) labels doors rates nets store areas y h c its_vsic (alike c.vsic ms) fits
    where
      fits : IsCard after v c.cap its_vsic
      fits = let keeps = card_keeps app app1 v key is one (rebound ks one) here changes (shut_stays one (rebound ks one) free) labels doors rates nets store areas y h c its_vsic (alike c.vsic ms) in record {
        its_kind = c.fits.its_kind;
        card = kept_card (rebound ks one);
        kept = kept_now app app1 v key is one (rebound ks one) here changes (shut_stays one (rebound ks one) free) labels doors rates nets store areas y h c its_vsic (alike c.vsic ms);
        size = size_now app v key is one here y c;
        posted = posted_now app v key is one here y c after keeps;
        unreaped = unreaped_now app v key is one here y c after keeps;
        moved = moved_now app v key is one here y c;
        bound = bound;
        pace = pace_now app v key is one here y c after keeps;
        door = door_now app v key is one here y c after keeps;
        log = opens_now app v key is one here y c ∙ sym (card_opens app app1 v key is one (rebound ks one) here changes (shut_stays one (rebound ks one) free) labels doors rates nets store areas y h c its_vsic (alike c.vsic ms));
        phases = phases_now app v key is one here y c;
      }

-- The words.
module _ (t : Told) (app app1 : App) (v s : List ℕ) (key : ℕ) (area : RawArea) (keys : Ok (key, area) ≡ both_keys (card_key app.labels v) (raw_area app.labels app.areas s)) (one : StorageCard) (here : slot app.devices.cards key ≡ Some one) (free : is_some one.log ≡ false)
    (labels : app1.labels ≡ app.labels) (doors : app1.devices.doors ≡ app.devices.doors) (rates : app1.devices.rates ≡ app.devices.rates) (nets : app1.devices.nets ≡ app.devices.nets) (store : app1.store ≡ app.store) (areas : app1.areas ≡ app.areas) (name : app1.name ≡ app.name) where
  abbrev both : (Ok key ≡ card_key app.labels v) × (Ok area ≡ raw_area app.labels app.areas s)
  both = each_key key area _ _ keys

  abbrev its_card : (y : Beyond) → Holds (around y app) → HasCard (around y app) v key
  its_card y h = cards.its app v key both.0 y h

  abbrev its_area : (y : Beyond) → Holds (around y app) → HasRaw (around y app) s area
  its_area y h = found_raw (around y app) s h (Ok area) both.1

  bound_before : (y : Beyond) (c : HasCard (around y app) v key) → Each (λ g n. slice_get y.numbers n ≡ Some g) one.vsic.bound c.vsic.bound
  bound_before y c = subst (λ (k : CardKept). Each (λ g n. slice_get y.numbers n ≡ Some g) k.bound c.vsic.bound) (cards.entry_same app v key both.0 one here y c) c.fits.bound

  its_number : (y : Beyond) (h : Holds (around y app)) → slice_get y.numbers (its_area y h).held.serial ≡ Some area.grant
  its_number y h = let a = its_area y h in a.serial ∙ ap (λ n. Some n) a.grant_is

  pub bind_done : Changes app.devices.cards app1.devices.cards key (Some (with_bound area.grant one)) → Acts t app app1 (λ m g. rows.bind m v s g) [] said.Ok []
  bind_done changes = comes t app app1 (λ m g. rows.bind m v s g) said.Ok [] areas name (λ y g sited h.
      let c = its_card y h in
      let a = its_area y h in
      let now_bound = bound_with a.held.serial c.vsic in (
        with_object y.machine v (Objects.vsic now_bound),
        done v s bound_with t app (λ m g. rows.bind m v s g) (λ m g. refl) key area keys one here free y g h ∙ rest_is v s bound_with y.machine g c.held a.held c.vsic c.there c.object a.there,
        held app app1 v key both.0 one here free (card.bound_with area.grant one.vsic.bound) changes labels doors rates nets store areas y h c now_bound.bound
            (each_with (around y app) h.one a.held.serial area.grant (its_number y h) one.vsic.bound c.vsic.bound (bound_before y c)),
      ))

  pub unbind_done : Changes app.devices.cards app1.devices.cards key (Some (unbound area.grant one)) → Acts t app app1 (λ m g. rows.unbind m v s g) [] said.Ok []
  unbind_done changes = comes t app app1 (λ m g. rows.unbind m v s g) said.Ok [] areas name (λ y g sited h.
      let c = its_card y h in
      let a = its_area y h in
      let now_bound = bound_without a.held.serial c.vsic in (
        with_object y.machine v (Objects.vsic now_bound),
        done v s bound_without t app (λ m g. rows.unbind m v s g) (λ m g. refl) key area keys one here free y g h ∙ rest_is v s bound_without y.machine g c.held a.held c.vsic c.there c.object a.there,
        held app app1 v key both.0 one here free (card.bound_without area.grant one.vsic.bound) changes labels doors rates nets store areas y h c now_bound.bound
            (each_without (around y app) h.one a.held.serial area.grant (its_number y h) one.vsic.bound c.vsic.bound (bound_before y c)),
      ))
